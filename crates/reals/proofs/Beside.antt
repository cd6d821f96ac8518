-- 2 ^ 52 added to a size below it and taken away again leaves a whole number next to the size, and a comparison says on which side. Both ways of rounding stand on this. Assumes nothing.
use mathlib.Core.Path.{◌≡◌, refl, sym, ap, ◌∙◌, subst}
use Prim.Native.Nat.{ℕ, suc, ◌+◌, ◌-◌, ◌*◌, ◌/◌, ◌%◌, ◌^◌, ◌≤◌, ◌<◌, compare}
use native.Mathlib.Nat.{le_trans, le_of_eq, le_antisymm, lt_of_lt_of_le, lt_of_le_of_lt, le_of_lt, add-mul, mul-one, mul_assoc, mul_right_comm, mul-pos, mul-le-mul_right, mul-lt-mul_of_pos_right, lt_of_mul-lt-mul_right, lt_of_not-le, not-le_of_lt, div-one, mod-one, div-mul-le_self, le-div_iff_mul-le, div-lt_iff_lt-mul}
use native.Mathlib.Omega.{arith}
use mathlib.Core.Bool.{Bool, true, false, not, ◌&&◌, cond, true≢false}
use borrow.Author.Tests.{ltb-true, ltb-false, not-true}
use denote.Floats.{passes}
use lib.Dec.{T, ltb, lit<, lit≤}
use lib.Pow.{pow_pos, pow_mono}
use lib.IntN.{ℤ, pos, negsuc}
use lib.Ieee.{Float, nan, inf, fin, binary64, up, down, size, nearest, round, sum, add, neg, lt, fits}
use lib.Ieee.Digits.{size-lt, size-le}
use lib.Ieee.Fits.{down_pos, nearest-le, neg-fits, sub-fits, round-fits}
use lib.Ieee.Exact.{HasValue}
use lib.Ieee.Nearest.{closest, closest_mono, closest_same}
use lib.Ieee.Scale.{grid, round_val}
use lib.Ieee.Back.{round_whole}
use lib.Ieee.Positive.{num, den, den_pos}
use Rattle.reals.specs.Words.{0·0, 1·0}
use Rattle.reals.specs.Arithmetic.{◌⊕◌, ◌⊖◌}
use Rattle.reals.specs.Rounding.{Way, upward, downward, whole, whole_below, whole_above, whole_size}
use Rattle.reals.proofs.Values.{rescale}
use Rattle.reals.proofs.Fields.{round_own}
use Rattle.reals.proofs.Order.{le_not_lt, lt_le}
use Rattle.reals.proofs.Magnitude.{sign_below}
use Rattle.reals.proofs.Meaning.{whole_nan, whole_inf}
use Rattle.reals.proofs.Whole.{above_reaches, above_first, above_next, below_first, size_within, whole_already, digits_fit, lt_from_whole, lt_to_whole, one_more, power_less}

-- ---- n is next to a / c: neither below the whole number below it nor above the one above it
pub record Beside (a c n : ℕ) : Type 0 where
  pub not_under : whole_below a c ≤ n
  pub not_over : n ≤ whole_above a c

-- so it is the one above or one short of it, and the one below or one too many, as a comparison with a / c says
module _ (a c n : ℕ) (C : 0 < c) (at : Beside a c n) where
  one_short : n * c < a → n + 1 ≡ whole_above a c
  one_short h =
      let l : n < whole_above a c = lt_of_mul-lt-mul_right c (lt_of_lt_of_le h (above_reaches a c C)) in
      omega (arith, at.not_under, above_next a c C)

  is_above : a ≤ n * c → n ≡ whole_above a c
  is_above h = le_antisymm at.not_over (above_first a c n C h)

  one_many : a < n * c → n ≡ whole_below a c + 1
  one_many h =
      let l : a / c < n = lt_of_mul-lt-mul_right c (lt_of_le_of_lt (div-mul-le_self a c) h) in
      omega (arith, at.not_over, above_next a c C)

  is_below : n * c ≤ a → n ≡ whole_below a c
  is_below h = le_antisymm (below_first a c n C h) at.not_under

-- a / c raised by a whole number, rounded to the nearest one and taken down again is next to a / c: rounding keeps the order, and a whole number stays
closest_whole : (n : ℕ) → closest n 1 ≡ n
closest_whole n = ap (λ (z : ℕ). nearest z (compare (n % 1 * 2) 1)) (div-one n) ∙ ap (λ (z : ℕ). nearest n (compare (z * 2) 1)) (mod-one n)

module _ (a c k : ℕ) (C : 0 < c) where
  raised_ge : a / c + k ≤ closest (a + k * c) c
  raised_ge =
      let h : (a / c + k) * c ≤ (a + k * c) * 1 = rw (add-mul (a / c) k c) (omega (arith, div-mul-le_self a c)) in
      subst (λ (z : ℕ). z ≤ closest (a + k * c) c) (closest_whole (a / c + k)) (closest_mono (a / c + k) 1 (a + k * c) c (lit< tt) C h)

  raised_le : closest (a + k * c) c ≤ whole_above a c + k
  raised_le =
      let h : (a + k * c) * 1 ≤ (whole_above a c + k) * c = rw (add-mul (whole_above a c) k c) (omega (arith, above_reaches a c C)) in
      subst (λ (z : ℕ). closest (a + k * c) c ≤ z) (closest_whole (whole_above a c + k)) (closest_mono (a + k * c) c (whole_above a c + k) 1 C (lit< tt) h)

  beside : Beside a c (closest (a + k * c) c - k)
  beside = let l = raised_ge in let u = raised_le in record { not_under = omega arith; not_over = omega arith }

-- ---- from 2 ^ 52 up to 2 ^ 53 a fraction a / c is rounded to the nearest whole number: the unit is 1
between_powers : (n k : ℕ) → 2 ^ k ≤ n → n < 2 ^ suc k → size n ≡ suc k
between_powers n k h l = le_antisymm (size-le n (suc k) l) (lt_of_not-le (λ (g : size n ≤ k). not-le_of_lt (lt_of_lt_of_le (size-lt n) (pow_mono g)) h))

module _ (a c : ℕ) (C : 0 < c) (h : 2 ^ 52 * c ≤ a) (l : a < 2 ^ 53 * c) where
  digits : size (a * 2 ^ 1074 / c) ≡ 1127
  digits =
      between_powers (a * 2 ^ 1074 / c) 1126
      ((le-div_iff_mul-le C).1 (le_trans (le_of_eq (sym (mul_right_comm (2 ^ 52) c (2 ^ 1074)))) (mul-le-mul_right (2 ^ 1074) h)))
      ((div-lt_iff_lt-mul C).1 (lt_of_lt_of_le (mul-lt-mul_of_pos_right l (pow_pos 1074)) (le_of_eq (mul_right_comm (2 ^ 53) c (2 ^ 1074)))))

  whole_grid : grid binary64 a c ≡ closest a c * 2 ^ 1074
  whole_grid =
      ap (λ (z : ℕ). closest (a * 2 ^ 1074) (c * 2 ^ (z - 53)) * 2 ^ (z - 53)) digits
      ∙ ap (λ (z : ℕ). z * 2 ^ 1074)
      (closest_same (a * 2 ^ 1074) (c * 2 ^ 1074) a c (mul-pos C (pow_pos 1074)) C (mul_right_comm a (2 ^ 1074) c ∙ mul_assoc a c (2 ^ 1074)))

  at_most : closest a c ≤ 2 ^ 53
  at_most = le_trans (nearest-le (a / c) (compare (a % c * 2) c)) ((div-lt_iff_lt-mul C).1 l)

  rounds_whole : HasValue (round binary64 false a c) false (closest a c) 1
  rounds_whole =
      let fine : closest a c * 2 ^ 1074 < 2 ^ 2098 = lt_of_le_of_lt (mul-le-mul_right (2 ^ 1074) at_most) (lit< tt) in
      rescale (round binary64 false a c) false (closest a c * 2 ^ 1074) (2 ^ 1074) (closest a c) 1 (pow_pos 1074) (mul-one (closest a c * 2 ^ 1074))
      (subst (λ (z : ℕ). HasValue (round binary64 false a c) false z (2 ^ 1074)) whole_grid (round_val binary64 a c (subst (λ (z : ℕ). z < 2 ^ 2098) (sym whole_grid) fine)))

-- ---- on reals
abbrev pub two52 : Float
two52 = fin false 1 (pos 52)

abbrev pub near : Float → Float
near s = s ⊕ two52 ⊖ two52

-- what is left of the size s is a whole number n next to it, and it is compared with s as n is
pub record Near (s : Float) : Type 0 where
  pub n : ℕ
  pub is_n : HasValue (near s) false n 1
  pub at : Beside (num s) (den s) n
  pub under : lt (near s) s ≡ ltb (n * den s) (num s)
  pub over : lt s (near s) ≡ ltb (num s) (n * den s)

lt_two52 : (m : ℕ) (e : ℤ) → lt (fin false m e) two52 ≡ ltb (m * up e) (2 ^ 52 * down e)
lt_two52 m e = lt_to_whole two52 false m e (2 ^ 52) (refl, refl)

module _ (m : ℕ) (e : ℤ) (small : lt (fin false m e) two52 ≡ true) where
  raised : ℕ
  raised = closest (m * up e + 2 ^ 52 * down e) (down e)

  in_range : m * up e < 2 ^ 52 * down e
  in_range = ltb-true (m * up e) (2 ^ 52 * down e) (sym (lt_two52 m e) ∙ small)

  sum_is : fin false m e ⊕ two52 ≡ round binary64 false (m * up e + 2 ^ 52 * down e) (down e)
  unfolding add sum
  sum_is = ap (λ (z : ℕ). round binary64 false (z + 2 ^ 52 * down e) (down e * 1)) (mul-one (m * up e)) ∙ ap (λ (z : ℕ). round binary64 false (m * up e + 2 ^ 52 * down e) z) (mul-one (down e))

  sum_value : HasValue (fin false m e ⊕ two52) false raised 1
  unfolding raised
  sum_value =
      let l = in_range in
      subst (λ (z : Float). HasValue z false raised 1) (sym sum_is) (rounds_whole (m * up e + 2 ^ 52 * down e) (down e) (down_pos e) (omega arith) (omega arith))

  near_value : HasValue (near (fin false m e)) false (raised - 2 ^ 52) 1
  unfolding raised
  near_value =
      let g : m * up e / down e + 2 ^ 52 ≤ raised = raised_ge (m * up e) (down e) (2 ^ 52) (down_pos e) in
      let u : whole_above (m * up e) (down e) ≤ 2 ^ 52 = above_first (m * up e) (down e) (2 ^ 52) (down_pos e) (le_of_lt in_range) in
      let v : raised ≤ whole_above (m * up e) (down e) + 2 ^ 52 = raised_le (m * up e) (down e) (2 ^ 52) (down_pos e) in
      subst (λ (z : Float). HasValue z false (raised - 2 ^ 52) 1) (sym (power_less (fin false m e ⊕ two52) raised 52 sum_value (omega arith)))
      (round_whole binary64 false (raised - 2 ^ 52) (omega arith))

  pub near_at : Near (fin false m e)
  unfolding raised
  near_at =
      record {
        n = raised - 2 ^ 52;
        is_n = near_value;
        at = beside (m * up e) (down e) (2 ^ 52) (down_pos e);
        under = lt_from_whole (near (fin false m e)) false m e (raised - 2 ^ 52) near_value;
        over = lt_to_whole (near (fin false m e)) false m e (raised - 2 ^ 52) near_value;
      }

-- ---- the size s made whole: one more where that falls short, one less where it is too much
abbrev pub count : ℕ → Float
count n = round binary64 false n 1

-- so r is s made whole, of a number with the sign t that goes the way w
abbrev pub Sized : Way → Bool → Float → Float → Type 0
Sized w t s r = r ≡ count (whole_size w t (num s) (den s))

abbrev pub way : Bool → Way
way up = cond up upward downward

module _ (s : Float) (p : Near s) where
  is_count : near s ≡ count p.n
  is_count = sym (round_own (near s) false p.n 1 (lit< tt) (sub-fits binary64 (s ⊕ two52) two52) p.is_n)

  grown : lt (near s) s ≡ true → near s ⊕ 1·0 ≡ count (whole_above (num s) (den s))
  grown h =
      one_more (near s) p.n p.is_n ∙ ap count (one_short (num s) (den s) p.n (den_pos s) p.at (ltb-true (p.n * den s) (num s) (sym p.under ∙ h)))

  no_less : lt (near s) s ≡ false → near s ≡ count (whole_above (num s) (den s))
  no_less h = is_count ∙ ap count (is_above (num s) (den s) p.n (den_pos s) p.at (ltb-false (p.n * den s) (num s) (sym p.under ∙ h)))

  shrunk : lt s (near s) ≡ true → near s ⊖ 1·0 ≡ count (whole_below (num s) (den s))
  shrunk h =
      let e : p.n ≡ whole_below (num s) (den s) + 1 = one_many (num s) (den s) p.n (den_pos s) p.at (ltb-true (num s) (p.n * den s) (sym p.over ∙ h)) in
      let d : p.n - 1 ≡ whole_below (num s) (den s) = omega arith in
      power_less (near s) p.n 0 p.is_n (omega arith) ∙ ap count d

  no_more : lt s (near s) ≡ false → near s ≡ count (whole_below (num s) (den s))
  no_more h = is_count ∙ ap count (is_below (num s) (den s) p.n (den_pos s) p.at (ltb-false (num s) (p.n * den s) (sym p.over ∙ h)))

  -- as the code asks, below zero and above it
  pub less_below : (up : Bool) → up && lt s (near s) ≡ true → Sized (way up) true s (near s ⊖ 1·0)
  less_below true h = shrunk h
  less_below false h = absurd (true≢false (sym h))

  pub more_below : (up : Bool) → not up && lt (near s) s ≡ true → Sized (way up) true s (near s ⊕ 1·0)
  more_below true h = absurd (true≢false (sym h))
  more_below false h = grown h

  pub kept_below : (up : Bool) → up && lt s (near s) ≡ false → not up && lt (near s) s ≡ false → Sized (way up) true s (near s)
  kept_below true h k = no_more h
  kept_below false h k = no_less k

  -- above zero x is its own size
  pub more_above : (x : Float) → x ≡ s → (up : Bool) → up && lt (near s) x ≡ true → Sized (way up) false s (near s ⊕ 1·0)
  more_above x e true h = grown (subst (λ (z : Float). lt (near s) z ≡ true) e h)
  more_above x e false h = absurd (true≢false (sym h))

  pub less_above : (x : Float) → x ≡ s → (up : Bool) → not up && lt x (near s) ≡ true → Sized (way up) false s (near s ⊖ 1·0)
  less_above x e true h = absurd (true≢false (sym h))
  less_above x e false h = shrunk (subst (λ (z : Float). lt z (near s) ≡ true) e h)

  pub kept_above : (x : Float) → x ≡ s → (up : Bool) → up && lt (near s) x ≡ false → not up && lt x (near s) ≡ false → Sized (way up) false s (near s)
  kept_above x e true h k = no_less (subst (λ (z : Float). lt (near s) z ≡ false) e h)
  kept_above x e false h k = no_more (subst (λ (z : Float). lt z (near s) ≡ false) e k)

-- ---- and x, whose size s is: rounded on the way w it is s rounded, with its sign
neg_value : (r : Float) (n : ℕ) → HasValue r false n 1 → HasValue (neg r) true n 1
unfolding neg
neg_value (fin t p d) n v = (ap not v.0, v.1)
neg_value nan n v = elim v [ ]
neg_value (inf _) n v = elim v [ ]

neg_count : (n : ℕ) → n ≤ 2 ^ 53 → neg (count n) ≡ round binary64 true n 1
neg_count n h =
    sym (round_own (neg (count n)) true n 1 (lit< tt) (neg-fits binary64 (count n) (round-fits binary64 false n 1)) (neg_value (count n) n (round_whole binary64 false n h)))

negative : (w : Way) (x r : Float) → lt x 0·0 ≡ true → lt (neg x) two52 ≡ true → (Near (neg x) → Sized w true (neg x) r) → neg r ≡ whole w x
unfolding lt neg whole
negative w nan r h small k = absurd (true≢false (sym h))
negative w (inf true) r h small k = absurd (true≢false (sym small))
negative w (inf false) r h small k = absurd (true≢false (sym h))
negative w (fin false m e) r h small k = absurd (true≢false (sym (sign_below false m e h)))
negative w (fin true m e) r h small k =
    let l : m * up e < 2 ^ 52 * down e = in_range m e small in
    let u : whole_size w true (m * up e) (down e) ≤ 2 ^ 52 = size_within w true (m * up e) (down e) (2 ^ 52) (down_pos e) (le_of_lt l) in
    ap neg (k (near_at m e small)) ∙ neg_count (whole_size w true (m * up e) (down e)) (le_trans u (pow_mono {i = 52} {j = 53} (lit≤ tt)))

positive : (w : Way) (x r : Float) → lt 0·0 x ≡ true → lt x two52 ≡ true → (Near x → Sized w false x r) → r ≡ whole w x
unfolding lt whole
positive w nan r h small k = absurd (true≢false (sym h))
positive w (inf true) r h small k = absurd (true≢false (sym h))
positive w (inf false) r h small k = absurd (true≢false (sym small))
positive w (fin true m e) r h small k = absurd (true≢false (sym h))
positive w (fin false m e) r h small k = k (near_at m e small)

-- as the code has it: it leaves early where s is not below 2 ^ 52
abbrev pub size_of : Float → Float
size_of x = cond (lt x 0·0) (neg x) x

module _ (w : Way) (x s : Float) (is_size : s ≡ size_of x) (small : lt s two52 ≡ true) where
  size_by : {b : Bool} → lt x 0·0 ≡ b → cond b (neg x) x ≡ s
  size_by h = sym (is_size ∙ ap (λ (z : Bool). cond z (neg x) x) h)

  pub below_zero : (r : Float) → lt x 0·0 ≡ true → (Near s → Sized w true s r) → neg r ≡ whole w x
  below_zero r h =
      subst (λ (z : Float). lt z two52 ≡ true → (Near z → Sized w true z r) → neg r ≡ whole w x) (size_by h) (negative w x r h) small

  pub above_zero : (r : Float) → lt 0·0 x ≡ true → (Near s → x ≡ s → Sized w false s r) → r ≡ whole w x
  above_zero r h k =
      let e : x ≡ s = size_by (le_not_lt 0·0 x (lt_le 0·0 x (passes _ h))) in
      subst (λ (z : Float). lt z two52 ≡ true → (Near z → Sized w false z r) → r ≡ whole w x) e (positive w x r h) small (λ p. k p e)

-- ---- a zero stays, and what is not below 2 ^ 52 in size
pub zero_stays : (w : Way) (x : Float) → T (fits binary64 x) → lt x 0·0 ≡ false → lt 0·0 x ≡ false → x ≡ whole w x
unfolding lt
zero_stays w nan f h k = sym (whole_nan w)
zero_stays w (inf s) f h k = sym (whole_inf w s)
zero_stays w (fin true m e) f h k =
    let l = ltb-false 0 (m * up e * 1 + 0 * down e) h in
    whole_already w (fin true m e) true 0 f (refl, omega arith)
zero_stays w (fin false m e) f h k =
    let l = ltb-false (0 * down e) (m * up e * 1) k in
    whole_already w (fin false m e) false 0 f (refl, omega arith)

no_place : (m c : ℕ) → m < 2 ^ 53 → 2 ≤ c → 2 ^ 52 * c ≤ m * 1 → ⊥
no_place m c h k l = omega arith

none_large : (m : ℕ) (e : ℤ) → lt (fin true m e) two52 ≡ false → ⊥
unfolding lt
none_large m e h =
    let l = ltb-false 0 (m * up e * 1 + 1 * 2 ^ 52 * down e) h in
    let c = down_pos e in
    omega arith

not_small : (s b : Bool) (m : ℕ) (e : ℤ) → lt (fin s m e) 0·0 ≡ b → lt (cond b (fin (not s) m e) (fin s m e)) two52 ≡ false → 2 ^ 52 * down e ≤ m * up e
not_small false true m e g h = absurd (true≢false (sym (sign_below false m e g)))
not_small false false m e g h = ltb-false (m * up e) (2 ^ 52 * down e) (sym (lt_two52 m e) ∙ h)
not_small true true m e g h = ltb-false (m * up e) (2 ^ 52 * down e) (sym (lt_two52 m e) ∙ h)
not_small true false m e g h = absurd (none_large m e h)

pub large_stays : (w : Way) (x s : Float) → s ≡ size_of x → T (fits binary64 x) → not (lt s two52) ≡ true → x ≡ whole w x
unfolding neg
large_stays w nan s e f h = sym (whole_nan w)
large_stays w (inf t) s e f h = sym (whole_inf w t)
large_stays w (fin t m (pos j)) s e f h = whole_already w (fin t m (pos j)) t (m * 2 ^ j) f (refl, refl)
large_stays w (fin t m (negsuc j)) s e f h =
    let x = fin t m (negsuc j) in
    let large : 2 ^ 52 * 2 ^ suc j ≤ m * 1 = not_small t (lt x 0·0) m (negsuc j) refl (subst (λ (z : Float). lt z two52 ≡ false) e (not-true (lt s two52) h)) in
    absurd (no_place m (2 ^ suc j) (digits_fit t m (negsuc j) f) (pow_mono {i = 1} {j = suc j} (omega arith)) large)
