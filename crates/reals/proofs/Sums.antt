-- Rounded sums and differences of times: a gap between ticks in order is not negative, and a sum that is not negative never falls as such gaps are added. Assumes nothing.
use mathlib.Core.Path.{◌≡◌, refl, sym, ap, ◌∙◌, subst}
use Prim.Native.Nat.{ℕ, ◌+◌, ◌-◌, ◌*◌, ◌≤◌, ◌<◌}
use native.Mathlib.Nat.{zero-mul, mul-one, mul_assoc, mul_right_comm, mul-pos, mul-le-mul_right, le-add_right}
use native.Mathlib.Omega.{arith}
use mathlib.Core.Bool.{Bool, true, false, not, cond}
use borrow.Author.Tests.{le-ltb}
use lib.Dec.{T, ltb, lit<}
use lib.IntN.{ℤ, pos}
use lib.Ieee.{Float, nan, inf, fin, binary64, up, down, round, sum, add, sub, neg, le, fits}
use lib.Ieee.Fits.{down_pos}
use lib.Ieee.Scale.{finite, round_same}
use lib.Ieee.Order.{round_mono}
use Rattle.reals.specs.Words.{0·0}
use Rattle.reals.proofs.Fields.{round_own}
use Rattle.reals.proofs.Order.{Le, le_fin, fin_le, le_right, le_transitive, greatest_number}

-- ---- a rounded size is not negative
zero_rounds : round binary64 false 0 1 ≡ 0·0
unfolding round
zero_rounds = refl

minus_zero_rounds : round binary64 true 0 1 ≡ fin true 0 (pos 0)
unfolding round
minus_zero_rounds = refl

pub round_nonneg : (a c : ℕ) → 0 < c → T (le 0·0 (round binary64 false a c))
round_nonneg a c C = subst (λ (z : Float). T (le z (round binary64 false a c))) zero_rounds (round_mono binary64 0 1 a c (lit< tt) C (omega (arith, zero-mul c)))

minus_zero : (a c : ℕ) → 0 < c → a ≡ 0 → round binary64 true a c ≡ fin true 0 (pos 0)
minus_zero a c C h = round_same binary64 true a c 0 1 C (lit< tt) (mul-one a ∙ h ∙ sym (zero-mul c)) ∙ minus_zero_rounds

cond_nonneg : (b : Bool) (x y : ℕ) (c : ℕ) → 0 < c → T (le 0·0 (cond b (round binary64 false x c) (round binary64 false y c)))
cond_nonneg true x y c C = round_nonneg x c C
cond_nonneg false x y c C = round_nonneg y c C

-- ±a / c + ±b / c is not negative where -(±b) is no more than ±a
sum_nonneg : (s : Bool) (a : ℕ) (t : Bool) (b c : ℕ) → 0 < c → Le (not t) b s a → T (le 0·0 (sum binary64 s a t b c))
unfolding sum
sum_nonneg false a false b c C h = round_nonneg (a + b) c C
sum_nonneg false a true b c C h = rw (le-ltb a b h) (round_nonneg (a - b) c C)
sum_nonneg true a false b c C h = rw (le-ltb b a h) (cond_nonneg (ltb a b) (b - a) (a - b) c C)
sum_nonneg true a true b c C h = rw (minus_zero (a + b) c C (omega arith)) (unfold le in tt)

-- ---- the gap between two times in order: not negative, and so no NaN
pub gap_nonneg : (t p : Float) → T (finite t) → T (finite p) → T (le p t) → T (le 0·0 (sub binary64 t p))
unfolding sub add neg
gap_nonneg (fin s m e) (fin true n d) h k l = sum_nonneg s (m * up e * down d) false (n * up d * down e) (down e * down d) (mul-pos (down_pos e) (down_pos d)) (le_fin true n d s m e l)
gap_nonneg (fin s m e) (fin false n d) h k l = sum_nonneg s (m * up e * down d) true (n * up d * down e) (down e * down d) (mul-pos (down_pos e) (down_pos d)) (le_fin false n d s m e l)
gap_nonneg nan p h k l = elim h [ ]
gap_nonneg (inf _) p h k l = elim h [ ]
gap_nonneg (fin s m e) nan h k l = elim k [ ]
gap_nonneg (fin s m e) (inf _) h k l = elim k [ ]

-- ---- a real that is not negative: its sign is clear, or it is -0
abbrev Clear : Bool → ℕ → Type 0
Clear false a = Unit
Clear true a = a ≡ 0

clear : (s : Bool) (m : ℕ) (e : ℤ) → T (le 0·0 (fin s m e)) → Clear s (m * up e)
clear false m e h = tt
clear true m e h = let z = le_fin false 0 (pos 0) true m e h in omega (arith, zero-mul (down e), mul-one (m * up e))

clear_up : (s : Bool) (a k : ℕ) → Clear s a → Clear s (a * k)
clear_up false a k h = tt
clear_up true a k h = ap (λ (z : ℕ). z * k) h ∙ zero-mul k

opposed : (s : Bool) (a : ℕ) (t : Bool) (b : ℕ) → Clear s a → Clear t b → Le (not t) b s a
opposed false a false b h k = tt
opposed false a true b h k = omega arith
opposed true a false b h k = omega arith
opposed true a true b h k = omega arith

pub add_nonneg : (x y : Float) → T (le 0·0 x) → T (le 0·0 y) → T (le 0·0 (add binary64 x y))
unfolding add
add_nonneg nan y h k = absurd (le_right 0·0 nan h)
add_nonneg (inf s) nan h k = absurd (le_right 0·0 nan k)
add_nonneg (inf true) (inf t) h k = absurd (unfold le in h)
add_nonneg (inf false) (inf true) h k = absurd (unfold le in k)
add_nonneg (inf false) (inf false) h k = h
add_nonneg (inf s) (fin t n d) h k = h
add_nonneg (fin s m e) nan h k = absurd (le_right 0·0 nan k)
add_nonneg (fin s m e) (inf t) h k = k
add_nonneg (fin s m e) (fin t n d) h k =
    sum_nonneg s (m * up e * down d) t (n * up d * down e) (down e * down d) (mul-pos (down_pos e) (down_pos d))
    (opposed s (m * up e * down d) t (n * up d * down e) (clear_up s (m * up e) (down d) (clear s m e h)) (clear_up t (n * up d) (down e) (clear t n d k)))

-- ---- what is not negative only grows by adding
own_fraction : (m d : ℕ) (e : ℤ) → m * up e * (down e * d) ≡ m * up e * d * down e
own_fraction m d e = sym (mul_assoc (m * up e) (down e) d) ∙ mul_right_comm (m * up e) (down e) d

sum_grows : (m : ℕ) (e : ℤ) (t : Bool) (b d : ℕ) → 0 < d → T (fits binary64 (fin false m e)) → Clear t b → T (le (fin false m e) (sum binary64 false (m * up e * d) t b (down e * d)))
unfolding sum
sum_grows m e false b d D f h =
    let a = m * up e * d in
    let c = down e * d in
    let C : 0 < c = mul-pos (down_pos e) D in
    subst (λ (z : Float). T (le z (round binary64 false (a + b) c))) (round_own (fin false m e) false a c C f (refl, own_fraction m d e))
    (round_mono binary64 a c (a + b) c C C (mul-le-mul_right c (le-add_right a b)))
sum_grows m e true b d D f h =
    let a = m * up e * d in
    let c = down e * d in
    let C : 0 < c = mul-pos (down_pos e) D in
    let l : b ≤ a = omega arith in
    let g : a ≤ a - b = omega arith in
    rw (le-ltb a b l)
    (subst (λ (z : Float). T (le z (round binary64 false (a - b) c))) (round_own (fin false m e) false a c C f (refl, own_fraction m d e))
    (round_mono binary64 a c (a - b) c C C (mul-le-mul_right c g)))

pub add_grows : (x g : Float) → T (fits binary64 x) → T (le 0·0 x) → T (le 0·0 g) → T (le x (add binary64 x g))
add_grows nan g f h k = absurd (le_right 0·0 nan h)
add_grows (inf true) g f h k = absurd (unfold le in h)
add_grows (inf false) nan f h k = absurd (le_right 0·0 nan k)
add_grows (inf false) (inf true) f h k = absurd (unfold le in k)
add_grows (inf false) (inf false) f h k = unfold add le in tt
add_grows (inf false) (fin t n d) f h k = unfold add le in tt
add_grows (fin true m e) g f h k = le_transitive (fin true m e) 0·0 (add binary64 (fin true m e) g) (fin_le true m e false 0 (pos 0) tt) (add_nonneg (fin true m e) g h k)
add_grows (fin false m e) nan f h k = absurd (le_right 0·0 nan k)
add_grows (fin false m e) (inf true) f h k = absurd (unfold le in k)
add_grows (fin false m e) (inf false) f h k = unfold add in greatest_number (fin false m e) tt
add_grows (fin false m e) (fin t n d) f h k = unfold add in sum_grows m e t (n * up d * down e) (down d) (down_pos d) f (clear_up t (n * up d) (down e) (clear t n d k))
