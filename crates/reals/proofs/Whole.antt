-- Rounding to a whole number is exact, and a whole number stays; a whole number compared with a real, one more and a power of two less. Assumes nothing.
use mathlib.Core.Path.{◌≡◌, refl, sym, ap, ◌∙◌, subst}
use Prim.Native.Nat.{ℕ, zero, suc, ◌+◌, ◌-◌, ◌*◌, ◌/◌, ◌%◌, ◌^◌, ◌≤◌, ◌<◌}
use native.Mathlib.Nat.{le_refl, le_of_eq, mul_comm, div-le_of_le-mul, le_antisymm, le_of_suc-le-suc, suc-mul, one-mul, mul-le-mul_left, mul-le-mul_right, le_of_mul-le-mul_right, div-lt_iff_lt-mul, le-div_iff_mul-le, lt-div-mul-add, mul-div_cancel, mul-one, mul_right_comm, mul-pos, add-mul, le_of_lt, le_trans, lt_of_le_of_lt, mul-lt-mul_of_pos_right, lt_of_mul-lt-mul_right}
use native.Mathlib.Omega.{arith}
use mathlib.Core.Bool.{Bool, true, false, ◌&&◌, true≢false}
use borrow.Author.Tests.{le-ltb}
use lib.Dec.{T, leb, ltb, eqb, ltb→lt, lt→ltb, lit<}
use lib.Pow.{pow_pos}
use lib.IntN.{ℤ, pos, negsuc}
use lib.Ieee.{nan, inf, Float, fin, binary64, up, down, round, sum, add, sub, neg, lt, below, fits}
use lib.Ieee.Back.{round_whole}
use lib.Ieee.Fits.{down_pos, and_l, and_r}
use lib.Ieee.Exact.{HasValue}
use lib.Ieee.Scale.{round_same}
use Rattle.reals.specs.Words.{1·0}
use Rattle.reals.specs.Rounding.{Way, upward, downward, whole, whole_above, whole_size}
use Rattle.reals.proofs.Fields.{round_own}
use Rattle.reals.proofs.Values.{agree, less_mul}

-- ---- the whole numbers on either side of a / c: the one above reaches a / c, each is the first that does, and they are one apart at most
pub above_reaches : (a c : ℕ) → 0 < c → a ≤ whole_above a c * c
above_reaches a c C = omega (arith, lt-div-mul-add {a = a + (c - 1)} C)

pub above_first : (a c k : ℕ) → 0 < c → a ≤ k * c → whole_above a c ≤ k
above_first a c k C h = le_of_suc-le-suc ((div-lt_iff_lt-mul C).1 (rw suc-mul (omega arith)))

pub below_first : (a c k : ℕ) → 0 < c → k * c ≤ a → k ≤ a / c
below_first a c k C h = (le-div_iff_mul-le C).1 h

pub above_next : (a c : ℕ) → 0 < c → whole_above a c ≤ a / c + 1
above_next a c C = above_first a c (a / c + 1) C (rw add-mul (omega (arith, lt-div-mul-add {a = a} C)))

below_within : (a c k : ℕ) → a ≤ k * c → a / c ≤ k
below_within a c k h = div-le_of_le-mul c (le_trans h (le_of_eq (mul_comm k c)))

-- whichever a / c is rounded to: it is at most k where a / c is, and it is k where a / c is k
pub size_within : (w : Way) (s : Bool) (a c k : ℕ) → 0 < c → a ≤ k * c → whole_size w s a c ≤ k
size_within upward false a c k C h = above_first a c k C h
size_within upward true a c k C h = below_within a c k h
size_within downward false a c k C h = below_within a c k h
size_within downward true a c k C h = above_first a c k C h

above_exact : (k c : ℕ) → 0 < c → whole_above (k * c) c ≡ k
above_exact k c C = le_antisymm (above_first (k * c) c k C (le_refl (k * c))) (le_of_mul-le-mul_right (above_reaches (k * c) c C) C)

size_exact : (w : Way) (s : Bool) (k c : ℕ) → 0 < c → whole_size w s (k * c) c ≡ k
size_exact upward false k c C = above_exact k c C
size_exact upward true k c C = mul-div_cancel k C
size_exact downward false k c C = mul-div_cancel k C
size_exact downward true k c C = above_exact k c C

size_at : (w : Way) (s : Bool) (m : ℕ) (e : ℤ) (k : ℕ) → m * up e * 1 ≡ k * down e → whole_size w s (m * up e) (down e) ≡ k
size_at w s m e k v = ap (λ (z : ℕ). whole_size w s z (down e)) (sym (mul-one (m * up e)) ∙ v) ∙ size_exact w s k (down e) (down_pos e)

-- ---- a real that is whole already stays
pub whole_already : (w : Way) (x : Float) (s : Bool) (k : ℕ) → T (fits binary64 x) → HasValue x s k 1 → x ≡ whole w x
unfolding whole
whole_already w (fin t m e) s k f v = sym (round_own (fin t m e) t k 1 (lit< tt) f (refl, v.1)) ∙ ap (λ (z : ℕ). round binary64 t z 1) (sym (size_at w t m e k v.1))
whole_already w nan s k f v = elim v [ ]
whole_already w (inf _) s k f v = elim v [ ]

-- ---- rounding to a whole number is exact: the result has the whole number for its value
pub digits_fit : (s : Bool) (m : ℕ) (e : ℤ) → T (fits binary64 (fin s m e)) → m < 2 ^ 53
unfolding fits
digits_fit s zero e h = lit< tt
digits_fit s (suc m) e h =
    let a = eqb (suc m % 2) 1 in
    let b = ltb (suc m) (2 ^ 53) in
    let c = leb (down e) (2 ^ 1074) in
    ltb→lt (suc m) (2 ^ 53) (and_r a b (and_l (a && b) c (and_l (a && b && c) (ltb (suc m * up e) (2 ^ 1024 * down e)) h)))

pub whole_value : (w : Way) (s : Bool) (m : ℕ) (e : ℤ) → T (fits binary64 (fin s m e)) → HasValue (whole w (fin s m e)) s (whole_size w s (m * up e) (down e)) 1
whole_value w s m (pos j) f =
    let x = fin s m (pos j) in
    let k = m * 2 ^ j in
    subst (λ (z : ℕ). HasValue (whole w x) s z 1) (sym (size_at w s m (pos j) k refl)) (subst (λ (z : Float). HasValue z s k 1) (whole_already w x s k f (refl, refl)) (refl, refl))
whole_value w s m (negsuc j) f =
    let c = 2 ^ suc j in
    let h : m * 1 ≤ m * c = mul-le-mul_left m (pow_pos (suc j)) in
    unfold whole in round_whole binary64 s (whole_size w s (m * 1) c) (le_of_lt (lt_of_le_of_lt (size_within w s (m * 1) c m (pow_pos (suc j)) h) (digits_fit s m (negsuc j) f)))

-- ---- the comparison of a whole number n with a real a / c
pub ltb_scale : (a b k : ℕ) → 0 < k → ltb (a * k) (b * k) ≡ ltb a b
ltb_scale a b k K = agree (ltb (a * k) (b * k)) (ltb a b) (λ t. lt→ltb a b (lt_of_mul-lt-mul_right k (ltb→lt (a * k) (b * k) t))) (λ t. lt→ltb (a * k) (b * k) (mul-lt-mul_of_pos_right (ltb→lt a b t) K))

below_scale : (s : Bool) (a b k : ℕ) → 0 < k → below s (a * k) s (b * k) ≡ below s a s b
below_scale false a b k K = ltb_scale a b k K
below_scale true a b k K = ltb_scale b a k K

-- n as p / d, over another denominator c too
over : (p n c d : ℕ) → p * 1 ≡ n * d → p * c ≡ n * c * d
over p n c d v = ap (λ (z : ℕ). z * c) (sym (mul-one p) ∙ v) ∙ mul_right_comm n d c

pub lt_from_whole : (r : Float) (s : Bool) (m : ℕ) (e : ℤ) (n : ℕ) → HasValue r s n 1 → lt r (fin s m e) ≡ below s (n * down e) s (m * up e)
unfolding lt
lt_from_whole (fin t p d) s m e n v =
    ap (λ (z : Bool). below z (p * up d * down e) s (m * up e * down d)) v.0
    ∙ ap (λ (z : ℕ). below s z s (m * up e * down d)) (over (p * up d) n (down e) (down d) v.1)
    ∙ below_scale s (n * down e) (m * up e) (down d) (down_pos d)
lt_from_whole nan s m e n v = elim v [ ]
lt_from_whole (inf _) s m e n v = elim v [ ]

pub lt_to_whole : (r : Float) (s : Bool) (m : ℕ) (e : ℤ) (n : ℕ) → HasValue r s n 1 → lt (fin s m e) r ≡ below s (m * up e) s (n * down e)
unfolding lt
lt_to_whole (fin t p d) s m e n v =
    ap (λ (z : Bool). below s (m * up e * down d) z (p * up d * down e)) v.0
    ∙ ap (λ (z : ℕ). below s (m * up e * down d) s z) (over (p * up d) n (down e) (down d) v.1)
    ∙ below_scale s (m * up e) (n * down e) (down d) (down_pos d)
lt_to_whole nan s m e n v = elim v [ ]
lt_to_whole (inf _) s m e n v = elim v [ ]

-- ---- one more than a whole number, and a power of two less
one_over : (p n d : ℕ) → p ≡ n * d → (p + 1 * d) * 1 ≡ (n + 1) * (d * 1)
one_over p n d h = mul-one (p + 1 * d) ∙ ap (λ (z : ℕ). z + 1 * d) h ∙ sym (add-mul n 1 d) ∙ ap (λ (z : ℕ). (n + 1) * z) (sym (mul-one d))

pub one_more : (r : Float) (n : ℕ) → HasValue r false n 1 → add binary64 r 1·0 ≡ round binary64 false (n + 1) 1
unfolding add sum
one_more (fin true p d) n v = absurd (true≢false v.0)
one_more (fin false p d) n v =
    round_same binary64 false (p * up d * 1 + 1 * down d) (down d * 1) (n + 1) 1 (mul-pos (down_pos d) (lit< tt)) (lit< tt) (one_over (p * up d * 1) n (down d) v.1)
one_more nan n v = elim v [ ]
one_more (inf _) n v = elim v [ ]

less_over : (p n k d : ℕ) → p ≡ n * d → (p - 1 * k * d) * 1 ≡ (n - k) * (d * 1)
less_over p n k d h =
    mul-one (p - 1 * k * d)
    ∙ ap (λ (z : ℕ). z - 1 * k * d) h
    ∙ ap (λ (z : ℕ). n * d - z * d) (one-mul k)
    ∙ less_mul n k d
    ∙ ap (λ (z : ℕ). (n - k) * z) (sym (mul-one d))

pub power_less : (r : Float) (n j : ℕ) → HasValue r false n 1 → 2 ^ j ≤ n → sub binary64 r (fin false 1 (pos j)) ≡ round binary64 false (n - 2 ^ j) 1
unfolding sub add neg sum
power_less (fin true p d) n j v h = absurd (true≢false v.0)
power_less (fin false p d) n j v h =
    let l : 1 * 2 ^ j * down d ≤ p * up d * 1 = le_trans (mul-le-mul_right (down d) (le_trans (le_of_eq (one-mul (2 ^ j))) h)) (le_of_eq (sym v.1)) in
    rw (le-ltb (p * up d * 1) (1 * 2 ^ j * down d) l)
    (round_same binary64 false (p * up d * 1 - 1 * 2 ^ j * down d) (down d * 1) (n - 2 ^ j) 1 (mul-pos (down_pos d) (lit< tt)) (lit< tt) (less_over (p * up d * 1) n (2 ^ j) (down d) v.1))
power_less nan n j v h = elim v [ ]
power_less (inf _) n j v h = elim v [ ]
