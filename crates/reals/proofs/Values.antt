-- A finite real as a fraction: `HasValue x s a c` says that x is a / c with the sign s. A fraction has one real at most, and a real rounds to itself. Assumes nothing.
use mathlib.Core.Path.{◌≡◌, refl, sym, ap, ◌∙◌}
use Prim.Native.Nat.{ℕ, zero, suc, ◌+◌, ◌-◌, ◌*◌, ◌/◌, ◌^◌, ◌<◌}
use native.Mathlib.Nat.{mul_comm, mul-sub, mul_right_comm, eq_of_mul-eq-mul_right}
use mathlib.Core.Bool.{Bool, true, false, ◌&&◌, cond, true≢false}
use lib.Dec.{T}
use lib.IntN.{ℤ}
use lib.Ieee.{nan, inf, Float, fin, Format, prec, low, up, down, size, hid, top, fits, of_bits, to_bits}
use lib.Ieee.Bits.{of_bits-to_bits}
use lib.Ieee.Fits.{down_pos}
use lib.Ieee.Exact.{HasValue}
use lib.Ieee.Nearest.{div_same}

-- two tests that imply each other
pub agree : (p q : Bool) → (T p → T q) → (T q → T p) → p ≡ q
agree true true f g = refl
agree true false f g = absurd (f tt)
agree false true f g = absurd (g tt)
agree false false f g = refl

-- two tests that both pass
pub both : (p q : Bool) → p && q ≡ true → (p ≡ true) × (q ≡ true)
both true q e = (refl, e)
both false q e = absurd (true≢false (sym e))

pub both_pass : {p q : Bool} → p ≡ true → q ≡ true → p && q ≡ true
both_pass e f = rw (e, f) refl

-- a difference of multiples
pub less_mul : (n k d : ℕ) → n * d - k * d ≡ (n - k) * d
less_mul n k d = sym (mul_comm (n - k) d ∙ mul-sub d n k ∙ ap (λ (z : ℕ). z - d * k) (mul_comm d n) ∙ ap (λ (z : ℕ). n * d - z) (mul_comm d k))

-- equal fractions: x / p is a / c and so is y / q
pub same_fraction : (x p y q a c : ℕ) → 0 < c → x * c ≡ a * p → y * c ≡ a * q → x * q ≡ y * p
same_fraction x p y q a c C h k =
    eq_of_mul-eq-mul_right c C (x * q) (y * p)
    (mul_right_comm x q c ∙ ap (λ (z : ℕ). z * q) h ∙ mul_right_comm a p q ∙ ap (λ (z : ℕ). z * p) (sym k) ∙ mul_right_comm y c p)

-- the same value over another denominator
pub rescale : (x : Float) (s : Bool) (a c b d : ℕ) → 0 < c → a * d ≡ b * c → HasValue x s a c → HasValue x s b d
rescale (fin t m e) s a c b d C h v = (v.0, same_fraction (m * up e) (down e) b d a c C v.1 (sym h))
rescale nan s a c b d C h v = elim v [ ]
rescale (inf _) s a c b d C h v = elim v [ ]

-- a real is known by its sign and its value: its bits are
bits : Format → Bool → ℕ → ℕ
bits f s n = cond s (top f) 0 + (size n - prec f) * hid f + n / 2 ^ (size n - prec f)

same_bits : (f : Format) (t u : Bool) (m n : ℕ) (e d : ℤ) → t ≡ u → m * up e * down d ≡ n * up d * down e → to_bits f (fin t m e) ≡ to_bits f (fin u n d)
unfolding to_bits bits
same_bits f t u m n e d h k =
    let l = 2 ^ low f in
    let x : m * up e * l * down d ≡ n * up d * l * down e = mul_right_comm (m * up e) l (down d) ∙ ap (λ (z : ℕ). z * l) k ∙ mul_right_comm (n * up d) (down e) l in
    ap (λ (z : ℕ). bits f t z) (div_same (m * up e * l) (down e) (n * up d * l) (down d) (down_pos e) (down_pos d) x)
    ∙ ap (λ (z : Bool). bits f z (n * up d * l / down d)) h

pub unique : (f : Format) (x y : Float) (s : Bool) (a c : ℕ) → 0 < c → T (fits f x) → T (fits f y) → HasValue x s a c → HasValue y s a c → x ≡ y
unique f (fin t m e) (fin u n d) s a c C p q v w =
    sym (of_bits-to_bits f (fin t m e) p)
    ∙ ap (λ (z : ℕ). of_bits f z) (same_bits f t u m n e d (v.0 ∙ sym w.0) (same_fraction (m * up e) (down e) (n * up d) (down d) a c C v.1 w.1))
    ∙ of_bits-to_bits f (fin u n d) q
unique f nan y s a c C p q v w = elim v [ ]
unique f (inf _) y s a c C p q v w = elim v [ ]
unique f (fin t m e) nan s a c C p q v w = elim w [ ]
unique f (fin t m e) (inf _) s a c C p q v w = elim w [ ]
