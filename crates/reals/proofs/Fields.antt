-- The three fields of a stored word, and the fraction that a word means by them. From these: a real that has a value is what that value rounds to. Assumes nothing.
use mathlib.Core.Path.{◌≡◌, refl, sym, ap, ◌∙◌, subst}
use Prim.Native.Nat.{ℕ, zero, suc, ◌+◌, ◌*◌, ◌/◌, ◌%◌, ◌^◌, ◌<◌}
use native.Mathlib.Nat.{mod-lt, lt_of_lt_of_le}
use native.Mathlib.Omega.{arith}
use mathlib.Core.Bool.{Bool, true, false, cond}
use borrow.Author.Tests.{ne_eqb}
use lib.Dec.{T, leb, eqb, lit<}
use lib.Arith.{lt_of_le-ne}
use lib.Pow.{field, pow_pos, pow_mono, shl_lt}
use lib.Ieee.{Float, nan, inf, fin, binary64, up, down, round, fits, of_fields, of_bits}
use lib.Ieee.Scale.{finite, round_same}
use lib.Ieee.Fits.{down_pos, round-fits}
use lib.Ieee.Exact.{HasValue, odd_sign, round_exact}
use Rattle.reals.specs.Words.{real_of, word_of}
use Rattle.reals.proofs.Words.{real_word}
use Rattle.reals.proofs.Values.{unique, same_fraction}

-- ---- the fields, and what they mean
read : (b : ℕ) → real_of b ≡ of_fields binary64 (leb (2 ^ 63) b) (b / 2 ^ 52 % 2 ^ 11) (b % 2 ^ 52)
unfolding of_bits
read b = ap (λ (x : ℕ). of_fields binary64 (leb (2 ^ 63) b) x (b % 2 ^ 52)) (field b 11 52)

-- with the exponent's field 0 the digits are a number of smallest values
subnormal : (s : Bool) (t : ℕ) → HasValue (of_fields binary64 s 0 t) s (t * 2 ^ 0) (2 ^ 1074)
unfolding of_fields
subnormal s t = odd_sign 53 s t 0 1074

-- any other below 2047 puts a leading digit in front, and counts how far they are moved up
normal : (s : Bool) (x t : ℕ) → suc x < 2047 → HasValue (of_fields binary64 s (suc x) t) s ((2 ^ 52 + t) * 2 ^ x) (2 ^ 1074)
unfolding of_fields
normal s x t h =
    let n : suc x ≡ 2047 → ⊥ = λ e. omega arith in
    rw (ne_eqb (suc x) 2047 n) (odd_sign 53 s (2 ^ 52 + t) x 1074)

-- 2047 is left for the infinities and the NaN
special : (s : Bool) (t : ℕ) → T (finite (of_fields binary64 s 2047 t)) → ⊥
unfolding of_fields
special s t = go (eqb t 0)
  where
    go : (b : Bool) → T (finite (cond b (inf s) nan)) → ⊥
    go true h = h
    go false h = h

-- ---- every finite real is q * 2 ^ j smallest values, with q of 53 digits at most
abbrev pub Placed : Float → Type 0
Placed x = (s : Bool) × (q : ℕ) × (j : ℕ) × (q < 2 ^ 53) × (j < 2046) × HasValue x s (q * 2 ^ j) (2 ^ 1074)

placed_fields : (s : Bool) (x t : ℕ) → x < 2048 → t < 2 ^ 52 → T (finite (of_fields binary64 s x t)) → Placed (of_fields binary64 s x t)
placed_fields s zero t h k f = (s, t, 0, omega arith, lit< tt, subnormal s t)
placed_fields s (suc x) t h k f =
    let l : suc x < 2047 = lt_of_le-ne (omega arith) (λ (e : suc x ≡ 2047). special s t (subst (λ (z : ℕ). T (finite (of_fields binary64 s z t))) e f)) in
    (s, 2 ^ 52 + t, x, omega arith, omega arith, normal s x t l)

pub placed : (x : Float) → T (fits binary64 x) → T (finite x) → Placed x
placed x f h =
    let b = word_of x in
    let e : of_fields binary64 (leb (2 ^ 63) b) (b / 2 ^ 52 % 2 ^ 11) (b % 2 ^ 52) ≡ x = sym (read b) ∙ real_word x f in
    subst Placed e (placed_fields (leb (2 ^ 63) b) (b / 2 ^ 52 % 2 ^ 11) (b % 2 ^ 52) (mod-lt (b / 2 ^ 52) (pow_pos 11)) (mod-lt b (pow_pos 52)) (subst (λ (z : Float). T (finite z)) (sym e) h))

-- ---- a real that has a value is what the value rounds to
pub value_finite : (x : Float) (s : Bool) (a c : ℕ) → HasValue x s a c → T (finite x)
value_finite (fin t m e) s a c v = tt
value_finite nan s a c v = elim v [ ]
value_finite (inf _) s a c v = elim v [ ]

pub value_sign : (x : Float) (s t : Bool) (a c b d : ℕ) → HasValue x s a c → HasValue x t b d → s ≡ t
value_sign (fin u m e) s t a c b d v w = sym v.0 ∙ w.0
value_sign nan s t a c b d v w = elim v [ ]
value_sign (inf _) s t a c b d v w = elim v [ ]

pub value_cross : (x : Float) (s t : Bool) (a c b d : ℕ) → HasValue x s a c → HasValue x t b d → a * d ≡ b * c
value_cross (fin u m e) s t a c b d v w = same_fraction a c b d (m * up e) (down e) (down_pos e) (sym v.1) (sym w.1)
value_cross nan s t a c b d v w = elim v [ ]
value_cross (inf _) s t a c b d v w = elim v [ ]

pub fine : (q j : ℕ) → q < 2 ^ 53 → j < 2046 → q * 2 ^ j < 2 ^ 2098
fine q j h k = lt_of_lt_of_le (shl_lt 53 j h) (pow_mono {i = 53 + j} {j = 2098} (omega arith))

pub round_own : (x : Float) (s : Bool) (a c : ℕ) → 0 < c → T (fits binary64 x) → HasValue x s a c → round binary64 s a c ≡ x
round_own x s a c C f v =
    let p = placed x f (value_finite x s a c v) in
    let q = p.1 in
    let j = p.2 in
    let l = 2 ^ 1074 in
    let w : HasValue x s (q * 2 ^ j) l = subst (λ (z : Bool). HasValue x z (q * 2 ^ j) l) (value_sign x p.0 s (q * 2 ^ j) l a c p.5 v) p.5 in
    round_same binary64 s a c (q * 2 ^ j) l C (pow_pos 1074) (value_cross x s s a c (q * 2 ^ j) l v w)
    ∙ unique binary64 (round binary64 s (q * 2 ^ j) l) x s (q * 2 ^ j) l (pow_pos 1074) (round-fits binary64 s (q * 2 ^ j) l) f
    (round_exact binary64 s (q * 2 ^ j) l q j (pow_pos 1074) p.3 (fine q j p.3 p.4) refl) w
