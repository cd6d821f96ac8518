-- Rounding and the absolute value mean what they should over whole numbers, and only they do. Assumes nothing.
use mathlib.Core.Path.{◌≡◌, refl, sym, ap, ◌∙◌, subst}
use Prim.Native.Nat.{ℕ, zero, suc, ◌+◌, ◌*◌, ◌≤◌, ◌<◌, zero-le}
use native.Mathlib.Nat.{le_antisymm, mul-le-mul_left, zero-mul, mul-one, mul_right_comm, div-mul-le_self, le_of_suc-le-suc}
use native.Mathlib.Omega.{arith}
use mathlib.Core.Bool.{Bool, true, false}
use lib.Dec.{T, le→leb, leb→le}
use lib.IntN.{ℤ, pos, negsuc, neg_ℤ, nat_abs, ◌*ℤ◌, pos-*ℤ-pos, negsuc-*ℤ-pos, zero-*ℤ}
use lib.Signed.{◌≤ℤ◌}
use lib.Ieee.{Float, nan, inf, fin, binary64, up, down, fits}
use lib.Ieee.Scale.{finite}
use lib.Ieee.Positive.{num, den, den_pos}
use lib.Ieee.Fits.{down_pos}
use lib.Ieee.Exact.{HasValue}
use Rattle.reals.specs.Rounding.{Way, upward, downward, whole, whole_above, whole_size, signed, sign_of, numer, Before, IsWhole, magnitude, IsMagnitude}
use Rattle.reals.proofs.Values.{unique, same_fraction}
use Rattle.reals.proofs.Fields.{value_finite}
use Rattle.reals.proofs.Order.{Le}
use Rattle.reals.proofs.Whole.{above_reaches, above_first, below_first, whole_value}

-- ---- a whole number as a sign and a size
le_signed : (s : Bool) (a : ℕ) (t : Bool) (b : ℕ) → Le s a t b → signed s a ≤ℤ signed t b
le_signed false a false b h = record { le = le→leb a b h }
le_signed false a true zero h = record { le = le→leb a 0 (omega arith) }
le_signed false a true (suc b) h = absurd (never a b h)
  where
    never : (a b : ℕ) → a + suc b ≡ 0 → ⊥
    never a b h = omega arith
le_signed true zero false b h = record { le = le→leb 0 b zero-le }
le_signed true (suc a) false b h = record { le = tt }
le_signed true zero true zero h = record { le = tt }
le_signed true zero true (suc b) h = absurd (never b h)
  where
    never : (b : ℕ) → suc b ≤ 0 → ⊥
    never b h = omega arith
le_signed true (suc a) true zero h = record { le = tt }
le_signed true (suc a) true (suc b) h = record { le = le→leb b a (le_of_suc-le-suc h) }

signed_le : (s : Bool) (a : ℕ) (t : Bool) (b : ℕ) → signed s a ≤ℤ signed t b → Le s a t b
signed_le false a false b h = leb→le a b h.le
signed_le false a true zero h = let l = leb→le a 0 h.le in omega arith
signed_le false a true (suc b) h = absurd h.le
signed_le true a false b h = tt
signed_le true a true zero h = zero-le
signed_le true zero true (suc b) h = absurd h.le
signed_le true (suc a) true (suc b) h = let l = leb→le b a h.le in omega arith

antisymmetric : (a b : ℤ) → a ≤ℤ b → b ≤ℤ a → a ≡ b
antisymmetric (pos a) (pos b) h k = ap pos (le_antisymm (leb→le a b h.le) (leb→le b a k.le))
antisymmetric (pos a) (negsuc b) h k = absurd h.le
antisymmetric (negsuc a) (pos b) h k = absurd k.le
antisymmetric (negsuc a) (negsuc b) h k = ap negsuc (le_antisymm (leb→le a b k.le) (leb→le b a h.le))

signed_mul : (s : Bool) (n c : ℕ) → signed s n *ℤ pos c ≡ signed s (n * c)
signed_mul false n c = pos-*ℤ-pos n c
signed_mul true zero c = zero-*ℤ (pos c) ∙ ap (λ (z : ℕ). neg_ℤ (pos z)) (sym (zero-mul c))
signed_mul true (suc n) c = negsuc-*ℤ-pos n c

-- ---- the size that rounding gives: it reaches a / c, and no whole number before it does
abbrev LeWay : Way → Bool → ℕ → Bool → ℕ → Type 0
LeWay upward s a t b = Le s a t b
LeWay downward s a t b = Le t b s a

-- a / c and a whole k of the other sign are both zero
no_size : (a c k : ℕ) → 0 < c → a + k * c ≡ 0 → whole_above a c + k ≡ 0
no_size a c k C h =
    let x : whole_above a c ≤ 0 = above_first a c 0 C (omega (arith, zero-mul c)) in
    let y : k * 1 ≤ k * c = mul-le-mul_left k C in
    omega arith

size_reaches : (w : Way) (s : Bool) (a c : ℕ) → 0 < c → LeWay w s a s (whole_size w s a c * c)
size_reaches upward false a c C = above_reaches a c C
size_reaches upward true a c C = div-mul-le_self a c
size_reaches downward false a c C = div-mul-le_self a c
size_reaches downward true a c C = above_reaches a c C

size_first : (w : Way) (s : Bool) (a c : ℕ) (t : Bool) (k : ℕ) → 0 < c → LeWay w s a t (k * c) → LeWay w s (whole_size w s a c) t k
size_first upward false a c false k C h = above_first a c k C h
size_first upward false a c true k C h = no_size a c k C h
size_first upward true a c false k C h = tt
size_first upward true a c true k C h = below_first a c k C h
size_first downward false a c false k C h = below_first a c k C h
size_first downward false a c true k C h = tt
size_first downward true a c false k C h = omega (arith, no_size a c k C (omega arith))
size_first downward true a c true k C h = above_first a c k C h

-- ---- the same over ℤ
way_signed : (w : Way) (s : Bool) (a : ℕ) (t : Bool) (b : ℕ) → LeWay w s a t b → Before w (signed s a) (signed t b)
way_signed upward s a t b h = le_signed s a t b h
way_signed downward s a t b h = le_signed t b s a h

signed_way : (w : Way) (s : Bool) (a : ℕ) (t : Bool) (b : ℕ) → Before w (signed s a) (signed t b) → LeWay w s a t b
signed_way upward s a t b h = signed_le s a t b h
signed_way downward s a t b h = signed_le t b s a h

first_signed : (w : Way) (s : Bool) (a c : ℕ) (t : Bool) (k : ℕ) → 0 < c → Before w (signed s a) (signed t k *ℤ pos c) → Before w (signed s (whole_size w s a c)) (signed t k)
first_signed w s a c t k C h =
    way_signed w s (whole_size w s a c) t k (size_first w s a c t k C (signed_way w s a t (k * c) (subst (λ (z : ℤ). Before w (signed s a) z) (signed_mul t k c) h)))

value_numer : (r : Float) (s : Bool) (n : ℕ) → HasValue r s n 1 → numer r ≡ signed s n *ℤ pos (den r)
value_numer (fin t p d) s n v =
    ap (λ (z : Bool). signed z (p * up d)) v.0 ∙ ap (λ (z : ℕ). signed s z) (sym (mul-one (p * up d)) ∙ v.1) ∙ sym (signed_mul s n (down d))
value_numer nan s n v = elim v [ ]
value_numer (inf _) s n v = elim v [ ]

value_sign_of : (r : Float) (s : Bool) (n : ℕ) → HasValue r s n 1 → sign_of r ≡ s
value_sign_of (fin t p d) s n v = v.0
value_sign_of nan s n v = elim v [ ]
value_sign_of (inf _) s n v = elim v [ ]

-- of every finite f64, `whole` gives the first whole number on the way
pub whole_means : (w : Way) (x : Float) → T (fits binary64 x) → T (finite x) → IsWhole w x (whole w x)
whole_means w (fin s m e) f h =
    let n = whole_size w s (m * up e) (down e) in
    let r = whole w (fin s m e) in
    let v = whole_value w s m e f in
    record {
      z = signed s n;
      is_finite = value_finite r s n 1 v;
      is_z = value_numer r s n v;
      reaches = subst (λ (z : ℤ). Before w (signed s (m * up e)) z) (sym (signed_mul s n (down e))) (way_signed w s (m * up e) s (n * down e) (size_reaches w s (m * up e) (down e) (down_pos e)));
      first = elim [
        | pos k ↦ first_signed w s (m * up e) (down e) false k (down_pos e)
        | negsuc k ↦ first_signed w s (m * up e) (down e) true (suc k) (down_pos e)
      ];
      keeps_sign = value_sign_of r s n v;
    }
whole_means w nan f h = elim h [ ]
whole_means w (inf _) f h = elim h [ ]

-- and the others stay
pub whole_nan : (w : Way) → whole w nan ≡ nan
unfolding whole
whole_nan w = refl

pub whole_inf : (w : Way) (s : Bool) → whole w (inf s) ≡ inf s
unfolding whole
whole_inf w s = refl

-- ---- these statements admit one f64 only
signed_same : (s : Bool) (a b : ℕ) → signed s a ≡ signed s b → a ≡ b
signed_same false a b h = ap nat_abs h
signed_same true a b h = sym (size a) ∙ ap nat_abs h ∙ size b
  where
    size : (n : ℕ) → nat_abs (neg_ℤ (pos n)) ≡ n
    size zero = refl
    size (suc n) = refl

-- two fractions that are one whole number, with one sign
cross : (s : Bool) (a c b d : ℕ) (z : ℤ) → signed s a ≡ z *ℤ pos c → signed s b ≡ z *ℤ pos d → a * d ≡ b * c
cross s a c b d z p q =
    signed_same s (a * d) (b * c)
    (sym (signed_mul s a d) ∙ ap (λ (y : ℤ). y *ℤ pos d) p ∙ turned z ∙ ap (λ (y : ℤ). y *ℤ pos c) (sym q) ∙ signed_mul s b c)
  where
    turn : (t : Bool) (k : ℕ) → signed t k *ℤ pos c *ℤ pos d ≡ signed t k *ℤ pos d *ℤ pos c
    turn t k =
        ap (λ (y : ℤ). y *ℤ pos d) (signed_mul t k c)
        ∙ signed_mul t (k * c) d
        ∙ ap (λ (n : ℕ). signed t n) (mul_right_comm k c d)
        ∙ sym (signed_mul t (k * d) c)
        ∙ ap (λ (y : ℤ). y *ℤ pos c) (sym (signed_mul t k d))

    turned : (z : ℤ) → z *ℤ pos c *ℤ pos d ≡ z *ℤ pos d *ℤ pos c
    turned (pos k) = turn false k
    turned (negsuc k) = turn true (suc k)

-- finite reals of one sign and one size are one
same_size : (r q : Float) → T (fits binary64 r) → T (fits binary64 q) → T (finite r) → T (finite q) → sign_of r ≡ sign_of q → num r * den q ≡ num q * den r → r ≡ q
same_size (fin s m e) (fin t n d) f g h k i j = unique binary64 (fin s m e) (fin t n d) s (m * up e) (down e) (down_pos e) f g (refl, refl) (sym i, sym j)
same_size nan q f g h k i j = elim h [ ]
same_size (inf _) q f g h k i j = elim h [ ]
same_size (fin s m e) nan f g h k i j = elim k [ ]
same_size (fin s m e) (inf _) f g h k i j = elim k [ ]

between : (w : Way) (a b : ℤ) → Before w a b → Before w b a → a ≡ b
between upward a b h k = antisymmetric a b h k
between downward a b h k = antisymmetric a b k h

pub only_whole : (w : Way) (x r q : Float) → T (fits binary64 r) → T (fits binary64 q) → IsWhole w x r → IsWhole w x q → r ≡ q
only_whole w x r q f g p u =
    let same : p.z ≡ u.z = between w p.z u.z (p.first u.z u.reaches) (u.first p.z p.reaches) in
    let sign : sign_of r ≡ sign_of q = p.keeps_sign ∙ sym u.keeps_sign in
    same_size r q f g p.is_finite u.is_finite sign
    (cross (sign_of r) (num r) (den r) (num q) (den q) p.z p.is_z (rw (sign, same) u.is_z))

pub only_magnitude : (x r q : Float) → T (fits binary64 r) → T (fits binary64 q) → IsMagnitude x r → IsMagnitude x q → r ≡ q
only_magnitude x r q f g p u =
    same_size r q f g p.is_finite u.is_finite (p.sign_clear ∙ sym u.sign_clear)
    (same_fraction (num r) (den r) (num q) (den q) (num x) (den x) (den_pos x) p.same_size u.same_size)

-- ---- the absolute value is one
pub magnitude_means : (x : Float) → T (finite x) → IsMagnitude x (magnitude x)
unfolding magnitude
magnitude_means (fin s m e) h = record { is_finite = tt; same_size = refl; sign_clear = refl }
magnitude_means nan h = elim h [ ]
magnitude_means (inf _) h = elim h [ ]

pub magnitude_nan : magnitude nan ≡ nan
unfolding magnitude
magnitude_nan = refl

pub magnitude_inf : (s : Bool) → magnitude (inf s) ≡ inf false
unfolding magnitude
magnitude_inf s = refl
