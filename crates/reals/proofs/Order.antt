-- The order of the reals that are numbers, infinities included: `le` is reflexive, transitive and total, and `lt` is its opposite. Assumes nothing.
use mathlib.Core.Path.{◌≡◌, refl, sym, ap, ◌∙◌, subst}
use mathlib.Core.Logic.{◌⊎◌, inl, inr}
use Prim.Native.Nat.{ℕ, ◌+◌, ◌*◌, ◌≤◌, ◌<◌, zero-le}
use native.Mathlib.Nat.{le_refl, le_of_lt, lt_of_not-le, le_of_eq, eq_of_mul-eq-mul_right, mul_right_comm, mul-le-mul_right, le_of_mul-le-mul_right, add-mul, zero-mul, eq-or-lt_of_le}
use native.Mathlib.Decide.{dec_le}
use native.Mathlib.Omega.{arith}
use mathlib.Core.Bool.{Bool, true, false, not, ◌&&◌, ◌||◌, true≢false}
use lib.Dec.{T, ltb, eqb, ltb→lt, lt→ltb, eqb→eq, T_not, not_T}
use lib.IntN.{ℤ}
use lib.Ieee.{Float, nan, inf, fin, up, down, below, level, lt, le, is_nan}
use lib.Ieee.Fits.{down_pos, and_i, and_l, and_r, eq→eqb}
use lib.Ieee.Scale.{finite}
use Rattle.reals.proofs.Values.{agree}

total : (a b : ℕ) → (a ≤ b) ⊎ (b ≤ a)
total a b = elim (dec_le a b) [ yes h ↦ inl h | no h ↦ inr (le_of_lt (lt_of_not-le h)) ]

-- ---- ±a ≤ ±b and ±a < ±b, on whole numbers
abbrev pub Le : Bool → ℕ → Bool → ℕ → Type 0
Le false a false b = a ≤ b
Le false a true b = a + b ≡ 0
Le true a false b = Unit
Le true a true b = b ≤ a

abbrev pub Lt : Bool → ℕ → Bool → ℕ → Type 0
Lt false a false b = a < b
Lt false a true b = ⊥
Lt true a false b = 0 < a + b
Lt true a true b = b < a

-- the tests that `le` and `lt` make of two finite numbers say that
abbrev least : Bool → ℕ → Bool → ℕ → Bool
least s a t b = below s a t b || level s a t b

or_cases : (p q : Bool) → T (p || q) → T p ⊎ T q
or_cases true q t = inl tt
or_cases false q t = inr t

or_left : (p q : Bool) → T p → T (p || q)
or_left true q t = tt
or_left false q t = absurd t

or_right : (p q : Bool) → T q → T (p || q)
or_right true q t = tt
or_right false q t = t

-- a < b, or a test that passes just where a is b
or_le : (a b : ℕ) (q : Bool) → (T q → a ≡ b) → T (ltb a b || q) → a ≤ b
or_le a b q same t = elim (or_cases (ltb a b) q t) [ inl u ↦ le_of_lt (ltb→lt a b u) | inr u ↦ le_of_eq (same u) ]

le_or : (a b : ℕ) (q : Bool) → (a ≡ b → T q) → a ≤ b → T (ltb a b || q)
le_or a b q same h = elim (eq-or-lt_of_le h) [ inl e ↦ or_right (ltb a b) q (same e) | inr l ↦ or_left (ltb a b) q (lt→ltb a b l) ]

least_le : (s : Bool) (a : ℕ) (t : Bool) (b : ℕ) → T (least s a t b) → Le s a t b
least_le false a false b h = or_le a b (eqb a b && true) (λ u. eqb→eq a b (and_l (eqb a b) true u)) h
least_le false a true b h =
    let x = eqb→eq a b (and_l (eqb a b) (eqb a 0) h) in
    let y = eqb→eq a 0 (and_r (eqb a b) (eqb a 0) h) in
    omega arith
least_le true a false b h = tt
least_le true a true b h = or_le b a (eqb a b && true) (λ u. sym (eqb→eq a b (and_l (eqb a b) true u))) h

le_least : (s : Bool) (a : ℕ) (t : Bool) (b : ℕ) → Le s a t b → T (least s a t b)
le_least false a false b h = le_or a b (eqb a b && true) (λ e. and_i (eqb a b) true (eq→eqb e) tt) h
le_least false a true b h =
    let x : a ≡ b = omega arith in
    let y : a ≡ 0 = omega arith in
    and_i (eqb a b) (eqb a 0) (eq→eqb x) (eq→eqb y)
le_least true a false b h = le_or 0 (a + b) (eqb a b && eqb a 0) (λ e. and_i (eqb a b) (eqb a 0) (eq→eqb {a = a} {b = b} (omega arith)) (eq→eqb {a = a} {b = 0} (omega arith))) zero-le
le_least true a true b h = le_or b a (eqb a b && true) (λ e. and_i (eqb a b) true (eq→eqb (sym e)) tt) h

-- ---- what they are as an order
Le-trans : (s : Bool) (a : ℕ) (t : Bool) (b : ℕ) (u : Bool) (c : ℕ) → Le s a t b → Le t b u c → Le s a u c
Le-trans false a false b false c h k = omega arith
Le-trans false a false b true c h k = omega arith
Le-trans false a true b false c h k = omega arith
Le-trans false a true b true c h k = omega arith
Le-trans true a t b false c h k = tt
Le-trans true a false b true c h k = omega arith
Le-trans true a true b true c h k = omega arith

Le-total : (s : Bool) (a : ℕ) (t : Bool) (b : ℕ) → Le s a t b ⊎ Le t b s a
Le-total false a false b = total a b
Le-total false a true b = inr tt
Le-total true a false b = inl tt
Le-total true a true b = total b a

-- multiplied through, and back
Le-up : (s : Bool) (a : ℕ) (t : Bool) (b k : ℕ) → Le s a t b → Le s (a * k) t (b * k)
Le-up false a false b k h = mul-le-mul_right k h
Le-up false a true b k h = sym (add-mul a b k) ∙ ap (λ (z : ℕ). z * k) h ∙ zero-mul k
Le-up true a false b k h = tt
Le-up true a true b k h = mul-le-mul_right k h

Le-down : (s : Bool) (a : ℕ) (t : Bool) (b k : ℕ) → 0 < k → Le s (a * k) t (b * k) → Le s a t b
Le-down false a false b k K h = le_of_mul-le-mul_right h K
Le-down false a true b k K h = eq_of_mul-eq-mul_right k K (a + b) 0 (add-mul a b k ∙ h ∙ sym (zero-mul k))
Le-down true a false b k K h = tt
Le-down true a true b k K h = le_of_mul-le-mul_right h K

-- ---- of reals: a number is anything but the NaN
abbrev pub number : Float → Bool
number nan = false
number (inf s) = true
number (fin s m e) = true

-- two finite reals by their cross products
pub le_fin : (s : Bool) (m : ℕ) (e : ℤ) (t : Bool) (n : ℕ) (d : ℤ) → T (le (fin s m e) (fin t n d)) → Le s (m * up e * down d) t (n * up d * down e)
unfolding le
le_fin s m e t n d h = least_le s (m * up e * down d) t (n * up d * down e) h

pub fin_le : (s : Bool) (m : ℕ) (e : ℤ) (t : Bool) (n : ℕ) (d : ℤ) → Le s (m * up e * down d) t (n * up d * down e) → T (le (fin s m e) (fin t n d))
unfolding le
fin_le s m e t n d h = le_least s (m * up e * down d) t (n * up d * down e) h

-- what is compared and found in order is a number
pub le_left : (x y : Float) → T (le x y) → T (number x)
unfolding le
le_left nan y h = h
le_left (inf s) y h = tt
le_left (fin s m e) y h = tt

pub le_right : (x y : Float) → T (le x y) → T (number y)
unfolding le
le_right nan nan h = h
le_right (inf s) nan h = h
le_right (fin s m e) nan h = h
le_right x (inf t) h = tt
le_right x (fin t n d) h = tt

pub lt_left : (x y : Float) → T (lt x y) → T (number x)
unfolding lt
lt_left nan y h = h
lt_left (inf s) y h = tt
lt_left (fin s m e) y h = tt

pub lt_right : (x y : Float) → T (lt x y) → T (number y)
unfolding lt
lt_right nan nan h = h
lt_right (inf s) nan h = h
lt_right (fin s m e) nan h = h
lt_right x (inf t) h = tt
lt_right x (fin t n d) h = tt

pub not_nan : (x : Float) → is_nan x ≡ false → T (number x)
unfolding is_nan
not_nan nan e = absurd (true≢false e)
not_nan (inf s) e = tt
not_nan (fin s m e) h = tt

Le-same : (s : Bool) (a : ℕ) → Le s a s a
Le-same false a = le_refl a
Le-same true a = le_refl a

pub le_reflexive : (x : Float) → T (number x) → T (le x x)
unfolding le
le_reflexive nan h = h
le_reflexive (inf true) h = tt
le_reflexive (inf false) h = tt
le_reflexive (fin s m e) h = fin_le s m e s m e (Le-same s (m * up e * down e))

-- the infinities are the ends
pub least_number : (x : Float) → T (number x) → T (le (inf true) x)
unfolding le
least_number nan h = h
least_number (inf true) h = tt
least_number (inf false) h = tt
least_number (fin s m e) h = tt

pub greatest_number : (x : Float) → T (number x) → T (le x (inf false))
unfolding le
greatest_number nan h = h
greatest_number (inf true) h = tt
greatest_number (inf false) h = tt
greatest_number (fin s m e) h = tt

pub over_all : (y : Float) → T (le (inf false) y) → y ≡ inf false
unfolding le
over_all nan h = absurd h
over_all (inf true) h = absurd h
over_all (inf false) h = refl
over_all (fin s m e) h = absurd h

Le-through : (s : Bool) (a c : ℕ) (t : Bool) (b d : ℕ) (u : Bool) (p q : ℕ) → 0 < d → Le s (a * d) t (b * c) → Le t (b * q) u (p * d) → Le s (a * q) u (p * c)
Le-through s a c t b d u p q D h k =
    Le-down s (a * q) u (p * c) d D
    (subst (λ (z : ℕ). Le s z u (p * c * d)) (mul_right_comm a d q)
    (subst (λ (z : ℕ). Le s (a * d * q) u z) (mul_right_comm p d c)
    (Le-trans s (a * d * q) t (b * c * q) u (p * d * c)
    (Le-up s (a * d) t (b * c) q h)
    (subst (λ (z : ℕ). Le t z u (p * d * c)) (mul_right_comm b q c) (Le-up t (b * q) u (p * d) c k)))))

pub le_transitive : (x y z : Float) → T (le x y) → T (le y z) → T (le x z)
le_transitive nan y z h k = absurd (le_left nan y h)
le_transitive (inf true) y z h k = least_number z (le_right y z k)
le_transitive (inf false) y z h k = subst (λ (w : Float). T (le w z)) (over_all y h) k
le_transitive (fin s m e) nan z h k = absurd (le_left nan z k)
le_transitive (fin s m e) (inf true) z h k = absurd (unfold le in h)
le_transitive (fin s m e) (inf false) z h k = subst (λ (w : Float). T (le (fin s m e) w)) (sym (over_all z k)) h
le_transitive (fin s m e) (fin t n d) nan h k = absurd (le_right (fin t n d) nan k)
le_transitive (fin s m e) (fin t n d) (inf true) h k = absurd (unfold le in k)
le_transitive (fin s m e) (fin t n d) (inf false) h k = greatest_number (fin s m e) tt
le_transitive (fin s m e) (fin t n d) (fin u o g) h k =
    fin_le s m e u o g (Le-through s (m * up e) (down e) t (n * up d) (down d) u (o * up g) (down g) (down_pos d) (le_fin s m e t n d h) (le_fin t n d u o g k))

pub le_total : (x y : Float) → T (number x) → T (number y) → T (le x y) ⊎ T (le y x)
le_total nan y h k = absurd h
le_total (inf true) y h k = inl (least_number y k)
le_total (inf false) y h k = inr (greatest_number y k)
le_total (fin s m e) nan h k = absurd k
le_total (fin s m e) (inf true) h k = inr (least_number (fin s m e) tt)
le_total (fin s m e) (inf false) h k = inl (greatest_number (fin s m e) tt)
le_total (fin s m e) (fin t n d) h k = elim (Le-total s (m * up e * down d) t (n * up d * down e)) [ inl l ↦ inl (fin_le s m e t n d l) | inr l ↦ inr (fin_le t n d s m e l) ]

-- ---- `lt` is the opposite of `le` the other way round
below_lt : (s : Bool) (a : ℕ) (t : Bool) (b : ℕ) → T (below s a t b) → Lt s a t b
below_lt false a false b h = ltb→lt a b h
below_lt false a true b h = h
below_lt true a false b h = ltb→lt 0 (a + b) h
below_lt true a true b h = ltb→lt b a h

lt_below : (s : Bool) (a : ℕ) (t : Bool) (b : ℕ) → Lt s a t b → T (below s a t b)
lt_below false a false b h = lt→ltb a b h
lt_below false a true b h = h
lt_below true a false b h = lt→ltb 0 (a + b) h
lt_below true a true b h = lt→ltb b a h

not_both : (s : Bool) (a : ℕ) (t : Bool) (b : ℕ) → Lt s a t b → Le t b s a → ⊥
not_both false a false b h k = omega arith
not_both false a true b h k = h
not_both true a false b h k = omega arith
not_both true a true b h k = omega arith

one_of_both : (s : Bool) (a : ℕ) (t : Bool) (b : ℕ) → (Le t b s a → ⊥) → Lt s a t b
one_of_both false a false b h = omega arith
one_of_both false a true b h = h tt
one_of_both true a false b h = lt_of_not-le (λ (l : a + b ≤ 0). h (omega arith))
one_of_both true a true b h = omega arith

below_not : (s : Bool) (a : ℕ) (t : Bool) (b : ℕ) → below s a t b ≡ not (least t b s a)
below_not s a t b =
    agree (below s a t b) (not (least t b s a))
    (λ h. not_T (least t b s a) (λ k. not_both s a t b (below_lt s a t b h) (least_le t b s a k)))
    (λ h. lt_below s a t b (one_of_both s a t b (λ k. T_not (least t b s a) h (le_least t b s a k))))

pub lt_not_le : (x y : Float) → T (number x) → T (number y) → lt x y ≡ not (le y x)
unfolding lt le
lt_not_le nan y h k = absurd h
lt_not_le (inf s) nan h k = absurd k
lt_not_le (inf true) (inf true) h k = refl
lt_not_le (inf true) (inf false) h k = refl
lt_not_le (inf false) (inf true) h k = refl
lt_not_le (inf false) (inf false) h k = refl
lt_not_le (inf true) (fin t n d) h k = refl
lt_not_le (inf false) (fin t n d) h k = refl
lt_not_le (fin s m e) nan h k = absurd k
lt_not_le (fin s m e) (inf true) h k = refl
lt_not_le (fin s m e) (inf false) h k = refl
lt_not_le (fin s m e) (fin t n d) h k = below_not s (m * up e * down d) t (n * up d * down e)

pub le_of_not_lt : (x y : Float) → T (number x) → T (number y) → lt y x ≡ false → T (le x y)
le_of_not_lt x y h k n = go (le x y) (sym (lt_not_le y x k h) ∙ n)
  where
    go : (b : Bool) → not b ≡ false → T b
    go true e = tt
    go false e = absurd (true≢false e)

pub le_not_lt : (x y : Float) → T (le x y) → lt y x ≡ false
le_not_lt x y l = lt_not_le y x (le_right x y l) (le_left x y l) ∙ go (le x y) l
  where
    go : (b : Bool) → T b → not b ≡ false
    go true t = refl
    go false t = elim t [ ]

pub lt_not_ge : (x y : Float) → lt x y ≡ true → le y x ≡ false
lt_not_ge x y e = go (le y x) (le_not_lt y x)
  where
    go : (b : Bool) → (T b → lt x y ≡ false) → b ≡ false
    go true f = absurd (true≢false (sym e ∙ f tt))
    go false f = refl

pub finite_number : (x : Float) → T (finite x) → T (number x)
finite_number (inf s) h = tt
finite_number (fin s m e) h = tt
finite_number nan h = elim h [ ]

-- what lies below another is not above it
pub against : (x y : Float) → T (lt x y) → T (le y x) → ⊥
against x y l g = rw (le_not_lt y x g) at l

pub lt_le : (x y : Float) → T (lt x y) → T (le x y)
lt_le x y l = elim (le_total x y (lt_left x y l) (lt_right x y l)) [ inl h ↦ h | inr h ↦ absurd (against x y l h) ]
