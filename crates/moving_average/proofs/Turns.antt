-- Positions turn round the ring: a pruned ring's are the old ones further on, and no two share a slot. Assumes nothing.
use mathlib.Core.Path.{◌≡◌, refl, sym, ◌∙◌, ap}
use mathlib.Core.Logic.{◌⊎◌, inl, inr, ⊎_elim}
use mathlib.Core.List.{List}
use Prim.Native.Nat.{ℕ, ◌+◌, ◌%◌, ◌<◌}
use native.Mathlib.Nat.{mod-add-mod, add_assoc, lt_of_not-le}
use native.Mathlib.Decide.{dec_le}
use native.Mathlib.Omega.{arith}
use lib.Ieee.{Float}
use Rattle.moving_average.specs.Ring.{Stands, slot_of, time_place, mu_place, time_word, time_at, expired_of}
use Rattle.moving_average.specs.Average.{pruned}
use Rattle.moving_average.specs.declared.ring.Ring.{Ring}
use Rattle.moving_average.proofs.Places.{slot_within, slot_straight, slot_turned}

-- a slot is the sum of head and position, or the sum less one turn
slot_is : (g : Ring) → Stands g → (n : ℕ) → n < g.capacity → (slot_of g n ≡ g.head + n) ⊎ (slot_of g n + g.capacity ≡ g.head + n)
slot_is g s n h = elim (dec_le g.capacity (g.head + n)) [ yes past ↦ inr (omega (arith, past, slot_turned g s n (omega arith) past)) | no not ↦ inl (sym (slot_straight g s n (lt_of_not-le not))) ]

slot_apart : (g : Ring) → Stands g → (n p : ℕ) → n < g.capacity → p < g.capacity → slot_of g n ≡ slot_of g p → n ≡ p
slot_apart g s n p a b e =
    ⊎_elim (λ x. ⊎_elim (λ y. omega arith) (λ y. omega arith) (slot_is g s p b)) (λ x. ⊎_elim (λ y. omega arith) (λ y. omega arith) (slot_is g s p b))
    (slot_is g s n a)

-- times and integrals lie apart, and no two positions share a time's word
pub time_not_mu : (g : Ring) → Stands g → (n p : ℕ) → time_place g n ≡ mu_place g p → ⊥
unfolding time_place mu_place
time_not_mu g s n p e = omega (arith, slot_within g s n, e)

pub time_apart : (g : Ring) → Stands g → (n p : ℕ) → n < g.capacity → p < g.capacity → time_place g n ≡ time_place g p → n ≡ p
unfolding time_place
time_apart g s n p a b e = slot_apart g s n p a b (omega (arith, e))

-- position n of a pruned ring is position n past the pruned ones
pub slot_on : (r : List ℕ) (g : Ring) (x : Float) (n : ℕ) → slot_of (pruned r g x) n ≡ slot_of g (expired_of r g x + n)
unfolding slot_of pruned
slot_on r g x n = mod-add-mod (g.head + expired_of r g x) g.capacity n ∙ ap (λ (k : ℕ). k % g.capacity) (add_assoc g.head (expired_of r g x) n)

pub time_on : (r : List ℕ) (g : Ring) (x : Float) (n : ℕ) → time_at r (pruned r g x) n ≡ time_at r g (expired_of r g x + n)
unfolding time_at time_word time_place
time_on r g x n = rw (slot_on r g x n) refl
