-- Where a tick's point may go, and what its step writes. Assumes nothing.
use mathlib.Core.Path.{◌≡◌, refl, ap, subst, ◌∙◌}
use mathlib.Core.Bool.{Bool, true, false, ◌||◌, cond}
use mathlib.Core.List.{List, [], ◌∷◌}
use Prim.Native.Nat.{ℕ, suc, ◌+◌, ◌-◌, ◌≤◌, ◌<◌}
use native.Mathlib.Omega.{arith}
use borrow.Author.Tests.{eqb-true, eqb-false, leb-false}
use lib.Dec.{eqb, leb}
use lib.ListN.{length, get_or, set, drop, length-set, length-drop}
use lib.Seq.{get_or-set_same, get_or-set_other, get_or-drop}
use lib.Ieee.{Float}
use Rattle.reals.specs.Words.{word_of}
use Rattle.moving_average.specs.Ring.{Stands, Holds, time_place, mu_place, time_word}
use Rattle.moving_average.specs.Average.{is_crowded, after, over, place_of, written}
use Rattle.moving_average.specs.declared.ring.Ring.{Ring}
use Rattle.moving_average.specs.declared.store.Place.{Place}
use Rattle.moving_average.specs.declared.store.Step.{Step}
use Rattle.moving_average.proofs.Places.{time_within, mu_within}
use Rattle.moving_average.proofs.Turns.{time_not_mu, time_apart}

-- a place for a point: the last position then, one that the ring has, after its points or at the last of them
pub record Last (g : Ring) (p : Place) : Type 0 where
  pub last : p.position + 1 ≡ p.count
  pub room : p.position < g.capacity
  pub near : p.position ≤ g.count

-- ---- the place: what holds of each choice holds of it. A point goes after the last one only in an empty ring or one with a free slot
module _ (r : List ℕ) (g : Ring) (res t : Float) where
  free : is_crowded r g res t ≡ false → g.count < g.capacity
  unfolding is_crowded
  free e = leb-false g.capacity g.count (first (leb g.capacity g.count) _ e)
    where
      first : (a c : Bool) → a || c ≡ false → a ≡ false
      first true c h = h
      first false c h = refl

  placed : (P : Place → Type 0) → (g.count ≡ 0 → P (after g)) → ((b : Bool) → (g.count ≡ 0 → ⊥) → P (over g b)) → (g.count < g.capacity → P (after g)) → P (place_of r g res t)
  unfolding place_of
  placed P empty last room = go (eqb g.count 0) (eqb (time_word r g (g.count - 1)) (word_of t)) (is_crowded r g res t) (eqb-true g.count 0) (eqb-false g.count 0) free
    where
      go : (x y z : Bool) → (x ≡ true → g.count ≡ 0) → (x ≡ false → g.count ≡ 0 → ⊥) → (z ≡ false → g.count < g.capacity) → P (cond x (after g) (cond y (over g false) (cond z (over g true) (after g))))
      go true y z e n f = empty (e refl)
      go false true z e n f = last false (n refl)
      go false false true e n f = last true (n refl)
      go false false false e n f = room (f refl)

  -- it is the last position then, and one that the ring has
  pub place_last : Stands g → Last g (place_of r g res t)
  place_last s = placed (λ p. Last g p)
      (λ e. record { last = refl; room = omega (arith, s.first); near = omega arith })
      (λ b n. record { last = omega arith; room = omega (arith, s.counted); near = omega arith })
      (λ h. record { last = refl; room = h; near = omega arith })

-- ---- the words: six written one by one are the region's first six
pub six_written : (a b c d e f : ℕ) (r : List ℕ) → 6 ≤ length r
    → set (set (set (set (set (set r 0 a) 1 b) 2 c) 3 d) 4 e) 5 f ≡ a ∷ b ∷ c ∷ d ∷ e ∷ f ∷ drop 6 r
six_written a b c d e f [] h = absurd (omega (arith, h))
six_written a b c d e f (_ ∷ []) h = absurd (omega (arith, h))
six_written a b c d e f (_ ∷ _ ∷ []) h = absurd (omega (arith, h))
six_written a b c d e f (_ ∷ _ ∷ _ ∷ []) h = absurd (omega (arith, h))
six_written a b c d e f (_ ∷ _ ∷ _ ∷ _ ∷ []) h = absurd (omega (arith, h))
six_written a b c d e f (_ ∷ _ ∷ _ ∷ _ ∷ _ ∷ []) h = absurd (omega (arith, h))
six_written a b c d e f (_ ∷ _ ∷ _ ∷ _ ∷ _ ∷ _ ∷ r) h = refl

-- and the words past them stay
past_six : (a b c d e f : ℕ) (r : List ℕ) (i : ℕ) → 6 ≤ i → get_or (a ∷ b ∷ c ∷ d ∷ e ∷ f ∷ drop 6 r) i 0 ≡ get_or r i 0
past_six a b c d e f r i h =
    let six : suc (suc (suc (suc (suc (suc (i - 6)))))) ≡ i = omega arith in
    subst (λ (k : ℕ). get_or (a ∷ b ∷ c ∷ d ∷ e ∷ f ∷ drop 6 r) k 0 ≡ get_or r i 0) six (get_or-drop 6 r (i - 6) 0 ∙ ap (λ (k : ℕ). get_or r k 0) (omega arith))

module _ (r : List ℕ) (s : Step) (h : Holds r s.ring) where
  abbrev front : List ℕ
  front = s.mu ∷ s.t_start ∷ s.time ∷ s.ring.head ∷ s.place.count ∷ s.coalesced ∷ drop 6 r

  pub written_length : length (written r s) ≡ length r
  unfolding written
  written_length = simp (length-set, length-drop) (omega (arith, h.size))

  -- the point's words lie past the first six
  pub written_front : (k : ℕ) → k < 6 → get_or (written r s) k 0 ≡ get_or front k 0
  unfolding written
  written_front k inside =
      let n = s.place.position in
      let t = time_within s.ring h.stands n in
      let m = mu_within s.ring h.stands n in
      get_or-set_other (set front (time_place s.ring n) s.time) (mu_place s.ring n) k s.mu 0 (λ e. omega arith)
      ∙ get_or-set_other front (time_place s.ring n) k s.time 0 (λ e. omega arith)

  -- ---- the ring's times once the step is written: the tick's at its position, and each other as it was
  module _ (inside : s.place.position < s.ring.capacity) where
    abbrev at : ℕ → ℕ
    at n = time_place s.ring n

    pub time_new : time_word (written r s) s.ring s.place.position ≡ s.time
    unfolding time_word written
    time_new =
        let n = s.place.position in
        let room : at n < length front = simp length-drop (omega (arith, h.size, time_within s.ring h.stands n)) in
        get_or-set_other (set front (at n) s.time) (mu_place s.ring n) (at n) s.mu 0 (time_not_mu s.ring h.stands n n) ∙ get_or-set_same front (at n) s.time 0 room

    pub time_old : (n : ℕ) → n < s.ring.capacity → (n ≡ s.place.position → ⊥) → time_word (written r s) s.ring n ≡ time_word r s.ring n
    unfolding time_word written
    time_old n a b =
        let p = s.place.position in
        get_or-set_other (set front (at p) s.time) (mu_place s.ring p) (at n) s.mu 0 (time_not_mu s.ring h.stands n p)
        ∙ get_or-set_other front (at p) (at n) s.time 0 (λ e. b (time_apart s.ring h.stands n p a inside e))
        ∙ past_six s.mu s.t_start s.time s.ring.head s.place.count s.coalesced r (at n) (time_within s.ring h.stands n).0
