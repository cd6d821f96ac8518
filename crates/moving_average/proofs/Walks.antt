-- A walk that has passed i of the k positions from a on: one law for each step of a counting loop. Assumes nothing.
use mathlib.Core.Path.{◌≡◌, refl}
use mathlib.Core.Bool.{Bool, true, false, cond}
use mathlib.Core.List.{List}
use Prim.Native.Nat.{ℕ, zero, suc, ◌+◌, ◌-◌, ◌≤◌, ◌<◌}
use native.Mathlib.Omega.{arith}
use lib.Ieee.{Float}
use Rattle.moving_average.specs.Ring.{Holds, leading, edge_of, expired_of}
use Rattle.moving_average.specs.Average.{pruned}
use Rattle.moving_average.specs.declared.ring.Ring.{Ring}
use Rattle.moving_average.proofs.Places.{slot_within}

module _ (p : ℕ → Bool) where
  none : (a : ℕ) → leading p a 0 ≡ 0
  unfolding leading
  none a = refl

  stop : (a k : ℕ) → p a ≡ false → leading p a k ≡ 0
  unfolding leading
  stop a zero e = refl
  stop a (suc k) e = rw e refl

  next : (a k : ℕ) → p a ≡ true → leading p a (suc k) ≡ suc (leading p (suc a) k)
  unfolding leading
  next a k e = rw e refl

  abbrev pub Passed : ℕ → ℕ → ℕ → Type 0
  Passed a k i = (i ≤ k) × (leading p a k ≡ i + leading p (a + i) (k - i))

  pub passed_more : (a k i m : ℕ) → i < k → m ≡ a + i → Passed a k i → p m ≡ true → Passed a k (i + 1)
  passed_more a k i m h e w t =
      let left : k - i ≡ suc (k - (i + 1)) = omega arith in
      let here : suc m ≡ a + (i + 1) = omega arith in
      let go : leading p (a + i) (k - i) ≡ suc (leading p (a + (i + 1)) (k - (i + 1))) = rw (← e, left, ← here) (next m (k - (i + 1)) t) in
      (omega arith, omega arith)

  pub passed_stop : (a k i m : ℕ) → m ≡ a + i → Passed a k i → p m ≡ false → i ≡ leading p a k
  passed_stop a k i m e w t = let go : leading p (a + i) (k - i) ≡ 0 = rw (← e) (stop m (k - i) t) in omega arith

  pub passed_all : (a k i : ℕ) → k ≤ i → Passed a k i → i ≡ leading p a k
  passed_all a k i h w =
      let left : k - i ≡ 0 = omega arith in
      let go : leading p (a + i) (k - i) ≡ 0 = rw left (none (a + i)) in omega arith

-- a walk stays within its positions
choose_most : (b : Bool) (n k : ℕ) → n ≤ k → cond b (suc n) 0 ≤ suc k
choose_most true n k h = omega arith
choose_most false n k h = omega arith

pub leading_most : (p : ℕ → Bool) (a k : ℕ) → leading p a k ≤ k
unfolding leading
leading_most p a zero = omega arith
leading_most p a (suc k) = choose_most (p a) _ k (leading_most p (suc a) k)

module _ (r : List ℕ) (g : Ring) (x : Float) where
  pub edge_most : edge_of r g x ≤ g.count
  unfolding edge_of
  edge_most = leading_most _ 0 g.count

  pub expired_most : expired_of r g x ≤ g.count - 1
  unfolding expired_of
  expired_most = leading_most _ 1 (g.count - 1)

-- a pruned ring is a ring in the same region
pub pruned_holds : (r : List ℕ) (g : Ring) (x : Float) → Holds r g → Holds r (pruned r g x)
unfolding pruned
pruned_holds r g x h =
    record {
      stands = record { few = h.stands.few; first = slot_within g h.stands _; counted = omega arith };
      size = h.size;
    }
