-- What a survey finds: tests 1 and 2 over all rows, and whether their words are as many as the region's. Assumes nothing.
use Prim.Native.Nat.{ℕ, suc, ◌+◌, ◌≤◌, ◌<◌}
use native.Mathlib.Omega.{arith}
use mathlib.Core.Path.{◌≡◌, refl, ◌∙◌}
use mathlib.Core.Bool.{Bool, true, false, not, cond, true≢false, and-false}
use mathlib.Core.Logic.{⊎_elim}
use mathlib.Core.List.{List, [], ◌∷◌}
use borrow.Author.Tests.{le-leb, lt-leb, ne_eqb}
use lib.Dec.{eqb, leb}
use lib.ListN.{length}
use lib.Ieee.{Float}
use Rattle.std.specs.Prelude.{Option, Some, None}
use Rattle.reals.proofs.Values.{both}
use Rattle.dynamics.proofs.Calls.{length_0, length_2}
use Rattle.blocks.specs.Block.{machine_of}
use Rattle.sheet.specs.Rows.{wide, width_of, every, first_failing}
use Rattle.sheet.specs.Sheet.{in_reach, all_reach, settled}
use Rattle.sheet.specs.Walk.{Carried, carried, fault, is_new, noted, moved_to, put_end, surveyed_row, surveyed_ends, survey_turn, walked}
use Rattle.sheet.specs.declared.row.Row.{Row}
use Rattle.sheet.specs.declared.seen.Seen.{Seen}
use Rattle.sheet.specs.declared.walk.Fault.{Fault}
use Rattle.sheet.specs.declared.walk.Walk.{Walk}
use Rattle.sheet.proofs.Stretches.{either}
use Rattle.sheet.proofs.Ends.{ended}

-- a walk in the middle
abbrev pub midway : Option Fault → ℕ → Walk
midway f at = record { fault = f; at = at; warning = false }

-- what a survey, or the emits, found
pub record Finds (c : Carried) (found : Option Fault) (ws : List ℕ) : Type 0 where
  pub fault_is : c.found.fault ≡ found
  pub region_is : c.region ≡ ws

-- ---- which faults are noted
-- none, or one of a number above this
abbrev pub Above : ℕ → Option Fault → Type 0
Above least None = Unit {0}
Above least (Some f) = least < f.number

pub above_of : (least : ℕ) (b : Bool) (x : Fault) (f : Option Fault) → least < x.number → Above least f → Above least (cond b (Some x) f)
above_of least true x f h g = h
above_of least false x f h g = g

-- a fault of a lower number than what was found is new
pub new : (f : Option Fault) (at number : ℕ) → (number ≡ 0 → ⊥) → Above number f → is_new (midway f at) number ≡ true
new None at number some h = rw (ne_eqb number 0 some) refl
new (Some f) at number some h = rw (ne_eqb number 0 some, lt-leb f.number number h) refl

-- one of no lower number is not
pub old : (f : Fault) (at number : ℕ) → f.number ≤ number → is_new (midway (Some f) at) number ≡ false
old f at number h = rw (le-leb f.number number h, and-false (not (eqb number 0))) refl

-- ---- a survey
module _ (time : Float) (ws : List ℕ) where
  abbrev over : ℕ → List Row → Walk → Seen → Carried
  over n rs w seen = walked survey_turn time n rs (carried w ws seen)

  module _ (r : Row) (rs : List Row) (n : ℕ) (f : Option Fault) (at : ℕ) (seen : Seen) where
    abbrev here : Walk
    here = midway f at

    off_row : in_reach n r ≡ false → over n (r ∷ rs) here seen ≡ over (n + 1) rs (noted here 1 0) seen
    unfolding walked surveyed_row surveyed_ends
    off_row e = rw e refl

    on_unsettled : in_reach n r ≡ true → settled r ≡ false → over n (r ∷ rs) here seen ≡ over (n + 1) rs (noted here 2 n) seen
    unfolding walked surveyed_row surveyed_ends
    on_unsettled e s = rw (e, length_2 (machine_of r.block) s) refl

    on_outside : in_reach n r ≡ true → settled r ≡ true → leb (at + wide r) (length ws) ≡ false → over n (r ∷ rs) here seen ≡ over (n + 1) rs (noted here 3 0) seen
    unfolding walked surveyed_row surveyed_ends
    on_outside e s l = rw (e, length_0 (machine_of r.block) s, l) refl

    on_inside : in_reach n r ≡ true → settled r ≡ true → leb (at + wide r) (length ws) ≡ true → over n (r ∷ rs) here seen ≡ over (n + 1) rs (moved_to here (at + wide r)) (put_end n (at + wide r) seen)
    unfolding walked surveyed_row surveyed_ends
    on_inside e s l = rw (e, length_0 (machine_of r.block) s, l) refl

  -- a column out of reach stays the fault
  one_stays : (n : ℕ) (rs : List Row) (at : ℕ) (seen : Seen) → Finds (over n rs (midway (Some (fault 1 0)) at) seen) (Some (fault 1 0)) ws
  unfolding walked
  one_stays n [] at seen = record { fault_is = refl; region_is = refl }
  one_stays n (r ∷ rs) at seen =
      let f = Some (fault 1 0) in
      ⊎_elim
      (λ t. ⊎_elim
      (λ s. ⊎_elim
      (λ l. rw (on_inside r rs n f at seen t s l) (one_stays (n + 1) rs (at + wide r) (put_end n (at + wide r) seen)))
      (λ l. rw (on_outside r rs n f at seen t s l) (one_stays (n + 1) rs at seen))
      (either (leb (at + wide r) (length ws))))
      (λ s. rw (on_unsettled r rs n f at seen t s) (one_stays (n + 1) rs at seen))
      (either (settled r)))
      (λ t. rw (off_row r rs n f at seen t) (one_stays (n + 1) rs at seen))
      (either (in_reach n r))

  -- a column out of reach is the fault
  pub out_of_reach : (n : ℕ) (rs : List Row) (f : Option Fault) (at : ℕ) (seen : Seen) → Above 1 f → all_reach n rs ≡ false → Finds (over n rs (midway f at) seen) (Some (fault 1 0)) ws
  unfolding all_reach
  out_of_reach n [] f at seen h e = absurd (true≢false e)
  out_of_reach n (r ∷ rs) f at seen h e = ⊎_elim
      (λ t. let rest = rw t at e in ⊎_elim
      (λ s. ⊎_elim
      (λ l. rw (on_inside r rs n f at seen t s l) (out_of_reach (n + 1) rs f (at + wide r) (put_end n (at + wide r) seen) h rest))
      (λ l. rw (on_outside r rs n f at seen t s l) (out_of_reach (n + 1) rs _ at seen (above_of 1 (is_new (midway f at) 3) (fault 3 0) f (omega arith) h) rest))
      (either (leb (at + wide r) (length ws))))
      (λ s. rw (on_unsettled r rs n f at seen t s) (out_of_reach (n + 1) rs _ at seen (above_of 1 (is_new (midway f at) 2) (fault 2 n) f (omega arith) h) rest))
      (either (settled r)))
      (λ t. rw (off_row r rs n f at seen t, new f at 1 (λ z. omega arith) h) (one_stays (n + 1) rs at seen))
      (either (in_reach n r))

  -- settings that were refused stay the fault, but for a column out of reach
  two_stays : (n : ℕ) (rs : List Row) (j at : ℕ) (seen : Seen) → all_reach n rs ≡ true → Finds (over n rs (midway (Some (fault 2 j)) at) seen) (Some (fault 2 j)) ws
  unfolding all_reach walked
  two_stays n [] j at seen e = record { fault_is = refl; region_is = refl }
  two_stays n (r ∷ rs) j at seen e =
      let f = Some (fault 2 j) in
      let (t, u) = both (in_reach n r) (all_reach (n + 1) rs) e in
      ⊎_elim
      (λ s. ⊎_elim
      (λ l. rw (on_inside r rs n f at seen t s l) (two_stays (n + 1) rs j (at + wide r) (put_end n (at + wide r) seen) u))
      (λ l. rw (on_outside r rs n f at seen t s l) (two_stays (n + 1) rs j at seen u))
      (either (leb (at + wide r) (length ws))))
      (λ s. rw (on_unsettled r rs n f at seen t s) (two_stays (n + 1) rs j at seen u))
      (either (settled r))

  -- the topmost row whose settings are refused
  pub unsettled : (n : ℕ) (rs : List Row) (f : Option Fault) (at : ℕ) (seen : Seen) → Above 2 f → all_reach n rs ≡ true → every settled rs ≡ false
      → Finds (over n rs (midway f at) seen) (Some (fault 2 (n + first_failing settled rs))) ws
  unfolding all_reach every first_failing
  unsettled n [] f at seen h e fails = absurd (true≢false fails)
  unsettled n (r ∷ rs) f at seen h e fails =
      let (t, u) = both (in_reach n r) (all_reach (n + 1) rs) e in
      ⊎_elim
      (λ s. let rest = rw s at fails in rw (s, next (first_failing settled rs)) (⊎_elim
      (λ l. rw (on_inside r rs n f at seen t s l) (unsettled (n + 1) rs f (at + wide r) (put_end n (at + wide r) seen) h u rest))
      (λ l. rw (on_outside r rs n f at seen t s l) (unsettled (n + 1) rs _ at seen (above_of 2 (is_new (midway f at) 3) (fault 3 0) f (omega arith) h) u rest))
      (either (leb (at + wide r) (length ws)))))
      (λ s. rw (on_unsettled r rs n f at seen t s, new f at 2 (λ z. omega arith) h, s, here_is) (two_stays (n + 1) rs n at seen u))
      (either (settled r))
    where
      next : (x : ℕ) → n + suc x ≡ (n + 1) + x
      next x = omega arith

      here_is : n + 0 ≡ n
      here_is = omega arith

  -- words that are not there stay the fault, where no setting is refused
  three_stays : (n : ℕ) (rs : List Row) (at : ℕ) (seen : Seen) → all_reach n rs ≡ true → every settled rs ≡ true → Finds (over n rs (midway (Some (fault 3 0)) at) seen) (Some (fault 3 0)) ws
  unfolding all_reach every walked
  three_stays n [] at seen e s = record { fault_is = refl; region_is = refl }
  three_stays n (r ∷ rs) at seen e s =
      let f = Some (fault 3 0) in
      let (t, u) = both (in_reach n r) (all_reach (n + 1) rs) e in
      let (s, v) = both (settled r) (every settled rs) s in
      ⊎_elim
      (λ l. rw (on_inside r rs n f at seen t s l) (three_stays (n + 1) rs (at + wide r) (put_end n (at + wide r) seen) u v))
      (λ l. rw (on_outside r rs n f at seen t s l) (three_stays (n + 1) rs at seen u v))
      (either (leb (at + wide r) (length ws)))

  -- words that are not as many as the region's: some are not there, or some are left over
  pub data Misfits (c : Carried) : Type 0 where
    missing : Finds c (Some (fault 3 0)) ws → Misfits c
    over_left : Finds c None ws → (c.found.at ≡ length ws → ⊥) → Misfits c

  pub misfit : (n : ℕ) (rs : List Row) (at : ℕ) (seen : Seen) → all_reach n rs ≡ true → every settled rs ≡ true → (at + width_of rs ≡ length ws → ⊥) → Misfits (over n rs (midway None at) seen)
  unfolding all_reach every walked width_of
  misfit n [] at seen e f off = over_left (record { fault_is = refl; region_is = refl }) (λ z. off (let y : at + 0 ≡ at = omega arith in y ∙ z))
  misfit n (r ∷ rs) at seen e f off =
      let (t, u) = both (in_reach n r) (all_reach (n + 1) rs) e in
      let (s, v) = both (settled r) (every settled rs) f in
      ⊎_elim
      (λ l. rw (on_inside r rs n None at seen t s l) (misfit (n + 1) rs (at + wide r) (put_end n (at + wide r) seen) u v (λ z. off (assoc ∙ z))))
      (λ l. rw (on_outside r rs n None at seen t s l) (missing (three_stays (n + 1) rs at seen u v)))
      (either (leb (at + wide r) (length ws)))
    where
      assoc : at + (wide r + width_of rs) ≡ (at + wide r) + width_of rs
      assoc = omega arith

  -- no row at fault: it ends at the region's end
  pub unharmed : (n : ℕ) (rs : List Row) (at : ℕ) (seen : Seen) → at + width_of rs ≡ length ws → all_reach n rs ≡ true → every settled rs ≡ true → over n rs (midway None at) seen ≡ carried (midway None (length ws)) ws (ended n rs at seen)
  unfolding all_reach every walked width_of ended
  unharmed n [] at seen all e f = let z : at + 0 ≡ at = omega arith in rw (← all, z) refl
  unharmed n (r ∷ rs) at seen all e f =
      let (t, u) = both (in_reach n r) (all_reach (n + 1) rs) e in
      let (s, v) = both (settled r) (every settled rs) f in
      rw (on_inside r rs n None at seen t s (le-leb (at + wide r) (length ws) (omega (arith, all)))) (unharmed (n + 1) rs (at + wide r) (put_end n (at + wide r) seen) (omega (arith, all)) u v)
