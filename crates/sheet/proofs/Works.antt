-- What the walks that write leave: each row's work on its own stretch, end to end. Assumes nothing.
use Prim.Native.Nat.{ℕ, ◌+◌, ◌*◌, ◌≤◌}
use native.Mathlib.Omega.{arith}
use mathlib.Core.Path.{◌≡◌, refl, sym, ◌∙◌}
use mathlib.Core.Bool.{Bool, true, false, ◌||◌, or_assoc, or-false}
use mathlib.Core.List.{List, [], ◌∷◌, ◌++◌, append_assoc, append-nil}
use borrow.Author.Tests.{le-leb}
use lib.Dec.{leb}
use lib.ListN.{length, take, drop, get_or}
use lib.Seq.{take_all}
use lib.Ieee.{Float}
use Rattle.std.specs.Prelude.{None}
use Rattle.reals.proofs.Values.{both}
use Rattle.dynamics.proofs.Calls.{length_0}
use Rattle.blocks.specs.Block.{machine_of, ticked}
use Rattle.blocks.specs.declared.block.Tick.{Tick}
use Rattle.blocks.proofs.Lengths.{started_length, updated_length}
use Rattle.sheet.specs.Rows.{wide, width_of, Placed, placed, every, any_of, joined}
use Rattle.sheet.specs.Sheet.{input_words, row_answers, in_reach, settled, starts_on, row_tick, feed, warns_of, left_of}
use Rattle.sheet.specs.Walk.{Carried, carried, updated_row, started_row, start_turn, walked}
use Rattle.sheet.specs.declared.row.Row.{Row}
use Rattle.sheet.specs.declared.seen.Seen.{Seen}
use Rattle.sheet.specs.declared.walk.Walk.{Walk}
use Rattle.sheet.proofs.Stretches.{cut, patched, take_put, drop_put, length_put, cut_length, up_to}
use Rattle.sheet.proofs.Ends.{EndsAre}
use Rattle.sheet.proofs.Feeding.{sees}

-- one row's work in its place is what the rows make from here on, before the rest is done
module _ (f : Placed → List ℕ) (r : Row) (rs : List Row) (at : ℕ) (ws : List ℕ) (all : at + (wide r + width_of rs) ≡ length ws) where
  abbrev own : Placed
  own = record { row = r; words = cut at (wide r) ws }

  inside : at + wide r ≤ length ws
  inside = omega (arith, all)

  own_length : length own.words ≡ wide r
  own_length = cut_length at (wide r) ws inside

  ahead : leb at (at + wide r) ≡ true
  ahead = le-leb at (at + wide r) (omega arith)

  next_at : leb (at + wide r) (length ws) ≡ true
  next_at = le-leb (at + wide r) (length ws) inside

  module _ (same : length (f own) ≡ wide r) where
    abbrev done : List ℕ
    done = patched at (wide r) ws (f own)

    left : (at + wide r) + width_of rs ≡ length done
    left = omega (arith, all, length_put at (wide r) ws (f own) inside same)

    behind : drop (at + wide r) done ≡ drop (wide r) (drop at ws)
    behind = drop_put at (wide r) ws (f own) inside same

    work_step : take (at + wide r) done ++ joined f (placed rs (drop (at + wide r) done)) ≡ take at ws ++ joined f (placed (r ∷ rs) (drop at ws))
    unfolding placed joined
    work_step = rw (behind, take_put at (wide r) ws (f own) inside same, append_assoc)

-- ---- a walk without a fault, up to here
abbrev pub working : ℕ → Bool → Walk
working at warning = record { fault = None; at = at; warning = warning }

pub record Works (c : Carried) (warning : Bool) (ws : List ℕ) (seen : Seen) : Type 0 where
  pub fault_is : c.found.fault ≡ None
  pub warning_is : c.found.warning ≡ warning
  pub region_is : c.region ≡ ws
  pub seen_is : c.seen ≡ seen

module _ (time : Float) where
  module _ (n : ℕ) (r : Row) (rs : List Row) (at : ℕ) (ws : List ℕ) (seen : Seen) (all : at + (wide r + width_of rs) ≡ length ws) where
    start_step : settled r ≡ true → walked start_turn time n (r ∷ rs) (carried (working at false) ws seen)
        ≡ walked start_turn time (n + 1) rs (carried (working (at + wide r) false) (done starts_on r rs at ws all (started_length r.block _ ∙ own_length starts_on r rs at ws all)) seen)
    unfolding walked started_row
    start_step e = rw (length_0 (machine_of r.block) e, ahead starts_on r rs at ws all, next_at starts_on r rs at ws all, up_to at (wide r)) refl

  pub started : (n : ℕ) (rs : List Row) (at : ℕ) (ws : List ℕ) (seen : Seen) → at + width_of rs ≡ length ws → every settled rs ≡ true
      → Works (walked start_turn time n rs (carried (working at false) ws seen)) false (take at ws ++ joined starts_on (placed rs (drop at ws))) seen
  unfolding walked width_of every
  started n [] at ws seen all e = record {
    fault_is = refl;
    warning_is = refl;
    region_is = sym (unfold placed joined in append-nil (take at ws) ∙ take_all at ws (omega arith));
    seen_is = refl;
  }
  started n (r ∷ rs) at ws seen all e =
      let (s, t) = both (settled r) (every settled rs) e in
      let same = started_length r.block _ ∙ own_length starts_on r rs at ws all in
      rw (start_step n r rs at ws seen all s, ← work_step starts_on r rs at ws all same)
      (started (n + 1) rs (at + wide r) (done starts_on r rs at ws all same) seen (left starts_on r rs at ws all same) t)

-- ---- updates
-- the answers of all rows, so many, are in sight, and each row reads of them what its emit saw
module _ (k : Tick) (answers : List ℕ) (seen : Seen) (many : ℕ) (eight : length k.words ≡ input_words) (sight : take (input_words + row_answers * many) seen.words ≡ k.words ++ answers) where
  abbrev pub leaves : Placed → List ℕ
  leaves p = left_of (feed k answers p)

  abbrev pub warns : Placed → Bool
  warns p = warns_of (feed k answers p)

  module _ (n : ℕ) (r : Row) (rs : List Row) (at : ℕ) (warning : Bool) (ws : List ℕ) (all : at + (wide r + width_of rs) ≡ length ws) where
    abbrev p : Placed
    p = own leaves r rs at ws all

    same : length (leaves p) ≡ wide r
    unfolding ticked
    same = updated_length r.block _ _ p.words ∙ own_length leaves r rs at ws all

    update_step : get_or seen.ends n 0 ≡ at + wide r → in_reach many r ≡ true → walked updated_row k.time n (r ∷ rs) (carried (working at warning) ws seen)
        ≡ walked updated_row k.time (n + 1) rs (carried (working (at + wide r) (warning || warns p)) (done leaves r rs at ws all same) seen)
    unfolding walked updated_row ticked row_tick
    update_step e t = rw (e, ahead leaves r rs at ws all, next_at leaves r rs at ws all, up_to at (wide r), sees k answers many r t seen eight sight) refl

    abbrev rest : List Placed
    rest = placed rs (drop (at + wide r) (done leaves r rs at ws all same))

    warning_step : ((warning || warns p) || any_of warns rest) ≡ (warning || any_of warns (placed (r ∷ rs) (drop at ws)))
    unfolding placed any_of
    warning_step = rw (behind leaves r rs at ws all same) (or_assoc warning _ _)

  pub updated : (n : ℕ) (rs : List Row) (at : ℕ) (warning : Bool) (ws : List ℕ) → at + width_of rs ≡ length ws → EndsAre n rs at seen.ends → every (in_reach many) rs ≡ true
      → Works (walked updated_row k.time n rs (carried (working at warning) ws seen)) (warning || any_of warns (placed rs (drop at ws)))
      (take at ws ++ joined leaves (placed rs (drop at ws))) seen
  unfolding walked width_of every EndsAre
  updated n [] at warning ws all here e = record {
    fault_is = refl;
    warning_is = sym (unfold placed any_of in or-false warning);
    region_is = sym (unfold placed joined in append-nil (take at ws) ∙ take_all at ws (omega arith));
    seen_is = refl;
  }
  updated n (r ∷ rs) at warning ws all here e =
      let (t, u) = both (in_reach many r) (every (in_reach many) rs) e in
      rw (
        update_step n r rs at warning ws all here.0 t,
        ← warning_step n r rs at warning ws all,
        ← work_step leaves r rs at ws all (same n r rs at warning ws all),
      )
      (updated (n + 1) rs (at + wide r) _ _ (left leaves r rs at ws all (same n r rs at warning ws all)) here.1 u)
