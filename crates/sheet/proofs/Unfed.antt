-- A sheet with no column above 7 is the sheet of document 01. Assumes nothing.
use Prim.Native.Nat.{ℕ, ◌+◌}
use mathlib.Core.Path.{◌≡◌, refl}
use mathlib.Core.Bool.{true}
use mathlib.Core.List.{List, [], ◌∷◌, ◌++◌, map}
use lib.Dec.{ltb}
use lib.ListN.{take, drop}
use Rattle.reals.proofs.Values.{both}
use Rattle.blocks.specs.declared.block.Tick.{Tick}
use Rattle.sheet.specs.Rows.{wide, placed, every}
use Rattle.sheet.specs.Sheet.{input_words, in_reach, all_reach, row_tick, answers_of, warns_of, left_of, feed, fed_below, fed, start_number, tick_number, tick_said}
use Rattle.sheet.specs.Unfed.{unfed, alone, AsIn01}
use Rattle.sheet.specs.declared.row.Row.{Row}
use Rattle.sheet.proofs.Feeding.{joined_map, any_map}

-- each column names a word of the tick, wherever the row stands
module _ (r : Row) (e : unfed r ≡ true) where
  abbrev columns : (ltb r.first input_words ≡ true) × (ltb r.second input_words ≡ true) × (ltb r.third input_words ≡ true)
  columns =
      let (a, more) = both (ltb r.first input_words) _ e in
      let (b, c) = both (ltb r.second input_words) _ more in
      (a, b, c)

  unfed_reach : (n : ℕ) → in_reach n r ≡ true
  unfed_reach n = let (a, b, c) = columns in rw (a, b, c) refl

  -- and whatever the rows above it answer
  unfed_alone : (k : Tick) (above ws : List ℕ) → feed k above (record { row = r; words = ws }) ≡ alone k (record { row = r; words = ws })
  unfolding row_tick
  unfed_alone k above ws = let (a, b, c) = columns in rw (a, b, c) refl

unfed_all_reach : (n : ℕ) (rs : List Row) → every unfed rs ≡ true → all_reach n rs ≡ true
unfolding every all_reach
unfed_all_reach n [] e = refl
unfed_all_reach n (r ∷ rs) e = let (t, u) = both (unfed r) (every unfed rs) e in rw (unfed_reach r t n) (unfed_all_reach (n + 1) rs u)

unfed_rows : (k : Tick) (above : List ℕ) (rs : List Row) (ws : List ℕ) → every unfed rs ≡ true → fed_below k above (placed rs ws) ≡ map (alone k) (placed rs ws)
unfolding every placed fed_below
unfed_rows k above [] ws e = refl
unfed_rows k above (r ∷ rs) ws e =
    let (t, u) = both (unfed r) (every unfed rs) e in
    let own = unfed_alone r t k above _ in
    let rest = unfed_rows k (above ++ answers_of (feed k above (record { row = r; words = take (wide r) ws }))) rs (drop (wide r) ws) u in
    λ i. own i ∷ rest i

-- so a sheet in which all columns do is as it was
pub as_in_01 : (k : Tick) (rs : List Row) (ws os : List ℕ) → every unfed rs ≡ true → AsIn01 k rs ws os
unfolding start_number tick_number tick_said
as_in_01 k rs ws os e =
    let rows : fed k rs ws ≡ map (alone k) (placed rs ws) = unfed_rows k [] rs ws e in
    let reach = unfed_all_reach 0 rs e in
    record {
      start = rw (reach, e) refl;
      number = rw (reach, e) refl;
      said = rw (reach, e, rows, any_map (alone k) warns_of (placed rs ws)) refl;
      left = rw (reach, e, rows, joined_map (alone k) left_of (placed rs ws)) refl;
      answers = rw (reach, e, rows, joined_map (alone k) answers_of (placed rs ws)) refl;
    }
