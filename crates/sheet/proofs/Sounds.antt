-- Request 2 of document 02 on a sheet: an accepted start makes each row's stretch sound, and no tick spoils a sound one. Assumes nothing.
use Prim.Native.Nat.{ℕ}
use mathlib.Core.Path.{◌≡◌}
use mathlib.Core.List.{List}
use Rattle.blocks.proofs.Sounds.{stays_sound}
use Rattle.sheet.specs.Rows.{Placed, placed}
use Rattle.sheet.specs.Sheet.{start_number, SheetStarted}
use Rattle.sheet.specs.Single.{At, Brought, sheet_after, calls, RowSound}
use Rattle.sheet.specs.declared.row.Row.{Row}
use Rattle.sheet.specs.declared.row.SheetAnswer.{SheetAnswer}
use Rattle.sheet.proofs.Single.{start_singly}
use Rattle.sheet.proofs.Runs.{stretch_at, run_singly}

module _ (rs : List Row) (ws : List ℕ) (n : ℕ) (p : Placed) (there : At n p (placed rs ws)) where
  -- whatever the region held
  pub start_sound : start_number rs ws ≡ 0 → (r : SheetAnswer) (left : List ℕ) → SheetStarted rs ws r left → RowSound rs n p.row.block left
  start_sound z r left said =
      let s = start_singly rs ws z r left said n p there in
      rw (stretch_at n _ _ s.leaves) ((stays_sound p.row.block).fresh p.words s.accepts)

  -- any ticks of the sheet, refused ones too, whatever its other rows hold
  pub ticks_sound : (space : List ℕ) (ks : List Brought) → RowSound rs n p.row.block ws → RowSound rs n p.row.block (sheet_after rs space ws ks)
  ticks_sound space ks s =
      rw (run_singly rs space ws n p ks there).leaves
      ((stays_sound p.row.block).kept_by_all p.words (calls rs space ws n p ks) (rw (stretch_at n p (placed rs ws) there) at s))
