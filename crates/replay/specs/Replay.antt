-- A line's words as a stored call. Definitions only.
use Rattle.std.specs.Prelude.{Some, Result, Ok, Err, ℕ, ◌+◌, ◌≡◌, List, take, get_or}
use Rattle.blocks.specs.Named.{named_by}
use Rattle.blocks.specs.declared.block.Block.{Block}
use Rattle.replay.specs.declared.form.Form.{Form}
use Rattle.replay.specs.declared.compare.Differs.{Differs}
use Rattle.replay.specs.Call.{tick_at}
use Rattle.replay.specs.Compare.{Agrees}

-- where the region's length stands: after the settings, the time and the inputs
abbrev pub length_at : Form → ℕ
length_at form = form.settings + form.inputs + 1

-- the words name a block, and it agrees with the call that they store
pub record CallHolds (form : Form) (words : List ℕ) : Type 0 where
  pub block : Block
  pub names : named_by form.number (take form.settings words) ≡ Some block
  pub agrees : Agrees block (tick_at words form.settings form.inputs) form.pairs words (length_at form + 1) (get_or words (length_at form) 0)

-- only of such words is it said that all is as stored
abbrev pub Replayed : Form → List ℕ → Result (Unit {0}) Differs → Type 0
Replayed form words (Ok same) = CallHolds form words
Replayed form words (Err differs) = Unit {0}
