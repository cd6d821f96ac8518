-- What a row of the bench table calls, and what the calls answer, whole. Definitions only.
use Rattle.std.specs.Prelude.{ℕ, List, [], ◌∷◌}
use Prim.Native.String.{String}
use Rattle.dynamics.specs.Machine.{length_answer, emit_answer, update_answer, tick_answer, updated_words}
use Rattle.dynamics.specs.Answer.{Length, Answer}
use Rattle.blocks.specs.Block.{machine_of, inputs_of}
use Rattle.blocks.specs.declared.block.Block.{Block}
use Rattle.blocks.specs.declared.block.Tick.{Tick}
use Rattle.sheet.specs.Sheet.{start_said, start_left, tick_said, tick_left}
use Rattle.sheet.specs.Sheet.{tick_answers as answers_left}
use Rattle.sheet.specs.declared.row.Row.{Row}
use Rattle.sheet.specs.declared.row.SheetAnswer.{SheetAnswer}

pub data Trial : Type 0 where
  -- a block's ticks on a region, one after another
  ticks_on : Block → (region : List ℕ) → List Tick → Trial
  -- its state length
  length_of : Block → Trial
  -- a sheet's start on a region, and its tick there with an answer space
  sheet_start : List Row → (region : List ℕ) → Trial
  sheet_tick : List Row → (region space : List ℕ) → Tick → Trial

-- what a tick is answered: by an emit, by an update, and by the call that is both
pub record Answers : Type 0 where
  pub emit : Answer
  pub update : Answer
  pub tick : Answer

-- whole answers; of a sheet also the words that it leaves
pub data Said : Type 0 where
  answers : List Answers → Said
  length_told : Length → Said
  sheet_started : SheetAnswer → (region : List ℕ) → Said
  sheet_ticked : SheetAnswer → (region space : List ℕ) → Said

unfoldable pub answers_to : Block → List ℕ → Tick → Answers
answers_to b w k = record {
  emit = emit_answer (machine_of b) k.time (inputs_of k) w;
  update = update_answer (machine_of b) k.time (inputs_of k) w;
  tick = tick_answer (machine_of b) k.time (inputs_of k) w;
}

unfoldable pub answers_from : Block → List ℕ → List Tick → List Answers
answers_from b w [] = []
answers_from b w (k ∷ ks) = answers_to b w k ∷ answers_from b (updated_words (machine_of b) k.time (inputs_of k) w) ks

unfoldable pub said_by : Trial → Said
said_by (ticks_on b w ks) = answers (answers_from b w ks)
said_by (length_of b) = length_told (length_answer (machine_of b))
said_by (sheet_start rs w) = sheet_started (start_said rs w) (start_left rs w)
said_by (sheet_tick rs w os k) = sheet_ticked (tick_said k rs w os) (tick_left k rs w os) (answers_left k rs w os)

-- ---- rows
pub record BenchRow : Type 0 where
  pub name : String
  pub trial : Trial
  pub due : Said

unfoldable pub all_said : List BenchRow → List Said
all_said [] = []
all_said (p ∷ ps) = said_by p.trial ∷ all_said ps

unfoldable pub all_due : List BenchRow → List Said
all_due [] = []
all_due (p ∷ ps) = p.due ∷ all_due ps
