-- The form of each block's lines, from one table. Definitions only.
use Rattle.std.specs.Prelude.{ℕ, suc, List, [], ◌∷◌, cond, get_or}
use Prim.Native.String.{String}
use Rattle.text.specs.Bytes.{bytes, same_list}
use Rattle.blocks.specs.Block.{number_of}
use Rattle.blocks.specs.declared.block.Block.{Block}

-- a block's name, and the class of each of its settings, inputs and outputs in source order
pub record Form : Type 0 where
  pub name : List ℕ
  pub settings : List ℕ
  pub inputs : List ℕ
  pub outputs : List ℕ

abbrev row : (name settings inputs outputs : String) → Form
row name settings inputs outputs = record {
  name = bytes name;
  settings = bytes settings;
  inputs = bytes inputs;
  outputs = bytes outputs;
}

-- classes: r is a real, b a boolean, c a controller type. The blocks stand in the order of their numbers
abbrev pub forms : List Form
forms =
    row "Pid" "crrrrrrrrrrrb" "rr" "r"
    ∷ row "PidWithReset" "crrrrrrrrrrrb" "rrb" "r"
    ∷ row "MovingAverage" "r" "r" "r"
    ∷ row "TimerAccumulating" "r" "bb" "rb"
    ∷ row "TrueDelay" "rb" "b" "b"
    ∷ row "TrueFalseHold" "rr" "b" "b"
    ∷ row "TrueHoldWithReset" "r" "bb" "b"
    ∷ row "LogicalVariablePulse" "rrr" "r" "b"
    ∷ []

-- the number of the block of a name: how many rows stand before its own; that of no block is 8
unfoldable pub rows_before : List ℕ → List Form → ℕ
rows_before name [] = 0
rows_before name (f ∷ fs) = cond (same_list name f.name) 0 (suc (rows_before name fs))

abbrev pub number_for : List ℕ → ℕ
number_for name = rows_before name forms

abbrev pub form_at : ℕ → Form
form_at n = get_or forms n (row "" "" "" "")

abbrev pub form_of : Block → Form
form_of b = form_at (number_of b)
