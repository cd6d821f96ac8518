-- What the first line and a later line say. Definitions only.
use Rattle.std.specs.Prelude.{ℕ, Option, Some, None, List, [], ◌∷◌, get_or}
use Prim.Native.Char.{code}
use Rattle.reals.specs.Words.{real_of}
use Rattle.blocks.specs.Named.{named_by}
use Rattle.blocks.specs.declared.block.Block.{Block}
use Rattle.blocks.specs.declared.block.Tick.{Tick}
use Rattle.lines.specs.Forms.{number_for, form_at, form_of}
use Rattle.lines.specs.Values.{items_of, words_said}

-- ---- the first line: a block's name, then its settings

abbrev pub named_with : ℕ → Option (List ℕ) → Option Block
named_with n (Some ws) = named_by n ws
named_with n None = None

abbrev pub named_in : List (List ℕ) → Option Block
named_in [] = None
named_in (name ∷ settings) = named_with (number_for name) (words_said (form_at (number_for name)).settings settings)

unfoldable pub first_of : List ℕ → Option Block
first_of line = named_in (items_of line)

-- ---- a later line: the time, then the block's inputs

abbrev pub tick_classes : Block → List ℕ
tick_classes b = code "r" ∷ (form_of b).inputs

-- a tick has eight input words; those that there are not are 0
abbrev pub tick_with : List ℕ → Tick
tick_with w = record {
  time = real_of (get_or w 0 0);
  words =
      get_or w 1 0 ∷ get_or w 2 0 ∷ get_or w 3 0 ∷ get_or w 4 0 ∷ get_or w 5 0 ∷ get_or w 6 0 ∷ get_or w 7 0 ∷ get_or w 8 0 ∷ [];
}

abbrev pub later_with : Option (List ℕ) → Option Tick
later_with (Some ws) = Some (tick_with ws)
later_with None = None

unfoldable pub later_of : Block → List ℕ → Option Tick
later_of b line = later_with (words_said (tick_classes b) (items_of line))
