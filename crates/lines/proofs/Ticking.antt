-- A later line by its parts: the words read, and the tick that they say. Assumes nothing.
use Prim.Native.Nat.{ℕ, zero, suc, ◌≤◌}
use mathlib.Core.Path.{◌≡◌, refl}
use mathlib.Core.List.{List, [], ◌∷◌, ◌++◌}
use lib.ListN.{length, get_or, replicate}
use Rattle.std.specs.Prelude.{Option, Some, None, option_map}
use Rattle.blocks.specs.declared.block.Block.{Block}
use Rattle.lines.specs.Lines.{tick_classes, tick_with, later_with, later_of}
use Rattle.lines.specs.Values.{items_from, words_said, laid_out}
use Rattle.lines.proofs.Items.{items_short}

-- zeros behind words are as no words
zeros : (k i : ℕ) → get_or {A = ℕ} (replicate k 0) i 0 ≡ 0
zeros zero i = refl
zeros (suc k) zero = refl
zeros (suc k) (suc i) = zeros k i

padded : (w : List ℕ) (k i : ℕ) → get_or (w ++ replicate k 0) i 0 ≡ get_or w i 0
padded [] k i = zeros k i
padded (x ∷ w) k zero = refl
padded (x ∷ w) k (suc i) = padded w k i

-- what words say, laid out as sixteen
heard : (w : Option (List ℕ)) → later_with w ≡ option_map tick_with (laid_out w)
heard (Some ws) = simp padded
heard None = refl

-- a line that is not too long brings what its words say
pub later_heard : (b : Block) (line : List ℕ) → length line ≤ 255
    → later_of b line ≡ option_map tick_with (laid_out (words_said (tick_classes b) (items_from line 0)))
unfolding later_of
later_heard b line h = rw (items_short line h) (heard (words_said (tick_classes b) (items_from line 0)))
