-- What leads a stored call. Definitions only.
use Rattle.std.specs.Prelude.{ℕ, ◌+◌, List, [], ◌∷◌, cond, get_or, ltb}
use Rattle.reals.specs.Words.{real_of}
use Rattle.blocks.specs.declared.block.Tick.{Tick}

-- the k-th input of those that start at `at`, and the word 1 for one that the block does not have
unfoldable pub input_at : List ℕ → ℕ → ℕ → ℕ → ℕ
input_at words at inputs k = cond (ltb k inputs) (get_or words (at + k) 0) 1

-- the tick whose time stands at `at`, with its inputs after it
unfoldable pub tick_at : List ℕ → ℕ → ℕ → Tick
tick_at words at inputs = record {
  time = real_of (get_or words at 0);
  words =
      input_at words (at + 1) inputs 0
      ∷ input_at words (at + 1) inputs 1
      ∷ input_at words (at + 1) inputs 2
      ∷ 1 ∷ 1 ∷ 1 ∷ 1 ∷ 1 ∷ [];
}
