-- Rows on a region: each has its own stretch, and they lie end to end in row order. Definitions only.
use Rattle.std.specs.Prelude.{ℕ, suc, ◌+◌, Bool, true, false, ◌&&◌, ◌||◌, cond, List, [], ◌∷◌, ◌++◌, take, drop}
use Rattle.blocks.specs.Block.{machine_of}
use Rattle.sheet.specs.declared.row.Row.{Row}

-- the words that a row works on, and those of all rows
abbrev pub wide : Row → ℕ
wide r = (machine_of r.block).size

unfoldable pub width_of : List Row → ℕ
width_of [] = 0
width_of (r ∷ rs) = wide r + width_of rs

-- a row with its own stretch of a region
pub record Placed : Type 0 where
  pub row : Row
  pub words : List ℕ

unfoldable pub placed : List Row → List ℕ → List Placed
placed [] ws = []
placed (r ∷ rs) ws = record { row = r; words = take (wide r) ws } ∷ placed rs (drop (wide r) ws)

-- ---- over a list from the top: whether all pass a test, whether any does, how many come before the first that fails, and what each makes, end to end
module _ {A : Type 0} where
  unfoldable pub every : (A → Bool) → List A → Bool
  every p [] = true
  every p (x ∷ xs) = p x && every p xs

  unfoldable pub any_of : (A → Bool) → List A → Bool
  any_of p [] = false
  any_of p (x ∷ xs) = p x || any_of p xs

  unfoldable pub first_failing : (A → Bool) → List A → ℕ
  first_failing p [] = 0
  first_failing p (x ∷ xs) = cond (p x) (suc (first_failing p xs)) 0

  unfoldable pub joined : (A → List ℕ) → List A → List ℕ
  joined f [] = []
  joined f (x ∷ xs) = f x ++ joined f xs
