-- The items of a line, and the words that they say. Definitions only.
use Rattle.std.specs.Prelude.{ℕ, ◌-◌, Option, Some, None, List, [], ◌∷◌, ◌++◌, cond, length, drop, replicate, leb, eqb}
use Prim.Native.Char.{code}
use Rattle.text.specs.Word.{word_item}
use Rattle.text.specs.Items.{flag_item, type_item}
use Rattle.text.specs.Stretches.{stretches}

-- ---- the items of a line: what stands between its single spaces

-- those that start at `at` or later
unfoldable pub items_from : List ℕ → ℕ → List (List ℕ)
items_from line at = cond (leb at (length line)) (stretches (code " ") [] (drop at line)) []

-- a line of more than 255 bytes has none
unfoldable pub items_of : List ℕ → List (List ℕ)
items_of line = cond (leb (length line) 255) (items_from line 0) []

-- ---- what they say

-- an item of a class
unfoldable pub item_of : ℕ → List ℕ → Option ℕ
item_of class s = cond (eqb class (code "r")) (word_item s) (cond (eqb class (code "c")) (type_item s) (flag_item s))

-- an item's word, then those of the items after it
infixr 5 ◌before◌
abbrev pub ◌before◌ : Option ℕ → Option (List ℕ) → Option (List ℕ)
Some w before Some ws = Some (w ∷ ws)
Some w before None = None
None before ws = None

-- the words of items, one of each class; none if an item is not of its class, or there are too few or too many
unfoldable pub words_said : (classes : List ℕ) (items : List (List ℕ)) → Option (List ℕ)
words_said [] [] = Some []
words_said [] (i ∷ is) = None
words_said (c ∷ cs) [] = None
words_said (c ∷ cs) (i ∷ is) = item_of c i before words_said cs is

-- as the code has them: sixteen words, those that there are not being 0
abbrev pub laid_out : Option (List ℕ) → Option (List ℕ)
laid_out (Some ws) = Some (ws ++ replicate (16 - length ws) 0)
laid_out None = None
