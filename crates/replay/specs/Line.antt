-- A line of words. Definitions only.
use Rattle.std.specs.Prelude.{Option, Some, None, ℕ, ◌+◌, ◌*◌, ◌≤◌, ◌<◌, ◌≡◌, List, cond, length, take, drop, get_or, eqb}
use Rattle.text.specs.Word.{word_item}

-- the word in the sixteen bytes from `at` on, if a space or the line's end follows
unfoldable pub item_from : List ℕ → ℕ → Option ℕ
item_from line at = cond (eqb (get_or line (at + 16) 32) 32) (word_item (take 16 (drop at line))) None

-- the line is these n words and nothing else; no line is 0 words
pub record WordsOf (line : List ℕ) (n : ℕ) (words : List ℕ) : Type 0 where
  pub within : n ≤ length words
  pub each : (k : ℕ) → k < n → item_from line (k * 17) ≡ Some (get_or words k 0)
  pub whole : 0 < n → length line + 1 ≡ n * 17
