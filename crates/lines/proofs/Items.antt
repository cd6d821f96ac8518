-- The items of a line by where they start and end. Assumes nothing.
use Prim.Native.Nat.{ℕ, ◌+◌, ◌≤◌, ◌<◌}
use Prim.Native.Char.{code}
use mathlib.Core.Path.{◌≡◌}
use mathlib.Core.List.{List, [], ◌∷◌}
use borrow.Author.Tests.{lt-leb, le-leb}
use lib.ListN.{length, take, drop}
use Rattle.text.specs.Stretches.{up_to}
use Rattle.text.proofs.Stretches.{next_stretch, no_stretch}
use Rattle.lines.specs.Values.{items_from, items_of}

-- the item that starts at `at`, and those after the space behind it
pub first_item : (line : List ℕ) (at : ℕ) → at ≤ length line
    → items_from line at
    ≡ take (up_to (code " ") (drop at line)) (drop at line) ∷ items_from line (at + up_to (code " ") (drop at line) + 1)
unfolding items_from
first_item line at h = next_stretch (code " ") line at h

-- no item starts past the end
pub no_item : (line : List ℕ) (at : ℕ) → length line < at → items_from line at ≡ []
unfolding items_from
no_item line at h = no_stretch (code " ") line at h

-- a line of at most 255 bytes has its items, a longer one none
pub items_short : (line : List ℕ) → length line ≤ 255 → items_of line ≡ items_from line 0
unfolding items_of
items_short line h = rw (le-leb (length line) 255 h)

pub items_long : (line : List ℕ) → 255 < length line → items_of line ≡ []
unfolding items_of
items_long line h = rw (lt-leb (length line) 255 h)
