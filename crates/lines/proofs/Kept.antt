-- A line of more than 255 bytes says nothing, and no line says more than its first 256 bytes do. Assumes nothing.
use Prim.Native.Nat.{ℕ, ◌<◌}
use mathlib.Core.Path.{◌≡◌, refl, sym, ap, ◌∙◌}
use mathlib.Core.List.{List}
use mathlib.Core.Bool.{Bool, true, false}
use native.Mathlib.Omega.{arith}
use borrow.Author.Tests.{leb-true, leb-false}
use lib.Dec.{leb}
use lib.ListN.{length, take}
use lib.Seq.{take_all, length-take-le}
use Rattle.std.specs.Prelude.{None}
use Rattle.blocks.specs.declared.block.Block.{Block}
use Rattle.lines.specs.Lines.{first_of, later_of}
use Rattle.lines.specs.Values.{items_of, words_said}
use Rattle.lines.proofs.Items.{items_long}

-- ---- a line too long

pub first_long : (line : List ℕ) → 255 < length line → first_of line ≡ None
unfolding first_of
first_long line h = rw (items_long line h)

pub later_long : (b : Block) (line : List ℕ) → 255 < length line → later_of b line ≡ None
unfolding later_of words_said
later_long b line h = rw (items_long line h)

-- ---- the first 256 bytes: a line of at most 255 is all of them, and of a longer one they are too many

items_kept : (line : List ℕ) → items_of (take 256 line) ≡ items_of line
items_kept line = go (leb (length line) 255) refl
  where
    go : (t : Bool) → leb (length line) 255 ≡ t → items_of (take 256 line) ≡ items_of line
    go true e = let h = leb-true (length line) 255 e in ap items_of (take_all 256 line (omega arith))
    go false e =
        let h = leb-false (length line) 255 e in
        let n = length-take-le 256 line (omega arith) in
        items_long (take 256 line) (omega arith) ∙ sym (items_long line h)

pub first_kept : (line : List ℕ) → first_of (take 256 line) ≡ first_of line
unfolding first_of
first_kept line = rw (items_kept line)

pub later_kept : (b : Block) (line : List ℕ) → later_of b (take 256 line) ≡ later_of b line
unfolding later_of
later_kept b line = rw (items_kept line)
