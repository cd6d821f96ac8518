-- `word::word_text` meets its contract: the digits before i, and then the others of w, are all of them. Assumes nothing.
use Prim.Native.Nat.{◌-◌}
use mathlib.Core.Path.{◌≡◌}
use mathlib.Core.List.{◌++◌}
use lib.ListN.{length, take}
use Rattle.text.specs.Word.{hex_text, word_text}
use Rattle.text.proofs.word.word_text.Given as goal

abbrev pub invariant-loop-i : goal.invariant-loop-i
invariant-loop-i l = (length l.text ≡ 16) × (take l.i l.text ++ hex_text (16 - l.i) l.w ≡ word_text l.w)
