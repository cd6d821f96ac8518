-- `word::read_word` meets its contract: the digits that are left go on from the number so far as all of them do from 0. Assumes nothing.
use Prim.Native.Nat.{◌^◌, ◌<◌}
use mathlib.Core.Path.{◌≡◌}
use lib.ListN.{drop}
use Rattle.text.specs.Word.{hex_from}
use Rattle.text.proofs.word.read_word.Given as goal

abbrev pub invariant-loop-b : goal.invariant-loop-b
invariant-loop-b l = (l.word < 16 ^ l.b-index) × (hex_from l.word (drop l.b-index l.s) ≡ hex_from 0 l.s)
