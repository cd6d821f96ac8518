-- `line::read_words` meets its contract: the last word ends with the line. Assumes nothing.
use Prim.Native.Nat.{◌*◌}
use mathlib.Core.Path.{◌≡◌, sym, ap, ◌∙◌}
use native.Mathlib.Omega.{arith}
use Rattle.std.proofs.Common.{Some}
use Rattle.replay.specs.Line.{item_from}
use Rattle.replay.proofs.Lines.{last_word}
use Rattle.replay.proofs.line.read_words.Goals as goal

pub returns-then-line-at-le16 : goal.returns-then-line-at-le16
returns-then-line-at-le16 c =
    let l = c.loop-n in
    let line = c.args.line.now in
    let w = c.in_ok-word.field-0 in
    let new : item_from line (l.n * 17) ≡ Some w = ap (item_from line) (sym l.invariant.at) ∙ sym c.item_from.ensures ∙ c.in_ok-word.was in
    last_word line l.words l.n w (omega arith) new l.invariant.each (omega arith)
