-- `chunk::finish` meets its contract: its two ends are those of the definition. Assumes nothing.
use Prim.Native.Nat.{min}
use mathlib.Core.Path.{◌≡◌, refl, ap, ◌∙◌}
use borrow.Author.Rules.{rules}
use native.Mathlib.Omega.{arith}
use lib.ListN.{length, take}
use Rattle.session.proofs.Short.{line_short}
use Rattle.session.proofs.Finishing.{finish_plain, finish_line, finishes_left, finish_both}
use Rattle.session.proofs.chunk.finish.Goals as goal

pub returns-then-held-eq0 : goal.returns-then-held-eq0
returns-then-held-eq0 c =
    let a = c.args in
    let f = finish_both (finishes_left (search rules) (finish_plain a.session a.region.now a.carry.now a.held refl (omega arith) c.if-held-eq0.true c.put_closing.ensures)) in
    record { finishes = f.0; counts = f.1 }

pub put_closing-requires-2 : goal.put_closing-requires-2
put_closing-requires-2 c =
    let a = c.args in
    let put = c.line_in-last.ensures.put in
    omega (arith, put.put.moved, put.size, c.requires, line_short a.region.now a.session (take c.min-n.result a.carry.now))

pub returns : goal.returns
returns c =
    let a = c.args in
    let size : 256 ≡ length a.carry.now = omega arith in
    let f = finish_both (finishes_left (search rules) (finish_line a.session a.region.now a.carry.now a.held refl (omega arith) c.if-held-eq0.false (c.min-n.ensures ∙ ap (min a.held) size) c.line_in-last.ensures c.put_closing-2.ensures)) in
    record { finishes = f.0; counts = f.1 }
