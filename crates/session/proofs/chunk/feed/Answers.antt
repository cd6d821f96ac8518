-- `chunk::feed` meets its contract: what is left of the chunk leads from the run at hand to where all of it leads. Assumes nothing.
use Prim.Native.Nat.{min}
use mathlib.Core.Path.{sym, ap, ◌∙◌}
use borrow.Author.Rules.{rules}
use native.Mathlib.Omega.{arith}
use lib.ListN.{length, take}
use Rattle.session.proofs.Short.{line_short}
use Rattle.session.proofs.Feeding.{part_fits, held_length, running_line, running_byte, running_end, feeds_left}
use Rattle.session.proofs.chunk.feed.Goals as goal
use Rattle.session.proofs.chunk.feed.Goals.{then-b-eq10, else-b-eq10}

pub line_in-session-requires : goal.line_in-session-requires
line_in-session-requires c = omega (arith, part_fits c.args.chunk.now c.args.out.now c.min-used.ensures)

pub loop-b-preserved : goal.loop-b-preserved
loop-b-preserved c =
    let l = c.loop-b in
    elim c.if-b-eq10.branch [
      | then-b-eq10 w ↦
          let n = w.min-n in
          let g = w.line_in-session.ensures in
          rw (w.out-is, w.held-is, w.session-is, w.region-is, w.carry-is) (record {
            room = omega (arith, g.put.put.moved, line_short l.region l.session (take n.result l.carry));
            carry = l.invariant.carry;
            size = g.put.size ∙ l.invariant.size;
            same_reference = g.put.same_reference ∙ l.invariant.same_reference;
            runs = running_line l.invariant.runs c.loop-b-test.true w.if-b-eq10.true (n.ensures ∙ ap (min l.held) (sym l.invariant.carry)) (omega (arith, part_fits c.args.chunk.now c.args.out.now c.min-used.ensures)) g;
          })
      | else-b-eq10 w ↦
          let k = w.hold_byte-held in
          rw (w.out-is, w.held-is, w.session-is, w.region-is, w.carry-is) (record {
            room = omega arith;
            carry = ap length k.ensures.carry_after ∙ held_length l.carry l.held _ ∙ l.invariant.carry;
            size = l.invariant.size;
            same_reference = l.invariant.same_reference;
            runs = running_byte l.invariant.runs c.loop-b-test.true w.if-b-eq10.false k.ensures.value k.ensures.carry_after;
          })
    ]

pub returns-clause-feeds : goal.returns-clause-feeds
returns-clause-feeds c =
    feeds_left (search rules)
    (running_end c.loop-b.invariant.runs c.loop-b-test.false (omega (arith, part_fits c.args.chunk.now c.args.out.now c.min-used.ensures)))
