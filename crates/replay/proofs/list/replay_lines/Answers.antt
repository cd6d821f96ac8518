-- `list::replay_lines` meets its contract. The invariant: no more calls than bytes passed, and if none differs and all lines that are
-- left hold, then all do. Assumes nothing.
use native.Mathlib.Omega.{arith}
use Rattle.replay.specs.List.{none}
use Rattle.replay.proofs.Listing.{one_more}
use Rattle.replay.proofs.list.replay_lines.Goals as goal

pub loop-at-preserved : goal.loop-at-preserved
loop-at-preserved g c =
    let l = c.loop-at in
    let a = c.args in
    let t = c.tell-differ in
    record {
      within = omega (arith, c.end_of-end.ensures.upper_bound (omega arith));
      few = omega arith;
      differing = omega arith;
      holds = λ e h. l.invariant.holds (omega arith) (one_more a.form a.lines.now l.at c.end_of-end.result t.result c.replay_line-verdict.result c.end_of-end.ensures.value c.replay_line-verdict.ensures t.ensures.value (omega arith) h);
    }

pub returns-after-loop-at-clause-all_hold : goal.returns-after-loop-at-clause-all_hold
returns-after-loop-at-clause-all_hold g c = λ e. c.loop-at.invariant.holds e (none (omega arith))

pub returns-then-end-lines-clause-all_hold : goal.returns-then-end-lines-clause-all_hold
returns-then-end-lines-clause-all_hold g c =
    let l = c.loop-at in
    let a = c.args in
    let t = c.tell-differ in
    λ e. l.invariant.holds (omega arith) (one_more a.form a.lines.now l.at c.end_of-end.result t.result c.replay_line-verdict.result c.end_of-end.ensures.value c.replay_line-verdict.ensures t.ensures.value (omega arith) (none (omega arith)))
