-- `take_all` meets its contract: what each turn read and wrote comes after what the turns before it did. Assumes nothing.
use native.Mathlib.Omega.{arith}
use Rattle.std.proofs.lemmas.Result.{err_from_is_err_and}
use Rattle.soak.proofs.Turns.{leads_on, reached_on, going_on}
use Rattle.soak.proofs.take_all.Goals as goal

pub returns-then-turn-eq0 : goal.returns-then-turn-eq0
returns-then-turn-eq0 g c =
    let t = c.take_turn.new in
    let turn = c.in_ok-turn in
    let before = c.loop-taken.invariant in (
      record { nothing = c.if-turn-eq0.true },
      reached_on c.loop-taken.state t.self t.chunk t.out turn.turn turn.ensures.taken before.going,
      turn.ensures.moves.ends c.if-turn-eq0.true (omega (arith, before.chunk, c.take_turn.auto.chunk)),
      leads_on c.loop-taken.state t.self t.chunk t.out turn.turn turn.ensures.taken before.leads turn.ensures.moves.reads turn.ensures.moves.writes,
    )

pub returns-in_err-turn : goal.returns-in_err-turn
returns-in_err-turn g c =
    let t = c.take_turn.new in
    let stopped = c.in_err-turn.ensures.failed in
    let before = c.loop-taken.invariant in
    let p = err_from_is_err_and c.from_residual.result c.from_residual.ensures.1 in
    rw (p.1, p.2) (
      reached_on c.loop-taken.state t.self t.chunk t.out stopped.0 stopped.1.taken before.going,
      λ read. leads_on c.loop-taken.state t.self t.chunk t.out stopped.0 stopped.1.taken before.leads stopped.1.reads (stopped.1.writes read),
    )

pub loop-taken-preserved : goal.loop-taken-preserved
loop-taken-preserved g c =
    let t = c.take_turn.new in
    let turn = c.in_ok-turn in
    let before = c.loop-taken.invariant in
    record {
      chunk = omega (arith, before.chunk, c.take_turn.auto.chunk);
      out = omega (arith, before.out, c.take_turn.auto.out);
      going = going_on c.loop-taken.state t.self t.chunk t.out turn.turn turn.ensures.taken before.going (omega (arith, before.chunk, c.take_turn.auto.chunk)) (omega arith);
      leads = leads_on c.loop-taken.state t.self t.chunk t.out turn.turn turn.ensures.taken before.leads turn.ensures.moves.reads turn.ensures.moves.writes;
    }
