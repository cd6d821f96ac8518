-- `State::take_turn` meets its contract: `feed` takes all that was read. Assumes nothing.
use Prim.Native.Nat.{◌*◌, ◌≤◌}
use mathlib.Core.Path.{sym}
use borrow.Author.Rules.{rules}
use native.Mathlib.Omega.{arith}
use lib.ListN.{length}
use Rattle.std.proofs.lemmas.Result.{err_from_is_err_and}
use Rattle.soak.proofs.Turns.{turn_taken, none_taken}
use Rattle.soak.proofs.turn.State.take_turn.Goals as goal

pub returns-clause-taken : goal.returns-clause-taken
returns-clause-taken g c =
    let a = c.args.self.now in
    let buf = c.read.new.buf in
    let n = c.in_ok-read.read in
    let f = c.feed-fed.ensures in
    let room : 32 * length buf ≤ length c.args.out.now = omega (arith, c.read.auto.buf, c.requires.chunk_in_bounds) in
    turn_taken a.session a.held a.carry a.region buf n (search rules) room f.used f.feeds

pub returns-in_err-read-clause-failed : goal.returns-in_err-read-clause-failed
returns-in_err-read-clause-failed g c =
    let p = err_from_is_err_and c.from_residual.result c.from_residual.ensures.1 in
    rw p.1
    (record { read = 0; wrote = 0 }, none_taken c.args.self.now _ _ _ c.read.result c.read.new.buf c.args.out.now p.0 c.read.ensures.bytes (sym c.in_err-read.ensures.variant))

pub returns-in_err-write_out-clause-failed : goal.returns-in_err-write_out-clause-failed
returns-in_err-write_out-clause-failed g c =
    let a = c.args.self.now in
    let buf = c.read.new.buf in
    let n = c.in_ok-read.read in
    let fed = c.feed-fed in
    let room : 32 * length buf ≤ length c.args.out.now = omega (arith, c.read.auto.buf, c.requires.chunk_in_bounds) in
    let p = err_from_is_err_and c.from_residual-in_err-write_out.result c.from_residual-in_err-write_out.ensures.1 in
    rw (p.1, p.2) (
      record { read = n; wrote = fed.result.wrote },
      record {
        taken = turn_taken a.session a.held a.carry a.region buf n (search rules) room fed.ensures.used fed.ensures.feeds;
        reads = search rules;
        writes = λ read. cc (c.in_err-write_out.ensures.task);
      },
    )
