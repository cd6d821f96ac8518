-- `tick` answers for an accepted tick and stores it, or answers with the refusal. Assumes nothing.
use Rattle.dynamics.proofs.Opening.{tick_else, tick_then}
use Rattle.dynamics.proofs.control.ControlBlock.tick.Goals as goal

pub returns-in_err-s : goal.returns-in_err-s
returns-in_err-s g c =
    let b = g.Self.ControlBlock in
    tick_else (b.machine c.args.self.now) (b.state_of c.args.self.now) c.args.region.now c.args.time c.args.inputs c.in_err-s.ensures c.from_residual.result c.from_residual.ensures.1

pub returns : goal.returns
returns g c =
    let b = g.Self.ControlBlock in
    tick_then (b.machine c.args.self.now) (b.state_of c.args.self.now) c.args.region.now c.args.time c.args.inputs c.in_ok-s.ensures c.ticked.ensures
