-- `emit` answers for an accepted tick, or with the refusal. Assumes nothing.
use Rattle.dynamics.proofs.Opening.{emit_else, emit_then}
use Rattle.dynamics.proofs.control.ControlBlock.emit.Goals as goal

pub returns-in_err-s : goal.returns-in_err-s
returns-in_err-s g c =
    let b = g.Self.ControlBlock in
    emit_else (b.machine c.args.self.now) (b.state_of c.args.self.now) c.args.region.now c.args.time c.args.inputs c.in_err-s.ensures c.from_residual.result c.from_residual.ensures.1

pub returns : goal.returns
returns g c =
    let b = g.Self.ControlBlock in
    emit_then (b.machine c.args.self.now) (b.state_of c.args.self.now) c.args.region.now c.args.time c.args.inputs c.in_ok-s.ensures c.emitted.ensures
