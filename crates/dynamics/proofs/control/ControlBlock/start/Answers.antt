-- `start` writes the fresh words, if no test fails. Assumes nothing.
use Rattle.dynamics.proofs.Calls.{start_refused, start_accepted}
use Rattle.dynamics.proofs.Opening.{handed_on, some_number}
use Rattle.dynamics.proofs.control.ControlBlock.start.Goals as goal

pub returns-in_err-test_form : goal.returns-in_err-test_form
returns-in_err-test_form g c =
    rw (handed_on c.from_residual.result c.from_residual.ensures.1)
    (start_refused (g.Self.ControlBlock.machine c.args.self.now) c.args.region.now c.in_err-test_form.ensures (some_number c.in_err-test_form.field-0.0))

pub returns : goal.returns
returns g c = start_accepted (g.Self.ControlBlock.machine c.args.self.now) c.args.region.now c.in_ok-test_form.ensures c.refresh.ensures
