-- `State::new` meets its contract: nothing was read yet. Assumes nothing.
use Prim.Native.Nat.{ℕ}
use lib.ListN.{length-replicate}
use Rattle.session.specs.Written.{none}
use Rattle.soak.proofs.turn.State.new.Goals as goal

pub returns : goal.returns
returns c = none (length-replicate {A = ℕ} 4110 0) (length-replicate {A = ℕ} 256 0)
