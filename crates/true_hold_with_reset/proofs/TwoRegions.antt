-- What `wiped_alike` asks is met by two regions that differ: a fresh one, and one of garbage words. Assumes nothing.
use mathlib.Core.Path.{◌≡◌, refl, ap}
use mathlib.Core.List.{List, [], ◌∷◌}
use Prim.Native.Nat.{ℕ}
use native.Mathlib.Omega.{arith}
use lib.ListN.{get_or}
use lib.Ieee.{round, of_bits, to_bits, lt, le}
use Rattle.reals.specs.Words.{nearest}
use Rattle.reals.proofs.Words.{nearest_fits}
use Rattle.dynamics.specs.Previous.{previous_of}
use Rattle.dynamics.specs.Answer.{refusal_of}
use Rattle.dynamics.specs.Machine.{tick_refusal}
use Rattle.dynamics.specs.Stepped.{stepped_machine}
use Rattle.dynamics.specs.History.{TwoWiped}
use Rattle.hold.specs.Hold.{initial, state_of, words_of}
use Rattle.true_hold_with_reset.specs.TrueHoldWithReset.{machine}
use Rattle.true_hold_with_reset.specs.Account.{account}
use Rattle.true_hold_with_reset.specs.declared.TrueHoldWithReset.{TrueHoldWithReset}

-- held for two seconds
abbrev two_seconds : TrueHoldWithReset
two_seconds = record { duration = nearest 2 1 }

-- the tick is at 1.0, its input and clear are true; the garbage is an output that is neither 0 nor 1, a timer that is no number, a previous time just above zero
pub both_wiped : TwoWiped (machine two_seconds) (account two_seconds)
unfolding words_of state_of stepped_machine tick_refusal refusal_of previous_of round lt le of_bits to_bits
both_wiped = record {
  tick = record { time = nearest 1 1; is_f64 = nearest_fits 1 1; inputs = record { first = 1; second = 1; third = 0 } };
  one = words_of initial;
  other = 0xdead_beef ∷ 0x7ff0_0000_dead_beef ∷ 0x0000_0000_dead_beef ∷ [];
  differ = λ e. let z : ◌≡◌ {A = ℕ} 0 0xdead_beef = ap (λ (w : List ℕ). get_or w 0 0) e in omega arith;
  wipes_one = record { accepted = refl; wiping = refl };
  wipes_other = record { accepted = refl; wiping = refl };
}
