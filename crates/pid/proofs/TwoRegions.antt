-- What `wiped_alike` asks is met by two regions that differ: a fresh one, and one of garbage words. Assumes nothing.
use mathlib.Core.Path.{◌≡◌, refl, ap}
use mathlib.Core.Bool.{true}
use mathlib.Core.List.{List, [], ◌∷◌}
use Prim.Native.Nat.{ℕ}
use native.Mathlib.Omega.{arith}
use lib.ListN.{get_or}
use lib.Ieee.{round, of_bits, to_bits, lt}
use Rattle.reals.specs.Words.{nearest, word_of}
use Rattle.reals.proofs.Words.{nearest_fits}
use Rattle.dynamics.specs.Previous.{previous_of}
use Rattle.dynamics.specs.Answer.{refusal_of}
use Rattle.dynamics.specs.Machine.{tick_refusal}
use Rattle.dynamics.specs.Stepped.{stepped_machine}
use Rattle.dynamics.specs.History.{TwoWiped, AlikeFromWiping}
use Rattle.controller.specs.Settings.{settings_accepted}
use Rattle.controller.specs.declared.config.ControllerType.TheVariants.{Pi}
use Rattle.controller.specs.declared.config.ControllerConfig.{ControllerConfig}
use Rattle.pid.specs.Pid.{machine, initial, state_of, words_of}
use Rattle.pid.specs.Account.{account}
use Rattle.pid.proofs.Wiping.{wiped_alike}

-- the bench table's row P5
abbrev bench : ControllerConfig
bench = record {
  controller_type = Pi;
  k = nearest 1 1;
  ti = nearest 1 2;
  td = nearest 1 10;
  r = nearest 1 1;
  y_max = nearest 1 1;
  y_min = nearest 0 1;
  ni = nearest 9 10;
  nd = nearest 10 1;
  xi_start = nearest 0 1;
  yd_start = nearest 0 1;
  y_reset = nearest 3 4;
  reverse_acting = true;
}

-- the tick is at 3.0, 0.5 against 0.25, its trigger true; the garbage is an integrator that is no number and a previous time just above zero
pub both_wiped : TwoWiped (machine true bench) (account bench)
unfolding words_of state_of settings_accepted stepped_machine tick_refusal refusal_of previous_of round lt of_bits to_bits
both_wiped = record {
  tick = record { time = nearest 3 1; is_f64 = nearest_fits 3 1; inputs = record { first = word_of (nearest 1 2); second = word_of (nearest 1 4); third = 1 } };
  one = words_of Pi true (initial bench);
  other = 0x7ff0_0000_dead_beef ∷ 0x0000_0000_dead_beef ∷ 0 ∷ [];
  differ = λ e. let z : ◌≡◌ {A = ℕ} 0 0x7ff0_0000_dead_beef = ap (λ (w : List ℕ). get_or w 0 0) e in omega arith;
  wipes_one = record { accepted = refl; wiping = refl };
  wipes_other = record { accepted = refl; wiping = refl };
}

-- so for these settings nothing is assumed
pub bench_alike : AlikeFromWiping (machine true bench) (account bench)
bench_alike = wiped_alike bench refl
