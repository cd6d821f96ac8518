-- `PidWithReset` in PI mode told from its history: the accepted ticks since the latest start or rising trigger. Definitions only.
use Rattle.std.specs.Prelude.{Bool, true, false, get_or, Float}
use Rattle.reals.specs.Words.{0·0, flag_of}
use Rattle.reals.specs.Arithmetic.{◌⊕◌, ◌⊖◌}
use Rattle.dynamics.specs.Previous.{gap}
use Rattle.dynamics.specs.Leaves.{accumulated, rising}
use Rattle.dynamics.specs.Answer.{real_output}
use Rattle.dynamics.specs.Machine.{Tick}
use Rattle.dynamics.specs.History.{History, started, wiped, followed, newest, previous_in, Account}
use Rattle.controller.specs.Limit.{limit}
use Rattle.controller.specs.Recurrence.{error, proportional, integral_rate}
use Rattle.controller.specs.declared.config.ControllerType.TheVariants.{Pi}
use Rattle.controller.specs.declared.config.ControllerConfig.{ControllerConfig}
use Rattle.controller.specs.declared.recurrence.State.{State}
use Rattle.controller.specs.declared.recurrence.Terms.{Terms}
use Rattle.pid.specs.Pid.{parts, heard, words_of}

-- a tick's trigger; the newest one's, false after a start
abbrev pub trigger_of : Tick → Bool
trigger_of k = flag_of k.inputs.third

abbrev pub trigger_in : History → Bool
trigger_in h = newest false trigger_of h

-- a rising trigger wipes
abbrev pub wipes : Tick → History → Bool
wipes k h = rising (trigger_of k) (trigger_in h)

module _ (b : ControllerConfig) where
  -- a tick's e and y_p
  abbrev pub error_of : Tick → Float
  error_of k = error b (heard true k.inputs)

  abbrev pub y_p : Tick → Float
  y_p k = proportional b (error_of k)

  -- its terms with this integrator: y_u = (y_p + 0.0) + integrator
  unfoldable pub terms_in : Float → Tick → Terms
  terms_in integrator k =
      let y_u = (y_p k ⊕ 0·0) ⊕ integrator in
      record { e = error_of k; y_p = y_p k; y_d = 0·0; y_u = y_u; y = limit b y_u }

  -- it starts at y_reset - (y_p + 0.0), or from a start at xi_start, and follows the recurrence
  unfoldable pub integrator : History → Float
  integrator started = b.xi_start
  integrator (wiped k) = b.y_reset ⊖ (y_p k ⊕ 0·0)
  integrator (followed h k) = accumulated (integrator h) (integral_rate b (terms_in (integrator h) k)) (gap k.time (previous_in h))

  unfoldable pub state_told : History → State
  state_told h = parts (integrator h) (previous_in h) 0·0 (trigger_in h)

  -- an emit answers from the integrator before its tick, on a wiping tick too
  abbrev pub account : Account
  account = record {
    wipes = wipes;
    wipes_on = λ k w. rising (trigger_of k) (flag_of (get_or w 2 0));
    output = λ k h. real_output (terms_in (integrator h) k).y;
    words = λ h. words_of Pi true (state_told h);
  }
