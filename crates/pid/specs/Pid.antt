-- `Pid` and `PidWithReset` over a region: one core, two machines. Definitions only.
use Rattle.std.specs.Prelude.{ℕ, ◌≡◌, refl, length, Bool, true, false, ◌&&◌, cond, List, [], ◌∷◌, get_or, Float, None, Some}
use Rattle.reals.specs.Words.{0·0, real_of, word_of, flag_of, word_of_flag}
use Rattle.dynamics.specs.Previous.{previous_of, word_of_previous, Previous}
use Rattle.dynamics.specs.Answer.{Outputs, real_output}
use Rattle.dynamics.specs.Machine.{Machine}
use Rattle.dynamics.specs.Stepped.{Stepped, stepped_machine}
use Rattle.dynamics.specs.declared.call.Inputs.{Inputs}
use Rattle.controller.specs.Settings.{settings_accepted}
use Rattle.controller.specs.Recurrence.{terms_of, next_state}
use Rattle.controller.specs.declared.config.ControllerType.{ControllerType}
use Rattle.controller.specs.declared.config.ControllerType.TheVariants.{P, Pi, Pd, Pid}
use Rattle.controller.specs.declared.config.ControllerConfig.{ControllerConfig}
use Rattle.controller.specs.declared.recurrence.State.{State}
use Rattle.controller.specs.declared.recurrence.Heard.{Heard}
use Rattle.controller.specs.declared.recurrence.Terms.{Terms}

-- ---- the words. P: none. PI: integrator, previous time. PD: previous time, filter. PID: integrator, previous time, filter.
-- With reset, PI and PID add the previous trigger last; P and PD add nothing

abbrev pub state_length : ControllerType → Bool → ℕ
state_length P reset = 0
state_length Pi reset = cond reset 3 2
state_length Pd reset = 2
state_length Pid reset = cond reset 4 3

abbrev pub parts : Float → Previous → Float → Bool → State
parts integrator previous filter trigger = record { integrator = integrator; previous = previous; filter = filter; trigger = trigger }

-- a part that the type lacks is 0.0, unset or false
unfoldable pub state_of : ControllerType → Bool → List ℕ → State
state_of P reset w = parts 0·0 None 0·0 false
state_of Pi reset w = parts (real_of (get_or w 0 0)) (previous_of (get_or w 1 0)) 0·0 (reset && flag_of (get_or w 2 0))
state_of Pd reset w = parts 0·0 (previous_of (get_or w 0 0)) (real_of (get_or w 1 0)) false
state_of Pid reset w = parts (real_of (get_or w 0 0)) (previous_of (get_or w 1 0)) (real_of (get_or w 2 0)) (reset && flag_of (get_or w 3 0))

abbrev pub trigger_word : Bool → State → List ℕ
trigger_word true s = word_of_flag s.trigger ∷ []
trigger_word false s = []

unfoldable pub words_of : ControllerType → Bool → State → List ℕ
words_of P reset s = []
words_of Pi reset s = word_of s.integrator ∷ word_of_previous s.previous ∷ trigger_word reset s
words_of Pd reset s = word_of_previous s.previous ∷ word_of s.filter ∷ []
words_of Pid reset s = word_of s.integrator ∷ word_of_previous s.previous ∷ word_of s.filter ∷ trigger_word reset s

-- ---- the block

-- integrator at xi_start, previous time unset; the rest zero
abbrev pub initial : ControllerConfig → State
initial b = parts b.xi_start None 0·0 false

-- a tick's inputs are its words; without reset no trigger is heard
unfoldable pub heard : Bool → Inputs → Heard
heard reset i = record { u_s = real_of i.first; u_m = real_of i.second; trigger = reset && flag_of i.third }

-- the output of a tick is of the state before it
abbrev pub outputs : Terms → Outputs
outputs y = real_output y.y

abbrev pub block : Bool → ControllerConfig → Stepped State
block reset b = record {
  accepts = settings_accepted b;
  initial = initial b;
  size = state_length b.controller_type reset;
  state_of = state_of b.controller_type reset;
  words_of = words_of b.controller_type reset;
  previous = λ s. s.previous;
  output = λ s time i. outputs (terms_of b s (heard reset i));
  advance = λ s time i. next_state b s time (heard reset i);
}

abbrev pub machine : Bool → ControllerConfig → Machine
machine reset b = stepped_machine (block reset b)

-- a state has as many words as its type keeps
pub counted : (t : ControllerType) (reset : Bool) (s : State) → length (words_of t reset s) ≡ state_length t reset
unfolding words_of
counted P reset s = refl
counted Pi true s = refl
counted Pi false s = refl
counted Pd reset s = refl
counted Pid true s = refl
counted Pid false s = refl

-- the record of zeros, for which a refused decode stands: one for all types
abbrev pub zeros : State
zeros = parts 0·0 (Some 0·0) 0·0 false
