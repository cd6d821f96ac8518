-- What the calls of the two controllers come to: outputs within the limits, a trigger that `Pid` does not hear, no time in P mode. Assumes nothing.
use mathlib.Core.Path.{◌≡◌, refl, sym, ap, ◌∙◌}
use mathlib.Core.Bool.{Bool, false}
use mathlib.Core.List.{List}
use Prim.Native.Nat.{ℕ}
use lib.Dec.{T, eqb}
use lib.ListN.{length}
use lib.Ieee.{Float, nan, is_nan, lt, le}
use lib.Ieee.Scale.{finite}
use Rattle.dynamics.specs.Answer.{Answer, refusal_of, skipped}
use Rattle.dynamics.specs.Machine.{tick_refusal, emit_answer, updated_words}
use Rattle.dynamics.specs.Stepped.{stepped_machine}
use Rattle.dynamics.specs.declared.call.Inputs.{Inputs}
use Rattle.dynamics.proofs.Accepted.{accepted}
use Rattle.controller.specs.Settings.{settings_accepted}
use Rattle.controller.specs.Limit.{limit, Held, Crossed}
use Rattle.controller.specs.Recurrence.{terms_of}
use Rattle.controller.specs.declared.config.ControllerType.TheVariants.{P}
use Rattle.controller.specs.declared.config.ControllerConfig.{ControllerConfig}
use Rattle.controller.proofs.Limits.{limit_held, limit_crossed, nan_passes}
use Rattle.pid.specs.Pid.{machine, state_of, heard}

module _ (reset : Bool) (b : ControllerConfig) (time : Float) (i : Inputs) (w : List ℕ) where
  -- ---- an accepted emit: its output is the unclamped sum, clamped
  module _ (ok : tick_refusal (machine reset b) time w ≡ 0) where
    -- the unclamped sum
    abbrev sum : Float
    sum = (terms_of b (state_of b.controller_type reset w) (heard reset i)).y_u

    pub output_limited : (emit_answer (machine reset b) time i w).real ≡ limit b sum
    unfolding emit_answer stepped_machine terms_of
    output_limited = ap (λ (a : Answer). a.real) (sym (accepted _ _ (tick_refusal (machine reset b) time w) (sym ok)))

    pub output_held : T (le b.y_min b.y_max) → is_nan sum ≡ false → Held b sum (emit_answer (machine reset b) time i w).real
    output_held order number = rw output_limited (limit_held b sum order number)

    pub output_crossed : T (lt b.y_max b.y_min) → Crossed b sum (emit_answer (machine reset b) time i w).real
    output_crossed order = rw output_limited (limit_crossed b sum order)

    pub output_nan : sum ≡ nan → (emit_answer (machine reset b) time i w).real ≡ nan
    output_nan e = output_limited ∙ ap (limit b) e ∙ nan_passes b

  -- ---- P keeps no time: a tick has tests 2, 3 and 5 alone
  pub no_time : b.controller_type ≡ P
      → tick_refusal (machine reset b) time w ≡ refusal_of skipped (settings_accepted b) (eqb (length w) 0) skipped (finite time) skipped skipped
  unfolding tick_refusal stepped_machine state_of
  no_time p = simp p

-- ---- `Pid` does not hear its third input
module _ (b : ControllerConfig) (time : Float) (u_s u_m : ℕ) (w : List ℕ) where
  abbrev with_trigger : ℕ → Inputs
  with_trigger trigger = record { first = u_s; second = u_m; third = trigger }

  pub deaf_emit : (m n : ℕ) → emit_answer (machine false b) time (with_trigger m) w ≡ emit_answer (machine false b) time (with_trigger n) w
  unfolding stepped_machine emit_answer heard
  deaf_emit m n = refl

  pub deaf_update : (m n : ℕ) → updated_words (machine false b) time (with_trigger m) w ≡ updated_words (machine false b) time (with_trigger n) w
  unfolding stepped_machine updated_words heard
  deaf_update m n = refl
