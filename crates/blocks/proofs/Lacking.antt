-- An emit hands out 0.0 or false for an output that its block lacks. Assumes nothing.
use mathlib.Core.Path.{◌≡◌, refl, ◌∙◌}
use mathlib.Core.Bool.{false}
use mathlib.Core.List.{List}
use Prim.Native.Nat.{ℕ}
use lib.Ieee.{Float}
use Rattle.reals.specs.Words.{0·0}
use Rattle.dynamics.specs.Machine.{Machine, tick_refusal, emit_answer}
use Rattle.dynamics.specs.Stepped.{stepped_machine}
use Rattle.dynamics.specs.Answer.{Answer}
use Rattle.dynamics.specs.declared.call.Inputs.{Inputs}
use Rattle.dynamics.proofs.Accepted.{accept_ap, accept_same, accept_const}
use Rattle.moving_average.specs.MovingAverage.{machine_for}
use Rattle.blocks.specs.Block.{machine_of, Hands, real, boolean, both, outputs_of}
use Rattle.blocks.specs.declared.block.Block.{Block}
use Rattle.blocks.specs.declared.block.Block.TheVariants.{Pid, PidWithReset, MovingAverage, TimerAccumulating, TrueDelay, TrueFalseHold, TrueHoldWithReset, LogicalVariablePulse}

-- what the outputs that a block has say of those that it lacks
abbrev pub Lacks : Hands → Answer → Type 0
Lacks real a = a.boolean ≡ false
Lacks boolean a = a.real ≡ 0·0
Lacks both a = a ≡ a

module _ (M : Machine) (time : Float) (i : Inputs) (w : List ℕ) where
  abbrev number : ℕ
  number = tick_refusal M time w

  no_real : (M.output w time i).real ≡ 0·0 → (emit_answer M time i w).real ≡ 0·0
  unfolding emit_answer
  no_real e = accept_ap (λ (a : Answer). a.real) number _ _ ∙ accept_same number _ 0·0 0·0 (λ z. e) ∙ accept_const number 0·0

  no_boolean : (M.output w time i).boolean ≡ false → (emit_answer M time i w).boolean ≡ false
  unfolding emit_answer
  no_boolean e = accept_ap (λ (a : Answer). a.boolean) number _ _ ∙ accept_same number _ false false (λ z. e) ∙ accept_const number false

pub lacking : (b : Block) (time : Float) (i : Inputs) (w : List ℕ) → Lacks (outputs_of b) (emit_answer (machine_of b) time i w)
unfolding machine_of stepped_machine machine_for
lacking (Pid s) time i w = no_boolean (machine_of (Pid s)) time i w refl
lacking (PidWithReset s) time i w = no_boolean (machine_of (PidWithReset s)) time i w refl
lacking (MovingAverage delta) time i w = no_boolean (machine_of (MovingAverage delta)) time i w refl
lacking (TimerAccumulating t) time i w = refl
lacking (TrueDelay d on_init) time i w = no_real (machine_of (TrueDelay d on_init)) time i w refl
lacking (TrueFalseHold long_true long_false) time i w = no_real (machine_of (TrueFalseHold long_true long_false)) time i w refl
lacking (TrueHoldWithReset duration) time i w = no_real (machine_of (TrueHoldWithReset duration)) time i w refl
lacking (LogicalVariablePulse period delta least) time i w = no_real (machine_of (LogicalVariablePulse period delta least)) time i w refl
