-- 4110 words are room for the state of every block that a first line names, but for an average of more than 1024 seconds. Assumes nothing.
use Prim.Native.Nat.{ℕ}
use mathlib.Core.Path.{◌≡◌, refl}
use mathlib.Core.List.{List, [], ◌∷◌}
use mathlib.Core.Bool.{Bool, true, false, not}
use borrow.Author.Tests.{ltb-true, ltb-false, lt-leb, le-leb}
use lib.Dec.{T, leb, ltb}
use lib.Ieee.{binary64, fits, lt}
use Rattle.std.specs.Prelude.{Option, Some, None}
use Rattle.reals.specs.Words.{nearest}
use Rattle.reals.proofs.Words.{real_fits}
use Rattle.dynamics.specs.Stepped.{stepped_machine}
use Rattle.window.specs.Geometry.{geometry_of}
use Rattle.window.proofs.Slots.{length_above}
use Rattle.controller.specs.declared.config.ControllerType.{ControllerType}
use Rattle.controller.specs.declared.config.ControllerType.TheVariants.{P, Pi, Pd}
use Rattle.controller.specs.declared.config.ControllerType.TheVariants as type
use Rattle.pid.specs.Pid.{state_length}
use Rattle.moving_average.specs.MovingAverage.{machine_for}
use Rattle.blocks.specs.Block.{machine_of}
use Rattle.blocks.specs.Named.{named_by}
use Rattle.blocks.proofs.Names.{each}
use Rattle.blocks.specs.declared.block.Block.{Block}
use Rattle.blocks.specs.declared.block.Block.TheVariants.{Pid, PidWithReset, MovingAverage, TimerAccumulating, TrueDelay, TrueFalseHold, TrueHoldWithReset, LogicalVariablePulse}
use Rattle.lines.specs.Forms.{number_for, form_at}
use Rattle.lines.specs.Values.{items_of, words_said}
use Rattle.lines.specs.Lines.{named_with, named_in, first_of}
use Rattle.session.specs.Soak.{too_long}

-- ---- a delta that a line says is an f64

abbrev pub IsF64 : Block → Type 0
IsF64 (Pid s) = Unit {0}
IsF64 (PidWithReset s) = Unit {0}
IsF64 (MovingAverage delta) = T (fits binary64 delta)
IsF64 (TimerAccumulating t) = Unit {0}
IsF64 (TrueDelay time on_init) = Unit {0}
IsF64 (TrueFalseHold long_true long_false) = Unit {0}
IsF64 (TrueHoldWithReset duration) = Unit {0}
IsF64 (LogicalVariablePulse period delta least) = Unit {0}

abbrev pub F64In : Option Block → Type 0
F64In (Some b) = IsF64 b
F64In None = Unit {0}

if_named : (x : Option Block) → ((b : Block) → x ≡ Some b → IsF64 b) → F64In x
if_named (Some b) h = h b refl
if_named None h = tt

f64_named : (n : ℕ) (w : List ℕ) → F64In (named_by n w)
f64_named n w = if_named (named_by n w) (each (λ m b. IsF64 b) w tt tt (real_fits _) tt tt tt tt tt n)

f64_said : (n : ℕ) (ws : Option (List ℕ)) → F64In (named_with n ws)
f64_said n (Some ws) = f64_named n ws
f64_said n None = tt

f64_items : (items : List (List ℕ)) → F64In (named_in items)
f64_items [] = tt
f64_items (name ∷ settings) = f64_said (number_for name) (words_said (form_at (number_for name)).settings settings)

pub f64_first : (line : List ℕ) → F64In (first_of line)
unfolding first_of
f64_first line = f64_items (items_of line)

-- ---- the room

-- a refused setting is no delta above 1024
pub refused_short : (b : Block) → (machine_of b).accepts ≡ false → too_long b ≡ false
unfolding machine_of machine_for
refused_short (Pid s) e = refl
refused_short (PidWithReset s) e = refl
refused_short (MovingAverage delta) e = rw e refl
refused_short (TimerAccumulating t) e = refl
refused_short (TrueDelay time on_init) e = refl
refused_short (TrueFalseHold long_true long_false) e = refl
refused_short (TrueHoldWithReset duration) e = refl
refused_short (LogicalVariablePulse period delta least) e = refl

controller_room : (t : ControllerType) (reset : Bool) → leb (state_length t reset) 4110 ≡ true
controller_room P reset = refl
controller_room Pi true = refl
controller_room Pi false = refl
controller_room Pd reset = refl
controller_room type.Pid true = refl
controller_room type.Pid false = refl

at_most : (n : ℕ) (t : Bool) → ltb 4110 n ≡ t → leb n 4110 ≡ not t
at_most n true e = lt-leb n 4110 (ltb-true 4110 n e)
at_most n false e = le-leb n 4110 (ltb-false 4110 n e)

-- a state has more than 4110 words exactly where delta is above 1024
pub room : (b : Block) → IsF64 b → (machine_of b).accepts ≡ true → leb (machine_of b).size 4110 ≡ not (too_long b)
unfolding machine_of machine_for stepped_machine
room (Pid s) f e = controller_room s.controller_type false
room (PidWithReset s) f e = controller_room s.controller_type true
room (MovingAverage delta) f e = rw e (at_most (geometry_of delta).length (lt (nearest 1024 1) delta) (length_above delta f (rw e tt)))
room (TimerAccumulating t) f e = refl
room (TrueDelay time on_init) f e = refl
room (TrueFalseHold long_true long_false) f e = refl
room (TrueHoldWithReset duration) f e = refl
room (LogicalVariablePulse period delta least) f e = refl
