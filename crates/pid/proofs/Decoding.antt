-- The controllers as the laws of blocks with a state record take them. Assumes nothing.
use Rattle.std.specs.Prelude.{None}
use mathlib.Core.Path.{◌≡◌, refl}
use mathlib.Core.Bool.{Bool, true, false}
use mathlib.Core.List.{List, [], ◌∷◌}
use Prim.Native.Nat.{ℕ}
use native.Mathlib.Omega.{arith}
use lib.ListN.{length}
use borrow.Author.Tests.{ne_eqb}
use lib.Dec.{T}
use lib.Ieee.{binary64, fits, of_bits}
use Rattle.reals.proofs.Words.{real_word, flag_back}
use Rattle.dynamics.specs.Previous.{previous_of, word_of_previous, sound_previous}
use Rattle.dynamics.specs.Region.{stored}
use Rattle.dynamics.specs.Sound.{StaysSound}
use Rattle.dynamics.proofs.Steps as steps
use Rattle.controller.specs.Recurrence.{state_after, next_state}
use Rattle.controller.specs.declared.config.ControllerType.{ControllerType}
use Rattle.controller.specs.declared.config.ControllerType.TheVariants.{P, Pi, Pd, Pid}
use Rattle.controller.specs.declared.config.ControllerConfig.{ControllerConfig}
use Rattle.controller.specs.declared.recurrence.State.{State}
use Rattle.pid.specs.Pid.{state_length, state_of, words_of, initial, block, machine, zeros, counted}

-- the record of zeros is what words of 0 mean to the type that keeps all
pub zeros_mean : state_of Pid true [] ≡ zeros
unfolding state_of previous_of of_bits
zeros_mean = refl

-- what a type stores of f64 numbers is read back as it was stored
module _ (s : State) (integrator : T (fits binary64 s.integrator)) (filter : T (fits binary64 s.filter)) (time : previous_of (word_of_previous s.previous) ≡ s.previous) where
  pub read_back : (t : ControllerType) (reset : Bool) → words_of t reset (state_of t reset (words_of t reset s)) ≡ words_of t reset s
  unfolding state_of words_of
  read_back P reset = refl
  read_back Pi true = simp (real_word s.integrator integrator, time, flag_back)
  read_back Pi false = simp (real_word s.integrator integrator, time)
  read_back Pd reset = simp (real_word s.filter filter, time)
  read_back Pid true = simp (real_word s.integrator integrator, real_word s.filter filter, time, flag_back)
  read_back Pid false = simp (real_word s.integrator integrator, real_word s.filter filter, time)

-- a fresh one is read back with its previous time unset
pub fresh_unset : (t : ControllerType) (reset : Bool) (b : ControllerConfig) → (state_of t reset (words_of t reset (initial b))).previous ≡ None
unfolding words_of state_of previous_of
fresh_unset P reset b = refl
fresh_unset Pi reset b = refl
fresh_unset Pd reset b = refl
fresh_unset Pid reset b = refl

-- a fresh start is sound, and each call keeps a sound region sound
time_read : (t : ControllerType) (reset : Bool) (s : State) → sound_previous (previous_of (word_of_previous s.previous)) ≡ true
    → sound_previous (state_of t reset (words_of t reset s)).previous ≡ true
unfolding words_of state_of
time_read P reset s e = refl
time_read Pi reset s e = e
time_read Pd reset s e = e
time_read Pid reset s e = e

pub stays_sound : (reset : Bool) (b : ControllerConfig) → StaysSound (machine reset b)
stays_sound reset b = steps.stays_sound (block reset b) (counted b.controller_type reset) (fresh_unset b.controller_type reset b) (λ s time i e. time_read b.controller_type reset _ (unfold next_state state_after in e))

-- no words are stored by doing nothing
pub none_stored : (w : List ℕ) → w ≡ stored w []
none_stored [] = refl
none_stored (x ∷ w) = simp (ne_eqb (length (x ∷ w)) 0 (λ z. omega arith))
