-- A hold's state and its words. Assumes nothing.
use mathlib.Core.Path.{◌≡◌, refl}
use mathlib.Core.List.{[]}
use lib.Dec.{T}
use lib.Ieee.{binary64, fits, of_bits}
use Rattle.std.specs.Prelude.{None}
use Rattle.reals.proofs.Words.{real_word, flag_back}
use Rattle.dynamics.specs.Previous.{previous_of, word_of_previous}
use Rattle.hold.specs.Hold.{state_of, words_of, initial, zeros}
use Rattle.hold.specs.declared.State.{State}

-- the record of zeros is what words of 0 mean
pub zeros_mean : state_of [] ≡ zeros
unfolding state_of previous_of of_bits
zeros_mean = refl

-- a state of f64 numbers is read back as it was stored
pub read_back : (s : State) → T (fits binary64 s.timer) → previous_of (word_of_previous s.previous) ≡ s.previous → state_of (words_of s) ≡ s
unfolding state_of words_of
read_back s timer time = simp (real_word s.timer timer, time, flag_back)

-- a fresh one is read back with its previous time unset
pub fresh_unset : (state_of (words_of initial)).previous ≡ None
unfolding words_of state_of previous_of
fresh_unset = refl
