-- `TrueDelay` as the laws of blocks with a state record take it. Assumes nothing.
use Rattle.std.specs.Prelude.{None}
use mathlib.Core.Path.{◌≡◌, refl}
use mathlib.Core.List.{[]}
use Prim.Native.Nat.{ℕ}
use lib.ListN.{length}
use lib.Dec.{T}
use lib.Ieee.{binary64, fits, of_bits}
use Rattle.reals.proofs.Words.{real_word, flag_back}
use Rattle.dynamics.specs.Previous.{previous_of, word_of_previous}
use Rattle.dynamics.specs.Sound.{StaysSound}
use Rattle.dynamics.proofs.Steps as steps
use Rattle.true_delay.specs.TrueDelay.{next, advance, state_of, words_of, initial, block, machine, zeros, counted}
use Rattle.true_delay.specs.declared.TrueDelay.{TrueDelay}
use Rattle.true_delay.specs.declared.state.State.{State}

-- the record of zeros is what words of 0 mean
pub zeros_mean : state_of [] ≡ zeros
unfolding state_of previous_of of_bits
zeros_mean = refl

-- a state of f64 numbers is read back as it was stored
pub read_back : (s : State) → T (fits binary64 s.timer) → previous_of (word_of_previous s.previous) ≡ s.previous → state_of (words_of s) ≡ s
unfolding state_of words_of
read_back s timer time = simp (real_word s.timer timer, time, flag_back)

-- a fresh one is read back with its previous time unset
pub fresh_unset : (b : TrueDelay) → (state_of (words_of (initial))).previous ≡ None
unfolding words_of state_of previous_of
fresh_unset b = refl

-- a fresh start is sound, and each call keeps a sound region sound
pub stays_sound : (b : TrueDelay) → StaysSound (machine b)
stays_sound b = steps.stays_sound (block b) (counted b) (fresh_unset b) (λ s time i e. unfold advance next words_of state_of in e)
