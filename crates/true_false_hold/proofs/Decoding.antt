-- `TrueFalseHold` as the laws of blocks with a state record take it. Assumes nothing.
use Rattle.dynamics.specs.Sound.{StaysSound}
use Rattle.dynamics.proofs.Steps as steps
use Rattle.hold.specs.Hold.{state_of, words_of, counted}
use Rattle.hold.proofs.Decoding.{fresh_unset}
use Rattle.true_false_hold.specs.TrueFalseHold.{next, advance, block, machine}
use Rattle.true_false_hold.specs.declared.TrueFalseHold.{TrueFalseHold}

-- a fresh start is sound, and each call keeps a sound region sound
pub stays_sound : (b : TrueFalseHold) → StaysSound (machine b)
stays_sound b = steps.stays_sound (block b) counted fresh_unset (λ s time i e. unfold advance next words_of state_of in e)
