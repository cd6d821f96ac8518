-- A call's answer crosses in words, and so does what decoding says. Assumes nothing.
use mathlib.Core.Path.{◌≡◌, sym, ap, ◌∙◌}
use Rattle.std.specs.Prelude.{Result, Ok, Err}
use mathlib.Core.List.{List}
use Prim.Native.Nat.{ℕ}
use Rattle.dynamics.specs.Answer.{Answer, number, Brings, accept}
use Rattle.dynamics.specs.Region.{Gives}
use Rattle.dynamics.specs.declared.refusal.Refusal.{Refusal}
use Rattle.dynamics.proofs.Accepted.{accepted, refused}
use Rattle.dynamics.proofs.Opening.{some_number}
use Rattle.blocks.specs.declared.decoded.State.{State}
use Rattle.exports.specs.Boundary.{answer_crossed, state_words, decoded_words, no_state}
use Rattle.exports.specs.declared.boundary.AnswerWords.{AnswerWords}

-- what decoding brings has its number, and the state or zeros
pub state_in_words : {n : ℕ} {s : State} (d : Result State Refusal) → Brings n s d → decoded_words d ≡ accept n (state_words s) (no_state n)
state_in_words (Ok t) b = ap state_words b.value ∙ accepted _ _ _ b.number
state_in_words (Err r) b = ap no_state b.number ∙ refused _ _ _ b.number (some_number r)
