-- `oven_decode` has the state, or the refusal with zeros. Assumes nothing.
use mathlib.Core.Path.{◌∙◌}
use Rattle.exports.specs.Calls.{by_name}
use Rattle.exports.proofs.Answers.{state_in_words}
use Rattle.exports.proofs.calls.oven_decode.Goals as goal

pub returns : goal.returns
unfolding by_name
returns c = rw (← c.in-Some.ensures) (c.decoded_words.ensures ∙ state_in_words _ c.decode.ensures.value)
