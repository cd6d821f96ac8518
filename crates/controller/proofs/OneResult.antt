-- Each public function's contract admits one result only. Assumes nothing.
use Rattle.reals.proofs.Once.{Once, equation_once}
use Rattle.controller.proofs.config.ControllerConfig.accepted.Reads as settings_accepted
use Rattle.controller.proofs.config.ControllerConfig.current_terms.Reads as current_terms
use Rattle.controller.proofs.config.ControllerConfig.next_state.Reads as next_state

pub settings_accepted_once : Once settings_accepted.Post
settings_accepted_once = equation_once

pub current_terms_once : Once current_terms.Post
current_terms_once = equation_once

pub next_state_once : Once next_state.Post
next_state_once = equation_once
