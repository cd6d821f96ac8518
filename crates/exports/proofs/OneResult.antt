-- Each public function's contract admits one result only, one region, and of a run and a sheet's tick one list of answers. Assumes nothing.
use mathlib.Core.Path.{sym, ◌∙◌}
use Rattle.reals.proofs.Once.{Once, OnceLeft, equation_once}
use Rattle.dynamics.proofs.Calls.{one_result}
use Rattle.exports.proofs.calls.oven_length.Reads as length
use Rattle.exports.proofs.calls.oven_start.Reads as start
use Rattle.exports.proofs.calls.oven_sound.Reads as sound
use Rattle.exports.proofs.calls.oven_decode.Reads as decode
use Rattle.exports.proofs.calls.oven_emit.Reads as emit
use Rattle.exports.proofs.calls.oven_update.Reads as update
use Rattle.exports.proofs.calls.oven_tick.Reads as tick
use Rattle.exports.proofs.calls.oven_run.Reads as run
use Rattle.exports.proofs.sheets.oven_sheet_start.Reads as sheet_start
use Rattle.exports.proofs.sheets.oven_sheet_tick.Reads as sheet_tick
use Rattle.exports.proofs.boundary.AnswerWordsFromResultReplyRefusal.from.Reads as answer_words
use Rattle.exports.proofs.boundary.LengthWordsFromResultUsizeRefusal.from.Reads as length_words
use Rattle.exports.proofs.boundary.refused.Reads as refused
use Rattle.exports.proofs.boundary.no_answer.Reads as no_answer
use Rattle.exports.proofs.states.no_state.Reads as no_state
use Rattle.exports.proofs.states.decoded_words.Reads as decoded_words
use Rattle.exports.proofs.leaves.oven_canonical.Reads as canonical
use Rattle.exports.proofs.leaves.oven_tick_dt.Reads as tick_dt
use Rattle.exports.proofs.leaves.oven_accumulate.Reads as accumulate
use Rattle.exports.proofs.leaves.oven_filter.Reads as filter
use Rattle.exports.proofs.leaves.oven_positive_duration.Reads as positive_duration
use Rattle.exports.proofs.leaves.oven_absolute.Reads as absolute
use Rattle.exports.proofs.leaves.oven_ceil.Reads as ceil
use Rattle.exports.proofs.leaves.oven_floor.Reads as floor

pub length_once : Once length.Post
length_once = equation_once

pub sound_once : Once sound.Post
sound_once = equation_once

pub decode_once : Once decode.Post
decode_once = equation_once

pub emit_once : Once emit.Post
emit_once = equation_once

pub start_once : OnceLeft start.Post (λ κs s. s.1.1.0.now)
start_once = one_result

pub update_once : OnceLeft update.Post (λ κs s. s.1.1.1.1.1.1.0.now)
update_once = one_result

pub tick_once : OnceLeft tick.Post (λ κs s. s.1.1.1.1.1.1.0.now)
tick_once = one_result

pub run_once : OnceLeft run.Post (λ κs s. s.1.1.1.0.now)
run_once = record { alike = λ κs a x y s t p q. (p.number ∙ sym q.number, p.leaves ∙ sym q.leaves) }

pub run_once_said : OnceLeft run.Post (λ κs s. s.1.1.1.1.0.now)
run_once_said = record { alike = λ κs a x y s t p q. (p.number ∙ sym q.number, p.says ∙ sym q.says) }

pub sheet_start_once : OnceLeft sheet_start.Post (λ κs s. s.1.0.now)
sheet_start_once = record { alike = λ κs a x y s t p q. (p.answer ∙ sym q.answer, p.leaves ∙ sym q.leaves) }

pub sheet_tick_once : OnceLeft sheet_tick.Post (λ κs s. s.1.1.1.0.now)
sheet_tick_once = record { alike = λ κs a x y s t p q. (p.answer ∙ sym q.answer, p.leaves ∙ sym q.leaves) }

pub sheet_tick_once_said : OnceLeft sheet_tick.Post (λ κs s. s.1.1.1.1.0.now)
sheet_tick_once_said = record { alike = λ κs a x y s t p q. (p.answer ∙ sym q.answer, p.says ∙ sym q.says) }

-- of what `from` makes of a call
pub answer_words_once : Once answer_words.Post
answer_words_once = equation_once

pub length_words_once : Once length_words.Post
length_words_once = equation_once

pub refused_once : Once refused.Post
refused_once = equation_once

pub no_answer_once : Once no_answer.Post
no_answer_once = equation_once

pub no_state_once : Once no_state.Post
no_state_once = equation_once

pub decoded_words_once : Once decoded_words.Post
decoded_words_once = equation_once

pub canonical_once : Once canonical.Post
canonical_once = equation_once

pub tick_dt_once : Once tick_dt.Post
tick_dt_once = equation_once

pub accumulate_once : Once accumulate.Post
accumulate_once = equation_once

pub filter_once : Once filter.Post
filter_once = equation_once

pub positive_duration_once : Once positive_duration.Post
positive_duration_once = equation_once

pub absolute_once : Once absolute.Post
absolute_once = equation_once

pub ceil_once : Once ceil.Post
ceil_once = equation_once

pub floor_once : Once floor.Post
floor_once = equation_once
