-- The bench table holds: every call in it answers what stands there, whole. Assumes nothing.
use mathlib.Core.Path.{◌≡◌, refl}
use lib.Ieee as ieee
use Rattle.reals.specs.Rounding as rounding
use Rattle.dynamics.specs.Previous.{previous_of}
use Rattle.dynamics.specs.Leaves as leaf
use Rattle.dynamics.specs.Answer as answer
use Rattle.dynamics.specs.Machine as call
use Rattle.dynamics.specs.Stepped.{stepped_machine}
use Rattle.true_delay.specs.TrueDelay as delay
use Rattle.hold.specs.Hold as hold
use Rattle.true_false_hold.specs.TrueFalseHold as false_hold
use Rattle.controller.specs.Settings as settings
use Rattle.controller.specs.Limit as limits
use Rattle.controller.specs.Recurrence as recurrence
use Rattle.pid.specs.Pid as pid
use Rattle.window.specs.Geometry as window
use Rattle.window.specs.Mean as mean
use Rattle.moving_average.specs.Ring as ring
use Rattle.moving_average.specs.Average as stored
use Rattle.moving_average.specs.MovingAverage as average
use Rattle.blocks.specs.Block.{machine_of, inputs_of}
use Rattle.sheet.specs.Sheet as sheet
use Rattle.bench_table.specs.Trials.{answers_to, answers_from, said_by, all_said, all_due}
use Rattle.bench_table.specs.Table.{table}

pub bench_table : all_said table ≡ all_due table
unfolding ieee.of_bits ieee.to_bits ieee.eq ieee.lt ieee.le ieee.add ieee.sub ieee.mul ieee.div ieee.round ieee.to_unsigned ieee.of_int rounding.whole previous_of leaf.accumulated leaf.positive_duration leaf.raised_to answer.accept answer.form_refusal answer.length_of answer.refusal_of call.length_answer call.tick_refusal call.emit_answer call.update_answer call.tick_answer call.updated_words stepped_machine delay.advance delay.next delay.output_and_timer delay.state_of delay.words_of hold.flips hold.output_and_timer hold.state_of hold.words_of false_hold.advance false_hold.next false_hold.required settings.effective settings.eps settings.least settings.settings_accepted limits.clamp limits.limit recurrence.derivative recurrence.error recurrence.integral recurrence.integral_rate recurrence.next_integrator recurrence.next_state recurrence.proportional recurrence.solved_back recurrence.state_after recurrence.terms_of pid.heard pid.state_of pid.words_of window.delta_eff window.geometry_of window.slot_count window.slots_of mean.divisor ring.edge_of ring.expired_of ring.leading ring.mu_place ring.point_at ring.slot_of ring.time_at ring.time_place ring.time_word stored.is_crowded stored.mu_at stored.mu_from stored.place_of stored.pruned stored.written average.output_of average.place_at average.ring_at average.warning_of average.after_of average.decodable average.fresh average.machine_for average.mu_now average.start_of average.state_of average.step_of machine_of inputs_of sheet.row_at_fault sheet.start_number sheet.start_row sheet.tick_number sheet.tick_said answers_to answers_from said_by all_said all_due
bench_table = refl
