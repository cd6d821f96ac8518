-- Document 01's whole example: what soak writes for it, computed. Assumes nothing.
use Prim.Native.Nat.{ℕ}
use mathlib.Core.Path.{◌≡◌, refl}
use mathlib.Core.List.{List, ◌++◌}
use lib.Ieee.{of_bits, to_bits, of_fields, odd, ne, eq, lt, le, add, sub, round}
use Rattle.dynamics.specs.Previous.{previous_of}
use Rattle.dynamics.specs.Leaves.{positive_duration}
use Rattle.dynamics.specs.Answer.{refusal_of, form_refusal, accept, length_of}
use Rattle.dynamics.specs.Machine.{tick_refusal, length_answer, emit_answer, update_answer, updated_words}
use Rattle.dynamics.specs.Stepped.{stepped_machine}
use Rattle.true_delay.specs.TrueDelay.{output_and_timer, next, advance, state_of, words_of}
use Rattle.blocks.specs.Block.{machine_of, inputs_of, ticked}
use Rattle.blocks.specs.Named.{named_by}
use Rattle.text.specs.Bytes.{bytes, same_list}
use Rattle.text.specs.Word.{digit_value, hex_from, word_item, glyph, hex_text}
use Rattle.text.specs.Items.{flag_item, type_item}
use Rattle.text.specs.Stretches.{stretches}
use Rattle.text.specs.Decimal.{decimal_of}
use Rattle.lines.specs.Forms.{rows_before}
use Rattle.lines.specs.Values.{items_from, items_of, item_of, words_said}
use Rattle.lines.specs.Lines.{first_of, later_of}
use Rattle.session.specs.Answers.{output_text, outputs_text, answer_text}
use Rattle.session.specs.Soak.{lines_from, judged, outcome, line_leaves, outcomes, outcome_text, texts, if_accepted, if_refused, tally, counted, report, run_text, named_text, lines_text, soak_of}

abbrev given : List ℕ
given =
    bytes "TrueDelay 4000000000000000 0\n"
    ++ bytes "0000000000000000 1\n"
    ++ bytes "3FF0000000000000 0\n"
    ++ bytes "4000000000000000 1\n"
    ++ bytes "4008000000000000 1\n"
    ++ bytes "4010000000000000 1\n"
    ++ bytes "4008000000000000 1\n"

abbrev due : List ℕ
due =
    bytes "block TrueDelay\n"
    ++ bytes "1\n"
    ++ bytes "0\n"
    ++ bytes "0\n"
    ++ bytes "0\n"
    ++ bytes "1\n"
    ++ bytes "refused 7\n"
    ++ bytes "ticks 5 refused 1\n"

pub example : soak_of given ≡ due
unfolding of_bits to_bits of_fields odd ne eq lt le add sub round previous_of positive_duration refusal_of form_refusal accept length_of tick_refusal length_answer emit_answer update_answer updated_words stepped_machine output_and_timer next advance state_of words_of machine_of inputs_of ticked named_by same_list digit_value hex_from word_item glyph hex_text flag_item type_item stretches decimal_of rows_before items_from items_of item_of words_said first_of later_of output_text outputs_text answer_text lines_from judged outcome line_leaves outcomes outcome_text texts if_accepted if_refused tally counted report run_text named_text lines_text soak_of
example = refl
