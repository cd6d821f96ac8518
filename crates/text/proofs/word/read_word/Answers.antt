-- `word::read_word` meets its contract: the digits that are left go on from the number so far as all of them do from 0. Assumes nothing.
use mathlib.Core.Path.{sym, ◌∙◌}
use native.Mathlib.Omega.{arith}
use lib.ListN.{get_or}
use Rattle.text.proofs.Digits.{digit_read, hex_digit, hex_grows, hex_fits}
use Rattle.text.proofs.word.read_word.Goals as goal

pub overflow_mul-word : goal.overflow_mul-word
overflow_mul-word c =
    let l = c.loop-b in
    record { fits = omega (arith, hex_fits l.word 0 l.b-index l.invariant.0 (omega arith) (omega arith)) }

pub overflow_add-word : goal.overflow_add-word
overflow_add-word c =
    let l = c.loop-b in
    let d = c.in_ok-word in
    let digit = digit_read (get_or c.args.s.now l.b-index 0) d.field-0 (sym d.was ∙ c.digit_value.ensures) in
    record { fits = hex_fits l.word d.field-0 l.b-index l.invariant.0 digit.1 (omega arith) }

pub loop-b-preserved : goal.loop-b-preserved
loop-b-preserved c =
    let l = c.loop-b in
    let s = c.args.s.now in
    let d = c.in_ok-word in
    let digit = digit_read (get_or s l.b-index 0) d.field-0 (sym d.was ∙ c.digit_value.ensures) in (
      hex_grows l.word d.field-0 l.b-index l.invariant.0 digit.1,
      sym (hex_digit l.word s l.b-index c.loop-b-test.true d.field-0 digit.0 digit.1) ∙ l.invariant.1,
    )
