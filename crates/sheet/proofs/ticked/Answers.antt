-- `ticked` surveys the rows, lets each emit, and then each update; their answers are handed out last. Assumes nothing.
use Rattle.std.proofs.Common.{◌≡◌, ◌+◌, ◌-◌, length, arith, rules, Ok, Err}
use Rattle.sheet.specs.Sheet.{input_words}
use Rattle.sheet.specs.Walk.{begun, formed, without_fault}
use Rattle.sheet.proofs.Results.{tick_1, tick_2, tick_3, tick_all}
use Rattle.sheet.proofs.ticked.Goals as goal

pub returns-in_err-begun : goal.returns-in_err-begun
returns-in_err-begun c =
    let e : c.from_residual.result ≡ Err c.in_err-begun.field-0.0 = search rules in
    let b : begun (length c.args.rows.now) ≡ Err c.in_err-begun.field-0.0 = search rules in
    rw e (tick_1 _ _ _ _ _ c.of-seen.ensures b)

pub returns-in_err-formed : goal.returns-in_err-formed
returns-in_err-formed c =
    let a = c.args in
    let b : begun (length a.rows.now) ≡ Ok tt = search rules in
    let f : formed c.walk_rows-survey.result (length a.rows.now) (length c.walk_rows-survey.new.region) (length a.answers.now) a.tick.time ≡ Err c.in_err-formed.field-0.0 = search rules in
    let e : c.from_residual-in_err-formed.result ≡ Err c.in_err-formed.field-0.0 = search rules in
    rw e (tick_2 _ _ _ _ _ c.of-seen.ensures b c.walk_rows-survey.ensures c.walk_rows-survey.auto.region f)

pub returns-in_err-without_fault : goal.returns-in_err-without_fault
returns-in_err-without_fault c =
    let a = c.args in
    let b : begun (length a.rows.now) ≡ Ok tt = search rules in
    let f : formed c.walk_rows-survey.result (length a.rows.now) (length c.walk_rows-survey.new.region) (length a.answers.now) a.tick.time ≡ Ok tt = search rules in
    let u : without_fault c.walk_rows-emits.result ≡ Err c.in_err-without_fault.field-0.0 = search rules in
    let e : c.from_residual-in_err-without_fault.result ≡ Err c.in_err-without_fault.field-0.0 = search rules in
    rw e (tick_3 _ _ _ _ _ c.of-seen.ensures b c.walk_rows-survey.ensures c.walk_rows-survey.auto.region f c.walk_rows-emits.ensures u)

pub returns : goal.returns
returns c =
    let a = c.args in
    let b : begun (length a.rows.now) ≡ Ok tt = search rules in
    let f : formed c.walk_rows-survey.result (length a.rows.now) (length c.walk_rows-survey.new.region) (length a.answers.now) a.tick.time ≡ Ok tt = search rules in
    let u : without_fault c.walk_rows-emits.result ≡ Ok tt = search rules in
    let all = tick_all _ _ _ _ _ c.of-seen.ensures b c.walk_rows-survey.ensures c.walk_rows-survey.auto.region f c.walk_rows-emits.ensures u c.walk_rows-updates.ensures in
    let cut : input_words + length a.answers.now - input_words ≡ length a.answers.now = omega arith in
    rw (c.copy_from_slice.ensures.after, cut) all
