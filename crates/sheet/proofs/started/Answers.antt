-- `started` surveys the rows, and then starts each on its stretch: the walks' time is looked at by neither. Assumes nothing.
use Rattle.std.proofs.Common.{◌≡◌, length, rules, Ok, Err}
use Rattle.reals.specs.Words.{real_of}
use Rattle.sheet.specs.Walk.{blank, begun, surveyed}
use Rattle.sheet.proofs.Results.{start_1, start_2, start_all}
use Rattle.sheet.proofs.started.Goals as goal

pub returns-in_err-begun : goal.returns-in_err-begun
returns-in_err-begun c =
    let e : c.from_residual.result ≡ Err c.in_err-begun.field-0.0 = search rules in
    let b : begun (length c.args.rows.now) ≡ Err c.in_err-begun.field-0.0 = search rules in
    rw e (start_1 (real_of 0) _ _ blank b)

pub returns-in_err-surveyed : goal.returns-in_err-surveyed
returns-in_err-surveyed c =
    let b : begun (length c.args.rows.now) ≡ Ok tt = search rules in
    let s : surveyed c.walk_rows-survey.result (length c.walk_rows-survey.new.region) ≡ Err c.in_err-surveyed.field-0.0 = search rules in
    let e : c.from_residual-in_err-surveyed.result ≡ Err c.in_err-surveyed.field-0.0 = search rules in
    rw e (start_2 _ _ _ _ b c.walk_rows-survey.ensures c.walk_rows-survey.auto.region s)

pub returns : goal.returns
returns c =
    let b : begun (length c.args.rows.now) ≡ Ok tt = search rules in
    let s : surveyed c.walk_rows-survey.result (length c.walk_rows-survey.new.region) ≡ Ok tt = search rules in
    start_all _ _ _ _ b c.walk_rows-survey.ensures c.walk_rows-survey.auto.region s c.walk_rows-started.ensures
