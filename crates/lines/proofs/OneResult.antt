-- Each public call's contract admits one result only. Assumes nothing.
use Rattle.reals.proofs.Once.{Once, equation_once}
use Rattle.lines.proofs.first.first_line.Reads as first_line
use Rattle.lines.proofs.later.later_line.Reads as later_line

pub first_line_once : Once first_line.Post
first_line_once = equation_once

pub later_line_once : Once later_line.Post
later_line_once = equation_once
