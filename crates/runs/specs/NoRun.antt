-- The numbers of a run that is none. Definitions only.
use Rattle.std.specs.Prelude.{ℕ, Result, Ok, Err}
use Rattle.dynamics.specs.Answer as table
use Rattle.runs.specs.Run.{bad_ticks}
use Rattle.runs.specs.declared.NoRun.{NoRun}
use Rattle.runs.specs.declared.NoRun.TheVariants.{BadTicks, Form}

abbrev pub number : NoRun → ℕ
number BadTicks = bad_ticks
number (Form refusal) = table.number refusal

-- 0 where it is a run
abbrev pub why : {X : Type 0} → Result X NoRun → ℕ
why (Ok x) = 0
why (Err e) = number e
