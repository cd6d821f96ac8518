-- A line is answered with at most 32 bytes, and the end of the input with 96. Assumes nothing.
use Prim.Native.Nat.{ℕ, ◌+◌, ◌≤◌}
use mathlib.Core.List.{List, ◌++◌}
use mathlib.Core.Bool.{Bool, true, false, cond}
use native.Mathlib.Omega.{arith}
use lib.Dec.{leb, eqb}
use lib.ListN.{length, take, length-append}
use Rattle.std.specs.Prelude.{Option, Some, None}
use Rattle.reals.specs.Words.{word_of}
use Rattle.dynamics.specs.Machine.{length_answer}
use Rattle.dynamics.specs.Answer.{Answer}
use Rattle.blocks.specs.Block.{machine_of}
use Rattle.blocks.specs.declared.block.Block.{Block}
use Rattle.blocks.specs.declared.block.Block.TheVariants.{Pid, PidWithReset, MovingAverage, TimerAccumulating, TrueDelay, TrueFalseHold, TrueHoldWithReset, LogicalVariablePulse}
use Rattle.blocks.specs.declared.block.Tick.{Tick}
use Rattle.lines.specs.Forms.{form_of}
use Rattle.lines.specs.Lines.{first_of, later_of}
use Rattle.text.specs.Bytes.{bytes}
use Rattle.text.proofs.Lengths.{length_word, length_flag, length_decimal_most}
use Rattle.session.specs.declared.state.Run.{Run}
use Rattle.session.specs.declared.state.Session.{Session}
use Rattle.session.specs.declared.state.Session.TheVariants.{Fresh, Running, Over}
use Rattle.session.specs.Answers.{block_text, refusal_text, output_text, outputs_text, answer_text}
use Rattle.session.specs.Stream.{Went, first_starts, first_names, tick_answered, tick_goes, goes_with, goes_on, line_in, Stream, line_ends, last_line, closing, ended}

abbrev Short : Went → Type 0
Short w = length w.text ≤ 32

either : (t : Bool) (v w : Went) → Short v → Short w → Short (cond t v w)
either true v w a b = a
either false v w a b = b

block_short : (b : Block) → length (block_text b) ≤ 32
block_short (Pid s) = omega arith
block_short (PidWithReset s) = omega arith
block_short (MovingAverage delta) = omega arith
block_short (TimerAccumulating t) = omega arith
block_short (TrueDelay time on_init) = omega arith
block_short (TrueFalseHold long_true long_false) = omega arith
block_short (TrueHoldWithReset duration) = omega arith
block_short (LogicalVariablePulse period delta least) = omega arith

-- the name alone
pub name_short : (b : Block) → length (form_of b).name ≤ 25
name_short b = omega (arith, block_short b, length-append (bytes "block " ++ (form_of b).name) (bytes "\n"), length-append (bytes "block ") (form_of b).name)

refusal_short : (n : ℕ) → length (refusal_text n) ≤ 32
refusal_short n = simp length-append (omega (arith, length_decimal_most n))

answer_short : (b : Block) (a : Answer) → length (answer_text b a) ≤ 32
unfolding answer_text outputs_text output_text
answer_short (Pid s) a = simp length-append (omega (arith, length_word (word_of a.real)))
answer_short (PidWithReset s) a = simp length-append (omega (arith, length_word (word_of a.real)))
answer_short (MovingAverage delta) a = simp length-append (omega (arith, length_word (word_of a.real)))
answer_short (TimerAccumulating t) a = simp length-append (omega (arith, length_word (word_of a.real), length_flag a.boolean))
answer_short (TrueDelay time on_init) a = simp length-append (omega (arith, length_flag a.boolean))
answer_short (TrueFalseHold long_true long_false) a = simp length-append (omega (arith, length_flag a.boolean))
answer_short (TrueHoldWithReset duration) a = simp length-append (omega (arith, length_flag a.boolean))
answer_short (LogicalVariablePulse period delta least) a = simp length-append (omega (arith, length_flag a.boolean))

-- the outputs alone have a byte less
pub outputs_short : (b : Block) (a : Answer) → length (outputs_text (form_of b).outputs a) ≤ 31
unfolding answer_text
outputs_short b a = omega (arith, answer_short b a, length-append (outputs_text (form_of b).outputs a) (bytes "\n"))

answered_short : (region : List ℕ) (r : Run) (left : List ℕ) (a : Answer) → Short (tick_answered region r left a)
unfolding tick_answered
answered_short region r left a = either (eqb a.refusal 0) _ _ (answer_short r.block a) (refusal_short a.refusal)

tick_short : (region : List ℕ) (r : Run) (k : Tick) → Short (tick_goes region r k)
unfolding tick_goes
tick_short region r k = either (leb (length_answer (machine_of r.block)).length (length region)) _ _ (answered_short region r _ _) (omega arith)

start_short : (region : List ℕ) (b : Block) (n : ℕ) → Short (first_starts region b n)
unfolding first_starts
start_short region b n = either (leb n (length region)) _ _ (block_short b) (omega arith)

open_short : (region : List ℕ) (nm : Option Block) → Short (first_names region nm)
unfolding first_names
open_short region None = omega arith
open_short region (Some b) =
    either (eqb (length_answer (machine_of b)).refusal 0) _ _ (start_short region b _) (refusal_short (length_answer (machine_of b)).refusal)

on_short : (region : List ℕ) (r : Run) (k : Option Tick) → Short (goes_with region r k)
on_short region r (Some k) = tick_short region r k
on_short region r None = omega arith

pub line_short : (region : List ℕ) (s : Session) (line : List ℕ) → length (line_in region s line).text ≤ 32
unfolding line_in goes_on
line_short region Fresh line = open_short region (first_of line)
line_short region (Running r) line = on_short region r (later_of r.block line)
line_short region Over line = omega arith

-- ---- the end

closing_short : (s : Session) → length (closing s) ≤ 64
closing_short Fresh = omega arith
closing_short (Running r) = simp length-append (omega (arith, length_decimal_most r.accepted, length_decimal_most r.refused))
closing_short Over = omega arith

pub end_short : (st : Stream) → length (ended st) ≤ length st.text + 96
unfolding ended last_line line_ends
end_short st = go (eqb st.held 0)
  where
    go : (t : Bool) → let z = cond t st (line_ends st) in length (z.text ++ closing z.session) ≤ length st.text + 96
    go true = omega (arith, length-append st.text (closing st.session), closing_short st.session)
    go false =
        let w = line_in st.words st.session (take st.held st.carry) in
        omega (arith, length-append (st.text ++ w.text) (closing w.session), length-append st.text w.text, closing_short w.session, line_short st.words st.session (take st.held st.carry))
