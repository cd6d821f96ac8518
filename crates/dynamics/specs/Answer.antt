-- What a call on one block answers, and the table of refusals. Definitions only.
use Rattle.std.specs.Prelude.{ℕ, ◌≡◌, zero, suc, Bool, true, false, not, Float, Result, Ok, Err, IfOk}
use Rattle.std.specs.Float.Ieee.Scale.{finite}
use Rattle.reals.specs.Words.{0·0}
use Rattle.dynamics.specs.Previous.{runs_back, Previous}
use Rattle.dynamics.specs.declared.call.Reply.{Reply}
use Rattle.dynamics.specs.declared.refusal.Refusal.{Refusal}
use Rattle.dynamics.specs.declared.refusal.Refusal.TheVariants as variant

-- ---- outputs: an output that a block lacks is 0.0 or false
pub record Outputs : Type 0 where
  pub real : Float
  pub boolean : Bool

abbrev pub both_outputs : Float → Bool → Outputs
both_outputs x b = record { real = x; boolean = b }

abbrev pub real_output : Float → Outputs
real_output x = both_outputs x false

abbrev pub boolean_output : Bool → Outputs
boolean_output b = both_outputs 0·0 b

-- ---- answers
-- what a call says: its refusal number, 0 where it is accepted, its outputs and its warning
pub record Answer : Type 0 where
  pub refusal : ℕ
  pub real : Float
  pub boolean : Bool
  pub warning : Bool

-- a refusal returns its number, 0.0, false and no warning; with 0 it is a call that is accepted and has nothing to say
abbrev pub silent : ℕ → Answer
silent n = record { refusal = n; real = 0·0; boolean = false; warning = false }

-- a whole tick, an emit and then an update: the outputs of the one, the warning of the other
abbrev pub answered : Outputs → Bool → Answer
answered o warning = record { refusal = 0; real = o.real; boolean = o.boolean; warning = warning }

-- an accepted emit never warns, and an accepted update hands out 0.0 and false
abbrev pub emitted : Outputs → Answer
emitted o = answered o false

abbrev pub updated : Bool → Answer
updated warning = answered (both_outputs 0·0 false) warning

-- ---- refusals
-- The number of the first test that fails, in the table's order; 0 is accepted. A test is true where it passes:
--   1 shape     a sheet has 1 to 16 rows, and each column names a word
--   2 settings  each is finite
--   3 length    the region has the state's length
--   4 space     a sheet's answer space has two words per row
--   5 time      the tick's time is finite
--   6 state     the previous time is unset or finite, and a ring's head and count lie within its capacity
--   7 order     the time is not below a set previous one
unfoldable pub refusal_of : (shape settings length space time state order : Bool) → ℕ
refusal_of false settings length space time state order = 1
refusal_of true false length space time state order = 2
refusal_of true true false space time state order = 3
refusal_of true true true false time state order = 4
refusal_of true true true true false state order = 5
refusal_of true true true true true false order = 6
refusal_of true true true true true true false = 7
refusal_of true true true true true true true = 0

-- the number of each test, by its name
abbrev pub number : Refusal → ℕ
number variant.Shape = 1
number variant.Settings = 2
number variant.Length = 3
number variant.Space = 4
number variant.Time = 5
number variant.State = 6
number variant.Order = 7

-- the number of a call: 0 where it is accepted
abbrev pub number_of : {X : Type 0} → Result X Refusal → ℕ
number_of (Ok x) = 0
number_of (Err r) = number r

-- what is handed out, beside a call's number
abbrev pub answer_with : ℕ → Reply → Answer
answer_with n a = record { refusal = n; real = a.real; boolean = a.boolean; warning = a.warning }

-- what a call's result says: what was handed out, or with a refusal its number and zeros
abbrev pub said : Reply → Answer
said a = answer_with 0 a

abbrev pub answer_of : Result Reply Refusal → Answer
answer_of (Ok a) = said a
answer_of (Err r) = silent (number r)

-- a call that has this number, and brings this where it is accepted
pub record Brings {X : Type 0} (n : ℕ) (x : X) (r : Result X Refusal) : Type 0 where
  pub number : number_of r ≡ n
  pub value : IfOk r (λ y. y ≡ x)

-- a test that a call does not make
abbrev pub skipped : Bool
skipped = true

-- tests 2 and 3 alone, tests 6 and 7 alone, and tests 5 to 7 of a tick at this time
unfoldable pub form_refusal : (settings length : Bool) → ℕ
form_refusal settings length = refusal_of skipped settings length skipped skipped skipped skipped

unfoldable pub later_refusal : Float → Bool → Previous → ℕ
later_refusal time decodes previous = refusal_of skipped skipped skipped skipped skipped decodes (not (runs_back time previous))

unfoldable pub time_refusal : Float → Bool → Previous → ℕ
time_refusal time decodes previous = refusal_of skipped skipped skipped skipped (finite time) decodes (not (runs_back time previous))

-- what a call with this refusal number gives: the first if it is accepted, the second if not
unfoldable pub accept : {X : Type 0} → ℕ → X → X → X
accept zero x y = x
accept (suc n) x y = y

-- a state length tests 2 alone; with a refusal it is 0
pub record Length : Type 0 where
  pub refusal : ℕ
  pub length : ℕ

unfoldable pub length_of : (settings : Bool) (size : ℕ) → Length
length_of settings size = record { refusal = form_refusal settings skipped; length = accept (form_refusal settings skipped) size 0 }

abbrev pub length_read : Result ℕ Refusal → Length
length_read (Ok n) = record { refusal = 0; length = n }
length_read (Err r) = record { refusal = number r; length = 0 }
