-- A walk over a sheet's rows, as the private functions' contracts say. Definitions only.
use Rattle.std.specs.Prelude.{ℕ, ◌+◌, ◌-◌, ◌*◌, ◌≡◌, Bool, true, false, not, ◌&&◌, ◌||◌, cond, List, [], ◌∷◌, ◌++◌, eqb, leb, length, take, drop, set, get_or, replicate, Float, Option, Some, None, Result, Ok, Err}
use Rattle.std.specs.Float.Ieee.Scale.{finite}
use Rattle.dynamics.specs.Machine.{length_answer, started_words, emit_answer, update_answer, updated_words}
use Rattle.blocks.specs.Block.{machine_of, answer_words, inputs_of}
use Rattle.blocks.specs.declared.block.OutputWords.{OutputWords}
use Rattle.blocks.specs.declared.block.Tick.{Tick}
use Rattle.sheet.specs.Sheet.{most_rows, input_words, row_answers, few_rows, in_reach}
use Rattle.sheet.specs.declared.row.Row.{Row}
use Rattle.sheet.specs.declared.row.SheetAnswer.{SheetAnswer}
use Rattle.sheet.specs.declared.seen.Seen.{Seen}
use Rattle.sheet.specs.declared.walk.Fault.{Fault}
use Rattle.sheet.specs.declared.walk.Walk.{Walk}

-- ---- a walk between rows
-- a fault's number, and its row
abbrev pub fault : ℕ → ℕ → Fault
fault n row = record { number = n; row = row }

-- ahead of the first row
abbrev pub ready : Walk
ready = record { fault = None; at = 0; warning = false }

-- a fault of this number in row n is noted, unless one of this number or a lower one was
abbrev pub no_lower : Option Fault → ℕ → Bool
no_lower None number = true
no_lower (Some f) number = not (leb f.number number)

abbrev pub is_new : Walk → ℕ → Bool
is_new w number = not (eqb number 0) && no_lower w.fault number

abbrev pub noted : Walk → ℕ → ℕ → Walk
noted w number n = record { fault = cond (is_new w number) (Some (fault number n)) w.fault; at = w.at; warning = w.warning }

-- past a row's words, and with what its update said
abbrev pub moved_to : Walk → ℕ → Walk
moved_to w end = record { fault = w.fault; at = end; warning = w.warning }

abbrev pub warned : Walk → Bool → Walk
warned w b = record { fault = w.fault; at = w.at; warning = w.warning || b }

-- where n words from `at` end, if they lie in a region of so many
abbrev pub past : ℕ → ℕ → ℕ → Option ℕ
past at n words = cond (leb (at + n) words) (Some (at + n)) None

-- ---- a row's turn
-- all that a walk carries from row to row
pub record Carried : Type 0 where
  pub found : Walk
  pub region : List ℕ
  pub seen : Seen

abbrev pub carried : Walk → List ℕ → Seen → Carried
carried w ws os = record { found = w; region = ws; seen = os }

-- a row's stretch, from where the row above ended up to its own end, and the region with other words in its place
abbrev pub stretch : ℕ → ℕ → List ℕ → List ℕ
stretch at end ws = take (end - at) (drop at ws)

abbrev pub put_at : ℕ → ℕ → List ℕ → List ℕ → List ℕ
put_at at end ws ys = take at ws ++ (ys ++ drop (end - at) (drop at ws))

-- a row's work on its stretch, if the words are there
abbrev pub works : ℕ → Carried → Carried → Carried
works end c done = cond (leb c.found.at end && leb end (length c.region)) done c

-- a call's own words: the tick's inputs, the answers of as many rows as there may be, and then where each row's words end
abbrev pub columns : ℕ
columns = input_words + row_answers * most_rows

-- row n's two answer words, behind the inputs and the answers of the rows above it, and where its words end
abbrev pub put_two : ℕ → OutputWords → Seen → Seen
put_two n two seen =
    let at = input_words + row_answers * n in
    record { words = set (set seen.words at two.first) (at + 1) two.second; ends = seen.ends }

abbrev pub put_end : ℕ → ℕ → Seen → Seen
put_end n end seen = record { words = seen.words; ends = set seen.ends n end }

abbrev pub end_in : Seen → ℕ → ℕ
end_in seen n = get_or seen.ends n 0

-- the end of a row's words by its block's length
abbrev pub end_of : Row → Walk → ℕ
end_of r w = w.at + (length_answer (machine_of r.block)).length

-- by the first that is wrong: a column, the settings, that the row's words lie in a region of so many
abbrev pub looked_at : {X : Type 0} → ℕ → ℕ → Row → Walk → (column settings words : X) → X → X
looked_at len n r w column settings words right =
    cond (in_reach n r) (cond (eqb (length_answer (machine_of r.block)).refusal 0) (cond (leb (end_of r w) len) right words) settings) column

-- a survey: tests 1 and 2, and of test 3 that the words are there; where they end is noted
unfoldable pub surveyed_row : ℕ → ℕ → Row → Walk → Walk
surveyed_row len n r w = looked_at len n r w (noted w 1 0) (noted w (length_answer (machine_of r.block)).refusal n) (noted w 3 0) (moved_to w (end_of r w))

unfoldable pub surveyed_ends : ℕ → ℕ → Row → Walk → Seen → Seen
surveyed_ends len n r w seen = looked_at len n r w seen seen seen (put_end n (end_of r w) seen)

-- the row's own tick: of the words in sight its columns name its inputs
unfoldable pub tick_by : Float → Seen → Row → Tick
tick_by time seen r = record {
  time = time;
  words = get_or seen.words r.first 0 ∷ get_or seen.words r.second 0 ∷ get_or seen.words r.third 0 ∷ 0 ∷ 0 ∷ 0 ∷ 0 ∷ 0 ∷ [];
}

-- an emit: its refusal is noted, and its answer words come into sight
unfoldable pub emitted_row : Float → ℕ → Row → Carried → Carried
emitted_row time n r c =
    let w = c.found in
    let end = end_in c.seen n in
    let a = emit_answer (machine_of r.block) time (inputs_of (tick_by time c.seen r)) (stretch w.at end c.region) in
    works end c (carried (moved_to (noted w a.refusal n) end) c.region (put_two n (answer_words r.block a) c.seen))

-- an update
unfoldable pub updated_row : Float → ℕ → Row → Carried → Carried
updated_row time n r c =
    let w = c.found in
    let end = end_in c.seen n in
    let i = inputs_of (tick_by time c.seen r) in
    let own = stretch w.at end c.region in
    works end c
    (carried (moved_to (warned w (update_answer (machine_of r.block) time i own).warning) end)
    (put_at w.at end c.region (updated_words (machine_of r.block) time i own)) c.seen)

-- a fresh start
unfoldable pub started_row : Row → Carried → Carried
started_row r c =
    let w = c.found in
    let end = end_of r w in
    works end c (carried (moved_to w end) (put_at w.at end c.region (started_words (machine_of r.block) (stretch w.at end c.region))) c.seen)

-- a pass over the rows: what it does, at this time, on row n
abbrev pub Turn : Type 0
Turn = Float → ℕ → Row → Carried → Carried

abbrev pub survey_turn : Turn
survey_turn time n r c = carried (surveyed_row (length c.region) n r c.found) c.region (surveyed_ends (length c.region) n r c.found c.seen)

abbrev pub start_turn : Turn
start_turn time n r c = started_row r c

-- ---- a walk over all rows, of which the first is row n
unfoldable pub walked : Turn → Float → ℕ → List Row → Carried → Carried
walked turned time n [] c = c
walked turned time n (r ∷ rs) c = walked turned time (n + 1) rs (turned time n r c)

-- the contract of a call that carries: what it returns and leaves
pub record Left (c : Carried) (r : Walk) (ws : List ℕ) (os : Seen) : Type 0 where
  pub found : r ≡ c.found
  pub region : ws ≡ c.region
  pub seen : os ≡ c.seen

-- ---- from one walk to the next
-- nothing, or this fault
abbrev pub refused : ℕ → Result Unit Fault
refused n = Err (fault n 0)

unfoldable pub begun : ℕ → Result Unit Fault
begun rows = cond (few_rows rows) (Ok tt) (refused 1)

-- a walk's fault ends the call
abbrev pub past_fault : Option Fault → Result Unit Fault → Result Unit Fault
past_fault None next = next
past_fault (Some f) next = Err f

abbrev pub without_fault : Walk → Result Unit Fault
without_fault w = past_fault w.fault (Ok tt)

-- a survey: test 3 too
unfoldable pub surveyed : Walk → ℕ → Result Unit Fault
surveyed w words = past_fault w.fault (cond (eqb w.at words) (Ok tt) (refused 3))

-- a tick's survey: tests 3, 4 and 5
unfoldable pub formed : Walk → ℕ → ℕ → ℕ → Float → Result Unit Fault
formed w rows words space time =
    past_fault w.fault
    (cond (eqb w.at words)
    (cond (eqb space (row_answers * rows))
    (cond (finite time) (Ok tt) (refused 5))
    (refused 4))
    (refused 3))

-- what a call answers by how it ended
abbrev pub answer_of : Result Bool Fault → SheetAnswer
answer_of (Ok b) = record { refusal = 0; row = 0; warning = b }
answer_of (Err f) = record { refusal = f.number; row = f.row; warning = false }

-- ---- a call's own words before the first row: none in sight, or a tick's inputs; and what is handed out of them, unless the call was refused
abbrev pub blank : Seen
blank = record { words = replicate columns 0; ends = replicate most_rows 0 }

pub record InSight (k : Tick) (seen : Seen) : Type 0 where
  pub eight : length k.words ≡ input_words
  pub words : seen.words ≡ k.words ++ replicate (row_answers * most_rows) 0
  pub ends : seen.ends ≡ replicate most_rows 0

abbrev pub handed_out : Result Bool Fault → Seen → List ℕ → List ℕ
handed_out (Ok b) seen os = take (length os) (drop input_words seen.words)
handed_out (Err f) seen os = os

-- ---- a start's two walks, and a tick's three
-- a call at its end
pub record Ended : Type 0 where
  pub said : Result Bool Fault
  pub region : List ℕ
  pub seen : Seen

-- a fault ends it with what was carried; else it goes on
abbrev pub unless : Result Unit Fault → Carried → Ended → Ended
unless (Ok x) c next = next
unless (Err f) c next = record { said = Err f; region = c.region; seen = c.seen }

abbrev pub done : Carried → Ended
done c = record { said = Ok c.found.warning; region = c.region; seen = c.seen }

-- one walk more over all rows
abbrev pub again : Turn → Float → List Row → Carried → Carried
again turned time rs c = walked turned time 0 rs (carried ready c.region c.seen)

abbrev pub starting : Float → List Row → List ℕ → Seen → Ended
starting time rs ws seen =
    let c = carried ready ws seen in
    let looked = again survey_turn time rs c in
    unless (begun (length rs)) c (unless (surveyed looked.found (length ws)) looked (done (again start_turn time rs looked)))

abbrev pub ticking : Float → List Row → List ℕ → Seen → ℕ → Ended
ticking time rs ws seen space =
    let c = carried ready ws seen in
    let looked = again survey_turn time rs c in
    let emits = again emitted_row time rs looked in
    unless (begun (length rs)) c
    (unless (formed looked.found (length rs) (length ws) space time) looked
    (unless (without_fault emits.found) emits (done (again updated_row time rs emits))))
