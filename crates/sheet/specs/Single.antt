-- What "a sheet equals its blocks run singly" says. Definitions only.
use Rattle.std.specs.Prelude.{ℕ, zero, suc, ◌*◌, ◌<◌, ◌≡◌, true, List, [], ◌∷◌, ◌++◌, map, T, take, drop, Float}
use Rattle.std.specs.Float.{binary64}
use Rattle.std.specs.Float.Ieee.{fits}
use Rattle.dynamics.specs.Answer.{accept}
use Rattle.dynamics.specs.Machine.{Machine, start_refusal, tick_refusal, started_words, is_sound, emit_answer, updated_words, Call, ticks, Seen, run, left_after}
use Rattle.dynamics.specs.Machine as call
use Rattle.dynamics.specs.declared.call.Inputs.{Inputs}
use Rattle.blocks.specs.Block.{machine_of, inputs_of, answer_words}
use Rattle.blocks.specs.declared.block.Block.{Block}
use Rattle.blocks.specs.declared.block.Tick.{Tick}
use Rattle.sheet.specs.Rows.{Placed, placed}
use Rattle.sheet.specs.Sheet.{row_answers, tick_number, row_tick, Fed, two_words, fed, tick_left, tick_answers}
use Rattle.sheet.specs.declared.row.Row.{Row}

-- x stands at place n of a list, from 0
unfoldable pub At : {A : Type 0} → ℕ → A → List A → Type 0
At n x [] = ⊥
At zero x (y ∷ ys) = x ≡ y
At (suc n) x (y ∷ ys) = At n x ys

-- the row with other words in its stretch
abbrev pub now_has : Placed → List ℕ → Placed
now_has p ws = record { row = p.row; words = ws }

-- row n after an accepted start: its block's own start is accepted, and its stretch is what that leaves
pub record StartsSingly (rs : List Row) (p : Placed) (n : ℕ) (left : List ℕ) : Type 0 where
  pub accepts : start_refusal (machine_of p.row.block) p.words ≡ 0
  pub leaves : At n (now_has p (started_words (machine_of p.row.block) p.words)) (placed rs left)

-- row n after an accepted tick: it received the words that its columns name, of the tick's and of those that this tick answers; its block's own emit and
-- update on these are accepted, its two answer words are those of the emit, and its stretch is what the update leaves
module _ (k : Tick) (rs : List Row) (q : Fed) (n : ℕ) (left out : List ℕ) where
  abbrev M : Machine
  M = machine_of q.row.block

  abbrev inputs : Inputs
  inputs = inputs_of q.received

  pub record TicksSingly : Type 0 where
    pub receives : q.received ≡ row_tick k out q.row
    pub accepts : tick_refusal M k.time q.words ≡ 0
    pub answers : take row_answers (drop (row_answers * n) out) ≡ two_words (answer_words q.row.block (emit_answer M k.time inputs q.words))
    pub leaves : At n (record { row = q.row; words = updated_words M k.time inputs q.words }) (placed rs left)

-- ---- any ticks of a sheet, refused ones too
-- a tick that a call brings: its time is an f64
pub record Brought : Type 0 where
  pub tick : Tick
  pub is_f64 : T (fits binary64 tick.time)

-- what a row received, as a tick of its block
abbrev pub own_tick : Brought → Fed → call.Tick
own_tick k q = record { time = k.tick.time; is_f64 = k.is_f64; inputs = inputs_of q.received }

-- row n's call, if there is such a row
unfoldable pub call_of : ℕ → Brought → List Fed → List Call
call_of n k [] = []
call_of zero k (q ∷ qs) = ticks (own_tick k q) ∷ []
call_of (suc n) k (q ∷ qs) = call_of n k qs

-- what is seen of a row at an accepted tick: its two answer words, and the stretch that it leaves
pub record RowSeen : Type 0 where
  pub answers : List ℕ
  pub stretch : List ℕ

unfoldable pub stretch_of : ℕ → List Placed → List ℕ
stretch_of n [] = []
stretch_of zero (p ∷ ps) = p.words
stretch_of (suc n) (p ∷ ps) = stretch_of n ps

module _ (rs : List Row) (space : List ℕ) where
  -- the region after the ticks: a refused one changes nothing
  unfoldable pub sheet_after : List ℕ → List Brought → List ℕ
  sheet_after ws [] = ws
  sheet_after ws (k ∷ ks) = sheet_after (tick_left k.tick rs ws space) ks

  -- these, if the sheet accepts the tick
  abbrev if_accepted : {X : Type 0} → Brought → List ℕ → List X → List X
  if_accepted k ws xs = accept (tick_number k.tick.time rs ws space) xs []

  -- the calls that row n's block received: a whole tick for each one that the sheet accepted
  unfoldable pub received : ℕ → List ℕ → List Brought → List Call
  received n ws [] = []
  received n ws (k ∷ ks) = if_accepted k ws (call_of n k (fed k.tick rs ws)) ++ received n (tick_left k.tick rs ws space) ks

  -- and what was seen of row n then
  abbrev pub seen_at : ℕ → Brought → List ℕ → RowSeen
  seen_at n k ws = record { answers = take row_answers (drop (row_answers * n) (tick_answers k.tick rs ws space)); stretch = stretch_of n (placed rs (tick_left k.tick rs ws space)) }

  unfoldable pub seen_of : ℕ → List ℕ → List Brought → List RowSeen
  seen_of n ws [] = []
  seen_of n ws (k ∷ ks) = if_accepted k ws (seen_at n k ws ∷ []) ++ seen_of n (tick_left k.tick rs ws space) ks

-- a call of a block, shown as a row's
abbrev pub shown_as : Block → Seen → RowSeen
shown_as b s = record { answers = two_words (answer_words b s.answer); stretch = s.left }

-- A sheet's row over any ticks: its block, run singly on the calls that the row received, shows all that is seen of the row and leaves its stretch.
module _ (rs : List Row) (space ws : List ℕ) (n : ℕ) (p : Placed) (ks : List Brought) where
  abbrev pub calls : List Call
  calls = received rs space n ws ks

  pub record RunsSingly : Type 0 where
    pub shows : seen_of rs space n ws ks ≡ map (shown_as p.row.block) (run (machine_of p.row.block) p.words calls)
    pub leaves : stretch_of n (placed rs (sheet_after rs space ws ks)) ≡ left_after (machine_of p.row.block) p.words calls

-- the stretch of row n, which has this block, is sound
abbrev pub RowSound : List Row → ℕ → Block → List ℕ → Type 0
RowSound rs n b ws = is_sound (machine_of b) (stretch_of n (placed rs ws)) ≡ true

-- ---- the row at fault
-- the number that a row's block, run singly on its own stretch, gives for a start and for a tick
abbrev pub own_start : Placed → ℕ
own_start p = start_refusal (machine_of p.row.block) p.words

abbrev pub own_number : Float → Placed → ℕ
own_number time p = tick_refusal (machine_of p.row.block) time p.words

-- row n is the topmost whose own number is this
pub record Topmost (own : Placed → ℕ) (number n : ℕ) (ps : List Placed) : Type 0 where
  pub row : Placed
  pub there : At n row ps
  pub its_own : own row ≡ number
  pub above : (i : ℕ) (p : Placed) → At i p ps → i < n → own p ≡ number → ⊥
