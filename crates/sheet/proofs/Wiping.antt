-- Demand 3 over a sheet: a row that a tick of the sheet wiped is what its block's history says from that tick on. Assumes nothing.
use Prim.Native.Nat.{ℕ, zero, suc}
use mathlib.Core.Path.{◌≡◌, refl, sym, ◌∙◌, ap}
use mathlib.Core.List.{List, [], ◌∷◌, ◌++◌, map}
use lib.ListN.{take, drop}
use Rattle.dynamics.specs.Machine.{Machine, updates, words_after, run, left_after}
use Rattle.dynamics.specs.History.{Account, Wiping, wiped}
use Rattle.dynamics.proofs.Histories.{wiped_clean}
use Rattle.blocks.specs.Block.{machine_of}
use Rattle.blocks.specs.Wiping.{account_of, SettingsF64}
use Rattle.blocks.specs.declared.block.Tick.{Tick}
use Rattle.blocks.proofs.Wiping as blocks
use Rattle.sheet.specs.Rows.{wide, placed}
use Rattle.sheet.specs.Sheet.{Fed, answers_of, feed, fed_below, tick_left, tick_answers}
use Rattle.sheet.specs.Single.{At, TicksSingly, shown_as, RunsSingly}
use Rattle.sheet.specs.Wiping.{WipedRow, block_of, wiping_tick, received_since, seen_since, stretch_since, RowRetold, WipedAlike, ShowAlike}
use Rattle.sheet.specs.declared.row.Row.{Row}
use Rattle.sheet.proofs.Single.{tick_singly}
use Rattle.sheet.proofs.Runs.{run_singly}

-- what is fed at a place is the row of that place
fed_row : (k : Tick) (above : List ℕ) (n : ℕ) (q : Fed) (rs : List Row) (ws : List ℕ) → At n q (fed_below k above (placed rs ws)) → At n q.row rs
unfolding At placed fed_below
fed_row k above zero q [] ws a = absurd a
fed_row k above (suc n) q [] ws a = absurd a
fed_row k above zero q (r ∷ rs) ws a = ap (λ (x : Fed). x.row) a
fed_row k above (suc n) q (r ∷ rs) ws a = fed_row k (above ++ answers_of (feed k above (record { row = r; words = take (wide r) ws }))) n q rs (drop (wide r) ws) a

module _ (x : WipedRow) where
  pub row_there : At x.place x.row.row x.rows
  row_there = fed_row x.tick.tick [] x.place x.row x.rows x.region x.there

  abbrev M : Machine
  M = machine_of (block_of x)

  abbrev A : Account
  A = account_of (block_of x)

  -- the words that the wiping tick leaves in the row's stretch
  abbrev begun : List ℕ
  begun = words_after M x.row.words (updates (wiping_tick x))

  singly : TicksSingly x.tick.tick x.rows x.row x.place (tick_left x.tick.tick x.rows x.region x.space) (tick_answers x.tick.tick x.rows x.region x.space)
  singly = tick_singly x.tick.tick x.rows x.region x.space x.accepted _ _ _ (record { answer = refl; region = refl; answers = refl }) x.place x.row x.there

  -- the wiping tick is one of the row's own block
  own : Wiping A M x.row.words (wiping_tick x)
  own = record { accepted = singly.accepts; wiping = x.wiping }

  runs : RunsSingly x.rows x.space (tick_left x.tick.tick x.rows x.region x.space) x.place (record { row = x.row.row; words = begun }) x.since
  unfolding words_after
  runs = run_singly x.rows x.space _ x.place _ x.since singly.leaves

  -- over any further ticks of the sheet
  pub row_retold : SettingsF64 (block_of x) → RowRetold x
  row_retold f64 = record {
    shows = runs.shows ∙ ap (map (shown_as (block_of x))) (blocks.told (block_of x) x.can_wipe f64 x.row.words (wiping_tick x) own (received_since x));
    leaves = runs.leaves ∙ (blocks.read_told (block_of x) x.can_wipe f64 x.row.words (wiping_tick x) own (received_since x)).words;
  }

  -- whatever the settings are, its block goes on from the words of the wiping tick alone
  clean : begun ≡ A.words (wiped (wiping_tick x))
  clean = wiped_clean M A (blocks.wiped_words (block_of x) x.can_wipe) x.row.words (wiping_tick x) own

  shows_clean : seen_since x ≡ map (shown_as (block_of x)) (run M (A.words (wiped (wiping_tick x))) (received_since x))
  shows_clean = runs.shows ∙ ap (λ (w : List ℕ). map (shown_as (block_of x)) (run M w (received_since x))) clean

  leaves_clean : stretch_since x ≡ left_after M (A.words (wiped (wiping_tick x))) (received_since x)
  leaves_clean = runs.leaves ∙ ap (λ (w : List ℕ). left_after M w (received_since x)) clean

-- so two rows that the same tick wiped show the same, as long as they receive the same
pub wiped_alike : (x y : WipedRow) → WipedAlike x y → ShowAlike x y
wiped_alike x y e = record {
  shows = shows_clean x ∙ (λ i. map (shown_as (e.block i)) (run (machine_of (e.block i)) ((account_of (e.block i)).words (wiped (e.tick i))) (e.since i))) ∙ sym (shows_clean y);
  leaves = leaves_clean x ∙ (λ i. left_after (machine_of (e.block i)) ((account_of (e.block i)).words (wiped (e.tick i))) (e.since i)) ∙ sym (leaves_clean y);
}
