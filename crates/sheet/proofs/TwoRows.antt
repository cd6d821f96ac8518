-- What `wiped_alike` asks is met by a sheet on two regions that differ, a fresh one and one of garbage words, in which the row above resets the row that is wiped. Assumes nothing.
use Prim.Native.Nat.{ℕ}
use native.Mathlib.Omega.{arith}
use mathlib.Core.Path.{◌≡◌, refl, ap}
use mathlib.Core.Bool.{true}
use mathlib.Core.List.{List, [], ◌∷◌, ◌++◌}
use lib.ListN.{get_or}
use lib.Ieee.{round, of_bits, to_bits, lt, le, add, sub}
use Rattle.reals.specs.Words.{0·0, nearest}
use Rattle.reals.proofs.Words.{nearest_fits}
use Rattle.dynamics.specs.Previous.{previous_of}
use Rattle.dynamics.specs.Answer.{refusal_of, accept}
use Rattle.dynamics.specs.Machine.{emit_answer, tick_refusal}
use Rattle.dynamics.specs.Stepped.{stepped_machine}
use Rattle.timer_accumulating.specs.TimerAccumulating.{state_of, words_of, advance, next, y_now, passed_now}
use Rattle.blocks.specs.Block.{machine_of, inputs_of, fresh, ticked}
use Rattle.blocks.specs.Wiping.{account_of}
use Rattle.blocks.specs.declared.block.Block.TheVariants.{TimerAccumulating}
use Rattle.sheet.specs.Rows.{width_of, placed, every}
use Rattle.sheet.specs.Sheet.{all_reach, tick_number, row_tick, Fed, feed, fed_below, fed}
use Rattle.sheet.specs.Single.{At, Brought, own_tick, received}
use Rattle.sheet.specs.Wiping.{WipedRow, WipedAlike}
use Rattle.sheet.specs.declared.row.Row.{Row}

-- a clock that has passed as soon as its input is true, its input in word 0 and its reset in word 1; and a soak clock of two seconds, its input in word 0
-- and its reset in column 9: what the clock above answers in the same tick for passed
abbrev warm : Row
warm = record { block = TimerAccumulating 0·0; first = 0; second = 1; third = 0 }

abbrev clock : Row
clock = record { block = TimerAccumulating (nearest 2 1); first = 0; second = 9; third = 0 }

abbrev both_rows : List Row
both_rows = warm ∷ clock ∷ []

abbrev space : List ℕ
space = 0 ∷ 0 ∷ 0 ∷ 0 ∷ []

-- a tick at 1.0 in which the input is true
abbrev closes : Brought
closes = record { tick = record { time = nearest 1 1; words = 1 ∷ 0 ∷ 0 ∷ 0 ∷ 0 ∷ 0 ∷ 0 ∷ 0 ∷ [] }; is_f64 = nearest_fits 1 1 }

-- the soak clock on a stretch of these words, with a true above as its reset
abbrev fed_clock : List ℕ → Fed
fed_clock w = feed closes.tick (0 ∷ 1 ∷ []) (record { row = clock; words = w })

-- it is wiped by this tick, on a region in which both rows have these words
abbrev on : (w : List ℕ) → tick_number (nearest 1 1) both_rows (w ++ w) space ≡ 0 → (account_of clock.block).wipes_on (own_tick closes (fed_clock w)) w ≡ true
    → At 1 (fed_clock w) (fed closes.tick both_rows (w ++ w)) → WipedRow
on w ok wipes there = record {
  rows = both_rows;
  space = space;
  region = w ++ w;
  place = 1;
  row = fed_clock w;
  tick = closes;
  since = [];
  there = there;
  can_wipe = refl;
  accepted = ok;
  wiping = wipes;
}

-- a total that is no number, a previous time just above zero, an input and a passed that are neither 0 nor 1
abbrev garbage : List ℕ
garbage = 0x7ff0_0000_dead_beef ∷ 0x0000_0000_dead_beef ∷ 0xdead_beef ∷ 0 ∷ 7 ∷ []

pub they_differ : fresh clock.block ≡ garbage → ⊥
unfolding machine_of stepped_machine words_of
they_differ e = let z : ◌≡◌ {A = ℕ} 0 0xdead_beef = ap (λ (w : List ℕ). get_or w 2 0) e in omega arith

pub on_fresh : WipedRow
unfolding machine_of account_of inputs_of ticked row_tick stepped_machine emit_answer tick_refusal accept state_of words_of advance next y_now passed_now tick_number all_reach every width_of placed fed_below At refusal_of previous_of round lt le add sub of_bits to_bits
on_fresh = on (fresh clock.block) refl refl refl

pub on_garbage : WipedRow
unfolding machine_of account_of inputs_of ticked row_tick stepped_machine emit_answer tick_refusal accept state_of words_of advance next y_now passed_now tick_number all_reach every width_of placed fed_below At refusal_of previous_of round lt le add sub of_bits to_bits
on_garbage = on garbage refl refl refl

pub both_wiped : WipedAlike on_fresh on_garbage
unfolding on_fresh on_garbage received
both_wiped = record { block = refl; tick = refl; since = refl }
