-- Each public call's contract admits one result only, one region and one list of answers; and a refusal writes nothing. Assumes nothing.
use Prim.Native.Nat.{ℕ}
use mathlib.Core.Path.{◌≡◌, refl, sym, ◌∙◌}
use mathlib.Core.List.{List}
use seplogic.Ra.Ura.{Ura}
use base.Logic.{SProp}
use prog.Memory.{Memory}
use prog.Routine.{Routine}
use types.Logic.{Logic}
use contract.Lifetimes.{Lfts}
use contract.Monad.{Fun, fact}
use denote.Triple.Entry.{Args}
use denote.Triple.Clauses.{AtExit}
use denote.Triple.Spec.{exits}
use Rattle.reals.proofs.Once.{OnceLeft}
use Rattle.dynamics.proofs.Accepted as by
use Rattle.blocks.specs.declared.block.Tick.{Tick}
use Rattle.sheet.specs.Sheet.{start_number, start_row, tick_number, row_at_fault, tick_said, refusing, SheetStarted, SheetTicked}
use Rattle.sheet.specs.declared.row.Row.{Row}
use Rattle.sheet.specs.declared.row.SheetAnswer.{SheetAnswer}
use Rattle.sheet.specs.contracts.start as start
use Rattle.sheet.specs.contracts.tick as tick
use Rattle.sheet.proofs.table.Table.shown.Reads as shown
use Rattle.sheet.proofs.table.start_table.Reads as start_table
use Rattle.sheet.proofs.table.tick_table.Reads as tick_table

-- ---- the rows that a table lends: one list, wherever it lies
pub shown_once : (κs : Lfts 1) (a : _) (x y : _) (s t : _) → shown.Post κs a x s → shown.Post κs a y t → x.now ≡ y.now
shown_once κs a x y s t p q = p ∙ sym q

-- ---- the calls that take a table: over the contract as the check reads it
pub start_table_once : OnceLeft start_table.Post (λ κs s. s.1.0.now)
start_table_once = record { alike = λ κs a x y s t p q. (p.answer ∙ sym q.answer, p.region ∙ sym q.region) }

pub tick_table_once : OnceLeft tick_table.Post (λ κs s. s.1.1.0.now)
tick_table_once = record { alike = λ κs a x y s t p q. (p.answer ∙ sym q.answer, p.region ∙ sym q.region) }

pub tick_table_once_said : OnceLeft tick_table.Post (λ κs s. s.1.1.1.0.now)
tick_table_once_said = record { alike = λ κs a x y s t p q. (p.answer ∙ sym q.answer, p.answers ∙ sym q.answers) }

-- ---- the calls whose rows are lent: over the `ensures` of the statement that is proved of them. At every model of the logic it is this fact of
-- what the call leaves
abbrev StartPost : (κs : Lfts 2) → Args start.signature κs → SheetAnswer → AtExit start.ended κs → Type 0
StartPost κs a r s = SheetStarted a.0.now a.1.0.now r s.1.0.now

abbrev TickPost : (κs : Lfts 3) → Args tick.signature κs → SheetAnswer → AtExit tick.ended κs → Type 0
TickPost κs a r s = SheetTicked a.1.0 a.0.now a.1.1.0.now a.1.1.1.0.now r s.1.1.0.now s.1.1.1.0.now

module _ {M : Type 1} {𝓤 : Ura M} (𝓛 : Logic 𝓤) (mem : Memory → SProp 𝓤) (run : Routine → Fun 𝓤) where
  pub start_says : (κs : Lfts 2) (a : Args start.signature κs) (r : SheetAnswer)
      → (start.spec 𝓛 mem run κs a).ensures tt r ≡ exits 𝓛 start.signature (start.ended).kept κs a (λ s. fact 𝓤 (StartPost κs a r s))
  start_says κs a r = refl

  pub tick_says : (κs : Lfts 3) (a : Args tick.signature κs) (r : SheetAnswer)
      → (tick.spec 𝓛 mem run κs a).ensures tt r ≡ exits 𝓛 tick.signature (tick.ended).kept κs a (λ s. fact 𝓤 (TickPost κs a r s))
  tick_says κs a r = refl

pub start_once : OnceLeft StartPost (λ κs s. s.1.0.now)
start_once = record { alike = λ κs a x y s t p q. (p.answer ∙ sym q.answer, p.region ∙ sym q.region) }

pub tick_once : OnceLeft TickPost (λ κs s. s.1.1.0.now)
tick_once = record { alike = λ κs a x y s t p q. (p.answer ∙ sym q.answer, p.region ∙ sym q.region) }

pub tick_once_said : OnceLeft TickPost (λ κs s. s.1.1.1.0.now)
tick_once_said = record { alike = λ κs a x y s t p q. (p.answer ∙ sym q.answer, p.answers ∙ sym q.answers) }

-- ---- a refused call answers its number, the row at fault and no warning, and leaves every word as it was
pub start_refused : {rs : List Row} {ws : List ℕ} {r : SheetAnswer} {u : List ℕ} → SheetStarted rs ws r u → (start_number rs ws ≡ 0 → ⊥)
    → (r ≡ refusing (start_number rs ws) (start_row (start_number rs ws) rs)) × (u ≡ ws)
start_refused d n = (d.answer, d.region ∙ sym (by.refused _ _ _ refl n))

pub tick_refused : {k : Tick} {rs : List Row} {ws os : List ℕ} {r : SheetAnswer} {u x : List ℕ} → SheetTicked k rs ws os r u x → (tick_number k.time rs ws os ≡ 0 → ⊥)
    → (r ≡ refusing (tick_number k.time rs ws os) (row_at_fault (tick_number k.time rs ws os) k.time rs ws)) × (u ≡ ws) × (x ≡ os)
unfolding tick_said
tick_refused d n = (d.answer ∙ sym (by.refused _ _ _ refl n), d.region ∙ sym (by.refused _ _ _ refl n), d.answers ∙ sym (by.refused _ _ _ refl n))
