-- Demand 3 over a sheet: a row that a tick of the sheet wiped, and what is seen of it since. Definitions only.
use Rattle.std.specs.Prelude.{ℕ, ◌≡◌, true, List, map}
use Rattle.dynamics.specs.Machine.{Call, Seen, Tick}
use Rattle.dynamics.specs.History.{wiped, retold, grown_through}
use Rattle.blocks.specs.Wiping.{wipeable, account_of}
use Rattle.blocks.specs.declared.block.Block.{Block}
use Rattle.sheet.specs.Rows.{placed}
use Rattle.sheet.specs.Sheet.{tick_number, Fed, fed, tick_left}
use Rattle.sheet.specs.Single.{At, Brought, own_tick, RowSeen, stretch_of, sheet_after, received, seen_of, shown_as}
use Rattle.sheet.specs.declared.row.Row.{Row}

-- A row of a sheet, the tick of the sheet that wiped it, and the sheet's ticks since, refused ones too.
pub record WipedRow : Type 0 where
  pub rows : List Row
  pub space : List ℕ
  pub region : List ℕ
  pub place : ℕ
  pub row : Fed
  pub tick : Brought
  pub since : List Brought
  -- the row stands there with its stretch and with what it received of the tick, and its block is one that a tick can wipe
  pub there : At place row (fed tick.tick rows region)
  pub can_wipe : wipeable row.row.block ≡ true
  -- the sheet accepts the tick, which by what the row received wipes its block
  pub accepted : tick_number tick.tick.time rows region space ≡ 0
  pub wiping : (account_of row.row.block).wipes_on (own_tick tick row) row.words ≡ true

module _ (x : WipedRow) where
  abbrev pub block_of : Block
  block_of = x.row.row.block

  -- the row's own part of the wiping tick, and the calls that its block received since
  abbrev pub wiping_tick : Tick
  wiping_tick = own_tick x.tick x.row

  abbrev after : List ℕ
  after = tick_left x.tick.tick x.rows x.region x.space

  abbrev pub received_since : List Call
  received_since = received x.rows x.space x.place after x.since

  -- what is seen of the row at each tick that the sheet accepted since, and the stretch that all of them leave
  abbrev pub seen_since : List RowSeen
  seen_since = seen_of x.rows x.space x.place after x.since

  abbrev pub stretch_since : List ℕ
  stretch_since = stretch_of x.place (placed x.rows (sheet_after x.rows x.space after x.since))

  -- what the block's history says from the wiping tick on
  abbrev pub told_since : List Seen
  told_since = retold (account_of block_of) (wiped wiping_tick) received_since

  -- Its answer words, its stretch at each accepted tick and the one that is left are what the history says. So nothing of what
  -- the region held before counts, and of the other rows nothing but which ticks the sheet accepted and the answers that it received.
  pub record RowRetold : Type 0 where
    pub shows : seen_since ≡ map (shown_as block_of) told_since
    pub leaves : stretch_since ≡ (account_of block_of).words (grown_through (account_of block_of) (wiped wiping_tick) received_since)

-- Two such rows, on two regions of one sheet or of two sheets: the same block, wiped by the same tick, with the same calls since.
pub record WipedAlike (x y : WipedRow) : Type 0 where
  pub block : block_of x ≡ block_of y
  pub tick : wiping_tick x ≡ wiping_tick y
  pub since : received_since x ≡ received_since y

-- They show the same, and are left with the same stretch.
pub record ShowAlike (x y : WipedRow) : Type 0 where
  pub shows : seen_since x ≡ seen_since y
  pub leaves : stretch_since x ≡ stretch_since y
