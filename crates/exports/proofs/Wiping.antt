-- Demand 3 over a sheet that words name: its rows have f64 settings, so it is for all words. Assumes nothing.
use Prim.Native.Nat.{ℕ, zero, suc, ◌%◌}
use mathlib.Core.Path.{◌≡◌, refl, sym, ap, subst}
use mathlib.Core.Bool.{Bool, true, false, cond}
use mathlib.Core.Option.{Option, none, some, none-ne-some, some-injective}
use mathlib.Core.List.{List, [], ◌∷◌}
use lib.Dec.{eqb}
use lib.ListN.{length, get_or, take, drop}
use Rattle.blocks.specs.Wiping.{SettingsF64}
use Rattle.std.specs.Prelude as block
use Rattle.blocks.specs.declared.block.Block.{Block}
use Rattle.blocks.proofs.Names.{settings_f64}
use Rattle.sheet.specs.Single.{At}
use Rattle.sheet.specs.Wiping.{WipedRow, RowRetold}
use Rattle.sheet.specs.declared.row.Row.{Row}
use Rattle.sheet.proofs.Wiping.{row_there, row_retold}
use Rattle.exports.specs.Calls.{by_name}
use Rattle.exports.specs.Sheets.{words_per_row, row_with, row_by, below, rows_by, rows_named}

-- ---- a row
block_named : (w : List ℕ) (n : block.Option Block) (r : Row) → by_name n (λ b. some (row_with w b)) none ≡ some r → n ≡ block.Some r.block
unfolding by_name
block_named w (block.Some b) r e = ap (λ (x : Row). block.Some x.block) (some-injective (row_with w b) r e)
block_named w block.None r e = absurd (none-ne-some r e)

row_f64 : (w : List ℕ) (r : Row) → row_by w ≡ some r → SettingsF64 r.block
unfolding row_by
row_f64 w r e = settings_f64 (get_or w 0 0) _ r.block (block_named w _ r e)

-- ---- all rows
record Parted (x : Option Row) (o : Option (List Row)) (rs : List Row) : Type 0 where
  first : Row
  rest : List Row
  is_row : x ≡ some first
  are_rows : o ≡ some rest
  whole : rs ≡ first ∷ rest

parted : (x : Option Row) (o : Option (List Row)) (rs : List Row) → below x o ≡ some rs → Parted x o rs
unfolding below
parted none o rs e = absurd (none-ne-some rs e)
parted (some r) none rs e = absurd (none-ne-some rs e)
parted (some r) (some ss) rs e = record { first = r; rest = ss; is_row = refl; are_rows = refl; whole = sym (some-injective (r ∷ ss) rs e) }

-- each of them, wherever it stands
abbrev EachF64 : List Row → Type 0
EachF64 rs = (n : ℕ) (r : Row) → At n r rs → SettingsF64 r.block

no_rows : EachF64 []
unfolding At
no_rows zero r a = absurd a
no_rows (suc n) r a = absurd a

one_more : (x : Row) (xs : List Row) → SettingsF64 x.block → EachF64 xs → EachF64 (x ∷ xs)
unfolding At
one_more x xs f more zero r a = subst (λ (y : Row). SettingsF64 y.block) (sym a) f
one_more x xs f more (suc n) r a = more n r a

each_f64 : (m : ℕ) (w : List ℕ) (rs : List Row) → rows_by m w ≡ some rs → EachF64 rs
unfolding rows_by
each_f64 zero w rs e = subst EachF64 (some-injective [] rs e) no_rows
each_f64 (suc m) w rs e =
    let p = parted (row_by (take words_per_row w)) (rows_by m (drop words_per_row w)) rs e in
    subst EachF64 (sym p.whole) (one_more p.first p.rest (row_f64 (take words_per_row w) p.first p.is_row) (each_f64 m (drop words_per_row w) p.rest p.are_rows))

pub rows_f64 : (w : List ℕ) (rs : List Row) → rows_named w ≡ some rs → EachF64 rs
unfolding rows_named
rows_f64 w rs e = each_f64 _ w rs (go (eqb (length w % words_per_row) 0) _ e)
  where
    go : (b : Bool) (o : Option (List Row)) → cond b o none ≡ some rs → o ≡ some rs
    go true o f = f
    go false o f = absurd (none-ne-some rs f)

-- a row that a tick of such a sheet wiped
pub row_retold_named : (w : List ℕ) (x : WipedRow) → rows_named w ≡ some x.rows → RowRetold x
row_retold_named w x e = row_retold x (rows_f64 w x.rows e x.place x.row.row (row_there x))
