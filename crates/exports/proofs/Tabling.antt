-- Rows that are read from words into a table, one after the other: what a row's words say, and what a loop over the rows keeps. Assumes nothing.
use Prim.Native.Nat.{ℕ, zero, suc, ◌+◌, ◌*◌, ◌-◌, ◌/◌, ◌%◌, ◌≤◌, ◌<◌}
use native.Mathlib.Numerals.{add-one}
use native.Mathlib.Omega.{arith}
use mathlib.Core.Path.{◌≡◌, refl, sym, ◌∙◌, ap}
use mathlib.Core.Bool.{Bool, true, false, cond}
use mathlib.Core.Logic.{⊎_elim}
use Rattle.std.specs.Prelude.{Some, None}
use Rattle.std.specs.Borrow.{Bor}
use mathlib.Core.Option.{Option, none, some, none-ne-some, some-injective}
use mathlib.Core.List.{List, [], ◌∷◌, ◌++◌, append-nil}
use borrow.Author.Tests.{ltb-true, ltb-false, eq-eqb, ne_eqb}
use lib.Dec.{eqb, ltb}
use lib.ListN.{length, get_or, take, drop, set, length-set, length-drop, length-append}
use lib.Seq.{take_at, drop_at, length-take-le, take_all, append_snoc, take-append-le, set_out, take-suc-set, drop-drop}
use Rattle.blocks.specs.Named.{controller_settings, named_by}
use Rattle.blocks.specs.declared.block.Block.{Block}
use Rattle.std.specs.Prelude as block
use Rattle.sheet.specs.declared.row.Row.{Row}
use Rattle.sheet.proofs.Stretches.{either}
use Rattle.exports.specs.Calls.{by_name}
use Rattle.sheet.specs.Table.{table_rows, rows_of}
use Rattle.exports.specs.Sheets.{settings_at, words_per_row, settings_read, row_with, row_by, below, rows_by, rows_named, by_rows, Bare, Tabled}
use Rattle.sheet.specs.declared.table.Table.{Table}

-- ---- a row
-- its settings lie within its words
pub few_settings : (n : ℕ) {read : ℕ} → read ≡ settings_read n → read ≤ controller_settings
unfolding settings_read
few_settings n e = rw e (go (ltb n 2) (eqb n 4) (eqb n 5) (eqb n 7))
  where
    go : (a b c d : Bool) → cond a controller_settings (cond b 2 (cond c 2 (cond d 3 1))) ≤ controller_settings
    go true b c d = omega arith
    go false true c d = omega arith
    go false false true d = omega arith
    go false false false true = omega arith
    go false false false false = omega arith

module _ (w : List ℕ) (n : ℕ) (few : n ≡ settings_read (get_or w 0 0)) {b : block.Option Block} (reads : b ≡ named_by (get_or w 0 0) (take (settings_at + n - settings_at) (drop settings_at w))) where
  row_is : row_by w ≡ by_name b (λ x. some (row_with w x)) none
  unfolding row_by
  row_is =
      let cut : settings_at + n - settings_at ≡ n = omega arith in
      sym (ap (λ (x : block.Option Block). by_name x (λ y. some (row_with w y)) none) (reads ∙ ap (λ (k : ℕ). named_by (get_or w 0 0) (take k (drop settings_at w))) (cut ∙ few)))

  -- with a block, and without
  pub row_named : {x : Block} {r : Row} → b ≡ block.Some x → r ≡ row_with w x → row_by w ≡ some r
  unfolding by_name
  row_named e is = rw (← is) at (rw e at row_is)

  pub row_nothing : b ≡ block.None → row_by w ≡ none
  unfolding by_name
  row_nothing e = rw e at row_is

-- ---- rows with others above them
abbrev under : List Row → Option (List Row) → Option (List Row)
under rs none = none
under rs (some ss) = some (rs ++ ss)

under_none : (o : Option (List Row)) → o ≡ under [] o
under_none none = refl
under_none (some ss) = refl

under_more : (rs : List Row) (r : Row) (o : Option (List Row)) → under rs (below (some r) o) ≡ under (rs ++ (r ∷ [])) o
unfolding below
under_more rs r none = refl
under_more rs r (some ss) = ap some (sym (append_snoc rs r ss))

-- ---- the first places of a table, with one row more
module _ (xs rs : List Row) (i : ℕ) (r : Row) (full : length xs ≡ table_rows) (many : length rs ≡ i) (shows : take i xs ≡ take table_rows rs) where
  more_shown : take (i + 1) (set xs i r) ≡ take table_rows (rs ++ (r ∷ []))
  more_shown = ⊎_elim
      (λ e.
      let few : i < table_rows = ltb-true i table_rows e in
      let one : length (rs ++ (r ∷ [])) ≡ length rs + 1 = length-append rs (r ∷ []) in
      ap (λ (k : ℕ). take k (set xs i r)) (add-one i)
      ∙ take-suc-set xs i r (omega (arith, few, full))
      ∙ ap (λ (ys : List Row). ys ++ (r ∷ [])) (shows ∙ take_all table_rows rs (omega (arith, few, many)))
      ∙ sym (take_all table_rows (rs ++ (r ∷ [])) (omega (arith, few, one, many))))
      (λ e.
      let past : table_rows ≤ i = ltb-false i table_rows e in
      ap (take (i + 1)) (set_out xs i r (omega (arith, past, full)))
      ∙ take_all (i + 1) xs (omega (arith, past, full))
      ∙ sym (take_all i xs (omega (arith, past, full)))
      ∙ shows
      ∙ sym (take-append-le table_rows rs (r ∷ []) (omega (arith, past, many))))
      (either (ltb i table_rows))

-- ---- what the loop keeps: so many rows were read, these words are left, and the places show the first of the rows
pub record Tabling (w : List ℕ) (t : Table) (rest : List ℕ) : Type 0 where
  pub left : ℕ
  pub so_far : List Row
  pub long : length rest ≡ words_per_row * left
  pub reaches : words_per_row * t.count + length rest ≡ length w
  pub full : length t.rows ≡ table_rows
  pub many : length so_far ≡ t.count
  pub rows : rows_by (length w / words_per_row) w ≡ under so_far (rows_by left rest)
  pub shows : take t.count t.rows ≡ take table_rows so_far

module _ (w : List ℕ) where
  -- at the start
  pub tabling_none : {t : Table} {rest : List ℕ} → length w % words_per_row ≡ 0 → Bare t → rest ≡ w → Tabling w t rest
  tabling_none {t} whole bare e = rw e (record {
    left = length w / words_per_row;
    so_far = [];
    long = omega (arith, whole);
    reaches = omega (arith, bare.none_yet);
    full = bare.places;
    many = sym bare.none_yet;
    rows = under_none (rows_by (length w / words_per_row) w);
    shows = rw bare.none_yet refl;
  })

  module _ (row more : List ℕ) {t : Table} {rest : List ℕ} (on : Tabling w t rest) (next : rest ≡ row ++ more) (whole : length row ≡ words_per_row) where
    -- what is left begins with this row
    begins : {x : Option Row} → row_by row ≡ x → (n : ℕ) → on.left ≡ suc n → rows_by (length w / words_per_row) w ≡ under on.so_far (below x (rows_by n more))
    unfolding rows_by
    begins reads n z = on.rows ∙ rw (z, next, take_at row more words_per_row whole, drop_at row more words_per_row whole, reads) refl

    length_is : length rest ≡ words_per_row + length more
    length_is = rw (next, length-append row more, whole) refl

    some_left : (n : ℕ) → on.left ≡ n → (m : ℕ) × (on.left ≡ suc m)
    some_left zero z = absurd (omega (arith, z, on.long, length_is))
    some_left (suc n) z = (n, z)

    -- one row more, at the next place
    pub tabling_more : {r : Row} → row_by row ≡ some r → Tabling w (record { rows = set t.rows t.count r; count = t.count + 1 }) more
    tabling_more {r} reads =
        let (n, z) = some_left on.left refl in
        record {
          left = n;
          so_far = on.so_far ++ (r ∷ []);
          long = omega (arith, z, on.long, length_is);
          reaches = omega (arith, on.reaches, length_is);
          full = length-set t.rows t.count r ∙ on.full;
          many = length-append on.so_far (r ∷ []) ∙ ap (λ (k : ℕ). k + 1) on.many;
          rows = begins reads n z ∙ under_more on.so_far r (rows_by n more);
          shows = more_shown t.rows on.so_far t.count r on.full on.many on.shows;
        }

    -- the same past the last place
    pub tabling_past : {r : Row} → row_by row ≡ some r → table_rows ≤ t.count → Tabling w (record { rows = t.rows; count = t.count + 1 }) more
    tabling_past {r} reads past = rw (set_out t.rows t.count r (omega (arith, past, on.full))) at (tabling_more reads)

    -- a row that names no block
    pub tabling_nothing : row_by row ≡ none → rows_by (length w / words_per_row) w ≡ none
    unfolding below
    tabling_nothing reads = let (n, z) = some_left on.left refl in begins reads n z

  -- at the end
  pub tabling_all : {t : Table} {rest : List ℕ} (on : Tabling w t rest) → length rest < words_per_row → rows_by (length w / words_per_row) w ≡ some on.so_far
  unfolding rows_by
  tabling_all on h =
      let z : on.left ≡ 0 = omega (arith, h, on.long) in
      on.rows ∙ rw z (ap some (append-nil on.so_far))

-- ---- the rows that are lent
module _ (w : List ℕ) where
  no_rows : rows_named w ≡ none → Tabled (rows_named w) None
  unfolding by_rows
  no_rows e = rw e (record { named = refl; first = λ rs lent z. absurd (none-ne-some rs z) })

  -- the words are not whole rows
  pub tabled_odd : (length w % words_per_row ≡ 0 → ⊥) → Tabled (rows_named w) None
  unfolding rows_named
  tabled_odd h = no_rows (rw (ne_eqb _ _ h) refl)

  -- a row names no block
  pub tabled_nothing : length w % words_per_row ≡ 0 → rows_by (length w / words_per_row) w ≡ none → Tabled (rows_named w) None
  unfolding rows_named
  tabled_nothing whole e = no_rows (rw (eq-eqb _ _ whole, e) refl)

  -- every row names one
  pub tabled_all : {t : Table} {rest : List ℕ} → length w % words_per_row ≡ 0 → Tabling w t rest → length rest < words_per_row → {lent : Bor (List Row)} → lent.now ≡ rows_of t → Tabled (rows_named w) (Some lent)
  unfolding rows_named by_rows
  tabled_all whole on h {lent} is =
      let named : rows_named w ≡ some on.so_far = rw (eq-eqb _ _ whole, tabling_all w on h) refl in
      rw named (record { named = refl; first = λ rs other y z. let e : other ≡ lent = cc in rw (e, is) (on.shows ∙ ap (take table_rows) (some-injective on.so_far rs y)) })
