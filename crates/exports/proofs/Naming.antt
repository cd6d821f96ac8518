-- A row's words name a block exactly when its number is at most 7 and, of a controller, its type at most 3. Assumes nothing.
use Prim.Native.Nat.{ℕ, zero, suc, ◌≤◌, ◌<◌}
use native.Mathlib.Omega.{arith}
use mathlib.Core.Path.{◌≡◌, refl, ◌∙◌, ap}
use mathlib.Core.Bool.{Bool, true, false, ◌&&◌, ◌||◌}
use mathlib.Core.Option.{Option, none, some}
use mathlib.Core.List.{List}
use borrow.Author.Tests.{le-ltb}
use lib.Dec.{eqb, leb, ltb}
use lib.ListN.{length, get_or, take, drop, length-drop}
use lib.Seq.{length-take-le, get_or-take, get_or-drop}
use Rattle.blocks.specs.Named.{named, controller_settings, names_controller, named_by}
use Rattle.blocks.specs.declared.block.Block.{Block}
use Rattle.std.specs.Prelude as block
use Rattle.blocks.proofs.Names.{above}
use Rattle.sheet.specs.declared.row.Row.{Row}
use Rattle.exports.specs.Calls.{by_name}
use Rattle.exports.specs.Sheets.{settings_at, words_per_row, settings_read, row_with, row_by}

-- whether words name a block
abbrev is_block : block.Option Block → Bool
is_block (block.Some b) = true
is_block block.None = false

abbrev pub is_row : Option Row → Bool
is_row (some r) = true
is_row none = false

-- a number and the first word of the settings
abbrev pub names_block : ℕ → ℕ → Bool
names_block n type = ltb n 8 && (leb 2 n || ltb type 4)

given : (are : Bool) (b : Block) → is_block (named are b) ≡ are
given true b = refl
given false b = refl

too_large : (n type : ℕ) (s : List ℕ) → 7 < n → is_block (named_by n s) ≡ names_block n type
too_large n type s h = rw (above n s h, le-ltb n 8 (omega (arith, h))) refl

-- settings of as many words as there are, or more
module _ (s : List ℕ) (many : controller_settings ≤ length s) where
  first : (n : ℕ) → n ≤ controller_settings → eqb (length (take n s)) n ≡ eqb n n
  first n h = rw (length-take-le n s (omega (arith, h, many))) refl

  type_told : names_controller (take controller_settings s) ≡ ltb (get_or s 0 0) 4
  unfolding names_controller
  type_told = rw (length-take-le controller_settings s many, get_or-take controller_settings s 0 0 (omega arith)) refl

  named_exactly : (n : ℕ) → is_block (named_by n (take (settings_read n) s)) ≡ names_block n (get_or s 0 0)
  unfolding settings_read named_by
  named_exactly zero = given (names_controller (take controller_settings s)) _ ∙ type_told
  named_exactly (suc zero) = given (names_controller (take controller_settings s)) _ ∙ type_told
  named_exactly (suc (suc zero)) = given _ _ ∙ first 1 (omega arith)
  named_exactly (suc (suc (suc zero))) = given _ _ ∙ first 1 (omega arith)
  named_exactly (suc (suc (suc (suc zero)))) = given _ _ ∙ first 2 (omega arith)
  named_exactly (suc (suc (suc (suc (suc zero))))) = given _ _ ∙ first 2 (omega arith)
  named_exactly (suc (suc (suc (suc (suc (suc zero)))))) = given _ _ ∙ first 1 (omega arith)
  named_exactly (suc (suc (suc (suc (suc (suc (suc zero))))))) = given _ _ ∙ first 3 (omega arith)
  named_exactly (suc (suc (suc (suc (suc (suc (suc (suc n)))))))) = too_large (suc (suc (suc (suc (suc (suc (suc (suc n)))))))) (get_or s 0 0) _ (omega arith)

row_by_lem : (w : List ℕ) (b : block.Option Block) → is_row (by_name b (λ x. some (row_with w x)) none) ≡ is_block b
unfolding by_name
row_by_lem w (block.Some b) = refl
row_by_lem w block.None = refl

pub row_exactly : (w : List ℕ) → words_per_row ≤ length w → is_row (row_by w) ≡ names_block (get_or w 0 0) (get_or w settings_at 0)
unfolding row_by
row_exactly w h =
    row_by_lem w _
    ∙ named_exactly (drop settings_at w) (omega (arith, h, length-drop settings_at w)) (get_or w 0 0)
    ∙ ap (names_block (get_or w 0 0)) (get_or-drop settings_at w 0 0)
