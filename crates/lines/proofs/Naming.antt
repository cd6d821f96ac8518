-- The first line by its parts: where the name ends, the number that it leads to, and the settings behind it. Assumes nothing.
use Prim.Native.Nat.{ℕ, suc, ◌+◌, ◌≤◌, ◌<◌}
use Prim.Native.Char.{code}
use mathlib.Core.Path.{◌≡◌, refl, sym, ap, ◌∙◌}
use mathlib.Core.List.{List, [], ◌∷◌, map}
use mathlib.Core.Bool.{Bool, true, false, cond, not}
use native.Mathlib.Omega.{arith}
use borrow.Author.Tests.{ltb-false}
use lib.Dec.{eqb, ltb}
use lib.ListN.{length, take, drop}
use lib.Pointwise.{pointwise}
use lib.Seq.{take_at}
use Rattle.std.specs.Prelude.{Option, Some, None, option_and_then}
use Rattle.std.specs.Bool.{then_some}
use Rattle.std.proofs.lemmas.List.{length-map}
use Rattle.std.proofs.lemmas.Option.{none-some}
use Rattle.std.specs.List.{position, position_or_len}
use Rattle.text.specs.Bytes.{same_list}
use Rattle.text.specs.Stretches.{up_to}
use Rattle.text.proofs.Comparing.{same_pointwise}
use Rattle.blocks.specs.Named.{named_by}
use Rattle.blocks.proofs.Names.{above}
use Rattle.lines.specs.Forms.{Form, rows_before, number_for, form_at}
use Rattle.lines.specs.Lines.{named_with, first_of}
use Rattle.lines.specs.Values.{items_from, words_said, laid_out}
use Rattle.lines.proofs.Items.{first_item, items_short}
use Rattle.lines.proofs.Words.{Counts, counted}

-- the place of the first row of a name
pub placed : {X : Type 0} (named : X → List ℕ) (name : List ℕ) (rows : List X) (fs : List Form) → map named rows ≡ map (λ (f : Form). f.name) fs
    → position (λ x. pointwise eqb name (named x)) rows ≡ then_some (ltb (rows_before name fs) (length fs)) (rows_before name fs)
unfolding rows_before
placed {X} named name rows fs e =
    let long : length rows ≡ length fs = sym (length-map rows named) ∙ ap length e ∙ length-map fs (λ (f : Form). f.name) in
    rw (before rows fs e, long) (told (ltb (rows_before name fs) (length fs)) (rows_before name fs))
  where
    before : (rows : List X) (fs : List Form) → map named rows ≡ map (λ (f : Form). f.name) fs
        → position_or_len (λ x. pointwise eqb name (named x)) rows ≡ rows_before name fs
    before [] [] e = refl
    before [] (f ∷ fs) e = cc
    before (x ∷ rows) [] e = cc
    before (x ∷ rows) (f ∷ fs) e =
        let here : named x ≡ f.name = cc in
        let later : map named rows ≡ map (λ (f : Form). f.name) fs = cc in
        rw (here, same_pointwise) (go (same_list name f.name) (before rows fs later))
      where
        go : (t : Bool) {n m : ℕ} → n ≡ m → cond (not t) (1 + n) 0 ≡ cond t 0 (suc m)
        go true e = refl
        go false e = omega arith

    told : (t : Bool) (n : ℕ) → cond t (Some n) None ≡ then_some t n
    told true n = refl
    told false n = refl

-- a number above 7 leads to no block
named_above : (n : ℕ) (w : Option (List ℕ)) → 7 < n → named_with n w ≡ None
named_above n (Some ws) h = above n ws h
named_above n None h = refl

-- words laid out as sixteen, and taken back
named_laid : (n k : ℕ) (w x : Option (List ℕ)) → Counts k w → x ≡ laid_out w → named_with n w ≡ option_and_then (λ ws. named_by n (take k ws)) x
named_laid n k (Some ws) x c e = rw (e, take_at ws _ k c)
named_laid n k None x c e = rw e

-- the name is the first item, and the settings are those after it
module _ (line : List ℕ) (end : ℕ) (short : length line ≤ 255) (ends : end ≡ 0 + up_to (code " ") (drop 0 line)) where
  abbrev number : ℕ
  number = number_for (take end line)

  by_parts : first_of line ≡ named_with number (words_said (form_at number).settings (items_from line (end + 1)))
  unfolding first_of
  by_parts =
      let size : up_to (code " ") line ≡ end = omega arith in
      let next : 0 + up_to (code " ") line + 1 ≡ end + 1 = omega arith in
      rw (items_short line short, first_item line 0 (omega arith), next, size)

  -- the name is no block's
  pub first_unknown : None ≡ then_some (ltb number 8) number → first_of line ≡ None
  first_unknown e = by_parts ∙ go (ltb number 8) refl e
    where
      go : (t : Bool) → ltb number 8 ≡ t → None ≡ then_some t number
          → named_with number (words_said (form_at number).settings (items_from line (end + 1))) ≡ None
      go true b e = absurd (none-some _ e)
      go false b e = let h = ltb-false number 8 b in named_above number _ (omega arith)

  -- it is one's, whose settings are read
  module _ (n : ℕ) (is : Some n ≡ then_some (ltb number 8) number) (s : List ℕ) (asked : s ≡ (form_at n).settings) where
    named_so : number ≡ n
    named_so = go (ltb number 8) is
      where
        go : (t : Bool) → Some n ≡ then_some t number → number ≡ n
        go true e = cc
        go false e = absurd (none-some _ (sym e))

    pub first_read : (x : Option (List ℕ)) → x ≡ laid_out (words_said s (items_from line (end + 1)))
        → first_of line ≡ option_and_then (λ (ws : List ℕ). named_by n (take (length s) ws)) x
    first_read x e =
        by_parts
        ∙ rw (named_so, ← asked)
        (named_laid n (length s) (words_said s (items_from line (end + 1))) x (counted s (items_from line (end + 1))) e)
