-- The words of a line, one more read.
use Prim.Native.Nat.{ℕ, ◌+◌, ◌-◌, ◌*◌, ◌≤◌, ◌<◌}
use mathlib.Core.Path.{◌≡◌, refl, sym, ap, ◌∙◌}
use mathlib.Core.List.{List}
use mathlib.Core.Bool.{Bool, true, false, cond}
use native.Mathlib.Omega.{arith}
use borrow.Author.Count.{below_more}
use borrow.Author.Tests.{ne_eqb, leb-true, leb-false}
use lib.Dec.{eqb, leb}
use lib.ListN.{length, take, drop, get_or, set, length-set, length-take, length-drop}
use lib.Seq.{get_or-set_same, get_or-set_other}
use Rattle.std.proofs.Common.{Option, Some, None}
use Rattle.text.specs.Word.{word_item}
use Rattle.replay.specs.Line.{item_from, WordsOf}

-- fewer than sixteen bytes are no word
module _ (line : List ℕ) (at : ℕ) where
  pub short_item : length line - at < 16 → item_from line at ≡ None
  unfolding item_from word_item
  short_item h =
      let n : length (take 16 (drop at line)) ≡ 16 → ⊥ = simp (length-take, length-drop) (λ e. omega arith) in
      rw (ne_eqb _ _ n) (either (eqb (get_or line (at + 16) 32) 32))
    where
      either : (b : Bool) → cond {A = Option ℕ} b None None ≡ None
      either true = refl
      either false = refl

  pub long_item : (w : ℕ) → item_from line at ≡ Some w → 16 ≤ length line - at
  long_item w e = go (leb 16 (length line - at)) refl
    where
      go : (b : Bool) → leb 16 (length line - at) ≡ b → 16 ≤ length line - at
      go true t = leb-true 16 (length line - at) t
      go false t =
          let s = short_item (leb-false 16 (length line - at) t) in
          let z : ◌≡◌ {A = ℕ} 0 1 = cc in
          absurd (omega arith)

-- one word more
module _ (line words : List ℕ) (n w : ℕ) (inside : n < length words) (new : item_from line (n * 17) ≡ Some w)
    (old : (k : ℕ) → k < n → item_from line (k * 17) ≡ Some (get_or words k 0)) where
  pub each_more : (k : ℕ) → k < n + 1 → item_from line (k * 17) ≡ Some (get_or (set words n w) k 0)
  each_more =
      below_more (λ (k : ℕ). item_from line (k * 17) ≡ Some (get_or (set words n w) k 0)) n
      (λ k h. old k h ∙ ap (λ (v : ℕ). Some v) (sym (get_or-set_other words n k w 0 (λ e. omega arith))))
      (new ∙ ap (λ (v : ℕ). Some v) (sym (get_or-set_same words n w 0 inside)))

  pub last_word : length line - n * 17 ≤ 16 → WordsOf line (n + 1) (set words n w)
  last_word h = record {
    within = simp length-set (omega arith);
    each = each_more;
    whole = λ _. omega (arith, long_item line (n * 17) w new);
  }
