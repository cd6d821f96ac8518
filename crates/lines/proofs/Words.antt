-- The words that items say, one item after another, and the sixteen words as the code has them. Assumes nothing.
use Prim.Native.Nat.{ℕ, zero, suc, ◌+◌, ◌-◌, ◌≤◌, ◌<◌}
use Prim.Native.Char.{code}
use mathlib.Core.Path.{◌≡◌, refl, ap, sym, ◌∙◌}
use mathlib.Core.List.{List, [], ◌∷◌}
use native.Mathlib.Omega.{arith}
use native.Mathlib.Nat.{zero-add, sub-zero, zero-sub, suc-sub-suc}
use native.Mathlib.Numerals.{add-one}
use lib.ListN.{length, take, drop, get_or, set, replicate, drop_of_length-le}
use lib.Seq.{drop-cons, sets, sets-eq}
use Rattle.std.specs.Prelude.{Option, Some, None}
use Rattle.text.specs.Stretches.{up_to}
use Rattle.lines.specs.Values.{item_of, items_from, ◌before◌, words_said, laid_out}
use Rattle.lines.proofs.Items.{first_item, no_item}

-- ---- items say as many words as classes are asked, if they say any

abbrev pub Counts : ℕ → Option (List ℕ) → Type 0
Counts n (Some ws) = length ws ≡ n
Counts n None = Unit {0}

pub counted : (classes : List ℕ) (items : List (List ℕ)) → Counts (length classes) (words_said classes items)
unfolding words_said
counted [] [] = refl
counted [] (i ∷ is) = tt
counted (c ∷ cs) [] = tt
counted (c ∷ cs) (i ∷ is) = more (item_of c i) (words_said cs is) (counted cs is)
  where
    more : (x : Option ℕ) (w : Option (List ℕ)) → Counts (length cs) w → Counts (suc (length cs)) (x before w)
    more (Some v) (Some ws) h = ap suc h
    more (Some v) None h = tt
    more None w h = tt

-- ---- words laid out one by one: w are the sixteen words with those before j in place

abbrev pub filled : List ℕ → ℕ → Option (List ℕ) → Option (List ℕ)
filled w j (Some ws) = Some (sets w j ws)
filled w j None = None

zeros_left : (n k : ℕ) → drop {A = ℕ} k (replicate n 0) ≡ replicate (n - k) 0
zeros_left n zero = rw sub-zero
zeros_left zero (suc k) = rw zero-sub
zeros_left (suc n) (suc k) = rw suc-sub-suc (zeros_left n k)

-- into zeros
pub filled_zeros : (classes : List ℕ) (items : List (List ℕ)) → length classes ≤ 16
    → filled (replicate 16 0) 0 (words_said classes items) ≡ laid_out (words_said classes items)
filled_zeros classes items h = all (words_said classes items) (counted classes items)
  where
    all : (w : Option (List ℕ)) → Counts (length classes) w → filled (replicate 16 0) 0 w ≡ laid_out w
    all (Some ws) n = rw (sets-eq ws (replicate 16 0) 0 (omega arith), zero-add, zeros_left 16 (length ws))
    all None n = refl

-- a class is left, and the item that starts at `next`
module _ (classes line w : List ℕ) (j next : ℕ) (left : j < length classes) where
  -- there is none
  pub filled_short : length line < next → filled w j (words_said (drop j classes) (items_from line next)) ≡ None
  unfolding words_said
  filled_short h = rw (drop-cons classes j 0 left, no_item line next h)

  module _ (within : next ≤ length line) (end : ℕ) (ends : end ≡ next + up_to (code " ") (drop next line)) where
    item_to : items_from line next ≡ take (end - next) (drop next line) ∷ items_from line (end + 1)
    item_to =
        let size : up_to (code " ") (drop next line) ≡ end - next = omega arith in
        first_item line next within
        ∙ ap (λ (n : ℕ). take n (drop next line) ∷ items_from line (next + up_to (code " ") (drop next line) + 1)) size
        ∙ ap (λ (n : ℕ). take (end - next) (drop next line) ∷ items_from line (n + 1)) (sym ends)

    -- it says a word
    pub filled_word : (v : ℕ) → item_of (get_or classes j 0) (take (end - next) (drop next line)) ≡ Some v
        → filled w j (words_said (drop j classes) (items_from line next))
        ≡ filled (set w j v) (j + 1) (words_said (drop (j + 1) classes) (items_from line (end + 1)))
    unfolding words_said
    filled_word v e = rw (drop-cons classes j 0 left, item_to, e, add-one j) (put (words_said (drop (suc j) classes) (items_from line (end + 1))))
      where
        put : (x : Option (List ℕ)) → filled w j (Some v before x) ≡ filled (set w j v) (suc j) x
        put (Some ws) = refl
        put None = refl

    -- it does not
    pub filled_bad : item_of (get_or classes j 0) (take (end - next) (drop next line)) ≡ None
        → filled w j (words_said (drop j classes) (items_from line next)) ≡ None
    unfolding words_said
    filled_bad e = rw (drop-cons classes j 0 left, item_to, e)

-- no class is left
module _ (classes line w : List ℕ) (j next : ℕ) (none : length classes ≤ j) where
  -- an item is
  pub filled_over : next ≤ length line → filled w j (words_said (drop j classes) (items_from line next)) ≡ None
  unfolding words_said
  filled_over h = rw (drop_of_length-le classes none, first_item line next h)

  -- nor an item
  pub filled_end : length line < next → filled w j (words_said (drop j classes) (items_from line next)) ≡ Some w
  unfolding words_said
  filled_end h = rw (drop_of_length-le classes none, no_item line next h)
