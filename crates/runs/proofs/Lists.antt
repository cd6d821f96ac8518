-- Lists of words that are read a tick at a time and stored an answer at a time. Assumes nothing.
use mathlib.Core.Path.{◌≡◌, ap, ◌∙◌}
use mathlib.Core.List.{List, [], ◌∷◌, ◌++◌, append-nil}
use Prim.Native.Nat.{ℕ, suc, ◌+◌, ◌≤◌, ◌<◌}
use native.Mathlib.Numerals.{add-one, add-two, add-three, add-four}
use native.Mathlib.Omega.{arith}
use lib.ListN.{length, drop, get_or, set, drop_of_length-le}
use lib.Seq.{drop-cons, sets, sets-eq}

-- the words from a place on: four of them, and those from four places further on
pub drop_four : (l : List ℕ) (i : ℕ) → i + 4 ≤ length l
    → drop i l ≡ get_or l i 0 ∷ get_or l (i + 1) 0 ∷ get_or l (i + 2) 0 ∷ get_or l (i + 3) 0 ∷ drop (i + 4) l
drop_four l i h =
    let h0 : i < length l = omega arith in
    let h1 : suc i < length l = omega arith in
    let h2 : suc (suc i) < length l = omega arith in
    let h3 : suc (suc (suc i)) < length l = omega arith in
    rw (
      add-one,
      add-two,
      add-three,
      add-four,
      drop-cons l i 0 h0,
      drop-cons l (suc i) 0 h1,
      drop-cons l (suc (suc i)) 0 h2,
      drop-cons l (suc (suc (suc i))) 0 h3,
    )

-- words stored one list behind the other
pub sets_behind : (l words more : List ℕ) (i : ℕ) → sets l i (words ++ more) ≡ sets (sets l i words) (i + length words) more
sets_behind l [] more i = let same : i ≡ i + 0 = omega arith in ap (λ (k : ℕ). sets l k more) same
sets_behind l (w ∷ words) more i =
    let same : suc i + length words ≡ i + suc (length words) = omega arith in
    sets_behind (set l i w) words more (suc i) ∙ ap (λ (k : ℕ). sets (sets (set l i w) (suc i) words) k more) same

-- stored from the front, as many words as the list has take its place
pub sets_all : (l words : List ℕ) → length words ≡ length l → sets l 0 words ≡ words
sets_all l words h =
    let fits : 0 + length words ≤ length l = omega arith in
    let over : length l ≤ 0 + length words = omega arith in
    sets-eq words l 0 fits ∙ rw (drop_of_length-le l over) (append-nil words)
