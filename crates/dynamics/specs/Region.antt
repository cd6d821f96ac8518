-- A region is a list of words. Definitions only.
use Rattle.std.specs.Prelude.{ℕ, ◌≡◌, cond, List, eqb, length}

-- the words in place of a region of their length; another region stays
abbrev pub stored : List ℕ → List ℕ → List ℕ
stored region words = cond (eqb (length region) (length words)) words region

-- the contract of a call that writes: it gives this answer and leaves these words
pub record Gives {A : Type 0} (answer : A) (words : List ℕ) (r : A) (left : List ℕ) : Type 0 where
  pub answers : r ≡ answer
  pub leaves : left ≡ words
