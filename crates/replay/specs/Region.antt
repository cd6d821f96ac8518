-- A region's stored words. Definitions only.
use Rattle.std.specs.Prelude.{Option, Some, None, ℕ, zero, suc, ◌+◌, ◌*◌, ◌≡◌, List, [], ◌∷◌, Bool, true, false, length, take, drop, get_or, set}

-- n words, each given by its place and itself, put into a region
unfoldable pub paired : ℕ → List ℕ → List ℕ → List ℕ
paired zero words old = old
paired (suc n) [] old = old
paired (suc n) (place ∷ []) old = old
paired (suc n) (place ∷ w ∷ words) old = paired n words (set old place w)

-- what the words from `at` on make of a region: its words by pairs, which their number leads, or all of its words
unfoldable pub filled : Bool → List ℕ → ℕ → List ℕ → List ℕ
filled true words at old = paired (get_or words at 0) (drop (at + 1) words) old
filled false words at old = take (length old) (drop at words)

-- where they end
unfoldable pub ending : Bool → List ℕ → ℕ → List ℕ → ℕ
ending true words at old = at + 1 + 2 * get_or words at 0
ending false words at old = at + length old

-- they end there, and have made this region
pub record Filled (pairs : Bool) (words : List ℕ) (at : ℕ) (old : List ℕ) (next : ℕ) (new : List ℕ) : Type 0 where
  pub ends : next ≡ ending pairs words at old
  pub holds : new ≡ filled pairs words at old

-- so it is, unless the words are no region's
abbrev pub PutIn : Bool → List ℕ → ℕ → List ℕ → Option ℕ → List ℕ → Type 0
PutIn pairs words at old (Some next) new = Filled pairs words at old next new
PutIn pairs words at old None new = Unit {0}
