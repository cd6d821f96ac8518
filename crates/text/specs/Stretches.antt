-- Text taken apart at a byte that separates. Definitions only.
use Rattle.std.specs.Prelude.{ℕ, suc, List, [], ◌∷◌, ◌++◌, cond, eqb}

-- how many bytes of s stand before its first x
unfoldable pub up_to : ℕ → List ℕ → ℕ
up_to x [] = 0
up_to x (b ∷ s) = cond (eqb b x) 0 (suc (up_to x s))

-- the stretches of s between its bytes x, p being what the first of them begins with
unfoldable pub stretches : ℕ → List ℕ → List ℕ → List (List ℕ)
stretches x p [] = p ∷ []
stretches x p (b ∷ s) = cond (eqb b x) (p ∷ stretches x [] s) (stretches x (p ++ (b ∷ [])) s)
