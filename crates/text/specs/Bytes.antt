-- Text as bytes. Definitions only.
use Rattle.std.specs.Prelude.{ℕ, zero, suc, List, [], ◌∷◌, Bool, true, false, cond, eqb}
use Prim.Native.Char.{code}
use Prim.Native.String.{String, len, char_at}

-- the n bytes of a text from i on
abbrev pub bytes_from : String → (i n : ℕ) → List ℕ
bytes_from s i zero = []
bytes_from s i (suc n) = code (char_at s i) ∷ bytes_from s (suc i) n

-- the bytes of a text, whose characters have a byte each
abbrev pub bytes : String → List ℕ
bytes s = bytes_from s 0 (len s)

-- whether two lists are the same
unfoldable pub same_list : List ℕ → List ℕ → Bool
same_list [] [] = true
same_list [] (y ∷ b) = false
same_list (x ∷ a) [] = false
same_list (x ∷ a) (y ∷ b) = cond (eqb x y) (same_list a b) false
