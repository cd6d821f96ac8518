-- Two lists compared.
use Prim.Native.Nat.{ℕ}
use mathlib.Core.Path.{◌≡◌, refl, ap, ◌∙◌}
use mathlib.Core.List.{List, [], ◌∷◌}
use mathlib.Core.Bool.{Bool, true, false, cond, ◌&&◌}
use lib.Dec.{eqb}
use lib.Pointwise.{pointwise}
use lib.ListN.{length, get_or}
use Rattle.std.proofs.lemmas.Slice.Eq.{bytes_eq-Decides}
use Rattle.text.specs.Bytes.{same_list}

-- `==` of the library compares them so
pub same_pointwise : (a b : List ℕ) → pointwise eqb a b ≡ same_list a b
unfolding same_list
same_pointwise [] [] = refl
same_pointwise [] (y ∷ b) = refl
same_pointwise (x ∷ a) [] = refl
same_pointwise (x ∷ a) (y ∷ b) = go (eqb x y) (same_pointwise a b)
  where
    go : (t : Bool) → pointwise eqb a b ≡ same_list a b → (t && pointwise eqb a b) ≡ cond t (same_list a b) false
    go true e = e
    go false e = refl

-- lists that are found the same are equal
pub same_equal : (a b : List ℕ) → same_list a b ≡ true → a ≡ b
same_equal a b e = (bytes_eq-Decides a b).0 (same_pointwise a b ∙ e)

different : (a b : List ℕ) → (a ≡ b → ⊥) → same_list a b ≡ false
different a b n = go (same_list a b) (λ e. n (same_equal a b e))
  where
    go : (t : Bool) → (t ≡ true → ⊥) → t ≡ false
    go true h = absurd (h refl)
    go false h = refl

-- lists of two lengths are not the same
pub same_length : (a b : List ℕ) → (length a ≡ length b → ⊥) → same_list a b ≡ false
same_length a b n = different a b (λ e. n (ap length e))

-- nor lists that differ at a place
pub same_apart : (a b : List ℕ) (i : ℕ) → (get_or a i 0 ≡ get_or b i 0 → ⊥) → same_list a b ≡ false
same_apart a b i n = different a b (λ e. n (ap (λ (l : List ℕ). get_or l i 0) e))
