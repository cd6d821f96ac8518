-- Text taken apart at a byte x: where the first x stands, and the stretches between.
use Prim.Native.Nat.{ℕ, suc, ◌+◌, ◌≤◌, ◌<◌}
use mathlib.Core.Path.{◌≡◌, refl, ◌∙◌}
use mathlib.Core.List.{List, [], ◌∷◌, ◌++◌, append-nil}
use mathlib.Core.Bool.{Bool, true, false, cond}
use native.Mathlib.Numerals.{add-one}
use native.Mathlib.Omega.{arith}
use borrow.Author.Tests.{eq-eqb, ne_eqb, lt-ltb, le-ltb, lt-leb, le-leb, leb-true, leb-false}
use lib.Dec.{eqb, ltb, leb, leb-suc-suc}
use lib.ListN.{length, take, drop, get_or, length-drop, drop_of_length-le}
use lib.Seq.{append_snoc, drop-cons, drop-drop}
use Rattle.text.specs.Stretches.{up_to, stretches}

-- the byte at i, and those after it
module _ (x : ℕ) (s : List ℕ) (i : ℕ) (inside : i < length s) where
  pub up_to_here : get_or s i 0 ≡ x → up_to x (drop i s) ≡ 0
  unfolding up_to
  up_to_here e = rw (drop-cons s i 0, eq-eqb _ _ e)

  pub up_to_later : (get_or s i 0 ≡ x → ⊥) → up_to x (drop i s) ≡ suc (up_to x (drop (i + 1) s))
  unfolding up_to
  up_to_later n = rw (drop-cons s i 0, ne_eqb _ _ n, add-one)

-- no byte is left
pub up_to_end : (x : ℕ) (s : List ℕ) (i : ℕ) → length s ≤ i → up_to x (drop i s) ≡ 0
unfolding up_to
up_to_end x s i h = rw (drop_of_length-le s h)

-- ---- the first stretch, and the others

-- the stretches behind the first n bytes of s and the x after them
abbrev pub behind : ℕ → List ℕ → ℕ → List (List ℕ)
behind x s n = cond (ltb n (length s)) (stretches x [] (drop (suc n) s)) []

-- the first stretch ends at the first x
pub first_stretch : (x : ℕ) (p s : List ℕ) → stretches x p s ≡ (p ++ take (up_to x s) s) ∷ behind x s (up_to x s)
unfolding stretches up_to
first_stretch x p [] = rw append-nil
first_stretch x p (b ∷ s) = go (eqb b x) (first_stretch x (p ++ (b ∷ [])) s)
  where
    go : (t : Bool) → stretches x (p ++ (b ∷ [])) s ≡ (p ++ (b ∷ []) ++ take (up_to x s) s) ∷ behind x s (up_to x s)
        → cond t (p ∷ stretches x [] s) (stretches x (p ++ (b ∷ [])) s)
        ≡ (p ++ take (cond t 0 (suc (up_to x s))) (b ∷ s)) ∷ behind x (b ∷ s) (cond t 0 (suc (up_to x s)))
    go true e = rw (append-nil, lt-ltb 0 (suc (length s)) (omega arith))
    go false e = e ∙ rw (append_snoc, ← leb-suc-suc (suc (up_to x s)) (length s))

-- the stretches of s that start at `at` or later
abbrev pub stretches_from : ℕ → List ℕ → ℕ → List (List ℕ)
stretches_from x s at = cond (leb at (length s)) (stretches x [] (drop at s)) []

-- the one that starts at `at`, and those that start after its end
module _ (x : ℕ) (s : List ℕ) (at : ℕ) (within : at ≤ length s) where
  pub next_stretch : stretches_from x s at
      ≡ take (up_to x (drop at s)) (drop at s) ∷ stretches_from x s (at + up_to x (drop at s) + 1)
  next_stretch =
      rw (le-leb at (length s) within)
      (first_stretch x [] (drop at s) ∙ rw (tests (up_to x (drop at s)), drop-drop, moved (up_to x (drop at s))))
    where
      moved : (n : ℕ) → at + suc n ≡ at + n + 1
      moved n = omega arith

      tests : (n : ℕ) → ltb n (length (drop at s)) ≡ leb (at + n + 1) (length s)
      tests n = go (leb (at + n + 1) (length s)) refl
        where
          go : (t : Bool) → leb (at + n + 1) (length s) ≡ t → ltb n (length (drop at s)) ≡ t
          go true e =
              let h = leb-true (at + n + 1) (length s) e in
              lt-ltb n (length (drop at s)) (omega (arith, length-drop at s))
          go false e =
              let h = leb-false (at + n + 1) (length s) e in
              le-ltb n (length (drop at s)) (omega (arith, length-drop at s))

-- none starts past the end of s
pub no_stretch : (x : ℕ) (s : List ℕ) (at : ℕ) → length s < at → stretches_from x s at ≡ []
no_stretch x s at h = rw (lt-leb at (length s) h)
