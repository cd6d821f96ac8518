-- Tests over lists, and work on stretches of a region that lie end to end. Assumes nothing.
use Prim.Native.Nat.{ℕ, suc, ◌+◌, ◌-◌, ◌≤◌, ◌<◌}
use native.Mathlib.Omega.{arith}
use mathlib.Core.Path.{◌≡◌, refl, sym, ◌∙◌, ap}
use mathlib.Core.Bool.{Bool, true, false}
use mathlib.Core.Logic.{◌⊎◌, inl, inr}
use mathlib.Core.List.{List, [], ◌∷◌, ◌++◌, append_assoc}
use lib.ListN.{length, take, drop, set, length-append, length-set, length-drop}
use lib.Seq.{take_at, drop_at, length-take-le, take-suc-set, take-take, take-add}

-- ---- a test passes or it does not
pub either : (b : Bool) → (b ≡ true) ⊎ (b ≡ false)
either true = inl refl
either false = inr refl

-- ---- n words from `at`, and the list with others in their place
abbrev pub cut : ℕ → ℕ → List ℕ → List ℕ
cut at n ws = take n (drop at ws)

abbrev pub patched : ℕ → ℕ → List ℕ → List ℕ → List ℕ
patched at n ws ys = take at ws ++ (ys ++ drop n (drop at ws))

-- ---- other words in a stretch's place: those before them stay, and so do those behind
module _ (at n : ℕ) (ws ys : List ℕ) (fits : at + n ≤ length ws) (same : length ys ≡ n) where
  front : length (take at ws ++ ys) ≡ at + n
  front = simp (length-append, length-take-le at ws (omega arith)) (omega arith)

  pub take_put : take (at + n) (patched at n ws ys) ≡ take at ws ++ ys
  take_put = rw (← append_assoc) (take_at (take at ws ++ ys) (drop n (drop at ws)) (at + n) front)

  pub drop_put : drop (at + n) (patched at n ws ys) ≡ drop n (drop at ws)
  drop_put = rw (← append_assoc) (drop_at (take at ws ++ ys) (drop n (drop at ws)) (at + n) front)

  pub length_put : length (patched at n ws ys) ≡ length ws
  length_put = simp (length-append, length-take-le at ws (omega arith), length-drop) (omega arith)

-- ---- as many words as a row has, up to its end
pub up_to : (at n : ℕ) → (at + n) - at ≡ n
up_to at n = omega arith

pub cut_length : (at n : ℕ) (ws : List ℕ) → at + n ≤ length ws → length (cut at n ws) ≡ n
cut_length at n ws fits = length-take-le n (drop at ws) (omega (arith, length-drop at ws))

-- ---- two words more
module _ (at : ℕ) (ws : List ℕ) (x y : ℕ) where
  pub take_two : at + 1 < length ws → take (at + 2) (set (set ws at x) (at + 1) y) ≡ take at ws ++ (x ∷ y ∷ [])
  take_two h =
      let e : at + 2 ≡ suc (suc at) = omega arith in
      let e' : at + 1 ≡ suc at = omega arith in
      rw (e, e') (take-suc-set (set ws at x) (suc at) y (omega (arith, length-set ws at x))
      ∙ ap (λ (l : List ℕ). l ++ (y ∷ [])) (take-suc-set ws at x (omega arith)) ∙ append_assoc (take at ws) (x ∷ []) (y ∷ []))

  pub length_two : length (set (set ws at x) (at + 1) y) ≡ length ws
  length_two = length-set (set ws at x) (at + 1) y ∙ length-set ws at x

-- those behind the first n words
pub behind : (n : ℕ) (l ws more : List ℕ) (m : ℕ) → length ws ≡ n → take (n + m) l ≡ ws ++ more → take m (drop n l) ≡ more
behind n l ws more m long e =
    let first : take n l ≡ ws = sym (take-take n (n + m) l (omega arith)) ∙ ap (take n) e ∙ take_at ws more n long in
    sym (drop_at ws (take m (drop n l)) n long) ∙ ap (drop n) (sym (take-add n m l ∙ ap (λ (x : List ℕ). x ++ take m (drop n l)) first) ∙ e) ∙ drop_at ws more n long
