-- Which rows' blocks accept a tick on their own stretch, and with which number they refuse it. Assumes nothing.
use Prim.Native.Nat.{ℕ, ◌<◌}
use native.Mathlib.Omega.{arith}
use mathlib.Core.Path.{◌≡◌, refl}
use mathlib.Core.Bool.{Bool, true, false, ◌&&◌}
use mathlib.Core.Logic.{◌⊎◌, inl, inr}
use mathlib.Core.List.{List, [], ◌∷◌}
use borrow.Author.Tests.{eq-eqb}
use lib.Dec.{eqb}
use lib.ListN.{length, take, drop, length-drop}
use lib.Seq.{length-take-le}
use lib.Ieee.{Float}
use lib.Ieee.Scale.{finite}
use Rattle.reals.proofs.Values.{both}
use Rattle.dynamics.specs.Answer.{refusal_of, skipped}
use Rattle.dynamics.specs.Machine.{sized, tick_refusal}
use Rattle.blocks.specs.Block.{machine_of}
use Rattle.sheet.specs.Rows.{wide, width_of, Placed, placed, every}
use Rattle.sheet.specs.Sheet.{settled, decodes, on_time}
use Rattle.sheet.specs.declared.row.Row.{Row}

-- ---- tests over a list
module _ {A : Type 0} (d f : A → Bool) where
  -- one that passes wherever another does
  pub every_more : ((x : A) → d x ≡ true → f x ≡ true) → (xs : List A) → every d xs ≡ true → every f xs ≡ true
  unfolding every
  every_more h [] e = refl
  every_more h (x ∷ xs) e = let (y, z) = both (d x) (every d xs) e in rw (h x y) (every_more h xs z)

  pub every_both : (xs : List A) → every d xs ≡ true → every f xs ≡ true → every (λ x. d x && f x) xs ≡ true
  unfolding every
  every_both [] e g = refl
  every_both (x ∷ xs) e g =
      let (a, b) = both (d x) (every d xs) e in
      let (u, v) = both (f x) (every f xs) g in
      rw (a, u) (every_both xs b v)

-- ---- no refusal, or one of a number above this
abbrev pub Above : ℕ → ℕ → Type 0
Above least m = (m ≡ 0) ⊎ (least < m)

-- ---- a row whose settings are accepted and whose stretch has its block's length
abbrev pub fitting : Placed → Bool
fitting p = settled p.row && sized (machine_of p.row.block) p.words

pub all_fit : (rs : List Row) (ws : List ℕ) → width_of rs ≡ length ws → every settled rs ≡ true → every fitting (placed rs ws) ≡ true
unfolding every width_of placed
all_fit [] ws all s = refl
all_fit (r ∷ rs) ws all s =
    let (s₁, s₂) = both (settled r) _ s in
    let l : length (take (wide r) ws) ≡ wide r = length-take-le (wide r) ws (omega (arith, all)) in
    rw (s₁, eq-eqb (length (take (wide r) ws)) (wide r) l) (all_fit rs (drop (wide r) ws) (omega (arith, all, length-drop (wide r) ws)) s₂)

-- ---- at a finite time its number is 6, 7 or 0
module _ (time : Float) (timely : finite time ≡ true) (x : Placed) (fits : fitting x ≡ true) where
  abbrev pub number : ℕ
  number = tick_refusal (machine_of x.row.block) time x.words

  number_is : number ≡ refusal_of skipped true true skipped true (decodes x) (on_time time x)
  unfolding tick_refusal
  number_is = let (s, l) = both (settled x.row) (sized (machine_of x.row.block) x.words) fits in rw (s, l, timely) refl

  pub gives_6 : decodes x ≡ false → number ≡ 6
  gives_6 e = rw (number_is, e) (unfold refusal_of in refl)

  pub not_6 : decodes x ≡ true → Above 6 number
  not_6 e = rw (number_is, e) (go (on_time time x))
    where
      go : (o : Bool) → Above 6 (refusal_of skipped true true skipped true true o)
      go true = unfold refusal_of in inl refl
      go false = unfold refusal_of in inr (omega arith)

  pub gives_7 : decodes x ≡ true → on_time time x ≡ false → number ≡ 7
  gives_7 d e = rw (number_is, d, e) (unfold refusal_of in refl)

  pub gives_0 : decodes x ≡ true → on_time time x ≡ true → number ≡ 0
  gives_0 d e = rw (number_is, d, e) (unfold refusal_of in refl)

-- the row's block accepts a tick at this time on its own stretch
abbrev pub accepts : Float → Placed → Bool
accepts time p = eqb (tick_refusal (machine_of p.row.block) time p.words) 0

pub all_accept : (time : Float) (rs : List Row) (ws : List ℕ) → width_of rs ≡ length ws → every settled rs ≡ true → finite time ≡ true
    → every decodes (placed rs ws) ≡ true → every (on_time time) (placed rs ws) ≡ true → every (accepts time) (placed rs ws) ≡ true
all_accept time rs ws all s t d o =
    every_more (λ x. fitting x && (decodes x && on_time time x)) (accepts time)
    (λ x e. let (f, more) = both (fitting x) _ e in let (a, b) = both (decodes x) _ more in eq-eqb _ _ (gives_0 time t x f a b))
    (placed rs ws) (every_both fitting (λ x. decodes x && on_time time x) (placed rs ws) (all_fit rs ws all s) (every_both decodes (on_time time) (placed rs ws) d o))
