-- Refusal numbers by the first test that fails, and what a call gives by its number. Assumes nothing.
use mathlib.Core.Path.{◌≡◌, refl, sym}
use mathlib.Core.Bool.{Bool, true, false}
use Prim.Native.Nat.{ℕ, zero, suc}
use native.Mathlib.Omega.{arith}
use Rattle.dynamics.specs.Answer.{accept, refusal_of, skipped, form_refusal}

-- an accepted call passed every test
pub all_passed : (shape settings length space time state order : Bool) → refusal_of shape settings length space time state order ≡ 0
    → (shape ≡ true) × (settings ≡ true) × (length ≡ true) × (space ≡ true) × (time ≡ true) × (state ≡ true) × (order ≡ true)
unfolding refusal_of
all_passed false s l a t d o e = let z : ◌≡◌ {A = ℕ} 1 0 = e in absurd (omega arith)
all_passed true false l a t d o e = let z : ◌≡◌ {A = ℕ} 2 0 = e in absurd (omega arith)
all_passed true true false a t d o e = let z : ◌≡◌ {A = ℕ} 3 0 = e in absurd (omega arith)
all_passed true true true false t d o e = let z : ◌≡◌ {A = ℕ} 4 0 = e in absurd (omega arith)
all_passed true true true true false d o e = let z : ◌≡◌ {A = ℕ} 5 0 = e in absurd (omega arith)
all_passed true true true true true false o e = let z : ◌≡◌ {A = ℕ} 6 0 = e in absurd (omega arith)
all_passed true true true true true true false e = let z : ◌≡◌ {A = ℕ} 7 0 = e in absurd (omega arith)
all_passed true true true true true true true e = (refl, refl, refl, refl, refl, refl, refl)

-- ---- the number of a call on one block, by the first test that fails
module _ (settings length time state order : Bool) where
  pub refused_6 : settings ≡ true → length ≡ true → time ≡ true → state ≡ false → 6 ≡ refusal_of skipped settings length skipped time state order
  unfolding refusal_of
  refused_6 s l t d = simp (s, l, t, d)

  pub refused_none : settings ≡ true → length ≡ true → time ≡ true → state ≡ true → order ≡ true → 0 ≡ refusal_of skipped settings length skipped time state order
  unfolding refusal_of
  refused_none s l t d o = simp (s, l, t, d, o)

-- tests 2 and 3 come first: one that fails there is the first that fails, and where both pass the others decide
module _ (settings length time state order : Bool) where
  pub form_fails : {n : ℕ} → n ≡ form_refusal settings length → (n ≡ 0 → ⊥) → n ≡ refusal_of skipped settings length skipped time state order
  unfolding form_refusal
  form_fails e h = go settings length e h
    where
      go : (s l : Bool) {n : ℕ} → n ≡ refusal_of skipped s l skipped skipped skipped skipped → (n ≡ 0 → ⊥) → n ≡ refusal_of skipped s l skipped time state order
      go true true e h = absurd (h (unfold refusal_of in e))
      go true false e h = unfold refusal_of in e
      go false l e h = unfold refusal_of in e

  pub form_passes : form_refusal settings length ≡ 0 → refusal_of skipped skipped skipped skipped time state order ≡ refusal_of skipped settings length skipped time state order
  unfolding form_refusal
  form_passes z = let (_, s, l, _, _, _, _) = all_passed skipped settings length skipped skipped skipped skipped z in simp (s, l)

-- ---- what a call gives
module _ {X : Type 0} (x y : X) where
  pub accepted : (n : ℕ) → 0 ≡ n → x ≡ accept n x y
  unfolding accept
  accepted n e = rw (sym e)

  pub refused : (n : ℕ) {m : ℕ} → m ≡ n → (m ≡ 0 → ⊥) → y ≡ accept n x y
  unfolding accept
  refused zero e h = absurd (h e)
  refused (suc n) e h = refl

-- two accounts that agree on what is accepted
pub accept_same : {X : Type 0} (n : ℕ) (x x' y : X) → (n ≡ 0 → x ≡ x') → accept n x y ≡ accept n x' y
unfolding accept
accept_same zero x x' y e = e refl
accept_same (suc n) x x' y e = refl

-- what is read off an answer may be read off both of its cases
pub accept_ap : {X Y : Type 0} (f : X → Y) (n : ℕ) (x y : X) → f (accept n x y) ≡ accept n (f x) (f y)
unfolding accept
accept_ap f zero x y = refl
accept_ap f (suc n) x y = refl

pub accept_const : {X : Type 0} (n : ℕ) (x : X) → accept n x x ≡ x
unfolding accept
accept_const zero x = refl
accept_const (suc n) x = refl
