-- A start on as many words as the state has is not refused, if the settings are accepted. Assumes nothing.
use mathlib.Core.Path.{◌≡◌, refl, ap, ◌∙◌}
use mathlib.Core.Bool.{Bool, true, false}
use mathlib.Core.List.{List}
use Prim.Native.Nat.{ℕ, ◌≤◌}
use native.Mathlib.Omega.{arith}
use borrow.Author.Tests.{eq-eqb}
use lib.Dec.{eqb}
use lib.ListN.{length, take}
use lib.Seq.{length-take-le}
use Rattle.std.specs.Prelude.{Result, Ok, Err, IsOk}
use Rattle.dynamics.specs.Answer.{Length, length_of, length_read, number_of, form_refusal, refusal_of, accept}
use Rattle.dynamics.specs.Machine.{Machine, length_answer, start_refusal}
use Rattle.dynamics.specs.declared.refusal.Refusal.{Refusal}
use Rattle.dynamics.proofs.Opening.{some_number}

-- the length of a state is read off one settings test, and a start makes the same
module _ (n : ℕ) (w : List ℕ) (size : length w ≡ n) where
  tested : (settings : Bool) (k : ℕ) → length_read (Ok n) ≡ length_of settings k → form_refusal settings (eqb (length w) k) ≡ 0
  unfolding length_of form_refusal refusal_of accept
  tested true k e = rw (eq-eqb _ _ (size ∙ ap (λ (l : Length). l.length) e)) refl
  tested false k e = let z : ◌≡◌ {A = ℕ} 0 2 = ap (λ (l : Length). l.refusal) e in absurd (omega arith)

  start_0 : (M : Machine) → length_read (Ok n) ≡ length_answer M → start_refusal M w ≡ 0
  unfolding start_refusal length_answer
  start_0 M e = tested M.accepts M.size e

accepted : (r : Result (Unit {0}) Refusal) → number_of r ≡ 0 → IsOk r
accepted (Ok x) e = refl
accepted (Err r) e = absurd (some_number r e)

pub starts : (M : Machine) (n : ℕ) (region : List ℕ) (r : Result (Unit {0}) Refusal) → length_read (Ok n) ≡ length_answer M → n ≤ length region
    → number_of r ≡ start_refusal M (take n region) → IsOk r
starts M n region r e room number = accepted r (number ∙ start_0 n (take n region) (length-take-le n region room) M e)
