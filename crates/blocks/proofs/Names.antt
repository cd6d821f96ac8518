-- Words that name a block name the one of that number, with settings that are f64. Assumes nothing.
use mathlib.Core.Path.{◌≡◌, refl, sym, ◌∙◌, subst}
use mathlib.Core.Bool.{Bool, true, false}
use mathlib.Core.List.{List}
use Prim.Native.Nat.{ℕ, zero, suc, ◌<◌}
use native.Mathlib.Omega.{arith}
use borrow.Author.Tests.{ne_eqb}
use lib.Dec.{eqb}
use lib.ListN.{length, get_or}
use Rattle.std.specs.Prelude.{Some, None}
use Rattle.std.proofs.lemmas.Option.{none-some}
use Rattle.reals.specs.Words.{real_of, flag_of}
use Rattle.reals.proofs.Words.{real_fits}
use Rattle.blocks.specs.Block.{number_of}
use Rattle.blocks.specs.Named.{named, names_controller, config_of, named_by}
use Rattle.blocks.specs.Wiping.{SettingsF64}
use Rattle.blocks.specs.declared.block.Block.{Block}
use Rattle.blocks.specs.declared.block.Block.TheVariants.{Pid, PidWithReset, MovingAverage, TimerAccumulating, TrueDelay, TrueFalseHold, TrueHoldWithReset, LogicalVariablePulse}

given : (are : Bool) (c : Block) {b : Block} → named are c ≡ Some b → c ≡ b
given true c e = cc
given false c e = absurd (none-some _ e)

-- a number above 7 names nothing
pub above : (n : ℕ) (w : List ℕ) → 7 < n → named_by n w ≡ None
unfolding named_by
above n w l =
    simp (
      ne_eqb n 0 (λ z. omega (arith, l, z)),
      ne_eqb n 1 (λ z. omega (arith, l, z)),
      ne_eqb n 2 (λ z. omega (arith, l, z)),
      ne_eqb n 3 (λ z. omega (arith, l, z)),
      ne_eqb n 4 (λ z. omega (arith, l, z)),
      ne_eqb n 5 (λ z. omega (arith, l, z)),
      ne_eqb n 6 (λ z. omega (arith, l, z)),
      ne_eqb n 7 (λ z. omega (arith, l, z)),
    )

-- what is so of each block that words can be the settings of is so of the one that they name
module _ (P : ℕ → Block → Type 0) (w : List ℕ)
    (pid : P 0 (Pid (config_of w))) (with_reset : P 1 (PidWithReset (config_of w))) (average : P 2 (MovingAverage (real_of (get_or w 0 0))))
    (accumulating : P 3 (TimerAccumulating (real_of (get_or w 0 0)))) (delay : P 4 (TrueDelay (real_of (get_or w 0 0)) (flag_of (get_or w 1 0))))
    (false_hold : P 5 (TrueFalseHold (real_of (get_or w 0 0)) (real_of (get_or w 1 0)))) (reset_hold : P 6 (TrueHoldWithReset (real_of (get_or w 0 0))))
    (pulse : P 7 (LogicalVariablePulse (real_of (get_or w 0 0)) (real_of (get_or w 1 0)) (real_of (get_or w 2 0)))) where
  pub each : (n : ℕ) (b : Block) → named_by n w ≡ Some b → P n b
  unfolding named_by
  each zero b e = subst (P 0) (given (names_controller w) _ e) pid
  each (suc zero) b e = subst (P 1) (given (names_controller w) _ e) with_reset
  each (suc (suc zero)) b e = subst (P 2) (given (eqb (length w) 1) _ e) average
  each (suc (suc (suc zero))) b e = subst (P 3) (given (eqb (length w) 1) _ e) accumulating
  each (suc (suc (suc (suc zero)))) b e = subst (P 4) (given (eqb (length w) 2) _ e) delay
  each (suc (suc (suc (suc (suc zero))))) b e = subst (P 5) (given (eqb (length w) 2) _ e) false_hold
  each (suc (suc (suc (suc (suc (suc zero)))))) b e = subst (P 6) (given (eqb (length w) 1) _ e) reset_hold
  each (suc (suc (suc (suc (suc (suc (suc zero))))))) b e = subst (P 7) (given (eqb (length w) 3) _ e) pulse
  each (suc (suc (suc (suc (suc (suc (suc (suc n)))))))) b e = absurd (none-some _ (sym (above (suc (suc (suc (suc (suc (suc (suc (suc n)))))))) w (omega arith)) ∙ e))

pub numbered : (n : ℕ) (w : List ℕ) (b : Block) → named_by n w ≡ Some b → number_of b ≡ n
numbered n w = each (λ m b. number_of b ≡ m) w refl refl refl refl refl refl refl refl n

-- a real that a word means is an f64
pub settings_f64 : (n : ℕ) (w : List ℕ) (b : Block) → named_by n w ≡ Some b → SettingsF64 b
unfolding config_of
settings_f64 n w = each (λ m b. SettingsF64 b) w tt (real_fits (get_or w 9 0)) tt tt (real_fits (get_or w 0 0)) tt tt tt n
