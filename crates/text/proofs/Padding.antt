-- Digits behind zeros, twenty in all: they are given by those that count. Assumes nothing.
use Prim.Native.Nat.{ℕ, ◌-◌, ◌≤◌}
use mathlib.Core.Path.{◌≡◌, ap, ◌∙◌}
use mathlib.Core.List.{List, ◌++◌}
use native.Mathlib.Omega.{arith}
use lib.ListN.{length, take, replicate, length-take, length-drop, length-replicate, take-append-drop}
use Rattle.text.specs.declared.decimal.Decimal.TheInside.{Inside}
use Rattle.text.specs.Decimal.{counting, Padded}

-- where the first digit that counts stands
pub padded_start : {d : Inside} → Padded d → 20 - length (counting d) ≡ d.start
padded_start p = ap (λ (d : Inside). d.start) p.again

-- of twenty digits those that count are behind zeros
pub zeros_padded : {d : Inside} → take d.start d.digits ≡ replicate d.start 48 → length d.digits ≡ 20 → Padded d
zeros_padded {d} zeros all =
    let within : d.start ≤ 20 =
    omega (arith, ap length zeros, length-take {A = ℕ} d.start d.digits, length-replicate {A = ℕ} d.start 48, all)
    in
    let start : 20 - length (counting d) ≡ d.start = omega (arith, length-drop d.start d.digits, all, within) in
    record {
      again =
          ap (λ (k : ℕ). made (replicate k 48 ++ counting d) k) start
          ∙ ap (λ (l : List ℕ). made l d.start) (rw (← zeros) (take-append-drop d.start d.digits));
      all = all;
    }
  where
    made : List ℕ → ℕ → Inside
    made l k = record { digits = l; start = k }
