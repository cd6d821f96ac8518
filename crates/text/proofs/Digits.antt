-- One more digit of a word.
use Prim.Native.Nat.{ℕ, ◌+◌, ◌*◌, ◌^◌, ◌≤◌, ◌<◌}
use mathlib.Core.Path.{◌≡◌, refl, sym}
use mathlib.Core.Bool.{Bool, true, false}
use mathlib.Core.List.{List}
use native.Mathlib.Numerals.{add-one}
use native.Mathlib.Nat.{pow-suc, pow-le-pow_right}
use native.Mathlib.Omega.{arith}
use borrow.Author.Tests.{lt-ltb, le-ltb, ltb-true}
use lib.Dec.{ltb, lit<}
use lib.ListN.{length, drop, get_or, drop_of_length-le}
use lib.Seq.{drop-cons}
use Rattle.std.specs.Bool.{then_some}
use Rattle.std.specs.Prelude.{Some, None}
use Rattle.std.proofs.lemmas.Option.{none-some}
use Rattle.text.specs.Word.{digit_value, hex_from}

-- a number of i digits and one digit more
module _ (w d i : ℕ) (old : w < 16 ^ i) (new : d < 16) where
  pub hex_grows : w * 16 + d < 16 ^ (i + 1)
  hex_grows = rw (add-one, pow-suc) (omega arith)

  pub hex_fits : i < 16 → w * 16 + d < 2 ^ 64
  hex_fits h =
      let m : 16 ^ i ≤ 16 ^ 15 = pow-le-pow_right {n = 16} (lit< tt) {i = i} {j = 15} (omega arith) in
      omega (arith, m)

-- a byte that is read as a digit has its value
pub digit_read : (b d : ℕ) → Some d ≡ then_some (ltb (digit_value b) 16) (digit_value b) → (digit_value b ≡ d) × (d < 16)
digit_read b d e = go (ltb (digit_value b) 16) refl e
  where
    go : (t : Bool) → ltb (digit_value b) 16 ≡ t → Some d ≡ then_some t (digit_value b) → (digit_value b ≡ d) × (d < 16)
    go true t e = let same : digit_value b ≡ d = cc in let h = ltb-true (digit_value b) 16 t in (same, omega arith)
    go false t e = absurd (none-some d (sym e))

-- the digit at i, and those after it
module _ (n : ℕ) (s : List ℕ) (i : ℕ) (inside : i < length s) where
  pub hex_digit : (d : ℕ) → digit_value (get_or s i 0) ≡ d → d < 16 → hex_from n (drop i s) ≡ hex_from (n * 16 + d) (drop (i + 1) s)
  unfolding hex_from
  hex_digit d e h = let small : digit_value (get_or s i 0) < 16 = omega arith in rw (drop-cons s i 0, lt-ltb _ _ small, add-one, e)

  pub hex_other : 16 ≤ digit_value (get_or s i 0) → hex_from n (drop i s) ≡ None
  unfolding hex_from
  hex_other d = rw (drop-cons s i 0, le-ltb _ _ d)

-- no digit is left
pub hex_end : (n : ℕ) (s : List ℕ) (i : ℕ) → length s ≤ i → hex_from n (drop i s) ≡ Some n
unfolding hex_from
hex_end n s i h = rw (drop_of_length-le s h)
