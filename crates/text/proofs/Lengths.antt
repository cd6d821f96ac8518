-- How long the texts are.
use Prim.Native.Nat.{ℕ, zero, suc, ◌+◌, ◌/◌, ◌%◌, ◌≤◌}
use mathlib.Core.Path.{◌≡◌, refl, ap}
use mathlib.Core.List.{[], ◌∷◌, ◌++◌}
use mathlib.Core.Bool.{Bool, true, false, cond}
use native.Mathlib.Omega.{arith}
use lib.Dec.{ltb}
use lib.ListN.{length, length-append}
use Rattle.text.specs.Word.{hex_text, word_text}
use Rattle.text.specs.Items.{flag_text, flag_digit}
use Rattle.text.specs.Decimal.{decimal_of, decimal_text}

length_hex : (k w : ℕ) → length (hex_text k w) ≡ k
unfolding hex_text
length_hex zero w = refl
length_hex (suc k) w = ap suc (length_hex k w)

-- a word has sixteen bytes
pub length_word : (w : ℕ) → length (word_text w) ≡ 16
length_word w = length_hex 16 w

-- a boolean has one, its digit
pub flag_bytes : (f : Bool) → flag_text f ≡ flag_digit f ∷ []
flag_bytes true = refl
flag_bytes false = refl

pub length_flag : (f : Bool) → length (flag_text f) ≡ 1
length_flag f = rw flag_bytes

length_digits : (k n : ℕ) → length (decimal_of k n) ≤ k
unfolding decimal_of
length_digits zero n = omega arith
length_digits (suc k) n = go (ltb n 10) (length_digits k (n / 10))
  where
    go : (t : Bool) → length (decimal_of k (n / 10)) ≤ k
        → length (cond t ((48 + n) ∷ []) (decimal_of k (n / 10) ++ ((48 + n % 10) ∷ []))) ≤ suc k
    go true h = omega arith
    go false h = simp length-append (omega arith)

-- a number has at most twenty
pub length_decimal_most : (n : ℕ) → length (decimal_text n) ≤ 20
length_decimal_most n = length_digits 20 n
