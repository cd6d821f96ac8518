-- The digits of a number in decimal.
use Prim.Native.Nat.{ℕ, zero, suc, ◌+◌, ◌-◌, ◌*◌, ◌/◌, ◌%◌, ◌^◌, ◌≤◌, ◌<◌}
use mathlib.Core.Path.{◌≡◌, refl}
use mathlib.Core.List.{List, [], ◌∷◌, ◌++◌}
use mathlib.Core.Bool.{Bool, true, false, cond}
use native.Mathlib.Nat.{pow-suc}
use native.Mathlib.Omega.{arith}
use borrow.Author.Tests.{lt-ltb, le-ltb, ltb-true, ltb-false}
use lib.Dec.{ltb}
use lib.ListN.{get_or}
use Rattle.text.specs.Decimal.{decimal_of, decimal_text}

-- ---- the last digit, and those before it

pub decimal_few : (k n : ℕ) → n < 10 → decimal_of (suc k) n ≡ (48 + n % 10) ∷ []
unfolding decimal_of
decimal_few k n h = let whole : n % 10 ≡ n = omega arith in rw (lt-ltb n 10 h, whole)

pub decimal_more : (k n : ℕ) → 10 ≤ n → decimal_of (suc k) n ≡ decimal_of k (n / 10) ++ ((48 + n % 10) ∷ [])
unfolding decimal_of
decimal_more k n h = rw (le-ltb n 10 h)

-- ---- what they say

-- the number that the digits s continue, n being the number so far
unfoldable pub value_from : ℕ → List ℕ → ℕ
value_from n [] = n
value_from n (d ∷ s) = value_from (n * 10 + (d - 48)) s

value_last : (n : ℕ) (s : List ℕ) (d : ℕ) → value_from n (s ++ (d ∷ [])) ≡ value_from n s * 10 + (d - 48)
unfolding value_from
value_last n [] d = refl
value_last n (e ∷ s) d = value_last (n * 10 + (e - 48)) s d

value_decimal : (k n : ℕ) → n < 10 ^ k → value_from 0 (decimal_of k n) ≡ n
unfolding decimal_of value_from
value_decimal zero n h = omega (arith, h)
value_decimal (suc k) n h = go (ltb n 10) refl (value_decimal k (n / 10) (omega (arith, rw (pow-suc 10 k) at h)))
  where
    go : (t : Bool) → ltb n 10 ≡ t → value_from 0 (decimal_of k (n / 10)) ≡ n / 10
        → value_from 0 (cond t ((48 + n) ∷ []) (decimal_of k (n / 10) ++ ((48 + n % 10) ∷ []))) ≡ n
    go true e i = omega arith
    go false e i = rw (value_last, i) (omega arith)

-- read as a number, the digits of n are n
pub decimal_value : (n : ℕ) → n < 2 ^ 64 → value_from 0 (decimal_text n) ≡ n
decimal_value n h = value_decimal 20 n (omega arith)

-- ---- that they are digits, and that the first counts

-- each byte is one of 0 to 9
abbrev pub AllDigits : List ℕ → Type 0
AllDigits [] = Unit {0}
AllDigits (d ∷ s) = (48 ≤ d) × (d < 58) × AllDigits s

digits_last : (s : List ℕ) (d : ℕ) → AllDigits s → 48 ≤ d → d < 58 → AllDigits (s ++ (d ∷ []))
digits_last [] d h l u = (l, u, tt)
digits_last (e ∷ s) d h l u = (h.0, h.1, digits_last s d h.2 l u)

pub all_digits : (k n : ℕ) → AllDigits (decimal_of k n)
unfolding decimal_of
all_digits zero n = tt
all_digits (suc k) n = go (ltb n 10) refl (all_digits k (n / 10))
  where
    go : (t : Bool) → ltb n 10 ≡ t → AllDigits (decimal_of k (n / 10))
        → AllDigits (cond t ((48 + n) ∷ []) (decimal_of k (n / 10) ++ ((48 + n % 10) ∷ [])))
    go true e h = let l = ltb-true n 10 e in (omega arith, omega arith, tt)
    go false e h = digits_last (decimal_of k (n / 10)) (48 + n % 10) h (omega arith) (omega arith)

first_stays : (s t : List ℕ) → 48 < get_or s 0 0 → 48 < get_or (s ++ t) 0 0
first_stays [] t h = absurd (omega arith)
first_stays (d ∷ s) t h = h

first_counts : (k n : ℕ) → 0 < n → n < 10 ^ k → 48 < get_or (decimal_of k n) 0 0
unfolding decimal_of
first_counts zero n some h = absurd (omega (arith, h))
first_counts (suc k) n some h = go (ltb n 10) refl (λ more. first_counts k (n / 10) more (omega (arith, rw (pow-suc 10 k) at h)))
  where
    go : (t : Bool) → ltb n 10 ≡ t → (0 < n / 10 → 48 < get_or (decimal_of k (n / 10)) 0 0)
        → 48 < get_or (cond t ((48 + n) ∷ []) (decimal_of k (n / 10) ++ ((48 + n % 10) ∷ []))) 0 0
    go true e i = omega arith
    go false e i = let l = ltb-false n 10 e in first_stays (decimal_of k (n / 10)) _ (i (omega arith))

-- no zero stands in front, but for 0 itself
pub no_zero_ahead : (n : ℕ) → 0 < n → n < 2 ^ 64 → 48 < get_or (decimal_text n) 0 0
no_zero_ahead n some h = first_counts 20 n some (omega arith)

pub decimal_zero : decimal_text 0 ≡ 48 ∷ []
unfolding decimal_of
decimal_zero = refl
