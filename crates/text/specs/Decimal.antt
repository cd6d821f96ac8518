-- A number in decimal. Definitions only.
use Rattle.std.specs.Prelude.{ℕ, zero, suc, ◌+◌, ◌-◌, ◌/◌, ◌%◌, ◌≡◌, List, [], ◌∷◌, ◌++◌, cond, length, drop, replicate, ltb}
use Rattle.text.specs.declared.decimal.Decimal.TheInside.{Inside}

-- n in decimal with no zero in front, for an n of at most k digits
unfoldable pub decimal_of : ℕ → ℕ → List ℕ
decimal_of zero n = []
decimal_of (suc k) n = cond (ltb n 10) ((48 + n) ∷ []) (decimal_of k (n / 10) ++ ((48 + n % 10) ∷ []))

-- a number of 64 bits has at most twenty digits
abbrev pub decimal_text : ℕ → List ℕ
decimal_text n = decimal_of 20 n

-- ---- as the code has them

-- the digits that count
abbrev pub counting : Inside → List ℕ
counting d = drop d.start d.digits

-- such digits behind so many zeros that they are twenty in all
abbrev pub padded : List ℕ → Inside
padded s = record { digits = replicate (20 - length s) 48 ++ s; start = 20 - length s }

-- there is nothing else in a value
pub record Padded (d : Inside) : Type 0 where
  pub again : padded (counting d) ≡ d
  pub all : length d.digits ≡ 20

-- the digits of n, behind so many zeros that they are twenty in all
pub record Spelled (n : ℕ) (d : Inside) : Type 0 where
  pub digits : d.digits ≡ replicate d.start 48 ++ decimal_text n
  pub all : d.start + length (decimal_text n) ≡ 20
