-- A word as text: sixteen upper-case hexadecimal digits. Definitions only.
use Rattle.std.specs.Prelude.{ℕ, Option, Some, None, zero, suc, ◌+◌, ◌-◌, ◌*◌, ◌/◌, ◌%◌, ◌^◌, List, [], ◌∷◌, cond, length, ltb, eqb}

-- ---- read

-- the value of an upper-case hexadecimal digit, and 16 for any other byte
unfoldable pub digit_value : ℕ → ℕ
digit_value b =
    cond (ltb b 48) 16 (cond (ltb b 58) (b - 48) (cond (ltb b 65) 16 (cond (ltb b 71) (b - 55) 16)))

-- the number that the digits s continue, n being the number so far
unfoldable pub hex_from : ℕ → List ℕ → Option ℕ
hex_from n [] = Some n
hex_from n (b ∷ s) = cond (ltb (digit_value b) 16) (hex_from (n * 16 + digit_value b) s) None

-- a word: sixteen digits
unfoldable pub word_item : List ℕ → Option ℕ
word_item s = cond (eqb (length s) 16) (hex_from 0 s) None

-- ---- written

-- the upper-case digit of a value below 16
unfoldable pub glyph : ℕ → ℕ
glyph d = cond (ltb d 10) (48 + d) (55 + d)

-- the last k digits of w, the most significant first
unfoldable pub hex_text : ℕ → ℕ → List ℕ
hex_text zero w = []
hex_text (suc k) w = glyph (w / 16 ^ k % 16) ∷ hex_text k w

-- a word: sixteen digits
abbrev pub word_text : ℕ → List ℕ
word_text w = hex_text 16 w
