-- A boolean and a controller type as text. Definitions only.
use Rattle.std.specs.Prelude.{ℕ, Option, Some, None, List, Bool, cond}
use Rattle.text.specs.Bytes.{bytes, same_list}

-- a boolean: the digit 0 or 1
unfoldable pub flag_item : List ℕ → Option ℕ
flag_item s = cond (same_list s (bytes "0")) (Some 0) (cond (same_list s (bytes "1")) (Some 1) None)

-- a controller type: P, PI, PD or PID
unfoldable pub type_item : List ℕ → Option ℕ
type_item s =
    cond (same_list s (bytes "P")) (Some 0)
    (cond (same_list s (bytes "PI")) (Some 1)
    (cond (same_list s (bytes "PD")) (Some 2)
    (cond (same_list s (bytes "PID")) (Some 3)
    None)))

-- the digit of a boolean
abbrev pub flag_digit : Bool → ℕ
flag_digit flag = cond flag 49 48

-- a boolean as text
abbrev pub flag_text : Bool → List ℕ
flag_text flag = cond flag (bytes "1") (bytes "0")
