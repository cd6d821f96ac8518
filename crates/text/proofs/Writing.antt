-- One more digit of a word written.
use Prim.Native.Nat.{ℕ, zero, suc, ◌+◌, ◌-◌, ◌*◌, ◌/◌, ◌%◌, ◌^◌, ◌≤◌, ◌<◌}
use mathlib.Core.Path.{◌≡◌, refl, sym, ap, ◌∙◌}
use mathlib.Core.List.{List, ◌++◌, append-nil}
use native.Mathlib.Numerals.{add-one}
use native.Mathlib.Nat.{mul-suc, pow-suc}
use native.Mathlib.Omega.{arith}
use lib.Pow.{pow-add}
use lib.ListN.{length, take, set}
use lib.Seq.{take_all, take-suc-set, append_snoc}
use Rattle.text.specs.Word.{glyph, hex_text}

-- a digit is four bits
pub sixteens : (k : ℕ) → 2 ^ (4 * k) ≡ 16 ^ k
sixteens zero = refl
sixteens (suc k) =
    ap (λ (n : ℕ). 2 ^ n) (mul-suc 4 k) ∙ pow-add 2 (4 * k) 4 ∙ ap (λ (n : ℕ). n * 16) (sixteens k) ∙ sym (pow-suc 16 k)

-- a digit put at i, and those after it still to come
pub hex_next : (text : List ℕ) (i w : ℕ) → length text ≡ 16 → i < 16
    → take (i + 1) (set text i (glyph (w / 2 ^ (60 - 4 * i) % 16))) ++ hex_text (16 - (i + 1)) w ≡ take i text ++ hex_text (16 - i) w
unfolding hex_text
hex_next text i w long h =
    let inside : i < length text = omega arith in
    let places : 60 - 4 * i ≡ 4 * (16 - (i + 1)) = omega arith in
    let left : 16 - i ≡ suc (16 - (i + 1)) = omega arith in
    rw (places, sixteens, left, add-one, take-suc-set, append_snoc)

-- no digit is still to come
pub hex_whole : (text : List ℕ) (i w : ℕ) → length text ≤ i → 16 ≤ i → take i text ++ hex_text (16 - i) w ≡ text
unfolding hex_text
hex_whole text i w h g = let none : 16 - i ≡ 0 = omega arith in rw (take_all, none, append-nil)
