-- Reading undoes writing, and writing undoes reading: words and booleans are one to one with their texts.
use Prim.Native.Nat.{ℕ, zero, suc, ◌+◌, ◌-◌, ◌*◌, ◌/◌, ◌%◌, ◌^◌, ◌≤◌, ◌<◌}
use mathlib.Core.Path.{◌≡◌, refl, ap, sym, ◌∙◌}
use mathlib.Core.List.{List, [], ◌∷◌}
use mathlib.Core.Bool.{Bool, true, false, cond}
use mathlib.Core.Logic.{◌⊎◌, inl, inr}
use native.Mathlib.Nat.{pow-suc, mod-eq_of_lt, mod-lt, mod-one, div-one, div-div-eq-div-mul, mul_comm, mul_assoc, add-mul}
use native.Mathlib.Omega.{arith}
use borrow.Author.Tests.{lt-ltb, le-ltb, ltb-true, ltb-false, eqb-true}
use lib.Arith.{mod-mul}
use lib.Dec.{ltb, eqb, lit<}
use lib.ListN.{length}
use Rattle.std.specs.Prelude.{Some, None}
use Rattle.text.specs.Word.{digit_value, hex_from, word_item, glyph, hex_text, word_text}
use Rattle.text.specs.Bytes.{bytes, same_list}
use Rattle.text.specs.Items.{flag_item, flag_text}
use Rattle.text.proofs.Comparing.{same_equal}
use Rattle.text.proofs.Lengths.{length_word}

-- ---- one digit of a word

pub value_glyph : (d : ℕ) → d < 16 → digit_value (glyph d) ≡ d
unfolding digit_value glyph
value_glyph d h = go (ltb d 10) refl
  where
    go : (t : Bool) → ltb d 10 ≡ t → digit_value (cond t (48 + d) (55 + d)) ≡ d
    go true e =
        let l : d < 10 = ltb-true d 10 e in
        rw (le-ltb (48 + d) 48 (omega arith), lt-ltb (48 + d) 58 (omega arith)) (omega arith)
    go false e =
        let l : 10 ≤ d = ltb-false d 10 e in
        rw (
          le-ltb (55 + d) 48 (omega arith),
          le-ltb (55 + d) 58 (omega arith),
          le-ltb (55 + d) 65 (omega arith),
          lt-ltb (55 + d) 71 (omega arith),
        )
        (omega arith)

-- the value of b by the four tests of it
abbrev value_by : ℕ → (t u v w : Bool) → ℕ
value_by b t u v w = cond t 16 (cond u (b - 48) (cond v 16 (cond w (b - 55) 16)))

pub glyph_value : (b : ℕ) → digit_value b < 16 → glyph (digit_value b) ≡ b
unfolding digit_value glyph
glyph_value b h = go (ltb b 48) (ltb b 58) (ltb b 65) (ltb b 71) refl refl refl refl h
  where
    go : (t u v w : Bool) → ltb b 48 ≡ t → ltb b 58 ≡ u → ltb b 65 ≡ v → ltb b 71 ≡ w → value_by b t u v w < 16 → glyph (value_by b t u v w) ≡ b
    go true u v w p q r s h = absurd (omega arith)
    go false true v w p q r s h =
        let l = ltb-false b 48 p in
        let m = ltb-true b 58 q in
        rw (lt-ltb (b - 48) 10 (omega arith)) (omega arith)
    go false false true w p q r s h = absurd (omega arith)
    go false false false true p q r s h = let l = ltb-false b 65 r in rw (le-ltb (b - 55) 10 (omega arith)) (omega arith)
    go false false false false p q r s h = absurd (omega arith)

-- ---- a word, written and read

sixteen_positive : (k : ℕ) → 0 < 16 ^ k
sixteen_positive zero = lit< tt
sixteen_positive (suc k) = rw pow-suc (omega (arith, sixteen_positive k))

one_more : (n d r p : ℕ) → (n * 16 + d) * p + r ≡ n * (p * 16) + (d * p + r)
one_more n d r p = omega (arith, add-mul (n * 16) d p, mul_assoc n 16 p, ap (λ (m : ℕ). n * m) (mul_comm 16 p))

last_digits : (k w : ℕ) → w % (16 ^ k * 16) ≡ w / 16 ^ k % 16 * 16 ^ k + w % 16 ^ k
last_digits k w = rw (mul_comm (16 ^ k) 16) (mod-mul w (lit< tt) (sixteen_positive k))

-- the last k digits of w go on from n
pub read_digits : (k w n : ℕ) → hex_from n (hex_text k w) ≡ Some (n * 16 ^ k + w % 16 ^ k)
unfolding hex_from hex_text
read_digits zero w n = ap Some (omega (arith, mod-one w))
read_digits (suc k) w n =
    let d : ℕ = w / 16 ^ k % 16 in
    let small : d < 16 = mod-lt (w / 16 ^ k) (lit< tt) in
    rw (value_glyph d small, lt-ltb d 16 small, pow-suc, last_digits k w)
    (read_digits k w (n * 16 + d) ∙ ap Some (one_more n d (w % 16 ^ k) (16 ^ k)))

-- the sixteen digits of a word read back as the word
pub read_written : (w : ℕ) → w < 2 ^ 64 → word_item (word_text w) ≡ Some w
unfolding word_item
read_written w fits = rw length_word (read_digits 16 w 0 ∙ ap Some (omega (arith, mod-eq_of_lt {n = w} {m = 2 ^ 64} fits)))

-- ---- a word, read and written

-- digits that go on from n to v: they are the last ones of v, and n is what stands before them
pub write_digits : (s : List ℕ) (n v : ℕ) → hex_from n s ≡ Some v → (hex_text (length s) v ≡ s) × (v / 16 ^ length s ≡ n)
unfolding hex_from hex_text
write_digits [] n v e = let same : n ≡ v = cc in (refl, div-one v ∙ sym same)
write_digits (b ∷ s) n v e = next (ltb (digit_value b) 16) refl e (write_digits s (n * 16 + digit_value b) v)
  where
    next : (t : Bool) → ltb (digit_value b) 16 ≡ t → cond t (hex_from (n * 16 + digit_value b) s) None ≡ Some v
        → (hex_from (n * 16 + digit_value b) s ≡ Some v → (hex_text (length s) v ≡ s) × (v / 16 ^ length s ≡ n * 16 + digit_value b))
        → (glyph (v / 16 ^ length s % 16) ∷ hex_text (length s) v ≡ b ∷ s) × (v / 16 ^ suc (length s) ≡ n)
    next true t e more =
        let small : digit_value b < 16 = ltb-true _ _ t in
        let rest = more e in
        let digit : v / 16 ^ length s % 16 ≡ digit_value b = omega (arith, rest.1) in
        let above : v / 16 ^ length s / 16 ≡ n = omega (arith, rest.1) in (
          rw (rest.0, digit, glyph_value b small),
          rw (pow-suc, ← div-div-eq-div-mul v (16 ^ length s) 16) above,
        )
    next false t e more = cc

-- what reads as a word is sixteen digits
word_digits : (s : List ℕ) (w : ℕ) → word_item s ≡ Some w → (length s ≡ 16) × (hex_from 0 s ≡ Some w)
unfolding word_item
word_digits s w e = go (eqb (length s) 16) refl e
  where
    go : (t : Bool) → eqb (length s) 16 ≡ t → cond t (hex_from 0 s) None ≡ Some w → (length s ≡ 16) × (hex_from 0 s ≡ Some w)
    go true t e = (eqb-true (length s) 16 t, e)
    go false t e = cc

module _ (s : List ℕ) (w : ℕ) (reads : word_item s ≡ Some w) where
  -- they are the digits of that word
  pub written_read : word_text w ≡ s
  written_read =
      let d = word_digits s w reads in
      rw d.0 at (write_digits s 0 w d.1).0

  -- and it is one of 64 bits
  pub word_fits : w < 2 ^ 64
  word_fits =
      let d = word_digits s w reads in
      omega (arith, rw d.0 at (write_digits s 0 w d.1).1)

-- ---- a boolean

-- the digit of a boolean reads back as its word
pub read_flag_written : (f : Bool) → flag_item (flag_text f) ≡ Some (cond f 1 0)
unfolding flag_item same_list
read_flag_written true = refl
read_flag_written false = refl

-- what reads as a boolean is the digit 0 or 1
pub flag_read : (s : List ℕ) (w : ℕ) → flag_item s ≡ Some w → ((w ≡ 0) × (s ≡ flag_text false)) ⊎ ((w ≡ 1) × (s ≡ flag_text true))
unfolding flag_item
flag_read s w e = go (same_list s (bytes "0")) (same_list s (bytes "1")) refl refl e
  where
    go : (t u : Bool) → same_list s (bytes "0") ≡ t → same_list s (bytes "1") ≡ u → cond t (Some 0) (cond u (Some 1) None) ≡ Some w
        → ((w ≡ 0) × (s ≡ flag_text false)) ⊎ ((w ≡ 1) × (s ≡ flag_text true))
    go true u p q e = inl (cc, same_equal s _ p)
    go false true p q e = inr (cc, same_equal s _ q)
    go false false p q e = cc
