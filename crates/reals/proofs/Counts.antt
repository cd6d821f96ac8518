-- Whole numbers as reals: up to 2 ^ 53 each is one, so they are in order as they were, and each is read back. Assumes nothing.
use mathlib.Core.Path.{◌≡◌, sym, ap, ◌∙◌}
use mathlib.Core.Bool.{true, false, true≢false}
use Prim.Native.Nat.{ℕ, ◌*◌, ◌^◌, ◌≤◌}
use native.Mathlib.Nat.{mul-one}
use native.Mathlib.Omega.{arith}
use lib.Dec.{ltb, le→leb}
use lib.Ieee.{nan, inf, Float, fin, binary64, up, down, lt, of_int, in_float, to_unsigned}
use lib.Ieee.Fits.{down_pos}
use lib.Ieee.Exact.{HasValue}
use lib.Ieee.Back.{round_whole, unsigned_back}
use Rattle.reals.specs.Words.{nearest}
use Rattle.reals.proofs.Whole.{lt_from_whole, ltb_scale}

-- two reals that are whole numbers
lt_wholes : (x y : Float) (n k : ℕ) → HasValue x false n 1 → HasValue y false k 1 → lt x y ≡ ltb n k
lt_wholes x (fin true m e) n k v w = absurd (true≢false w.0)
lt_wholes x (fin false m e) n k v w =
    lt_from_whole x false m e n v
    ∙ ap (λ (z : ℕ). ltb (n * down e) z) (sym (mul-one (m * up e)) ∙ w.1)
    ∙ ltb_scale n k (down e) (down_pos e)
lt_wholes x nan n k v w = elim w [ ]
lt_wholes x (inf _) n k v w = elim w [ ]

pub lt_counts : (n k : ℕ) → n ≤ 2 ^ 53 → k ≤ 2 ^ 53 → lt (nearest n 1) (nearest k 1) ≡ ltb n k
lt_counts n k h l = lt_wholes (nearest n 1) (nearest k 1) n k (round_whole binary64 false n h) (round_whole binary64 false k l)

pub count_back : (n : ℕ) → n ≤ 2 ^ 53 → to_unsigned 64 (nearest n 1) ≡ n
unfolding of_int in_float
count_back n h = (unsigned_back binary64 64 n (le→leb n (2 ^ 53) h) (omega arith)).1
