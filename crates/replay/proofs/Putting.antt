-- Words put into a region.
use Prim.Native.Nat.{ℕ, zero, suc, ◌+◌, ◌-◌, ◌<◌}
use mathlib.Core.Path.{◌≡◌, ap, sym, ◌∙◌}
use mathlib.Core.List.{List}
use native.Mathlib.Nat.{not-suc-le-zero}
use native.Mathlib.Omega.{arith}
use lib.ListN.{length, drop, get_or, set}
use lib.Seq.{drop-cons}
use Rattle.replay.specs.Region.{paired}

-- no pair is left
pub paired_none : (n : ℕ) (words old : List ℕ) → n ≡ 0 → paired n words old ≡ old
unfolding paired
paired_none n words old e = rw e

-- one more pair
paired_more : (n : ℕ) (words : List ℕ) (at : ℕ) (old : List ℕ) → 0 < n → at + 1 < length words
    → paired n (drop at words) old ≡ paired (n - 1) (drop (at + 2) words) (set old (get_or words at 0) (get_or words (at + 1) 0))
unfolding paired
paired_more zero words at old h within = absurd (not-suc-le-zero h)
paired_more (suc n) words at old h within =
    let one : at + 1 ≡ suc at = omega arith in
    let two : at + 2 ≡ suc (suc at) = omega arith in
    let less : suc n - 1 ≡ n = omega arith in
    let first : at < length words = omega arith in
    let second : suc at < length words = omega arith in
    rw (one, two, less, drop-cons words at 0 first, drop-cons words (suc at) 0 second)

-- one of so many put in
pub paired_step : (count i : ℕ) (words : List ℕ) (at : ℕ) (old : List ℕ) → i < count → at + 1 < length words
    → paired (count - (i + 1)) (drop (at + 2) words) (set old (get_or words at 0) (get_or words (at + 1) 0)) ≡ paired (count - i) (drop at words) old
paired_step count i words at old less within =
    let fewer : count - (i + 1) ≡ count - i - 1 = omega arith in
    ap (λ (n : ℕ). paired n (drop (at + 2) words) (set old (get_or words at 0) (get_or words (at + 1) 0))) fewer ∙ sym (paired_more (count - i) words at old (omega arith) within)
