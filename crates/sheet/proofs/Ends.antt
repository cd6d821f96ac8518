-- Where each row's words end, in a call's own words: the survey notes it, and what is in sight is not touched. Assumes nothing.
use Prim.Native.Nat.{ℕ, ◌+◌, ◌≤◌, ◌<◌}
use native.Mathlib.Omega.{arith}
use mathlib.Core.Path.{◌≡◌, refl, ◌∙◌}
use mathlib.Core.List.{List, [], ◌∷◌}
use lib.ListN.{length, get_or, length-set}
use lib.Seq.{get_or-set_same, get_or-set_other}
use Rattle.sheet.specs.Rows.{wide}
use Rattle.sheet.specs.Sheet.{most_rows}
use Rattle.sheet.specs.Walk.{put_end}
use Rattle.sheet.specs.declared.row.Row.{Row}
use Rattle.sheet.specs.declared.seen.Seen.{Seen}

-- the ends of these rows, of which the first is row n and its words begin at `at`
unfoldable pub EndsAre : ℕ → List Row → ℕ → List ℕ → Type 0
EndsAre n [] at ends = Unit {0}
EndsAre n (r ∷ rs) at ends = (get_or ends n 0 ≡ at + wide r) × EndsAre (n + 1) rs (at + wide r) ends

-- what a survey without a fault leaves
unfoldable pub ended : ℕ → List Row → ℕ → Seen → Seen
ended n [] at seen = seen
ended n (r ∷ rs) at seen = ended (n + 1) rs (at + wide r) (put_end n (at + wide r) seen)

pub ended_words : (n : ℕ) (rs : List Row) (at : ℕ) (seen : Seen) → (ended n rs at seen).words ≡ seen.words
unfolding ended
ended_words n [] at seen = refl
ended_words n (r ∷ rs) at seen = ended_words (n + 1) rs (at + wide r) (put_end n (at + wide r) seen)

ended_kept : (n : ℕ) (rs : List Row) (at : ℕ) (seen : Seen) (q : ℕ) → q < n → get_or (ended n rs at seen).ends q 0 ≡ get_or seen.ends q 0
unfolding ended
ended_kept n [] at seen q h = refl
ended_kept n (r ∷ rs) at seen q h =
    ended_kept (n + 1) rs (at + wide r) (put_end n (at + wide r) seen) q (omega (arith, h)) ∙ get_or-set_other seen.ends n q (at + wide r) 0 (λ z. omega (arith, z, h))

pub ends_are : (n : ℕ) (rs : List Row) (at : ℕ) (seen : Seen) → n + length rs ≤ most_rows → length seen.ends ≡ most_rows → EndsAre n rs at (ended n rs at seen).ends
unfolding EndsAre ended
ends_are n [] at seen few l = tt
ends_are n (r ∷ rs) at seen few l = (
  ended_kept (n + 1) rs (at + wide r) (put_end n (at + wide r) seen) n (omega arith) ∙ get_or-set_same seen.ends n (at + wide r) 0 (omega (arith, few, l)),
  ends_are (n + 1) rs (at + wide r) (put_end n (at + wide r) seen) (omega (arith, few)) (length-set seen.ends n (at + wide r) ∙ l),
)
