-- For every input shorter than 2^64 bytes the counts that are written are the lines accepted and refused. Assumes nothing.
use Prim.Native.Nat.{ℕ, suc, ◌^◌, ◌≤◌, ◌<◌}
use mathlib.Core.Path.{◌≡◌, ap}
use mathlib.Core.List.{List, [], ◌∷◌, ◌++◌}
use mathlib.Core.Bool.{Bool, true, false, cond}
use native.Mathlib.Omega.{arith}
use lib.Dec.{eqb}
use lib.ListN.{length}
use Rattle.blocks.specs.declared.block.Block.{Block}
use Rattle.session.specs.Answers.{counts_text}
use Rattle.session.specs.Soak.{lines_from, Outcome, outcome, line_leaves, outcomes, texts, if_accepted, if_refused, tally, report}
use Rattle.session.proofs.Counted.{counted_small, if_accepted_lem, if_refused_lem}

-- an input has at most as many lines as bytes, and one more where its first line has begun
lines_few : (s p : List ℕ) → length (lines_from p s) ≤ suc (length s)
unfolding lines_from
lines_few [] [] = omega arith
lines_few [] (b ∷ p) = omega arith
lines_few (b ∷ s) p = go (eqb b 10) (lines_few s []) (lines_few s (p ++ (b ∷ [])))
  where
    go : (t : Bool) → length (lines_from [] s) ≤ suc (length s) → length (lines_from (p ++ (b ∷ [])) s) ≤ suc (length s)
        → length (cond t (p ∷ lines_from [] s) (lines_from (p ++ (b ∷ [])) s)) ≤ suc (suc (length s))
    go true h k = omega arith
    go false h k = omega arith

tally_few : (f : Outcome → ℕ) → ((o : Outcome) → f o ≤ 1) → (b : Block) (words : List ℕ) (lines : List (List ℕ)) → tally f (outcomes b words lines) ≤ length lines
unfolding tally outcomes
tally_few f one b words [] = omega arith
tally_few f one b words (line ∷ lines) = omega (arith, one (outcome b words line), tally_few f one b (line_leaves b words line) lines)

-- the first line is not counted
pub exact : (b : Block) (words input first : List ℕ) (later : List (List ℕ)) → lines_from [] input ≡ first ∷ later → length input < 2 ^ 64
    → let os = outcomes b words later in
    report b os ≡ texts b os ++ counts_text (tally if_accepted os) (tally if_refused os)
unfolding report
exact b words input first later e short =
    let few : suc (length later) ≤ suc (length input) = omega (arith, ap length e, lines_few input []) in
    rw (
      counted_small (tally if_accepted (outcomes b words later)) (omega (arith, tally_few if_accepted if_accepted_lem b words later)),
      counted_small (tally if_refused (outcomes b words later)) (omega (arith, tally_few if_refused if_refused_lem b words later)),
    )
