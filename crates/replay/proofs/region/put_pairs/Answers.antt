-- `region::put_pairs` meets its contract: the pairs that are left make of the region what all of them make of it as it was. Assumes nothing.
use Prim.Native.Nat.{ℕ, ◌+◌}
use mathlib.Core.Path.{◌≡◌, sym, ap, ◌∙◌}
use borrow.Author.Rules.{rules}
use native.Mathlib.Omega.{arith}
use lib.ListN.{drop, get_or}
use Rattle.replay.specs.Region.{paired, filled, ending}
use Rattle.replay.proofs.Putting.{paired_none, paired_step}
use Rattle.replay.proofs.region.put_pairs.Goals as goal

pub loop-put-preserved : goal.loop-put-preserved
loop-put-preserved c =
    let l = c.loop-put in
    record {
      within = omega arith;
      ends = omega arith;
      left = paired_step c.in_ok-count.field-0.now l._put c.args.words.now l.next l.region (omega arith) (omega arith) ∙ l.invariant.left;
    }

pub returns : goal.returns
unfolding filled ending
returns c =
    let l = c.loop-put in
    let words = c.args.words.now in
    let n : ℕ = c.in_ok-count.field-0.now in
    let count : n ≡ get_or words c.args.at 0 = search rules in
    record {
      ends = omega arith;
      holds =
          sym (paired_none _ (drop l.next words) l.region (omega arith))
          ∙ l.invariant.left
          ∙ ap (λ (k : ℕ). paired k (drop (c.args.at + 1) words) c.args.region.now) count;
    }
