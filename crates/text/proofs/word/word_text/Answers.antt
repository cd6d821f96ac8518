-- `word::word_text` meets its contract: the digits before i, and then the others of w, are all of them. Assumes nothing.
use Prim.Native.Nat.{ℕ, ◌+◌, ◌-◌}
use mathlib.Core.Path.{ap, ◌∙◌}
use mathlib.Core.List.{◌++◌}
use native.Mathlib.Omega.{arith}
use lib.ListN.{take, set, length-set}
use Rattle.text.specs.Word.{hex_text}
use Rattle.text.proofs.Writing.{hex_next}
use Rattle.text.proofs.word.word_text.Goals as goal

pub loop-i-preserved : goal.loop-i-preserved
loop-i-preserved c =
    let l = c.loop-i in
    let w = c.args.w in (
      simp length-set l.invariant.0,
      ap (λ (d : ℕ). take (l.i + 1) (set l.text l.i d) ++ hex_text (16 - (l.i + 1)) w) c.digit.ensures
          ∙ hex_next l.text l.i w l.invariant.0 (omega arith)
          ∙ l.invariant.1,
    )
