-- One more line of a list.
use Prim.Native.Nat.{ℕ, ◌+◌, ◌-◌}
use mathlib.Core.Path.{◌≡◌, sym, subst, ◌∙◌}
use mathlib.Core.List.{List}
use native.Mathlib.Omega.{arith}
use lib.ListN.{take, drop}
use Rattle.std.proofs.Common.{Result, Ok, Err}
use Rattle.replay.specs.declared.form.Form.{Form}
use Rattle.replay.specs.declared.compare.Differs.{Differs}
use Rattle.replay.specs.List.{LineHolds, LineShown, told, line_end, AllHold, some}

-- a line that is not told of holds
told_none : (form : Form) (line : List ℕ) (v : Result (Unit {0}) Differs) → told v ≡ 0 → LineShown form line v → LineHolds form line
told_none form line (Ok same) e shown = shown
told_none form line (Err differs) e shown = absurd (omega arith)

-- such a line, and those after it
pub one_more : (form : Form) (lines : List ℕ) (at end t : ℕ) (v : Result (Unit {0}) Differs) → end ≡ line_end lines at
    → LineShown form (take (end - at) (drop at lines)) v → t ≡ told v → t ≡ 0
    → AllHold form lines (end + 1) → AllHold form lines at
one_more form lines at end t v e shown tells zero later =
    some
    (subst (λ (k : ℕ). LineHolds form (take (k - at) (drop at lines))) e (told_none form (take (end - at) (drop at lines)) v (sym tells ∙ zero) shown))
    (subst (λ (k : ℕ). AllHold form lines (k + 1)) e later)
