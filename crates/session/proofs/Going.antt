-- What the code does with a line, as another step that is the same. Assumes nothing.
use mathlib.Core.Path.{◌≡◌, subst}
use mathlib.Core.List.{List}
use Prim.Native.Nat.{ℕ}
use Rattle.session.specs.declared.put.Out.{Out}
use Rattle.session.specs.declared.state.Session.{Session}
use Rattle.session.specs.Stream.{Went, Goes}

-- the same step taken
pub goes : {w v : Went} {s : Session} {region : List ℕ} {old new : Out} → w ≡ v → Goes w s region old new → Goes v s region old new
goes {s = s} {region = region} {old = old} {new = new} e g = subst (λ (w : Went). Goes w s region old new) e g
