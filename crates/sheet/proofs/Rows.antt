-- Within a walk over the rows: what a call that carries left is what it carries, and the rows done and those to come give what all rows do. Assumes nothing.
use Prim.Native.Nat.{ℕ, ◌+◌, ◌<◌, ◌≤◌}
use native.Mathlib.Numerals.{add-one}
use mathlib.Core.Path.{◌≡◌, sym, ◌∙◌, ap}
use mathlib.Core.List.{List}
use lib.ListN.{length, get_or, drop, drop_of_length-le}
use lib.Seq.{drop-cons}
use lib.Ieee.{Float}
use Rattle.sheet.specs.Walk.{Carried, carried, Turn, walked, Left}
use Rattle.sheet.specs.declared.row.Row.{Row}
use Rattle.sheet.specs.declared.seen.Seen.{Seen}
use Rattle.sheet.specs.declared.walk.Walk.{Walk}

-- what it returned and left is all that it carries
pub carries : {c : Carried} {r : Walk} {ws : List ℕ} {os : Seen} → Left c r ws os → carried r ws os ≡ c
carries l i = carried (l.found i) (l.region i) (l.seen i)

-- one row more
pub more_so : (p : Turn) (k : Float) (ys : List Row) (i : ℕ) (d : Row) (c all : Carried) {r : Walk} {ws : List ℕ} {os : Seen}
    → i < length ys → all ≡ walked p k i (drop i ys) c → Left (p k i (get_or ys i d) c) r ws os → all ≡ walked p k (i + 1) (drop (i + 1) ys) (carried r ws os)
unfolding walked
more_so p k ys i d c all h e l =
    e ∙ ap (λ (rs : List Row). walked p k i rs c) (drop-cons ys i d h) ∙ ap (λ (j : ℕ). walked p k (i + 1) (drop j ys) (p k i (get_or ys i d) c)) (sym (add-one i))
    ∙ ap (λ (x : Carried). walked p k (i + 1) (drop (i + 1) ys) x) (sym (carries l))

-- no row left
pub end_so : (p : Turn) (k : Float) (ys : List Row) (i : ℕ) (r : Walk) (ws : List ℕ) (os : Seen) (all : Carried) → length ys ≤ i → all ≡ walked p k i (drop i ys) (carried r ws os) → Left all r ws os
unfolding walked
end_so p k ys i r ws os all h e =
    let is : carried r ws os ≡ all = sym (e ∙ ap (λ (rs : List Row). walked p k i rs (carried r ws os)) (drop_of_length-le ys h)) in
    record { found = ap (λ (c : Carried). c.found) is; region = ap (λ (c : Carried). c.region) is; seen = ap (λ (c : Carried). c.seen) is }
