-- Text put after text. Assumes nothing.
use Prim.Native.Nat.{ℕ, suc, ◌+◌, ◌≤◌}
use mathlib.Core.Path.{◌≡◌, refl, ap, sym, subst, ◌∙◌}
use mathlib.Core.List.{List, [], ◌∷◌, ◌++◌, append_assoc}
use native.Mathlib.Nat.{add-zero}
use native.Mathlib.Omega.{arith}
use lib.ListN.{length, take, drop, set, length-append}
use lib.Seq.{drop-drop, sets, sets-eq, take_at, length-take-le, length-sets}
use Rattle.session.specs.declared.put.Out.{Out}
use Rattle.session.specs.Put.{Put, Puts, Counts}

sets_append : (old : List ℕ) (at : ℕ) (a b : List ℕ) → sets old at (a ++ b) ≡ sets (sets old at a) (at + length a) b
sets_append old at [] b = rw add-zero
sets_append old at (x ∷ a) b = sets_append (set old at x) (suc at) a b ∙ ap (λ (k : ℕ). sets (sets (set old at x) (suc at) a) k b) (omega arith)

-- text after text
pub put_more : {old mid new : List ℕ} {at m r : ℕ} {a b : List ℕ} → Put old at a m mid → Put mid m b r new → Put old at (a ++ b) r new
put_more {old} {mid} {new} {at} {m} {r} {a} {b} p q = record {
  moved = omega (arith, p.moved, q.moved, length-append a b);
  holds = q.holds ∙ ap (λ (l : List ℕ). sets l m b) p.holds ∙ ap (λ (k : ℕ). sets (sets old at a) k b) p.moved ∙ sym (sets_append old at a b);
}

-- the same text put
pub put_as : {old new : List ℕ} {at r : ℕ} {a b : List ℕ} → a ≡ b → Put old at a r new → Put old at b r new
put_as {old} {new} {at} {r} e p = subst (λ (l : List ℕ). Put old at l r new) e p

-- nothing put
pub put_none : (old : List ℕ) (at : ℕ) → Put old at [] at old
put_none old at = record { moved = omega arith; holds = refl }

-- the same of a buffer with its place
pub puts_more : {old mid new : Out} {a b : List ℕ} → Puts old a mid → Puts mid b new → Puts old (a ++ b) new
puts_more p q = record { same_reference = q.same_reference ∙ p.same_reference; size = q.size ∙ p.size; put = put_more p.put q.put }

pub puts_none : (out : Out) → Puts out [] out
puts_none out = record { same_reference = refl; size = refl; put = put_none out.bytes.now out.at }

-- text copied into the middle of a buffer
pub put_part : (old text : List ℕ) (at k : ℕ) → k ≡ length text → at + length text ≤ length old → take at old ++ (text ++ drop k (drop at old)) ≡ sets old at text
put_part old text at k e room = rw (e, drop-drop, ← append_assoc) (sym (sets-eq text old at room))

-- what stands in the buffer once text has been put after what was there
pub put_taken : {old new : List ℕ} {at next : ℕ} {text : List ℕ} → at + length text ≤ length old → Put old at text next new → take next new ≡ take at old ++ text
put_taken {old} {new} {at} {next} {text} room p =
    let front : length (take at old ++ text) ≡ next = length-append (take at old) text ∙ ap (λ (n : ℕ). n + length text) (length-take-le at old (omega arith)) ∙ sym p.moved in
    ap (take next) (p.holds ∙ sets-eq text old at room) ∙ take_at (take at old ++ text) (drop (at + length text) old) next front

-- the text that stands at the start of the buffer
pub put_all : {old new : List ℕ} {next : ℕ} {text : List ℕ} → length text ≤ length old → Put old 0 text next new → take next new ≡ text
put_all room p = put_taken (omega arith) p

pub put_counts : {old new : List ℕ} {next : ℕ} {text : List ℕ} → length text ≤ length old → Put old 0 text next new → Counts next new
put_counts {old} {new} {next} {text} room p =
    let size : length new ≡ length old = ap length p.holds ∙ length-sets old 0 text in
    let fits : next ≤ length new = omega (arith, p.moved) in
    (fits, sym (length-take-le next new fits))
