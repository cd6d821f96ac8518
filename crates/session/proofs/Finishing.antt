-- The end of the input, with and without a line that has not ended. Assumes nothing.
use Prim.Native.Nat.{ℕ, ◌≤◌, min}
use mathlib.Core.Path.{◌≡◌, refl, ap, sym, subst, ◌∙◌}
use mathlib.Core.List.{List}
use native.Mathlib.Omega.{arith}
use borrow.Author.Tests.{eq-eqb, ne_eqb}
use lib.ListN.{length, take}
use Rattle.session.specs.declared.put.Out.{Out}
use Rattle.session.specs.declared.state.Session.{Session}
use Rattle.session.specs.Put.{Puts, Counts}
use Rattle.session.specs.Stream.{Stream, line_in, Goes, line_ends, last_line, closing, ended, at_hand, Finishes}
use Rattle.session.proofs.Going.{goes}
use Rattle.session.proofs.Feeding.{take_least}
use Rattle.session.proofs.Putting.{put_more, put_as, put_counts}
use Rattle.session.proofs.Short.{end_short}

module _ (s : Session) (region carry : List ℕ) (held : ℕ) {old new : Out} (fresh : old.at ≡ 0) (size : 96 ≤ length old.bytes.now) where
  pub finish_plain : held ≡ 0 → Puts old (closing s) new → Finishes (at_hand s region carry held) region old.bytes.now new.at new.bytes.now
  unfolding last_line ended
  finish_plain e p = record { words = rw (eq-eqb held 0 e) refl; put = rw (eq-eqb held 0 e, ← fresh) p.put; fits = omega (arith, end_short (at_hand s region carry held)) }

  pub finish_line : (held ≡ 0 → ⊥) → {n : ℕ} → n ≡ min held (length carry) → {s' : Session} {region' : List ℕ} {mid : Out}
      → Goes (line_in region s (take n carry)) s' region' old mid → Puts mid (closing s') new
      → Finishes (at_hand s region carry held) region' old.bytes.now new.at new.bytes.now
  finish_line some {n} n_is {s'} {region'} {mid} g p = over (goes (ap (line_in region s) (ap (λ (m : ℕ). take m carry) n_is ∙ take_least held carry)) g)
    where
      over : Goes (line_in region s (take held carry)) s' region' old mid → Finishes (at_hand s region carry held) region' old.bytes.now new.at new.bytes.now
      over h =
          record {
            words = unfold last_line in unfold line_ends in rw (ne_eqb held 0 some) h.words;
            put = unfold last_line in unfold ended in unfold line_ends in rw (ne_eqb held 0 some, ← fresh) (put_more h.put.put (put_as (ap closing h.session) p.put));
            fits = omega (arith, end_short (at_hand s region carry held));
          }

-- what is left in the buffer that was lent
pub finishes_left : {st : Stream} {region old : List ℕ} {wrote : ℕ} {out new : List ℕ} → new ≡ out → Finishes st region old wrote out → Finishes st region old wrote new
finishes_left {st} {region} {old} {wrote} e f = subst (λ (l : List ℕ). Finishes st region old wrote l) (sym e) f

-- what is written stands in the buffer
pub finish_both : {s : Session} {region carry : List ℕ} {held : ℕ} {region' old : List ℕ} {wrote : ℕ} {new : List ℕ}
    → Finishes (at_hand s region carry held) region' old wrote new → Finishes (at_hand s region carry held) region' old wrote new × Counts wrote new
finish_both f = (f, put_counts f.fits f.put)
