-- The bytes of a line that has not ended: 256 of them are enough. Assumes nothing.
use Prim.Native.Nat.{ℕ, ◌≤◌, ◌<◌, min}
use mathlib.Core.Path.{◌≡◌, refl, ap, sym, ◌∙◌}
use mathlib.Core.List.{List, [], ◌∷◌, ◌++◌}
use mathlib.Core.Bool.{Bool, true, false}
use native.Mathlib.Omega.{arith}
use borrow.Author.Tests.{ltb-true, ltb-false}
use lib.Dec.{ltb}
use lib.ListN.{length, take, length-append, length-set}
use lib.Seq.{take_all, take-append-le, take-suc-set}
use Rattle.lines.proofs.Kept.{first_kept, later_kept}
use Rattle.session.specs.declared.state.Session.{Session}
use Rattle.session.specs.declared.state.Session.TheVariants.{Fresh, Running, Over}
use Rattle.session.specs.Stream.{goes_on, line_in, Stream, with_line, line_ends, held_more, held_with, byte_held}

-- what is held of the line p: its first 256 bytes
pub record Holding (p : List ℕ) (st : Stream) : Type 0 where
  pub room : length st.carry ≡ 256
  pub count : st.held ≡ min (length p) 256
  pub bytes : take st.held st.carry ≡ take 256 p

-- nothing is held
pub holding_none : (st : Stream) → length st.carry ≡ 256 → st.held ≡ 0 → Holding [] st
holding_none st room e = record { room = room; count = e; bytes = rw e refl }

-- one more byte
pub holding_more : (p : List ℕ) (st : Stream) (b : ℕ) → Holding p st → Holding (p ++ (b ∷ [])) (byte_held st b)
unfolding held_more held_with
holding_more p st b h = go (ltb st.held 256) refl
  where
    go : (t : Bool) → ltb st.held 256 ≡ t → Holding (p ++ (b ∷ [])) (byte_held st b)
    go true e =
        let short : length p < 256 = omega (arith, h.count, ltb-true st.held 256 e) in
        rw e (record {
          room = length-set st.carry st.held b ∙ h.room;
          count = omega (arith, h.count, length-append p (b ∷ []));
          bytes =
              take-suc-set st.carry st.held b (omega (arith, h.room, h.count))
              ∙ ap (λ (l : List ℕ). l ++ (b ∷ [])) (h.bytes ∙ take_all 256 p (omega arith))
              ∙ sym (take_all 256 (p ++ (b ∷ [])) (omega (arith, length-append p (b ∷ []))));
        })
    go false e =
        let long : 256 ≤ length p = omega (arith, h.count, ltb-false st.held 256 e) in
        rw e (record {
          room = h.room;
          count = omega (arith, h.count, length-append p (b ∷ []));
          bytes = h.bytes ∙ sym (take-append-le 256 p (b ∷ []) long);
        })

-- a line says what its first 256 bytes say
line_kept : (region : List ℕ) (s : Session) (p : List ℕ) → line_in region s (take 256 p) ≡ line_in region s p
unfolding line_in goes_on
line_kept region Fresh p = rw (first_kept p)
line_kept region (Running r) p = rw (later_kept r.block p)
line_kept region Over p = refl

-- what the end of the line p leads to
pub ended_line : (p : List ℕ) (st : Stream) → Holding p st → line_ends st ≡ with_line st p
unfolding line_ends
ended_line p st h = rw (h.bytes, line_kept st.words st.session p) refl
