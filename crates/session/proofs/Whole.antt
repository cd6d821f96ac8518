-- However the input is cut, what is written is the answers to its lines, one after the other. Assumes nothing.
use Prim.Native.Nat.{ℕ}
use mathlib.Core.Path.{◌≡◌, refl, ap, ◌∙◌}
use mathlib.Core.List.{List, [], ◌∷◌, ◌++◌, append_assoc}
use mathlib.Core.Bool.{Bool, true, false, cond}
use native.Mathlib.Omega.{arith}
use borrow.Author.Tests.{eq-eqb, ne_eqb}
use lib.Dec.{eqb}
use lib.ListN.{length}
use Rattle.session.specs.declared.state.Session.{Session}
use Rattle.session.specs.Soak.{unended, lines_from}
use Rattle.session.specs.Stream.{line_in, Stream, with_line, line_ends, byte_held, byte_in, streamed, last_line, closing, ended}
use Rattle.session.proofs.Holding.{Holding, holding_none, holding_more, ended_line}

-- what is written for lines, and then at the end
unfoldable pub answers : List ℕ → Session → List (List ℕ) → List ℕ
answers region s [] = closing s
answers region s (line ∷ lines) =
    let w = line_in region s line in
    w.text ++ answers w.words w.session lines

-- the input ends
last : (p : List ℕ) (st : Stream) → Holding p st → ended st ≡ st.text ++ answers st.words st.session (unended p)
unfolding ended last_line answers
last [] st h = rw (eq-eqb st.held 0 (omega (arith, h.count))) refl
last (b ∷ p) st h =
    let w = line_in st.words st.session (b ∷ p) in
    ap (λ (t : Bool). (cond t st (line_ends st)).text ++ closing (cond t st (line_ends st)).session) (ne_eqb st.held 0 (λ (z : st.held ≡ 0). absurd (omega (arith, h.count))))
    ∙ ap (λ (z : Stream). z.text ++ closing z.session) (ended_line (b ∷ p) st h)
    ∙ append_assoc st.text w.text (closing w.session)

run : (input p : List ℕ) (st : Stream) → Holding p st → ended (streamed st input) ≡ st.text ++ answers st.words st.session (lines_from p input)
unfolding streamed lines_from byte_in answers
run [] p st h = last p st h
run (b ∷ input) p st h = go (eqb b 10) refl (run input)
  where
    go : (t : Bool) → eqb b 10 ≡ t
        → ((p : List ℕ) (st : Stream) → Holding p st → ended (streamed st input) ≡ st.text ++ answers st.words st.session (lines_from p input))
        → ended (streamed (byte_in st b) input) ≡ st.text ++ answers st.words st.session (cond t (p ∷ lines_from [] input) (lines_from (p ++ (b ∷ [])) input))
    go true e more =
        let w = line_in st.words st.session p in
        rw e
        (ap (λ (z : Stream). ended (streamed z input)) (ended_line p st h)
        ∙ more [] (with_line st p) (holding_none (with_line st p) h.room refl)
        ∙ append_assoc st.text w.text (answers w.words w.session (lines_from [] input)))
    go false e more = rw e (more (p ++ (b ∷ [])) (byte_held st b) (holding_more p st b h))

-- a run from the start of the input
pub whole : (st : Stream) (input : List ℕ) → length st.carry ≡ 256 → st.held ≡ 0
    → ended (streamed st input) ≡ st.text ++ answers st.words st.session (lines_from [] input)
whole st input room none = run input [] st (holding_none st room none)
