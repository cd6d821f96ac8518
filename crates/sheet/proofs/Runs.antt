-- A sheet equals its blocks run singly, over any ticks, refused ones too. Assumes nothing.
use Prim.Native.Nat.{ℕ, zero, suc, ◌*◌}
use mathlib.Core.Path.{◌≡◌, refl, sym, ◌∙◌, ap}
use mathlib.Core.List.{List, [], ◌∷◌, ◌++◌, map}
use lib.ListN.{take, drop}
use Rattle.reals.specs.Words.{word_of, word_of_flag}
use Rattle.dynamics.specs.Answer.{Answer, accept}
use Rattle.dynamics.specs.Machine.{Machine, updated_words, Call, ticks, answer_to, words_after, run, left_after}
use Rattle.dynamics.proofs.Accepted.{accepted}
use Rattle.dynamics.proofs.Calls.{tick_together}
use Rattle.blocks.specs.Block.{machine_of, inputs_of, Hands, real, boolean, both, outputs_of, handed}
use Rattle.sheet.specs.Rows.{Placed, placed, joined}
use Rattle.sheet.specs.Sheet.{row_answers, tick_number, Fed, two_words, answers_of, left_of, feed, fed}
use Rattle.sheet.specs.Single.{At, now_has, Brought, own_tick, call_of, RowSeen, stretch_of, sheet_after, received, seen_of, shown_as, calls, RunsSingly}
use Rattle.sheet.specs.declared.row.Row.{Row}
use Rattle.sheet.proofs.Single.{fed_there, tick_singly}

-- the words at a row's place are its stretch
pub stretch_at : (n : ℕ) (p : Placed) (ps : List Placed) → At n p ps → stretch_of n ps ≡ p.words
unfolding At stretch_of
stretch_at zero p [] a = absurd a
stretch_at (suc n) p [] a = absurd a
stretch_at zero p (x ∷ ps) a = ap (λ (q : Placed). q.words) (sym a)
stretch_at (suc n) p (x ∷ ps) a = stretch_at n p ps a

-- and the call of what stands there is the row's
call_of_lem : (n : ℕ) (k : Brought) (q : Fed) (qs : List Fed) → At n q qs → call_of n k qs ≡ ticks (own_tick k q) ∷ []
unfolding At call_of
call_of_lem zero k q [] a = absurd a
call_of_lem (suc n) k q [] a = absurd a
call_of_lem zero k q (x ∷ qs) a = ap (λ (y : Fed). ticks (own_tick k y) ∷ []) (sym a)
call_of_lem (suc n) k q (x ∷ qs) a = call_of_lem n k q qs a

-- a whole tick hands out the words that its emit does
same_words : (h : Hands) (a b : Answer) → a.real ≡ b.real → a.boolean ≡ b.boolean → handed h a ≡ handed h b
same_words real x y r b = λ i. record { first = word_of (r i); second = 0 }
same_words boolean x y r b = λ i. record { first = word_of_flag (b i); second = 0 }
same_words both x y r b = λ i. record { first = word_of (r i); second = word_of_flag (b i) }

-- all that is seen of row n is what its block shows of these calls, which find the words of its stretch, and the row is left with what they leave
pub record ShowsRun (rs : List Row) (n : ℕ) (p : Placed) (cs : List Call) (seen : List RowSeen) (left : List ℕ) : Type 0 where
  pub shows : seen ≡ map (shown_as p.row.block) (run (machine_of p.row.block) p.words cs)
  pub leaves : At n (now_has p (left_after (machine_of p.row.block) p.words cs)) (placed rs left)

-- ---- one tick of the sheet, and what is known of all later ones
module _ (rs : List Row) (os ws : List ℕ) (n : ℕ) (p : Placed) (a : At n p (placed rs ws)) (k : Brought) (ks : List Brought)
    (later : (ws' : List ℕ) (p' : Placed) → At n p' (placed rs ws') → ShowsRun rs n p' (calls rs os ws' n p' ks) (seen_of rs os n ws' ks) (sheet_after rs os ws' ks)) where
  abbrev M : Machine
  M = machine_of p.row.block

  -- the region and the answers that the tick leaves where its number is m, and all that is to be shown of the row then
  abbrev left : ℕ → List ℕ
  left m = accept m (joined left_of (fed k.tick rs ws)) ws

  abbrev out : ℕ → List ℕ
  out m = accept m (joined answers_of (fed k.tick rs ws)) os

  abbrev first : ℕ → RowSeen
  first m = record { answers = take row_answers (drop (row_answers * n) (out m)); stretch = stretch_of n (placed rs (left m)) }

  abbrev Shown : ℕ → Type 0
  Shown m = ShowsRun rs n p (accept m (call_of n k (fed k.tick rs ws)) [] ++ received rs os n (left m) ks)
      (accept m (first m ∷ []) [] ++ seen_of rs os n (left m) ks) (sheet_after rs os (left m) ks)

  by_number : (m : ℕ) → tick_number k.tick.time rs ws os ≡ m → Shown m
  unfolding accept run answer_to words_after left_after
  by_number zero z =
      let q = feed k.tick (joined answers_of (fed k.tick rs ws)) p in
      let there = fed_there k.tick rs ws os z n p a in
      let s = tick_singly k.tick rs ws os z _ (left 0) (out 0) (record { answer = refl; region = accepted _ _ _ (sym z); answers = accepted _ _ _ (sym z) }) n q there in
      let i = inputs_of q.received in
      let t = tick_together M k.tick.time i p.words in
      let more = later (left 0) (now_has p (updated_words M k.tick.time i p.words)) s.leaves in
      let words = s.answers ∙ ap two_words (same_words (outputs_of p.row.block) _ _ (sym t.real) (sym t.boolean)) in
      let its = stretch_at n _ _ s.leaves in
      rw (call_of_lem n k q _ there) (record { shows = λ j. record { answers = words j; stretch = its j } ∷ more.shows j; leaves = more.leaves })
  by_number (suc m) z = later ws p a

run_shows : (rs : List Row) (os : List ℕ) (ks : List Brought) (ws : List ℕ) (n : ℕ) (p : Placed) → At n p (placed rs ws) → ShowsRun rs n p (calls rs os ws n p ks) (seen_of rs os n ws ks) (sheet_after rs os ws ks)
unfolding received seen_of sheet_after run left_after
run_shows rs os [] ws n p a = record { shows = refl; leaves = a }
run_shows rs os (k ∷ ks) ws n p a = by_number rs os ws n p a k ks (λ ws' p' a'. run_shows rs os ks ws' n p' a') (tick_number k.tick.time rs ws os) refl

-- each row is what its block shows, run singly on the calls that it received
pub run_singly : (rs : List Row) (os ws : List ℕ) (n : ℕ) (p : Placed) (ks : List Brought) → At n p (placed rs ws) → RunsSingly rs os ws n p ks
run_singly rs os ws n p ks a = let s = run_shows rs os ks ws n p a in record { shows = s.shows; leaves = stretch_at n _ _ s.leaves }
