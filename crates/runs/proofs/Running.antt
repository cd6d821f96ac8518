-- A run on its way, over any machine: what is left of it, from here, makes what the whole makes from its start. Assumes nothing.
use mathlib.Core.Path.{◌≡◌, refl, sym, ap, ◌∙◌}
use mathlib.Core.Bool.{true}
use mathlib.Core.List.{List, [], ◌∷◌}
use Prim.Native.Nat.{ℕ, ◌+◌, ◌*◌, ◌≤◌, ◌<◌}
use native.Mathlib.Omega.{arith}
use borrow.Author.Tests.{eqb-true}
use lib.ListN.{length, drop, length-drop}
use lib.Seq.{sets, length-sets}
use Rattle.dynamics.specs.Machine.{Machine, updated_words, tick_answer}
use Rattle.dynamics.specs.Region.{Gives}
use Rattle.dynamics.specs.Answer.{Answer}
use Rattle.runs.specs.Run.{words_per_tick, words_per_answer, ticks_in, asked_by, asked_at, asked, answer_in_words, answer_each, ran_words, ran_answers}
use Rattle.runs.specs.declared.words.Asked.{Asked}
use Rattle.runs.proofs.Lists.{drop_four, sets_behind, sets_all}

-- the ticks from one on: that one, and those behind it
pub asked_more : (l : List ℕ) (n : ℕ) → n < ticks_in l → asked (drop (words_per_tick * n) l) ≡ asked_at l n ∷ asked (drop (words_per_tick * (n + 1)) l)
unfolding asked
asked_more l n h =
    let inside : words_per_tick * n + 4 ≤ length l = omega (arith, h) in
    let next : words_per_tick * n + 4 ≡ words_per_tick * (n + 1) = omega arith in
    rw (drop_four l (words_per_tick * n) inside, next) refl

-- behind the last there is none
asked_short : (l : List ℕ) → length l < words_per_tick → asked l ≡ []
unfolding asked
asked_short [] h = refl
asked_short (a ∷ []) h = refl
asked_short (a ∷ b ∷ []) h = refl
asked_short (a ∷ b ∷ c ∷ []) h = refl
asked_short (a ∷ b ∷ c ∷ d ∷ more) h = absurd (omega (arith, h))

asked_none : (l : List ℕ) (n : ℕ) → ticks_in l ≤ n → asked (drop (words_per_tick * n) l) ≡ []
asked_none l n h = asked_short (drop (words_per_tick * n) l) (omega (arith, h, length-drop (words_per_tick * n) l))

-- an answer is said to each tick
pub said_length : (M : Machine) (region ticks : List ℕ) → length (ran_answers M region (asked ticks)) ≡ words_per_answer * ticks_in ticks
unfolding asked ran_answers
said_length M region [] = omega arith
said_length M region (a ∷ []) = omega arith
said_length M region (a ∷ b ∷ []) = omega arith
said_length M region (a ∷ b ∷ c ∷ []) = omega arith
said_length M region (a ∷ b ∷ c ∷ d ∷ more) =
    let k = asked_by a b c d in
    omega (arith, said_length M (updated_words M k.time k.inputs region) more)

-- the first n ticks are done, and left this region and these answers
pub record Running (M : Machine) (ticks region₀ answers₀ region answers : List ℕ) (n : ℕ) : Type 0 where
  pub room : length answers ≡ words_per_answer * ticks_in ticks
  pub same_region : length region ≡ length region₀
  pub same_answers : length answers ≡ length answers₀
  pub words : ran_words M region (asked (drop (words_per_tick * n) ticks)) ≡ ran_words M region₀ (asked ticks)
  pub said : sets answers (words_per_answer * n) (ran_answers M region (asked (drop (words_per_tick * n) ticks))) ≡ sets answers₀ 0 (ran_answers M region₀ (asked ticks))

module _ (M : Machine) (ticks region₀ answers₀ : List ℕ) where
  -- the words of one answer, and then those of the rest
  said_more : (answers region : List ℕ) (n : ℕ) (k : Asked) (rest : List Asked)
      → sets (sets answers (words_per_answer * n) (answer_in_words (tick_answer M k.time k.inputs region))) (words_per_answer * (n + 1))
      (ran_answers M (updated_words M k.time k.inputs region) rest)
      ≡ sets answers (words_per_answer * n) (ran_answers M region (k ∷ rest))
  unfolding ran_answers
  said_more answers region n k rest =
      let a = answer_in_words (tick_answer M k.time k.inputs region) in
      let behind : words_per_answer * n + length a ≡ words_per_answer * (n + 1) = omega arith in
      sym (sets_behind answers a (ran_answers M (updated_words M k.time k.inputs region) rest) (words_per_answer * n) ∙ rw behind refl)

  -- one tick more
  pub running_more : {region answers left put : List ℕ} {n : ℕ} {k : Asked} {a : Answer} → n < ticks_in ticks
      → Running M ticks region₀ answers₀ region answers n
      → k ≡ asked_at ticks n
      → Gives (tick_answer M k.time k.inputs region) (updated_words M k.time k.inputs region) a left
      → length left ≡ length region
      → put ≡ sets answers (words_per_answer * n) (answer_in_words a)
      → Running M ticks region₀ answers₀ left put (n + 1)
  unfolding ran_words ran_answers
  running_more {region} {answers} {left} {put} {n} {k} {a} h on e g same p =
      let rest = asked (drop (words_per_tick * (n + 1)) ticks) in
      let kept : length put ≡ length answers = ap length p ∙ length-sets answers (words_per_answer * n) (answer_in_words a) in
      record {
        room = kept ∙ on.room;
        same_region = same ∙ on.same_region;
        same_answers = kept ∙ on.same_answers;
        words =
            ap (λ (w : List ℕ). ran_words M w rest) g.leaves
            ∙ ap (λ (z : Asked). ran_words M region (z ∷ rest)) e
            ∙ ap (λ (ks : List Asked). ran_words M region ks) (sym (asked_more ticks n h))
            ∙ on.words;
        said =
            rw (p, g.leaves, g.answers) (said_more answers region n k rest)
            ∙ ap (λ (z : Asked). sets answers (words_per_answer * n) (ran_answers M region (z ∷ rest))) e
            ∙ ap (λ (ks : List Asked). sets answers (words_per_answer * n) (ran_answers M region ks)) (sym (asked_more ticks n h))
            ∙ on.said;
      }

  -- at the end
  pub running_all : {region answers : List ℕ} {n : ℕ} → ticks_in ticks ≤ n → Running M ticks region₀ answers₀ region answers n
      → (region ≡ ran_words M region₀ (asked ticks)) × (answers ≡ ran_answers M region₀ (asked ticks))
  unfolding ran_words ran_answers
  running_all {region} {answers} {n} end on =
      let none = asked_none ticks n end in
      let as_many : length (ran_answers M region₀ (asked ticks)) ≡ length answers₀ = said_length M region₀ ticks ∙ sym on.room ∙ on.same_answers in
      (rw none at on.words, rw none at on.said ∙ sets_all answers₀ (ran_answers M region₀ (asked ticks)) as_many)
