-- Of a run that is not refused each answer is its tick's own: no tick of it fails tests 2 and 3, so that 5, 6 and 7 alone decide. Assumes nothing.
use mathlib.Core.Path.{◌≡◌, refl, ap, sym, ◌∙◌}
use mathlib.Core.List.{List, [], ◌∷◌}
use Prim.Native.Nat.{ℕ}
use lib.Dec.{eqb}
use lib.ListN.{length}
use Rattle.dynamics.specs.Answer.{form_refusal, time_refusal}
use Rattle.dynamics.specs.Machine.{start_refusal, tick_refusal, updated_words}
use Rattle.dynamics.proofs.Accepted.{form_passes}
use Rattle.blocks.specs.Block.{machine_of}
use Rattle.blocks.specs.declared.block.Block.{Block}
use Rattle.blocks.proofs.Lengths.{updated_length}
use Rattle.runs.specs.Run.{ran_words}
use Rattle.runs.specs.declared.words.Asked.{Asked}

module _ (b : Block) where
  -- ticks keep the region's length
  pub ran_length : (w : List ℕ) (ks : List Asked) → length (ran_words (machine_of b) w ks) ≡ length w
  unfolding ran_words
  ran_length w [] = refl
  ran_length w (k ∷ ks) = ran_length (updated_words (machine_of b) k.time k.inputs w) ks ∙ updated_length b k.time k.inputs w

  -- whatever ticks came before: the next one's number is that of tests 5, 6 and 7
  pub own_tests : (w : List ℕ) → start_refusal (machine_of b) w ≡ 0 → (ks : List Asked) (k : Asked)
      → let M = machine_of b in
      let left = ran_words M w ks in
      tick_refusal M k.time left ≡ time_refusal k.time (M.decodes left) (M.previous left)
  unfolding start_refusal tick_refusal time_refusal
  own_tests w fits ks k =
      let M = machine_of b in
      let same : form_refusal M.accepts (eqb (length (ran_words M w ks)) M.size) ≡ 0 =
      ap (λ (n : ℕ). form_refusal M.accepts (eqb n M.size)) (ran_length w ks) ∙ fits in
      sym (form_passes _ _ _ _ _ same)
