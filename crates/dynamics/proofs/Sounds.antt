-- What sound says of any block, and what keeps a region sound: a block's part is its fresh words and one accepted tick. Assumes nothing.
use mathlib.Core.Path.{◌≡◌, refl, sym}
use mathlib.Core.Bool.{Bool, true, false, ◌&&◌}
use mathlib.Core.List.{List, [], ◌∷◌}
use Prim.Native.Nat.{ℕ, zero, suc}
use borrow.Author.Tests.{eq-eqb, eqb-true}
use lib.Dec.{eqb}
use lib.ListN.{length}
use Rattle.dynamics.specs.Answer.{refusal_of, skipped, accept}
use Rattle.dynamics.specs.Machine.{Machine, sized, start_refusal, decode_refusal, tick_refusal, started_words, is_sound, updated_words, Tick, Call, starts, emits, updates, ticks, words_after, left_after}
use Rattle.dynamics.specs.Sound.{StaysSound}
use Rattle.dynamics.proofs.Accepted.{accepted, all_passed, refused_none}
use Rattle.dynamics.proofs.Calls.{start_passed, tick_settings}

-- ---- a sound region: tests 2 and 3 pass, and the block's own test
module _ (M : Machine) (w : List ℕ) where
  sound_parts : is_sound M w ≡ true → (M.accepts ≡ true) × (sized M w ≡ true) × (M.sound w ≡ true)
  unfolding is_sound
  sound_parts e = let (_, a, l, _, _, s, _) = all_passed skipped M.accepts (sized M w) skipped skipped (M.sound w) skipped (eqb-true _ 0 e) in (a, l, s)

  parts_sound : M.accepts ≡ true → sized M w ≡ true → M.sound w ≡ true → is_sound M w ≡ true
  unfolding is_sound
  parts_sound a l s = eq-eqb _ 0 (sym (refused_none _ _ _ _ _ a l refl s refl))

  -- where sound asks more than decoding does, a region is sound exactly if it decodes and passes that too
  pub sound_more : (more : Bool) → M.sound w ≡ M.decodes w && more → is_sound M w ≡ eqb (decode_refusal M w) 0 && more
  unfolding is_sound decode_refusal
  sound_more more e = rw e (go M.accepts (sized M w) (M.decodes w) more)
    where
      go : (a l d o : Bool) → eqb (refusal_of skipped a l skipped skipped (d && o) skipped) 0 ≡ eqb (refusal_of skipped a l skipped skipped d skipped) 0 && o
      go false l d o = unfold refusal_of in refl
      go true false d o = unfold refusal_of in refl
      go true true false o = unfold refusal_of in refl
      go true true true false = unfold refusal_of in refl
      go true true true true = unfold refusal_of in refl

-- ---- what a block shows: its fresh words, and those after an accepted tick of a sound region, have the state's length and pass its test
pub record Keeps (M : Machine) : Type 0 where
  pub fresh_counted : length M.fresh ≡ M.size
  pub fresh_sound : M.sound M.fresh ≡ true
  pub after_counted : (w : List ℕ) (k : Tick) → tick_refusal M k.time w ≡ 0 → length (M.after w k.time k.inputs) ≡ M.size
  pub after_sound : (w : List ℕ) (k : Tick) → tick_refusal M k.time w ≡ 0 → M.sound w ≡ true → M.sound (M.after w k.time k.inputs) ≡ true

-- ---- so its calls keep a region sound
module _ (M : Machine) (K : Keeps M) where
  fresh : (w : List ℕ) → start_refusal M w ≡ 0 → is_sound M (started_words M w) ≡ true
  unfolding started_words
  fresh w z =
      rw (← accepted M.fresh w (start_refusal M w) (sym z))
      (parts_sound M M.fresh (start_passed M w z).0 (eq-eqb _ _ K.fresh_counted) K.fresh_sound)

  module _ (w : List ℕ) (s : is_sound M w ≡ true) where
    by_start : is_sound M (started_words M w) ≡ true
    by_start = go (start_refusal M w) refl
      where
        go : (n : ℕ) → start_refusal M w ≡ n → is_sound M (started_words M w) ≡ true
        go zero e = fresh w e
        go (suc n) e = unfold started_words accept in rw e s

    by_update : (k : Tick) → is_sound M (updated_words M k.time k.inputs w) ≡ true
    by_update k = go (tick_refusal M k.time w) refl
      where
        go : (n : ℕ) → tick_refusal M k.time w ≡ n → is_sound M (updated_words M k.time k.inputs w) ≡ true
        go zero e =
            unfold updated_words accept in
            rw e
            (parts_sound M (M.after w k.time k.inputs) (tick_settings M k.time k.inputs w e) (eq-eqb _ _ (K.after_counted w k e))
            (K.after_sound w k e (sound_parts M w s).2))
        go (suc n) e = unfold updated_words accept in rw e s

    by_call : (c : Call) → is_sound M (words_after M w c) ≡ true
    unfolding words_after
    by_call starts = by_start
    by_call (emits k) = s
    by_call (updates k) = by_update k
    by_call (ticks k) = by_update k

  by_all : (cs : List Call) (w : List ℕ) → is_sound M w ≡ true → is_sound M (left_after M w cs) ≡ true
  unfolding left_after
  by_all [] w s = s
  by_all (c ∷ cs) w s = by_all cs (words_after M w c) (by_call w s c)

  pub stays_sound : StaysSound M
  stays_sound = record { fresh = fresh; kept = λ w c s. by_call w s c; kept_by_all = λ w cs s. by_all cs w s }
