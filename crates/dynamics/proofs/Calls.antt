-- The calls of any block, case by case. Assumes nothing.
use mathlib.Core.Path.{◌≡◌, refl, sym, ap, ◌∙◌}
use mathlib.Core.Bool.{Bool, true, false, not}
use mathlib.Core.List.{List, [], ◌∷◌}
use Prim.Native.Nat.{ℕ, zero, suc}
use borrow.Author.Tests.{eq-eqb, not-true}
use lib.Dec.{eqb}
use lib.ListN.{length}
use lib.Ieee.{Float}
use lib.Ieee.Scale.{finite}
use Rattle.reals.specs.Words.{0·0}
use Rattle.reals.proofs.Once.{OnceLeft}
use Rattle.dynamics.specs.Previous.{runs_back}
use Rattle.dynamics.specs.Answer.{Answer, Outputs, silent, emitted, updated, answered, refusal_of, form_refusal, accept, length_of}
use Rattle.dynamics.specs.Region.{stored, Gives}
use Rattle.dynamics.specs.Machine.{Machine, sized, length_answer, start_refusal, decode_refusal, tick_refusal, started_words, is_sound, emit_answer, update_answer, updated_words, tick_answer, Tick, emits, updates, answer_to, words_after, run}
use Rattle.dynamics.specs.declared.call.Inputs.{Inputs}
use Rattle.dynamics.proofs.Accepted.{accepted, accept_ap, accept_const, all_passed}
use Rattle.dynamics.proofs.Accepted as by

-- a contract of a call that writes admits one result only
pub one_result : {K : Type 0} {D : K → Type 0} {R : Type 0} {E : K → Type 0} {f : (κs : K) → D κs → R} {g : (κs : K) → D κs → List ℕ} {left : (κs : K) → E κs → List ℕ}
    → OnceLeft {K = K} {D = D} {R = R} {E = E} (λ κs a r e. Gives (f κs a) (g κs a) r (left κs e)) left
one_result = record { alike = λ κs a x y s t p q. (p.answers ∙ sym q.answers, p.leaves ∙ sym q.leaves) }

-- words of the state's length take a region's place
stored_all : (M : Machine) (w v : List ℕ) → length v ≡ M.size → sized M w ≡ true → stored w v ≡ v
stored_all M w v e l = rw e (simp l)

-- ---- a start
module _ (M : Machine) (w : List ℕ) where
  pub start_refused : {n : ℕ} → n ≡ start_refusal M w → (n ≡ 0 → ⊥) → Gives (start_refusal M w) (started_words M w) n w
  unfolding started_words
  start_refused e h = record { answers = e; leaves = by.refused _ _ (start_refusal M w) e h }

  pub start_passed : start_refusal M w ≡ 0 → (M.accepts ≡ true) × (sized M w ≡ true)
  unfolding start_refusal form_refusal
  start_passed z = let (_, s, l, _, _, _, _) = all_passed true M.accepts (sized M w) true true true true z in (s, l)

  pub start_accepted : {w' : List ℕ} → 0 ≡ start_refusal M w → w' ≡ M.fresh → Gives (start_refusal M w) (started_words M w) 0 w'
  unfolding started_words
  start_accepted z f = record { answers = z; leaves = f ∙ accepted _ _ (start_refusal M w) z }

  pub start_sized : start_refusal M w ≡ 0 → sized M w ≡ true
  start_sized z = (start_passed z).1

  -- fresh words that are stored are the region's
  pub stored_fresh : (v : List ℕ) {w' : List ℕ} → length v ≡ M.size → 0 ≡ start_refusal M w → v ≡ M.fresh → w' ≡ stored w v → w' ≡ M.fresh
  stored_fresh v l z f s = s ∙ stored_all M w v l (start_passed (sym z)).1 ∙ f

-- ---- decoding, and sound
-- what it tells that a region decodes
pub decode_passed : (M : Machine) (w : List ℕ) → decode_refusal M w ≡ 0 → (M.accepts ≡ true) × (sized M w ≡ true) × (M.decodes w ≡ true)
unfolding decode_refusal
decode_passed M w z = let (_, s, l, _, _, d, _) = all_passed true M.accepts (sized M w) true true (M.decodes w) true z in (s, l, d)

-- where sound asks no more than decoding does, a region is sound exactly if it decodes
pub sound_decodes : (M : Machine) (w : List ℕ) → M.sound w ≡ M.decodes w → is_sound M w ≡ eqb (decode_refusal M w) 0
unfolding is_sound decode_refusal
sound_decodes M w e = rw e

-- ---- a tick
module _ (M : Machine) (time : Float) (i : Inputs) (w : List ℕ) where
  abbrev number : ℕ
  number = tick_refusal M time w

  passed : number ≡ 0 → (M.accepts ≡ true) × (sized M w ≡ true) × (finite time ≡ true) × (M.decodes w ≡ true) × (not (runs_back time (M.previous w)) ≡ true)
  unfolding tick_refusal
  passed z = let (_, s, l, _, t, d, o) = all_passed true M.accepts (sized M w) true (finite time) (M.decodes w) (not (runs_back time (M.previous w))) z in (s, l, t, d, o)

  -- what an accepted tick tells
  pub tick_settings : number ≡ 0 → M.accepts ≡ true
  tick_settings z = (passed z).0

  pub tick_sized : number ≡ 0 → sized M w ≡ true
  tick_sized z = (passed z).1

  pub tick_time : number ≡ 0 → finite time ≡ true
  tick_time z = (passed z).2

  pub tick_decodes : number ≡ 0 → M.decodes w ≡ true
  tick_decodes z = (passed z).3

  pub tick_order : number ≡ 0 → runs_back time (M.previous w) ≡ false
  tick_order z = not-true _ (passed z).4

  -- what a refused call gives
  pub emit_refused : {n : ℕ} → n ≡ number → (n ≡ 0 → ⊥) → silent n ≡ emit_answer M time i w
  unfolding emit_answer
  emit_refused e h = ap silent e ∙ by.refused _ _ number e h

  pub update_refused : {n : ℕ} → n ≡ number → (n ≡ 0 → ⊥) → Gives (update_answer M time i w) (updated_words M time i w) (silent n) w
  unfolding update_answer updated_words
  update_refused e h = record { answers = ap silent e ∙ by.refused _ _ number e h; leaves = by.refused _ _ number e h }

  pub tick_refused : {n : ℕ} → n ≡ number → (n ≡ 0 → ⊥) → Gives (tick_answer M time i w) (updated_words M time i w) (silent n) w
  unfolding tick_answer updated_words
  tick_refused e h = record { answers = ap silent e ∙ by.refused _ _ number e h; leaves = by.refused _ _ number e h }

  -- what an accepted call gives
  pub emit_accepted : {x : Answer} → 0 ≡ number → x ≡ emitted (M.output w time i) → x ≡ emit_answer M time i w
  unfolding emit_answer
  emit_accepted z x = x ∙ accepted _ _ number z

  pub update_accepted : {x : Answer} {w' : List ℕ} → 0 ≡ number → x ≡ updated (M.warns w time i) → w' ≡ M.after w time i
      → Gives (update_answer M time i w) (updated_words M time i w) x w'
  unfolding update_answer updated_words
  update_accepted z x a = record { answers = x ∙ accepted _ _ number z; leaves = a ∙ accepted _ _ number z }

  pub tick_accepted : {x : Answer} {w' : List ℕ} → 0 ≡ number → x ≡ answered (M.output w time i) (M.warns w time i) → w' ≡ M.after w time i
      → Gives (tick_answer M time i w) (updated_words M time i w) x w'
  unfolding tick_answer updated_words
  tick_accepted z x a = record { answers = x ∙ accepted _ _ number z; leaves = a ∙ accepted _ _ number z }

  -- words that are stored are the region's
  pub stored_after : (v : List ℕ) {w' : List ℕ} → length v ≡ M.size → 0 ≡ number → v ≡ M.after w time i → w' ≡ stored w v → w' ≡ M.after w time i
  stored_after v l z a s = s ∙ stored_all M w v l (passed (sym z)).1 ∙ a

  -- ---- only updates warn, and an update hands out 0.0 and false
  pub emit_quiet : (emit_answer M time i w).warning ≡ false
  unfolding emit_answer
  emit_quiet = accept_ap (λ (a : Answer). a.warning) number _ _ ∙ accept_const number false

  pub update_real : (update_answer M time i w).real ≡ 0·0
  unfolding update_answer
  update_real = accept_ap (λ (a : Answer). a.real) number _ _ ∙ accept_const number 0·0

  pub update_boolean : (update_answer M time i w).boolean ≡ false
  unfolding update_answer
  update_boolean = accept_ap (λ (a : Answer). a.boolean) number _ _ ∙ accept_const number false

-- ---- settings that are accepted
module _ (M : Machine) (settings : M.accepts ≡ true) where
  pub length_0 : length_answer M ≡ record { refusal = 0; length = M.size }
  unfolding length_answer length_of form_refusal refusal_of accept
  length_0 = simp settings

  -- a start on words of the right length leaves fresh ones
  pub started_fresh : (w : List ℕ) → length w ≡ M.size → started_words M w ≡ M.fresh
  unfolding started_words start_refusal form_refusal refusal_of accept
  started_fresh w size = simp (settings, eq-eqb _ _ size)

-- ---- settings that are not accepted: every call refuses them with 2
module _ (M : Machine) (no_settings : M.accepts ≡ false) where
  pub tick_2 : (time : Float) (w : List ℕ) → tick_refusal M time w ≡ 2
  unfolding tick_refusal refusal_of
  tick_2 time w = simp no_settings

  pub length_2 : length_answer M ≡ record { refusal = 2; length = 0 }
  unfolding length_answer length_of form_refusal refusal_of accept
  length_2 = simp no_settings

-- ---- a whole tick is an emit and then an update with the same time and inputs
module _ (M : Machine) (w : List ℕ) (k : Tick) where
  pub tick_run : run M w (emits k ∷ updates k ∷ [])
      ≡ record { answer = emit_answer M k.time k.inputs w; left = w }
      ∷ record { answer = update_answer M k.time k.inputs w; left = updated_words M k.time k.inputs w }
      ∷ []
  unfolding run answer_to words_after
  tick_run = refl

-- it has the number of both, the outputs of the one and the warning of the other, and it leaves `updated_words`
pub record Together (emit update whole : Answer) : Type 0 where
  pub as_emit : whole.refusal ≡ emit.refusal
  pub as_update : whole.refusal ≡ update.refusal
  pub real : whole.real ≡ emit.real
  pub boolean : whole.boolean ≡ emit.boolean
  pub warning : whole.warning ≡ update.warning

pub tick_together : (M : Machine) (time : Float) (i : Inputs) (w : List ℕ) → Together (emit_answer M time i w) (update_answer M time i w) (tick_answer M time i w)
unfolding emit_answer update_answer tick_answer
tick_together M time i w = go (tick_refusal M time w) (M.output w time i) (M.warns w time i)
  where
    go : (n : ℕ) (o : Outputs) (b : Bool) → Together (accept n (emitted o) (silent n)) (accept n (updated b) (silent n)) (accept n (answered o b) (silent n))
    go zero o b = unfold accept in record { as_emit = refl; as_update = refl; real = refl; boolean = refl; warning = refl }
    go (suc n) o b = unfold accept in record { as_emit = refl; as_update = refl; real = refl; boolean = refl; warning = refl }
