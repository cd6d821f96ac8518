-- A run of calls follows a history's account, if each accepted tick does: the one induction. Assumes nothing.
use Rattle.std.specs.Prelude.{None, Some}
use mathlib.Core.Path.{◌≡◌, refl, sym, ap, ◌∙◌, subst}
use mathlib.Core.Bool.{Bool, true, false, not, cond}
use mathlib.Core.List.{List, [], ◌∷◌}
use Prim.Native.Nat.{ℕ, zero, suc}
use lib.Dec.{eqb}
use lib.ListN.{length}
use lib.Ieee.{Float}
use lib.Ieee.Scale.{finite}
use borrow.Author.Tests.{not-true, eq-eqb}
use Rattle.dynamics.specs.Previous.{runs_back, previous_of, word_of_previous, sound_previous}
use Rattle.dynamics.specs.Answer.{Outputs, silent, emitted, updated, refusal_of, form_refusal, time_refusal, accept}
use Rattle.dynamics.specs.Machine.{Machine, start_refusal, started_words, decode_refusal, decode_answer, tick_refusal, emit_answer, update_answer, tick_answer, updated_words}
use Rattle.dynamics.specs.Machine.{Tick, Call, starts, emits, updates, ticks, answer_to, words_after, run, left_after}
use Rattle.dynamics.specs.History.{History, started, wiped, followed, newest, previous_in, Account, refused_after, grown, answer_after, history_after, retold_to, grown_by, retold, grown_through}
use Rattle.dynamics.specs.History.{Wiping, RetoldFromWiping, RetoldFromStart, AlikeFromWiping, AnswersWiping, ReadAs, ReadFromWiping, ReadFromStart, ReadAlikeFromWiping}
use Rattle.dynamics.specs.declared.call.Inputs.{Inputs}
use Rattle.dynamics.proofs.Times.{previous_back, unset_back}
use Rattle.dynamics.proofs.Accepted.{accepted, accept_same, accept_ap, all_passed}
use Rattle.dynamics.proofs.Calls.{sound_decodes, tick_settings, tick_time}

-- an accepted tick is finite and not below the one before
pub forward : (k : Tick) (h : History) → refused_after k h ≡ 0 → (finite k.time ≡ true) × (runs_back k.time (previous_in h) ≡ false)
unfolding refused_after time_refusal
forward k h ok =
    let (_, _, _, _, t, _, o) = all_passed true true true true (finite k.time) true (not (runs_back k.time (previous_in h))) ok in
    (t, not-true (runs_back k.time (previous_in h)) o)

-- the newest tick of a grown history is the one that came
pub newest_grown : {X : Type 0} (d : X) (f : Tick → X) (wipes : Tick → History → Bool) (k : Tick) (h : History) → newest d f (grown wipes h k) ≡ f k
newest_grown d f wipes k h = go (wipes k h)
  where
    go : (w : Bool) → newest d f (cond w (wiped k) (followed h k)) ≡ f k
    go true = refl
    go false = refl

-- its time is read back, and stays unset or finite
pub time_back : (h : History) → previous_of (word_of_previous (previous_in h)) ≡ previous_in h
time_back started = unset_back
time_back (wiped k) = previous_back k.time k.is_f64
time_back (followed h k) = previous_back k.time k.is_f64

pub grown_sound : (wipes : Tick → History → Bool) (k : Tick) (h : History) → refused_after k h ≡ 0 → sound_previous (previous_in (grown wipes h k)) ≡ true
grown_sound wipes k h ok = rw (newest_grown None (λ (j : Tick). Some j.time) wipes k h) (forward k h ok).0

-- a wiping tick leaves its own words, whatever the region held before it
abbrev pub WipedWords : Machine → Account → Type 0
WipedWords M A = (k : Tick) (w : List ℕ) → Wiping A M w k → M.after w k.time k.inputs ≡ A.words (wiped k)

module _ (M : Machine) (A : Account) (wiped_words : WipedWords M A) where
  pub wiped_clean : (w : List ℕ) (k : Tick) → Wiping A M w k → words_after M w (updates k) ≡ A.words (wiped k)
  unfolding words_after updated_words
  wiped_clean w k p = sym (accepted (M.after w k.time k.inputs) w (tick_refusal M k.time w) (sym p.accepted)) ∙ wiped_words k w p

  -- so it leaves the same words on any two regions, and all that follows is the same, also what is read then
  same_clean : (v w : List ℕ) (k : Tick) → Wiping A M v k → Wiping A M w k → words_after M v (updates k) ≡ words_after M w (updates k)
  same_clean v w k p q = wiped_clean v k p ∙ sym (wiped_clean w k q)

  pub alike : AlikeFromWiping M A
  alike v w k p q cs = ap (λ (u : List ℕ). run M u cs) (same_clean v w k p q)

  pub read_alike : {X : Type 0} (f : List ℕ → X) → ReadAlikeFromWiping M A f
  read_alike f v w k p q cs = ap (λ (u : List ℕ). f (left_after M u cs)) (same_clean v w k p q)

-- What a block shows of its account: Good is what it knows of a history as it grows.
pub record Kept (M : Machine) (A : Account) (Good : History → Type 0) : Type 0 where
  -- it never warns, and sound asks of words what decoding asks
  pub quiet : (w : List ℕ) (time : Float) (i : Inputs) → M.warns w time i ≡ false
  pub sound_asks : (w : List ℕ) → M.sound w ≡ M.decodes w
  -- the words of a history: their number, that they decode, the time in them
  pub counted : (h : History) → length (A.words h) ≡ M.size
  pub decodes : (h : History) → Good h → M.decodes (A.words h) ≡ true
  pub previous : (h : History) → Good h → M.previous (A.words h) ≡ previous_in h
  -- a start, and a wiping tick on any region
  pub fresh : M.fresh ≡ A.words started
  pub good_fresh : Good started
  pub wiped_words : WipedWords M A
  pub good_wiped : (k : Tick) → finite k.time ≡ true → Good (wiped k)
  -- an accepted tick k after h
  pub output : (k : Tick) (h : History) → Good h → refused_after k h ≡ 0 → M.output (A.words h) k.time k.inputs ≡ A.output k h
  pub after : (k : Tick) (h : History) → Good h → refused_after k h ≡ 0 → M.after (A.words h) k.time k.inputs ≡ A.words (grown A.wipes h k)
  pub good : (k : Tick) (h : History) → Good h → refused_after k h ≡ 0 → Good (grown A.wipes h k)

module _ (M : Machine) (A : Account) (Good : History → Type 0) (K : Kept M A Good) where
  module _ (settings : M.accepts ≡ true) where
    same_start : (h : History) → start_refusal M (A.words h) ≡ 0
    unfolding start_refusal form_refusal refusal_of
    same_start h = simp (settings, K.counted h, eq-eqb M.size M.size refl)

    started_words_lem : (h : History) → started_words M (A.words h) ≡ A.words started
    unfolding started_words accept
    started_words_lem h = rw (same_start h) K.fresh

    module _ (k : Tick) (h : History) (g : Good h) where
      same_refusal : tick_refusal M k.time (A.words h) ≡ refused_after k h
      unfolding tick_refusal refused_after time_refusal
      same_refusal = simp (settings, K.counted h, eq-eqb M.size M.size refl, K.decodes h g, K.previous h g)

      same_emit : emit_answer M k.time k.inputs (A.words h) ≡ answer_after A k h
      unfolding emit_answer
      same_emit = rw same_refusal (accept_same (refused_after k h) _ _ _ (λ z. ap emitted (K.output k h g z)))

      same_tick : tick_answer M k.time k.inputs (A.words h) ≡ answer_after A k h
      unfolding tick_answer
      same_tick = rw (same_refusal, K.quiet (A.words h) k.time k.inputs) (accept_same (refused_after k h) _ _ _ (λ z. ap emitted (K.output k h g z)))

      -- nothing to say, whether refused or not
      same_update : update_answer M k.time k.inputs (A.words h) ≡ silent (refused_after k h)
      unfolding update_answer
      same_update = rw (same_refusal, K.quiet (A.words h) k.time k.inputs) (go (refused_after k h))
        where
          go : (n : ℕ) → accept n (updated false) (silent n) ≡ silent n
          go zero = unfold accept in refl
          go (suc n) = unfold accept in refl

      same_words : updated_words M k.time k.inputs (A.words h) ≡ A.words (history_after A k h)
      unfolding updated_words
      same_words =
          rw same_refusal
          (accept_same (refused_after k h) _ _ _ (K.after k h g) ∙ sym (accept_ap A.words (refused_after k h) (grown A.wipes h k) h))

      good_then : Good (history_after A k h)
      good_then = go (refused_after k h) refl
        where
          go : (n : ℕ) → refused_after k h ≡ n → Good (accept n (grown A.wipes h k) h)
          go zero e = unfold accept in K.good k h g e
          go (suc n) e = unfold accept in g

    -- a call on a region with the words of a history answers and leaves what the history says
    same_answer : (c : Call) (h : History) → Good h → answer_to M (A.words h) c ≡ retold_to A h c
    unfolding answer_to retold_to
    same_answer starts h g = ap silent (same_start h)
    same_answer (emits k) h g = same_emit k h g
    same_answer (updates k) h g = same_update k h g
    same_answer (ticks k) h g = same_tick k h g

    same_left : (c : Call) (h : History) → Good h → words_after M (A.words h) c ≡ A.words (grown_by A h c)
    unfolding words_after grown_by
    same_left starts h g = started_words_lem h
    same_left (emits k) h g = refl
    same_left (updates k) h g = same_words k h g
    same_left (ticks k) h g = same_words k h g

    same_good : (c : Call) (h : History) → Good h → Good (grown_by A h c)
    unfolding grown_by
    same_good starts h g = K.good_fresh
    same_good (emits k) h g = g
    same_good (updates k) h g = good_then k h g
    same_good (ticks k) h g = good_then k h g

    -- the one induction: so it does over any calls
    pub follows : (cs : List Call) (h : History) → Good h → run M (A.words h) cs ≡ retold A h cs
    unfolding run retold
    follows [] h g = refl
    follows (c ∷ cs) h g = rw (same_answer c h g, same_left c h g, follows cs (grown_by A h c) (same_good c h g))

    -- and what is left are the words of the history that is left
    left_follows : (cs : List Call) (h : History) → Good h → left_after M (A.words h) cs ≡ A.words (grown_through A h cs)
    unfolding left_after grown_through
    left_follows [] h g = refl
    left_follows (c ∷ cs) h g = rw (same_left c h g, left_follows cs (grown_by A h c) (same_good c h g))

    good_follows : (cs : List Call) (h : History) → Good h → Good (grown_through A h cs)
    unfolding grown_through
    good_follows [] h g = g
    good_follows (c ∷ cs) h g = good_follows cs (grown_by A h c) (same_good c h g)

    -- the words of a history are sound, and decode
    module _ {S : Type 0} (state_of : List ℕ → S) (zeros : S) where
      decodes_0 : (h : History) → Good h → decode_refusal M (A.words h) ≡ 0
      unfolding decode_refusal refusal_of
      decodes_0 h g = simp (settings, K.counted h, eq-eqb M.size M.size refl, K.decodes h g)

      read_as : (h : History) → Good h → ReadAs M A state_of zeros (A.words h) h
      unfolding decode_answer accept
      read_as h g = record {
        words = refl;
        sound = sound_decodes M (A.words h) (K.sound_asks (A.words h)) ∙ ap (λ (n : ℕ). eqb n 0) (decodes_0 h g);
        decode = simp (decodes_0 h g);
      }

      read_follows : (cs : List Call) (h : History) → Good h → ReadAs M A state_of zeros (left_after M (A.words h) cs) (grown_through A h cs)
      read_follows cs h g = rw (left_follows cs h g) (read_as (grown_through A h cs) (good_follows cs h g))

  -- from a fresh start
  pub from_start : RetoldFromStart M A
  from_start settings cs = ap (λ (w : List ℕ). run M w cs) K.fresh ∙ follows settings cs started K.good_fresh

  -- after a wiping tick: the region has the words of the history that it begins, which is good
  good_begun : (w : List ℕ) (k : Tick) → Wiping A M w k → Good (wiped k)
  good_begun w k p = K.good_wiped k (tick_time M k.time k.inputs w p.accepted)

  pub from_wiping : RetoldFromWiping M A
  from_wiping w k p cs =
      rw (wiped_clean M A K.wiped_words w k p)
      (follows (tick_settings M k.time k.inputs w p.accepted) cs (wiped k) (good_begun w k p))

  -- what is read then
  module _ {S : Type 0} (state_of : List ℕ → S) (zeros : S) where
    pub read_from_start : ReadFromStart M A state_of zeros
    read_from_start settings cs =
        subst (λ (w : List ℕ). ReadAs M A state_of zeros (left_after M w cs) (grown_through A started cs)) (sym K.fresh)
        (read_follows settings state_of zeros cs started K.good_fresh)

    pub read_from_wiping : ReadFromWiping M A state_of zeros
    read_from_wiping w k p cs =
        rw (wiped_clean M A K.wiped_words w k p)
        (read_follows (tick_settings M k.time k.inputs w p.accepted) state_of zeros cs (wiped k) (good_begun w k p))

-- a block whose answer is of the state after its tick: a wiping tick answers by the history that it begins
pub answers_wiping : (M : Machine) (A : Account) (told : History → Outputs)
    → ((k : Tick) (h : History) → A.output k h ≡ told (grown A.wipes h k))
    → ((k : Tick) (w : List ℕ) → Wiping A M w k → M.output w k.time k.inputs ≡ told (wiped k))
    → AnswersWiping M A
unfolding emit_answer
answers_wiping M A told at_history on_region w k p h e =
    sym (accepted _ _ (tick_refusal M k.time w) (sym p.accepted))
    ∙ ap emitted (on_region k w p ∙ sym (ap (λ (b : Bool). told (cond b (wiped k) (followed h k))) e) ∙ sym (at_history k h))
