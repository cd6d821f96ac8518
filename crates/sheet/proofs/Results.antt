-- The walks of a call give what the sheet's definitions say. Assumes nothing.
--     start_is, tick_is                          a start's two walks and a tick's three
--     start_1, start_2, start_all                what a start says where it ends: at test 1, after its survey, after its fresh words
--     tick_1, tick_2, tick_3, tick_all           what a tick does: at test 1, after its survey, after its emits, after its updates
use Prim.Native.Nat.{ℕ, ◌+◌, ◌*◌, ◌≤◌}
use native.Mathlib.Nat.{zero-add}
use native.Mathlib.Omega.{arith}
use mathlib.Core.Path.{◌≡◌, refl, sym, ◌∙◌, ap}
use mathlib.Core.Bool.{Bool, true, false, cond, ◌&&◌}
use mathlib.Core.Logic.{inl, ⊎_elim}
use mathlib.Core.List.{List, [], append-nil}
use borrow.Author.Tests.{leb-true, eqb-true, eqb-false, eq-eqb, ne_eqb}
use lib.Dec.{eqb, leb}
use lib.ListN.{length, take, drop, replicate, length-append}
use lib.Seq.{take_at}
use lib.Ieee.{Float}
use lib.Ieee.Scale.{finite}
use Rattle.std.specs.Prelude.{Option, Some, None, Result, Ok, Err}
use Rattle.reals.proofs.Values.{both}
use Rattle.dynamics.specs.Answer.{refusal_of}
use Rattle.dynamics.proofs.Accepted.{accepted}
use Rattle.dynamics.proofs.Accepted as by
use Rattle.blocks.specs.declared.block.Tick.{Tick}
use Rattle.sheet.specs.Rows.{width_of, Placed, placed, every, any_of, first_failing, joined}
use Rattle.sheet.specs.Sheet.{most_rows, input_words, row_answers, few_rows, all_reach, settled, decodes, on_time, start_number, tick_number, row_at_fault, start_row, starts_on, SheetStarted, tick_said, SheetTicked, fed, warns_of, left_of}
use Rattle.sheet.specs.Walk.{columns, Carried, carried, fault, refused, past_fault, ready, begun, surveyed, formed, without_fault, answer_of, survey_turn, start_turn, emitted_row, updated_row, walked, again, Ended, starting, ticking, InSight, handed_out, Left}
use Rattle.sheet.specs.declared.row.Row.{Row}
use Rattle.sheet.specs.declared.seen.Seen.{Seen}
use Rattle.sheet.specs.declared.walk.Fault.{Fault}
use Rattle.sheet.specs.declared.walk.Walk.{Walk}
use Rattle.sheet.proofs.Stretches.{either, behind}
use Rattle.sheet.proofs.Feeding.{all_reach_more, answered, any_fed, joined_fed}
use Rattle.sheet.proofs.Ends.{EndsAre, ended, ended_words, ends_are}
use Rattle.sheet.proofs.Walks.{midway, Finds, out_of_reach, unsettled, Misfits, missing, over_left, misfit, unharmed}
use Rattle.sheet.proofs.Admission.{every_both, fitting, all_fit, gives_6, not_6, gives_7, gives_0, all_accept}
use Rattle.sheet.proofs.Emits.{topmost, Emitted, emits}
use Rattle.sheet.proofs.Works.{Works, started, updated}
use Rattle.sheet.proofs.Rows.{carries}

-- a call that a fault ended, with the region as it was
abbrev faulty : ℕ → ℕ → List ℕ → Seen → Ended
faulty m j ws seen = record { said = Err (fault m j); region = ws; seen = seen }

-- ---- what a call knows when it goes on: there are few rows, and two answer words for each
pub few_of : {n : ℕ} {x : Unit {0}} → begun n ≡ Ok x → n ≤ most_rows
unfolding begun
few_of {n} e = ⊎_elim (λ t. leb-true n most_rows (both (leb 1 n) (leb n most_rows) t).1) (λ f. let z = rw f at e in cc) (either (few_rows n))

pub space_of : (w : Walk) (n words space : ℕ) (time : Float) {x : Unit {0}} → formed w n words space time ≡ Ok x → space ≡ row_answers * n
unfolding formed
space_of w n words space time {x} e = eqb-true _ _ (go w.fault (eqb w.at words) (eqb space (row_answers * n)) (finite time) e)
  where
    go : (f : Option Fault) (a b c : Bool) → past_fault f (cond a (cond b (cond c (Ok tt) (refused 5)) (refused 4)) (refused 3)) ≡ Ok x → b ≡ true
    go (Some f) a b c e = cc
    go None true true c e = refl
    go None true false c e = cc
    go None false b c e = cc

-- ---- the survey, which both calls begin with
module _ (time : Float) (rs : List Row) (ws : List ℕ) (seen : Seen) where
  abbrev looked : Carried
  looked = walked survey_turn time 0 rs (carried ready ws seen)

  begins : few_rows (length rs) ≡ true → begun (length rs) ≡ Ok tt
  unfolding begun
  begins few = rw few refl

  other_column : all_reach 0 rs ≡ false → Finds looked (Some (fault 1 0)) ws
  other_column f = out_of_reach time ws 0 rs None 0 seen tt f

  module _ (reach : all_reach 0 rs ≡ true) where
    other_settings : every settled rs ≡ false → Finds looked (Some (fault 2 (first_failing settled rs))) ws
    other_settings f = rw (zero-add (first_failing settled rs)) at (unsettled time ws 0 rs None 0 seen tt reach f)

    module _ (settles : every settled rs ≡ true) where
      other_width : eqb (length ws) (width_of rs) ≡ false → Misfits time ws looked
      other_width f = misfit time ws 0 rs 0 seen reach settles (λ z. eqb-false (length ws) (width_of rs) f (sym (sym (zero-add (width_of rs)) ∙ z)))

      module _ (fits : eqb (length ws) (width_of rs) ≡ true) where
        all : 0 + width_of rs ≡ length ws
        all = zero-add (width_of rs) ∙ sym (eqb-true (length ws) (width_of rs) fits)

        no_fault : looked ≡ carried (midway None (length ws)) ws (ended 0 rs 0 seen)
        no_fault = unharmed time ws 0 rs 0 seen all reach settles

-- ---- a start
module _ (time : Float) (rs : List Row) (ws : List ℕ) (seen : Seen) where
  abbrev survey : Carried
  survey = looked time rs ws seen

  abbrev StartSaid : Type 0
  StartSaid = SheetStarted rs ws (answer_of (starting time rs ws seen).said) (starting time rs ws seen).region

  start_refusal_is : (m j : ℕ) (zs : Seen) → (m ≡ 0 → ⊥) → starting time rs ws seen ≡ faulty m j ws zs → start_number rs ws ≡ m → start_row m rs ≡ j → StartSaid
  start_refusal_is m j zs some e n row = rw e (record { answer = rw (n, row) refl; region = rw n (by.refused _ _ m refl some) })

  start_count : few_rows (length rs) ≡ false → StartSaid
  unfolding begun start_number refusal_of start_row
  start_count f = start_refusal_is 1 0 seen (λ z. omega arith) (rw f refl) (simp f) refl

  module _ (few : few_rows (length rs) ≡ true) where
    start_stops : (m j : ℕ) → survey.region ≡ ws → surveyed survey.found (length ws) ≡ Err (fault m j) → starting time rs ws seen ≡ faulty m j ws survey.seen
    start_stops m j d e = rw (begins time rs ws seen few, e, d) refl

    start_stands : (m j : ℕ) → Finds survey (Some (fault m j)) ws → starting time rs ws seen ≡ faulty m j ws survey.seen
    start_stands m j d = start_stops m j d.region_is (unfold surveyed in rw d.fault_is refl)

    start_column : all_reach 0 rs ≡ false → StartSaid
    unfolding start_number refusal_of start_row
    start_column f = start_refusal_is 1 0 _ (λ z. omega arith) (start_stands 1 0 (other_column time rs ws seen f)) (simp (few, f)) refl

    module _ (reach : all_reach 0 rs ≡ true) where
      start_settings : every settled rs ≡ false → StartSaid
      unfolding start_number refusal_of start_row
      start_settings f =
          start_refusal_is 2 (first_failing settled rs) _ (λ z. omega arith) (start_stands 2 (first_failing settled rs) (other_settings time rs ws seen reach f)) (simp (few, reach, f)) refl

      module _ (settles : every settled rs ≡ true) where
        start_length : eqb (length ws) (width_of rs) ≡ false → StartSaid
        unfolding start_number refusal_of start_row
        start_length f = start_refusal_is 3 0 _ (λ z. omega arith) (go (other_width time rs ws seen reach settles f)) (simp (few, reach, settles, f)) refl
          where
            go : Misfits time ws survey → starting time rs ws seen ≡ faulty 3 0 ws survey.seen
            go (missing d) = start_stands 3 0 d
            go (over_left d off) = start_stops 3 0 d.region_is (unfold surveyed in rw (d.fault_is, ne_eqb survey.found.at (length ws) off) refl)

        starts : eqb (length ws) (width_of rs) ≡ true → StartSaid
        starts fits = rw (begins time rs ws seen few, measured) (record {
          answer = unfold start_row in rw (number, works.warning_is) refl;
          region = works.region_is ∙ accepted _ _ _ (sym number);
        })
          where
            number : start_number rs ws ≡ 0
            number = unfold start_number refusal_of in simp (few, reach, settles, fits)

            measured : surveyed survey.found (length ws) ≡ Ok tt
            measured = unfold surveyed in rw (no_fault time rs ws seen reach settles fits, eq-eqb (length ws) (length ws) refl) refl

            works : Works (again start_turn time rs survey) false (joined starts_on (placed rs ws)) (ended 0 rs 0 seen)
            works = rw (no_fault time rs ws seen reach settles fits) (started time 0 rs 0 ws (ended 0 rs 0 seen) (all time rs ws seen reach settles fits) settles)

  -- a start's two walks give what the sheet's definition says
  pub start_is : StartSaid
  start_is = ⊎_elim (λ few. ⊎_elim (λ reach. ⊎_elim (λ settles. ⊎_elim
      (starts few reach settles)
      (start_length few reach settles) (either (eqb (length ws) (width_of rs))))
      (start_settings few reach) (either (every settled rs)))
      (start_column few) (either (all_reach 0 rs)))
      start_count (either (few_rows (length rs)))

  pub start_1 : {f : Fault} → begun (length rs) ≡ Err f → SheetStarted rs ws (answer_of (Err f)) ws
  start_1 e = rw e at start_is

  module _ {x : Unit {0}} (b : begun (length rs) ≡ Ok x) {w : Walk} {ws₁ : List ℕ} {os₁ : Seen} (l : Left survey w ws₁ os₁) (long : length ws₁ ≡ length ws) where
    pub start_2 : {f : Fault} → surveyed w (length ws₁) ≡ Err f → SheetStarted rs ws (answer_of (Err f)) ws₁
    start_2 e = rw (b, ← carries l, rw long at e) at start_is

    pub start_all : {y : Unit {0}} → surveyed w (length ws₁) ≡ Ok y → {w' : Walk} {ws₂ : List ℕ} {os₂ : Seen} → Left (walked start_turn time 0 rs (carried ready ws₁ os₁)) w' ws₂ os₂ → SheetStarted rs ws (answer_of (Ok w'.warning)) ws₂
    start_all e m = rw (b, ← carries l, rw long at e, ← carries m) at start_is

-- ---- a tick
module _ (k : Tick) (rs : List Row) (ws os : List ℕ) (seen : Seen) (sight : InSight k seen) where
  abbrev time : Float
  time = k.time

  abbrev ps : List Placed
  ps = placed rs ws

  -- after the survey, after the emits, and at the end
  abbrev surveys : Carried
  surveys = looked time rs ws seen

  abbrev noted_ends : Seen
  noted_ends = ended 0 rs 0 seen

  abbrev emitted : Carried
  emitted = again emitted_row time rs surveys

  abbrev updates : Carried
  updates = again updated_row time rs emitted

  abbrev last : Ended
  last = ticking time rs ws seen (length os)

  abbrev forms : Result (Unit {0}) Fault
  forms = formed surveys.found (length rs) (length ws) (length os) time

  abbrev Said : Type 0
  Said = SheetTicked k rs ws os (answer_of last.said) last.region (handed_out last.said last.seen os)

  -- what the contract says of a refusal
  refusal_is : (m j : ℕ) (zs : Seen) → (m ≡ 0 → ⊥) → last ≡ faulty m j ws zs → tick_number time rs ws os ≡ m → row_at_fault m time rs ws ≡ j → Said
  unfolding tick_said
  refusal_is m j zs some e n row = rw e (record {
    answer = rw (n, row) (by.refused _ _ m refl some);
    region = rw n (by.refused _ _ m refl some);
    answers = rw n (by.refused _ _ m refl some);
  })

  too_few_or_many : few_rows (length rs) ≡ false → Said
  unfolding begun tick_number refusal_of row_at_fault
  too_few_or_many f = refusal_is 1 0 seen (λ z. omega arith) (rw f refl) (simp f) refl

  -- the tick's own words, after the survey
  long : length noted_ends.words ≡ columns
  long = rw (ended_words 0 rs 0 seen, sight.words, length-append k.words (replicate (row_answers * most_rows) 0), sight.eight) refl

  eight : take input_words noted_ends.words ≡ k.words
  eight = rw (ended_words 0 rs 0 seen, sight.words) (take_at k.words (replicate (row_answers * most_rows) 0) input_words sight.eight)

  module _ (few : few_rows (length rs) ≡ true) where
    rows : 0 + length rs ≤ most_rows
    rows = rw (zero-add (length rs)) (leb-true (length rs) most_rows (both (leb 1 (length rs)) (leb (length rs) most_rows) few).1)

    there : EndsAre 0 rs 0 noted_ends.ends
    there = ends_are 0 rs 0 seen rows (rw sight.ends refl)

    -- a survey that found a fault
    stops : (m j : ℕ) → surveys.region ≡ ws → forms ≡ Err (fault m j) → last ≡ faulty m j ws surveys.seen
    stops m j d e = rw (begins time rs ws seen few, e, d) refl

    stands : (m j : ℕ) → Finds surveys (Some (fault m j)) ws → last ≡ faulty m j ws surveys.seen
    stands m j d = stops m j d.region_is (unfold formed in rw d.fault_is refl)

    no_such_column : all_reach 0 rs ≡ false → Said
    unfolding tick_number refusal_of row_at_fault
    no_such_column f = refusal_is 1 0 _ (λ z. omega arith) (stands 1 0 (other_column time rs ws seen f)) (simp (few, f)) refl

    module _ (reach : all_reach 0 rs ≡ true) where
      bad_settings : every settled rs ≡ false → Said
      unfolding tick_number refusal_of row_at_fault
      bad_settings f =
          refusal_is 2 (first_failing settled rs) _ (λ z. omega arith) (stands 2 (first_failing settled rs) (other_settings time rs ws seen reach f)) (simp (few, reach, f)) refl

      module _ (settles : every settled rs ≡ true) where
        another_length : eqb (length ws) (width_of rs) ≡ false → Said
        unfolding tick_number refusal_of row_at_fault
        another_length f = refusal_is 3 0 _ (λ z. omega arith) (go (other_width time rs ws seen reach settles f)) (simp (few, reach, settles, f)) refl
          where
            go : Misfits time ws surveys → last ≡ faulty 3 0 ws surveys.seen
            go (missing d) = stands 3 0 d
            go (over_left d off) = stops 3 0 d.region_is (unfold formed in rw (d.fault_is, ne_eqb surveys.found.at (length ws) off) refl)

        module _ (fits : eqb (length ws) (width_of rs) ≡ true) where
          surveyed_all : surveys ≡ carried (midway None (length ws)) ws noted_ends
          surveyed_all = no_fault time rs ws seen reach settles fits

          width : 0 + width_of rs ≡ length ws
          width = all time rs ws seen reach settles fits

          stops_here : (m : ℕ) → formed (midway None (length ws)) (length rs) (length ws) (length os) time ≡ Err (fault m 0) → last ≡ faulty m 0 ws surveys.seen
          stops_here m e = stops m 0 (ap (λ (c : Carried). c.region) surveyed_all) (ap (λ (c : Carried). formed c.found (length rs) (length ws) (length os) time) surveyed_all ∙ e)

          another_space : eqb (length os) (row_answers * length rs) ≡ false → Said
          unfolding formed tick_number refusal_of row_at_fault
          another_space f = refusal_is 4 0 _ (λ z. omega arith) (stops_here 4 (rw (eq-eqb (length ws) (length ws) refl, f) refl)) (simp (few, reach, settles, fits, f)) refl

          module _ (space : eqb (length os) (row_answers * length rs) ≡ true) where
            no_time : finite time ≡ false → Said
            unfolding formed tick_number refusal_of row_at_fault
            no_time f = refusal_is 5 0 _ (λ z. omega arith) (stops_here 5 (rw (eq-eqb (length ws) (length ws) refl, space, f) refl)) (simp (few, reach, settles, fits, space, f)) refl

            module _ (timely : finite time ≡ true) where
              forms_is : forms ≡ Ok tt
              forms_is = ap (λ (c : Carried). formed c.found (length rs) (length ws) (length os) time) surveyed_all ∙ unfold formed in rw (eq-eqb (length ws) (length ws) refl, space, timely) refl

              -- the emits that found a fault
              halts : (m j : ℕ) → Finds emitted (Some (fault m j)) ws → last ≡ faulty m j ws emitted.seen
              halts m j d = rw (begins time rs ws seen few, forms_is, d.fault_is, d.region_is) refl

              emits_from : emitted ≡ walked emitted_row time 0 rs (carried ready ws noted_ends)
              emits_from = rw surveyed_all refl

              fit : every fitting ps ≡ true
              fit = all_fit rs ws (sym (zero-add (width_of rs)) ∙ width) settles

              bad_words : every decodes ps ≡ false → Said
              unfolding tick_number refusal_of row_at_fault
              bad_words f = refusal_is 6 (first_failing decodes ps) _ (λ z. omega arith) (halts 6 _ found) (simp (few, reach, settles, fits, space, timely, f)) refl
                where
                  found : Finds emitted (Some (fault 6 (first_failing decodes ps))) ws
                  found = rw emits_from (rw (zero-add (first_failing decodes ps)) at
                      (topmost time ws 6 (λ z. omega arith) fitting decodes (gives_6 time timely) (not_6 time timely) 0 rs None 0 noted_ends tt width there fit f))

              module _ (decoded : every decodes ps ≡ true) where
                running_back : every (on_time time) ps ≡ false → Said
                unfolding tick_number refusal_of row_at_fault
                running_back f = refusal_is 7 (first_failing (on_time time) ps) _ (λ z. omega arith) (halts 7 _ found) (simp (few, reach, settles, fits, space, timely, decoded, f)) refl
                  where
                    found : Finds emitted (Some (fault 7 (first_failing (on_time time) ps))) ws
                    found = rw emits_from (rw (zero-add (first_failing (on_time time) ps)) at
                        (topmost time ws 7 (λ z. omega arith) (λ x. fitting x && decodes x) (on_time time)
                        (λ x e y. let (a, b) = both (fitting x) (decodes x) e in gives_7 time timely x a b y)
                        (λ x e y. let (a, b) = both (fitting x) (decodes x) e in inl (gives_0 time timely x a b y))
                        0 rs None 0 noted_ends tt width there (every_both fitting decodes ps fit decoded) f))

                module _ (ordered : every (on_time time) ps ≡ true) where
                  number : tick_number time rs ws os ≡ 0
                  unfolding tick_number refusal_of
                  number = simp (few, reach, settles, fits, space, timely, decoded, ordered)

                  -- the emits
                  shown : Emitted k sight.eight ws emitted (length rs) (answered k rs ws) noted_ends.ends
                  shown = rw emits_from (rw (zero-add (length rs)) at (emits k sight.eight ws 0 rs 0 noted_ends [] width there reach
                      (all_accept time rs ws (sym (zero-add (width_of rs)) ∙ width) settles timely decoded ordered) rows long (eight ∙ sym (append-nil k.words))))

                  -- the updates
                  works : Works updates (any_of warns_of (fed k rs ws)) (joined left_of (fed k rs ws)) emitted.seen
                  works = rw (any_fed k rs ws reach warns_of, joined_fed k rs ws reach left_of, shown.region_is)
                      (updated k (answered k rs ws) emitted.seen (length rs) sight.eight shown.in_sight 0 rs 0 false ws width (rw shown.ends_too there) (all_reach_more 0 (length rs) rs (omega arith) reach))

                  answers : take (length os) (drop input_words emitted.seen.words) ≡ answered k rs ws
                  answers = ap (λ (n : ℕ). take n (drop input_words emitted.seen.words)) (eqb-true (length os) (row_answers * length rs) space) ∙ behind input_words emitted.seen.words k.words (answered k rs ws) (row_answers * length rs) sight.eight shown.in_sight

                  in_order : Said
                  unfolding tick_said
                  in_order = rw (begins time rs ws seen few, forms_is, shown.fault_is) (record {
                    answer = rw works.warning_is (accepted _ _ _ (sym number));
                    region = works.region_is ∙ accepted _ _ _ (sym number);
                    answers = rw works.seen_is (answers ∙ accepted _ _ _ (sym number));
                  })

  -- a tick's three walks give what the sheet's definition says
  pub tick_is : Said
  tick_is = ⊎_elim (λ few. ⊎_elim (λ reach. ⊎_elim (λ settles. ⊎_elim (λ fits. ⊎_elim (λ space. ⊎_elim (λ timely. ⊎_elim (λ decoded. ⊎_elim
      (in_order few reach settles fits space timely decoded)
      (running_back few reach settles fits space timely decoded) (either (every (on_time time) ps)))
      (bad_words few reach settles fits space timely) (either (every decodes ps)))
      (no_time few reach settles fits space) (either (finite time)))
      (another_space few reach settles fits) (either (eqb (length os) (row_answers * length rs))))
      (another_length few reach settles) (either (eqb (length ws) (width_of rs))))
      (bad_settings few reach) (either (every settled rs)))
      (no_such_column few) (either (all_reach 0 rs)))
      too_few_or_many (either (few_rows (length rs)))

  pub tick_1 : {f : Fault} → begun (length rs) ≡ Err f → SheetTicked k rs ws os (answer_of (Err f)) ws os
  tick_1 e = rw e at tick_is

  module _ {x : Unit {0}} (b : begun (length rs) ≡ Ok x) {w : Walk} {ws₁ : List ℕ} {os₁ : Seen} (l : Left surveys w ws₁ os₁) (same : length ws₁ ≡ length ws) where
    pub tick_2 : {f : Fault} → formed w (length rs) (length ws₁) (length os) time ≡ Err f → SheetTicked k rs ws os (answer_of (Err f)) ws₁ os
    tick_2 e = rw (b, ← carries l, rw same at e) at tick_is

    module _ {y : Unit {0}} (e : formed w (length rs) (length ws₁) (length os) time ≡ Ok y) {w' : Walk} {ws₂ : List ℕ} {os₂ : Seen} (m : Left (walked emitted_row time 0 rs (carried ready ws₁ os₁)) w' ws₂ os₂) where
      pub tick_3 : {f : Fault} → without_fault w' ≡ Err f → SheetTicked k rs ws os (answer_of (Err f)) ws₂ os
      tick_3 g = rw (b, ← carries l, rw same at e, ← carries m, g) at tick_is

      pub tick_all : {z : Unit {0}} → without_fault w' ≡ Ok z → {w'' : Walk} {ws₃ : List ℕ} {os₃ : Seen} → Left (walked updated_row time 0 rs (carried ready ws₂ os₂)) w'' ws₃ os₃
          → SheetTicked k rs ws os (answer_of (Ok w''.warning)) ws₃ (take (length os) (drop input_words os₃.words))
      tick_all g n = rw (b, ← carries l, rw same at e, ← carries m, g, ← carries n) at tick_is
