-- What the emits find, and what they leave in sight. Assumes nothing.
use Prim.Native.Nat.{ℕ, zero, suc, ◌+◌, ◌*◌, ◌≤◌, ◌<◌}
use native.Mathlib.Omega.{arith}
use mathlib.Core.Path.{◌≡◌, refl, ◌∙◌}
use mathlib.Core.Bool.{Bool, true, false, ◌||◌, cond, true≢false, or-true}
use mathlib.Core.Logic.{inl, inr, ⊎_elim}
use mathlib.Core.List.{List, [], ◌∷◌, ◌++◌, append_assoc}
use borrow.Author.Tests.{leb-true, le-leb, eqb-true, eq-eqb}
use lib.Dec.{eqb, leb}
use lib.ListN.{length, take, drop, get_or}
use lib.Seq.{drop-drop}
use lib.Ieee.{Float}
use Rattle.std.specs.Prelude.{Option, Some, None}
use Rattle.reals.proofs.Values.{both}
use Rattle.dynamics.specs.Answer.{Outputs, silent, emitted, accept}
use Rattle.dynamics.specs.Machine.{Machine, tick_refusal, emit_answer}
use Rattle.dynamics.specs.declared.call.Inputs.{Inputs}
use Rattle.blocks.specs.Block.{machine_of, answer_words, inputs_of, ticked}
use Rattle.blocks.specs.declared.block.OutputWords.{OutputWords}
use Rattle.blocks.specs.declared.block.Tick.{Tick}
use Rattle.sheet.specs.Rows.{wide, width_of, Placed, placed, every, first_failing}
use Rattle.sheet.specs.Sheet.{most_rows, input_words, row_answers, in_reach, all_reach, row_tick, Fed, row_ticked, answers_of, feed}
use Rattle.sheet.specs.Walk.{columns, Carried, carried, fault, is_new, noted, moved_to, tick_by, emitted_row, walked, put_two}
use Rattle.sheet.specs.declared.row.Row.{Row}
use Rattle.sheet.specs.declared.seen.Seen.{Seen}
use Rattle.sheet.specs.declared.walk.Fault.{Fault}
use Rattle.sheet.proofs.Stretches.{either, cut, up_to, take_two, length_two}
use Rattle.sheet.proofs.Feeding.{sees, all_answers, none_answered, next_answered}
use Rattle.sheet.proofs.Ends.{EndsAre}
use Rattle.sheet.proofs.Walks.{midway, Finds, Above, above_of, new, old}
use Rattle.sheet.proofs.Admission.{Above as Beyond, every_more, accepts}

-- an emit's number is the tick's
emit_number : (M : Machine) (time : Float) (i : Inputs) (w : List ℕ) → (emit_answer M time i w).refusal ≡ tick_refusal M time w
unfolding emit_answer
emit_number M time i w = go (tick_refusal M time w) (M.output w time i)
  where
    go : (n : ℕ) (o : Outputs) → (accept n (emitted o) (silent n)).refusal ≡ n
    go zero o = unfold accept in refl
    go (suc n) o = unfold accept in refl

module _ (time : Float) (ws : List ℕ) where
  abbrev from : ℕ → List Row → List Placed
  from at rs = placed rs (drop at ws)

  abbrev own : Row → ℕ → Placed
  own r at = record { row = r; words = cut at (wide r) ws }

  abbrev number : Placed → ℕ
  number p = tick_refusal (machine_of p.row.block) time p.words

  -- a row's answer, where these words are in sight
  abbrev says : Seen → Placed → OutputWords
  says seen p = answer_words p.row.block (emit_answer (machine_of p.row.block) time (inputs_of (tick_by time seen p.row)) p.words)

  -- one row's turn, where its words are there
  step_in : (r : Row) (rs : List Row) (n : ℕ) (f : Option Fault) (at : ℕ) (seen : Seen) → get_or seen.ends n 0 ≡ at + wide r → at + (wide r + width_of rs) ≡ length ws
      → walked emitted_row time n (r ∷ rs) (carried (midway f at) ws seen)
      ≡ walked emitted_row time (n + 1) rs (carried (moved_to (noted (midway f at) (number (own r at)) n) (at + wide r)) ws (put_two n (says seen (own r at)) seen))
  unfolding walked emitted_row
  step_in r rs n f at seen e all =
      rw (e, le-leb at (at + wide r) (omega arith), le-leb (at + wide r) (length ws) (omega (arith, all)), up_to at (wide r), emit_number (machine_of r.block) time (inputs_of (tick_by time seen r)) (cut at (wide r) ws)) refl

  left : (r : Row) (rs : List Row) (at : ℕ) → at + (wide r + width_of rs) ≡ length ws → (at + wide r) + width_of rs ≡ length ws
  left r rs at all = omega (arith, all)

  -- ---- a refusal
  -- a fault stays where no row's number is lower
  stays : (g : Fault) (n : ℕ) (rs : List Row) (at : ℕ) (seen : Seen) → at + width_of rs ≡ length ws → EndsAre n rs at seen.ends
      → every (λ q. eqb (number q) 0 || leb g.number (number q)) (from at rs) ≡ true → Finds (walked emitted_row time n rs (carried (midway (Some g) at) ws seen)) (Some g) ws
  unfolding every walked width_of placed EndsAre
  stays g n [] at seen all ends e = record { fault_is = refl; region_is = refl }
  stays g n (r ∷ rs) at seen all ends e =
      let (x, y) = both (eqb (number (own r at)) 0 || leb g.number (number (own r at))) _ e in
      rw (step_in r rs n (Some g) at seen ends.0 all, none_new (number (own r at)) x)
      (stays g (n + 1) rs (at + wide r) _ (left r rs at all) ends.1 (rw (drop-drop (wide r) at ws) at y))
    where
      none_new : (x : ℕ) → (eqb x 0 || leb g.number x) ≡ true → is_new (midway (Some g) at) x ≡ false
      none_new x e = ⊎_elim (λ z. rw z refl) (λ z. old g at x (leb-true g.number x (rw z at e))) (either (eqb x 0))

  -- the topmost row of the lowest number, among rows that all pass a test d
  module _ (m : ℕ) (some : m ≡ 0 → ⊥) (d q : Placed → Bool) (yes_here : (x : Placed) → d x ≡ true → q x ≡ false → number x ≡ m) (not_there : (x : Placed) → d x ≡ true → q x ≡ true → Beyond m (number x)) where
    none_lower : (x : Placed) → d x ≡ true → (eqb (number x) 0 || leb m (number x)) ≡ true
    none_lower x e = ⊎_elim
        (λ (y : q x ≡ true). ⊎_elim (λ (z : number x ≡ 0). rw (eq-eqb (number x) 0 z) refl) (λ (z : m < number x). rw (le-leb m (number x) (omega (arith, z)), or-true (eqb (number x) 0)) refl) (not_there x e y))
        (λ (y : q x ≡ false). let z = yes_here x e y in rw (le-leb m (number x) (omega (arith, z)), or-true (eqb (number x) 0)) refl)
        (either (q x))

    -- a row that does not give it
    still_above : (x : ℕ) (f : Option Fault) (at n : ℕ) → Beyond m x → Above m f → Above m (cond (is_new (midway f at) x) (Some (fault x n)) f)
    still_above x f at n (inl z) h = rw z h
    still_above x f at n (inr l) h = above_of m (is_new (midway f at) x) (fault x n) f l h

    pub topmost : (n : ℕ) (rs : List Row) (f : Option Fault) (at : ℕ) (seen : Seen) → Above m f → at + width_of rs ≡ length ws → EndsAre n rs at seen.ends
        → every d (from at rs) ≡ true → every q (from at rs) ≡ false → Finds (walked emitted_row time n rs (carried (midway f at) ws seen)) (Some (fault m (n + first_failing q (from at rs)))) ws
    unfolding every first_failing width_of placed EndsAre
    topmost n [] f at seen h all ends low g = absurd (true≢false g)
    topmost n (r ∷ rs) f at seen h all ends low g =
        let x = own r at in
        let (dx, rest) = both (d x) _ low in
        let rest' = rw (drop-drop (wide r) at ws) at rest in
        ⊎_elim
        (λ (y : q x ≡ true). rw (step_in r rs n f at seen ends.0 all) (rw (y, drop-drop (wide r) at ws, next (first_failing q (from (at + wide r) rs)))
        (topmost (n + 1) rs _ (at + wide r) _ (still_above (number x) f at n (not_there x dx y) h) (left r rs at all) ends.1 rest' (rw (y, drop-drop (wide r) at ws) at g))))
        (λ (y : q x ≡ false). rw (step_in r rs n f at seen ends.0 all) (rw (y, here_is) (rw (yes_here x dx y, new f at m some h)
        (stays (fault m n) (n + 1) rs (at + wide r) _ (left r rs at all) ends.1 (every_more d _ none_lower (from (at + wide r) rs) rest')))))
        (either (q x))
      where
        next : (x : ℕ) → n + suc x ≡ (n + 1) + x
        next x = omega arith

        here_is : n + 0 ≡ n
        here_is = omega arith

-- ---- none refuses
module _ (k : Tick) (eight : length k.words ≡ input_words) (ws : List ℕ) where
  -- what all emits leave: of the rows' many answer words these are in sight
  pub record Emitted (c : Carried) (many : ℕ) (answers ends : List ℕ) : Type 0 where
    pub fault_is : c.found.fault ≡ None
    pub region_is : c.region ≡ ws
    pub in_sight : take (input_words + row_answers * many) c.seen.words ≡ k.words ++ answers
    pub ends_too : c.seen.ends ≡ ends

  -- row n, where the tick's words and the answers above it are in sight
  module _ (r : Row) (rs : List Row) (n at : ℕ) (seen : Seen) (above : List ℕ) (few : n + suc (length rs) ≤ most_rows) (long : length seen.words ≡ columns) (sight : take (input_words + row_answers * n) seen.words ≡ k.words ++ above) where
    abbrev here : Fed
    here = feed k above (own k.time ws r at)

    -- where its answer words go, and what they are
    abbrev at_two : ℕ
    at_two = input_words + row_answers * n

    abbrev two : OutputWords
    two = answer_words r.block (row_ticked here).emitted

    abbrev now : Seen
    now = put_two n two seen

    still_long : length now.words ≡ columns
    still_long = length_two at_two seen.words two.first two.second ∙ long

    still_sight : take (input_words + row_answers * (n + 1)) now.words ≡ k.words ++ (above ++ answers_of here)
    still_sight =
        let e : input_words + row_answers * (n + 1) ≡ at_two + 2 = omega arith in
        rw (e, take_two at_two seen.words two.first two.second (omega (arith, few, long)), sight) (append_assoc k.words above (answers_of here))

    answers_step : all_answers k (above ++ answers_of here) rs (drop (at + wide r) ws) ≡ all_answers k above (r ∷ rs) (drop at ws)
    answers_step = rw (drop-drop (wide r) at ws) at (next_answered k above r rs (drop at ws))

    emit_step : in_reach n r ≡ true → number k.time ws (own k.time ws r at) ≡ 0 → get_or seen.ends n 0 ≡ at + wide r → at + (wide r + width_of rs) ≡ length ws
        → walked emitted_row k.time n (r ∷ rs) (carried (midway None at) ws seen) ≡ walked emitted_row k.time (n + 1) rs (carried (midway None (at + wide r)) ws now)
    unfolding ticked row_tick
    emit_step reach none e all = rw (step_in k.time ws r rs n None at seen e all, sees k above n r reach seen eight sight, none) refl

  pub emits : (n : ℕ) (rs : List Row) (at : ℕ) (seen : Seen) (above : List ℕ) → at + width_of rs ≡ length ws → EndsAre n rs at seen.ends → all_reach n rs ≡ true → every (accepts k.time) (placed rs (drop at ws)) ≡ true
      → n + length rs ≤ most_rows → length seen.words ≡ columns → take (input_words + row_answers * n) seen.words ≡ k.words ++ above
      → Emitted (walked emitted_row k.time n rs (carried (midway None at) ws seen)) (n + length rs) (all_answers k above rs (drop at ws)) seen.ends
  unfolding every all_reach walked width_of placed EndsAre
  emits n [] at seen above all ends e g few long sight = record {
    fault_is = refl;
    region_is = refl;
    in_sight = let z : n + 0 ≡ n = omega arith in rw (z, none_answered k above (drop at ws)) sight;
    ends_too = refl;
  }
  emits n (r ∷ rs) at seen above all ends e g few long sight =
      let (t, u) = both (in_reach n r) (all_reach (n + 1) rs) e in
      let (x, y) = both (accepts k.time (own k.time ws r at)) _ g in
      let none : number k.time ws (own k.time ws r at) ≡ 0 = eqb-true _ _ x in
      let count : n + suc (length rs) ≡ (n + 1) + length rs = omega arith in
      let more = emits (n + 1) rs (at + wide r) (now r rs n at seen above few long sight) (above ++ answers_of (here r rs n at seen above few long sight)) (left k.time ws r rs at all) ends.1 u (rw (drop-drop (wide r) at ws) at y)
      (omega (arith, few)) (still_long r rs n at seen above few long sight) (still_sight r rs n at seen above few long sight) in
      rw (emit_step r rs n at seen above few long sight t none ends.0 all, count, ← answers_step r rs n at seen above few long sight)
      (record { fault_is = more.fault_is; region_is = more.region_is; in_sight = more.in_sight; ends_too = more.ends_too })
