-- A sheet equals its blocks run singly. Assumes nothing.
use Prim.Native.Nat.{ℕ, zero, suc, ◌+◌, ◌*◌, ◌<◌}
use native.Mathlib.Nat.{not-suc-le-zero, le_of_suc-le-suc}
use native.Mathlib.Omega.{arith}
use mathlib.Core.Path.{◌≡◌, refl, sym, ◌∙◌, ap, subst}
use mathlib.Core.Bool.{Bool, true, false, not, ◌&&◌, and-true, and-false, true≢false}
use mathlib.Core.Logic.{⊎_elim}
use mathlib.Core.List.{List, [], ◌∷◌, ◌++◌, map}
use borrow.Author.Tests.{eqb-true, eq-eqb}
use lib.Dec.{eqb}
use lib.ListN.{length, take, drop, length-drop}
use lib.Seq.{take_at, drop_at, take_all, length-take-le, drop-drop}
use lib.Ieee.{Float}
use lib.Ieee.Scale.{finite}
use Rattle.reals.proofs.Values.{both}
use Rattle.dynamics.specs.Previous.{runs_back}
use Rattle.dynamics.specs.Answer.{refusal_of, form_refusal}
use Rattle.dynamics.specs.Machine.{Machine, sized, start_refusal, tick_refusal, update_answer}
use Rattle.dynamics.proofs.Accepted.{accepted, all_passed}
use Rattle.dynamics.proofs.Calls.{tick_2}
use Rattle.blocks.specs.Block.{machine_of, inputs_of, ticked}
use Rattle.blocks.specs.declared.block.Tick.{Tick}
use Rattle.blocks.proofs.Lengths.{started_length, updated_length}
use Rattle.sheet.specs.Rows.{wide, width_of, Placed, placed, every, any_of, first_failing, joined}
use Rattle.sheet.specs.Sheet.{row_answers, few_rows, in_reach, all_reach, settled, decodes, on_time, start_number, tick_number, row_at_fault, start_row, starts_on, row_tick, Fed, answers_of, warns_of, left_of, feed, fed, tick_said, SheetStarted, SheetTicked}
use Rattle.sheet.specs.Single.{At, now_has, StartsSingly, TicksSingly, own_start, own_number, Topmost}
use Rattle.sheet.specs.declared.row.Row.{Row}
use Rattle.sheet.specs.declared.row.SheetAnswer.{SheetAnswer}
use Rattle.sheet.proofs.Stretches.{either}
use Rattle.sheet.proofs.Feeding.{answered, each_fed, any_fed, joined_fed}
use Rattle.sheet.proofs.Admission.{fitting, all_fit, gives_6, not_6, gives_7, gives_0, accepts, all_accept}

-- ---- what stands at a place
every_at : {A : Type 0} (q : A → Bool) (n : ℕ) (x : A) (xs : List A) → At n x xs → every q xs ≡ true → q x ≡ true
unfolding every At
every_at q zero x [] a e = absurd a
every_at q (suc n) x [] a e = absurd a
every_at q zero x (y ∷ ys) a e = ap q a ∙ (both (q y) (every q ys) e).0
every_at q (suc n) x (y ∷ ys) a e = every_at q n x ys a (both (q y) (every q ys) e).1

at_map : {A B : Type 0} (g : A → B) (n : ℕ) (x : A) (xs : List A) → At n x xs → At n (g x) (map g xs)
unfolding At
at_map g zero x [] a = absurd a
at_map g (suc n) x [] a = absurd a
at_map g zero x (y ∷ ys) a = ap g a
at_map g (suc n) x (y ∷ ys) a = at_map g n x ys a

-- what stands at a place of a list that was made from another
record MadeFrom {A B : Type 0} (g : A → B) (n : ℕ) (y : B) (xs : List A) : Type 0 where
  one : A
  there : At n one xs
  is : y ≡ g one

mapped_from : {A B : Type 0} (g : A → B) (n : ℕ) (y : B) (xs : List A) → At n y (map g xs) → MadeFrom g n y xs
unfolding At
mapped_from g zero y [] a = absurd a
mapped_from g (suc n) y [] a = absurd a
mapped_from g zero y (x ∷ xs) a = record { one = x; there = refl; is = a }
mapped_from g (suc n) y (x ∷ xs) a = let m = mapped_from g n y xs a in record { one = m.one; there = m.there; is = m.is }

-- each two words of its own
two_at : {A : Type 0} (f : A → List ℕ) → ((x : A) → length (f x) ≡ 2) → (n : ℕ) (x : A) (xs : List A) → At n x xs → take 2 (drop (2 * n) (joined f xs)) ≡ f x
unfolding joined At
two_at f two zero x [] a = absurd a
two_at f two (suc n) x [] a = absurd a
two_at f two zero x (y ∷ ys) a = take_at (f y) (joined f ys) 2 (two y) ∙ sym (ap f a)
two_at f two (suc n) x (y ∷ ys) a =
    let e : 2 * suc n ≡ 2 + 2 * n = omega arith in
    rw (e, ← drop-drop (2 * n) 2 (f y ++ joined f ys), drop_at (f y) (joined f ys) 2 (two y)) (two_at f two n x ys a)

-- work that keeps each stretch's length leaves each row its own
module _ (f : Placed → List ℕ) (keeps : (p : Placed) → length (f p) ≡ length p.words) where
  module _ (r : Row) (rs : List Row) (ws : List ℕ) (all : wide r + width_of rs ≡ length ws) where
    abbrev own : Placed
    own = record { row = r; words = take (wide r) ws }

    kept : length (f own) ≡ wide r
    kept = keeps own ∙ length-take-le (wide r) ws (omega (arith, all))

    rest : width_of rs ≡ length (drop (wide r) ws)
    rest = omega (arith, all, length-drop (wide r) ws)

  work_at : (rs : List Row) (ws : List ℕ) → width_of rs ≡ length ws → (n : ℕ) (p : Placed) → At n p (placed rs ws) → At n (now_has p (f p)) (placed rs (joined f (placed rs ws)))
  unfolding width_of placed joined At
  work_at [] ws all zero p a = absurd a
  work_at [] ws all (suc n) p a = absurd a
  work_at (r ∷ rs) ws all zero p a = rw a (rw (take_at (f (own r rs ws all)) (joined f (placed rs (drop (wide r) ws))) (wide r) (kept r rs ws all)) refl)
  work_at (r ∷ rs) ws all (suc n) p a =
      rw (drop_at (f (own r rs ws all)) (joined f (placed rs (drop (wide r) ws))) (wide r) (kept r rs ws all)) (work_at rs (drop (wide r) ws) (rest r rs ws all) n p a)

-- ---- an accepted tick
module _ (k : Tick) (rs : List Row) (ws os : List ℕ) where
  abbrev time : Float
  time = k.time

  abbrev ps : List Placed
  ps = placed rs ws

  -- the tests that it passed
  pub record Passed : Type 0 where
    pub reach : all_reach 0 rs ≡ true
    pub settles : every settled rs ≡ true
    pub width : width_of rs ≡ length ws
    pub timely : finite time ≡ true
    pub decoded : every decodes ps ≡ true
    pub ordered : every (on_time time) ps ≡ true

  passed : tick_number time rs ws os ≡ 0 → Passed
  unfolding tick_number
  passed z =
      let (c, s, l, _, t, d, o) = all_passed (few_rows (length rs) && all_reach 0 rs) (every settled rs) (eqb (length ws) (width_of rs)) (eqb (length os) (row_answers * length rs)) (finite time) (every decodes ps) (every (on_time time) ps) z in
      record { reach = (both (few_rows (length rs)) (all_reach 0 rs) c).1; settles = s; width = sym (eqb-true (length ws) (width_of rs) l); timely = t; decoded = d; ordered = o }

  -- every row's own calls are accepted
  pub tick_accepts : tick_number time rs ws os ≡ 0 → (n : ℕ) (p : Placed) → At n p ps → tick_refusal (machine_of p.row.block) time p.words ≡ 0
  tick_accepts z n p a =
      let d = passed z in
      eqb-true _ _ (every_at (accepts time) n p ps a (all_accept time rs ws d.width d.settles d.timely d.decoded d.ordered))

  module _ (z : tick_number time rs ws os ≡ 0) where
    all_reach_lem : all_reach 0 rs ≡ true
    all_reach_lem = (passed z).reach

    -- the answers that it hands out
    abbrev answers : List ℕ
    answers = answered k rs ws

    -- each row received of them, and so the rows are those of the sheet, each with what it received
    pub fed_there : (n : ℕ) (p : Placed) → At n p ps → At n (feed k answers p) (fed k rs ws)
    fed_there n p a = subst (λ (qs : List Fed). At n (feed k answers p) qs) (sym (each_fed k rs ws all_reach_lem)) (at_map (feed k answers) n p ps a)

    module _ (r : SheetAnswer) (left out : List ℕ) (said : SheetTicked k rs ws os r left out) where
      hands_out : out ≡ answers
      hands_out = said.answers ∙ sym (accepted _ _ _ (sym z))

      singly_at : (n : ℕ) (p : Placed) → At n p ps → TicksSingly k rs (feed k answers p) n left out
      unfolding ticked row_tick
      singly_at n p a = record {
        receives = ap (λ (l : List ℕ). row_tick k l p.row) (sym hands_out);
        accepts = tick_accepts z n p a;
        answers = ap (λ (l : List ℕ). take row_answers (drop (row_answers * n) l)) (hands_out ∙ joined_fed k rs ws all_reach_lem answers_of) ∙ two_at (λ q. answers_of (feed k answers q)) (λ q. refl) n p ps a;
        leaves = rw (said.region, ← accepted (joined left_of (fed k rs ws)) ws (tick_number time rs ws os) (sym z), joined_fed k rs ws all_reach_lem left_of)
            (work_at (λ q. left_of (feed k answers q)) (λ q. updated_length q.row.block time _ q.words) rs ws (passed z).width n p a);
      }

      -- every row's answer words and stretch are those of its block's own calls, on what it received
      pub tick_singly : (n : ℕ) (q : Fed) → At n q (fed k rs ws) → TicksSingly k rs q n left out
      tick_singly n q a =
          let s = mapped_from (feed k answers) n q ps (subst (λ (qs : List Fed). At n q qs) (each_fed k rs ws all_reach_lem) a) in
          subst (λ (x : Fed). TicksSingly k rs x n left out) (sym s.is) (singly_at n s.one s.there)

      -- the warning is that some row's own update, on what it received, warns
      abbrev own_warning : Fed → Bool
      own_warning q = (update_answer (machine_of q.row.block) time (inputs_of q.received) q.words).warning

      pub warns_singly : r.warning ≡ any_of own_warning (fed k rs ws)
      unfolding ticked row_tick tick_said
      warns_singly = ap (λ (a : SheetAnswer). a.warning) (said.answer ∙ sym (accepted _ _ _ (sym z))) ∙ any_fed k rs ws all_reach_lem warns_of ∙ sym (any_fed k rs ws all_reach_lem own_warning)

-- ---- an accepted start
-- the row's block accepts a start on its own stretch
abbrev begins : Placed → Bool
begins p = eqb (start_refusal (machine_of p.row.block) p.words) 0

all_begin : (rs : List Row) (ws : List ℕ) → width_of rs ≡ length ws → every settled rs ≡ true → every begins (placed rs ws) ≡ true
unfolding every width_of placed start_refusal form_refusal refusal_of
all_begin [] ws all s = refl
all_begin (r ∷ rs) ws all s =
    let (s₁, s₂) = both (settled r) _ s in
    let l : length (take (wide r) ws) ≡ wide r = length-take-le (wide r) ws (omega (arith, all)) in
    rw (s₁, eq-eqb (length (take (wide r) ws)) (wide r) l) (all_begin rs (drop (wide r) ws) (omega (arith, all, length-drop (wide r) ws)) s₂)

module _ (rs : List Row) (ws : List ℕ) (z : start_number rs ws ≡ 0) where
  start_passed : (every settled rs ≡ true) × (width_of rs ≡ length ws)
  unfolding start_number
  start_passed = let (_, s, l, _, _, _, _) = all_passed (few_rows (length rs) && all_reach 0 rs) (every settled rs) (eqb (length ws) (width_of rs)) true true true true z in (s, sym (eqb-true (length ws) (width_of rs) l))

  pub start_accepts : (n : ℕ) (p : Placed) → At n p (placed rs ws) → start_refusal (machine_of p.row.block) p.words ≡ 0
  start_accepts n p a = eqb-true _ _ (every_at begins n p (placed rs ws) a (all_begin rs ws start_passed.1 start_passed.0))

  pub start_singly : (r : SheetAnswer) (left : List ℕ) → SheetStarted rs ws r left → (n : ℕ) (p : Placed) → At n p (placed rs ws) → StartsSingly rs p n left
  start_singly r left said n p a = record {
    accepts = start_accepts n p a;
    leaves = rw (said.region, ← accepted (joined starts_on (placed rs ws)) ws (start_number rs ws) (sym z)) (work_at starts_on (λ q. started_length q.row.block q.words) rs ws start_passed.1 n p a);
  }

-- ---- the row at fault
-- the first that fails a test, and those before it
module _ {A : Type 0} (q : A → Bool) where
  pub record Fails (n : ℕ) (xs : List A) : Type 0 where
    pub one : A
    pub there : At n one xs
    pub fails : q one ≡ false
    pub before : (i : ℕ) (x : A) → At i x xs → i < n → q x ≡ true

  head_fails : (x : A) (xs : List A) → q x ≡ false → Fails zero (x ∷ xs)
  unfolding At
  head_fails x xs f = record { one = x; there = refl; fails = f; before = λ i y a h. absurd (not-suc-le-zero h) }

  tail_fails : (x : A) (xs : List A) (n : ℕ) → q x ≡ true → Fails n xs → Fails (suc n) (x ∷ xs)
  unfolding At
  tail_fails x xs n t more = record { one = more.one; there = more.there; fails = more.fails; before = earlier }
    where
      earlier : (i : ℕ) (y : A) → At i y (x ∷ xs) → i < suc n → q y ≡ true
      earlier zero y a h = ap q a ∙ t
      earlier (suc i) y a h = more.before i y a (le_of_suc-le-suc h)

  first_fails : (xs : List A) → every q xs ≡ false → Fails (first_failing q xs) xs
  unfolding every first_failing
  first_fails [] e = absurd (true≢false e)
  first_fails (x ∷ xs) e = ⊎_elim (λ t. rw t (tail_fails x xs (first_failing q xs) t (first_fails xs (rw t at e)))) (λ f. rw f (head_fails x xs f)) (either (q x))

-- what a refusal number tells of the tests before it
abbrev Tells : ℕ → (settings length time state order : Bool) → Type 0
Tells zero s l t d o = Unit {0}
Tells (suc zero) s l t d o = Unit {0}
Tells (suc (suc zero)) s l t d o = s ≡ false
Tells (suc (suc (suc zero))) s l t d o = Unit {0}
Tells (suc (suc (suc (suc zero)))) s l t d o = Unit {0}
Tells (suc (suc (suc (suc (suc zero))))) s l t d o = Unit {0}
Tells (suc (suc (suc (suc (suc (suc zero)))))) s l t d o = (s ≡ true) × (l ≡ true) × (t ≡ true) × (d ≡ false)
Tells (suc (suc (suc (suc (suc (suc (suc zero))))))) s l t d o = (s ≡ true) × (l ≡ true) × (t ≡ true) × (d ≡ true) × (o ≡ false)
Tells (suc (suc (suc (suc (suc (suc (suc (suc n)))))))) s l t d o = Unit {0}

tells : (shape settings length space time state order : Bool) → Tells (refusal_of shape settings length space time state order) settings length time state order
unfolding refusal_of
tells false s l a t d o = tt
tells true false l a t d o = refl
tells true true false a t d o = tt
tells true true true false t d o = tt
tells true true true true false d o = tt
tells true true true true true false o = (refl, refl, refl, refl)
tells true true true true true true false = (refl, refl, refl, refl, refl)
tells true true true true true true true = tt

module _ (time : Float) (rs : List Row) (ws os : List ℕ) where
  told : (m : ℕ) → tick_number time rs ws os ≡ m → Tells m (every settled rs) (eqb (length ws) (width_of rs)) (finite time) (every decodes (placed rs ws)) (every (on_time time) (placed rs ws))
  unfolding tick_number
  told m e = rw e at (tells (few_rows (length rs) && all_reach 0 rs) (every settled rs) (eqb (length ws) (width_of rs)) (eqb (length os) (row_answers * length rs)) (finite time) (every decodes (placed rs ws)) (every (on_time time) (placed rs ws)))

-- a test of rows, seen on the rows with their stretches
module _ (q : Row → Bool) where
  every_placed : (rs : List Row) (ws : List ℕ) → every (λ p. q p.row) (placed rs ws) ≡ every q rs
  unfolding every placed
  every_placed [] ws = refl
  every_placed (r ∷ rs) ws = rw (every_placed rs (drop (wide r) ws)) refl

  first_placed : (rs : List Row) (ws : List ℕ) → first_failing (λ p. q p.row) (placed rs ws) ≡ first_failing q rs
  unfolding first_failing placed
  first_placed [] ws = refl
  first_placed (r ∷ rs) ws = rw (first_placed rs (drop (wide r) ws)) refl

-- a sheet's row at fault is the topmost whose own number it is, if the rows that fail a test are those whose number it is
topmost : (own : Placed → ℕ) (number : ℕ) (q : Placed → Bool) (ps : List Placed) → every q ps ≡ false
    → ((n : ℕ) (p : Placed) → At n p ps → q p ≡ false → own p ≡ number) → ((n : ℕ) (p : Placed) → At n p ps → q p ≡ true → own p ≡ number → ⊥)
    → Topmost own number (first_failing q ps) ps
topmost _ number q ps e yes_here not_there =
    let f = first_fails q ps e in
    record { row = f.one; there = f.there; its_own = yes_here _ f.one f.there f.fails; above = λ i p a h. not_there i p a (f.before i p a h) }

-- ---- a sheet's refusal 2, 6 or 7 at row n is row n's own, and no row above has it
-- settings that are accepted are not refused with 2
not_2 : (M : Machine) (time : Float) (w : List ℕ) → M.accepts ≡ true → tick_refusal M time w ≡ 2 → ⊥
unfolding tick_refusal
not_2 M time w s e = true≢false (sym s ∙ rw e at (tells true M.accepts (sized M w) true (finite time) (M.decodes w) (not (runs_back time (M.previous w)))))

-- of a start 2 is the only one that a row is at fault for
start_not_2 : (M : Machine) (w : List ℕ) → M.accepts ≡ true → start_refusal M w ≡ 2 → ⊥
unfolding start_refusal form_refusal
start_not_2 M w s e = true≢false (sym s ∙ rw e at (tells true M.accepts (sized M w) true true true true))

pub own_2_start : (rs : List Row) (ws : List ℕ) → start_number rs ws ≡ 2 → Topmost own_start 2 (start_row 2 rs) (placed rs ws)
unfolding start_number start_row start_refusal form_refusal refusal_of
own_2_start rs ws e = rw (← first_placed settled rs ws) (topmost own_start 2 (λ p. settled p.row) (placed rs ws)
    (every_placed settled rs ws ∙ rw e at (tells (few_rows (length rs) && all_reach 0 rs) (every settled rs) (eqb (length ws) (width_of rs)) true true true true))
    (λ n p a f. simp f) (λ n p a t. start_not_2 (machine_of p.row.block) p.words t))

module _ (time : Float) (rs : List Row) (ws os : List ℕ) where
  pub own_2 : tick_number time rs ws os ≡ 2 → Topmost (own_number time) 2 (row_at_fault 2 time rs ws) (placed rs ws)
  unfolding row_at_fault
  own_2 e = rw (← first_placed settled rs ws) (topmost (own_number time) 2 (λ p. settled p.row) (placed rs ws) (every_placed settled rs ws ∙ told time rs ws os 2 e)
      (λ n p a f. tick_2 (machine_of p.row.block) f time p.words) (λ n p a t. not_2 (machine_of p.row.block) time p.words t))

  -- where the settings are accepted, the lengths right and the time finite
  fit_at : every settled rs ≡ true → eqb (length ws) (width_of rs) ≡ true → (n : ℕ) (p : Placed) → At n p (placed rs ws) → fitting p ≡ true
  fit_at s l n p a = every_at fitting n p (placed rs ws) a (all_fit rs ws (sym (eqb-true (length ws) (width_of rs) l)) s)

  pub own_6 : tick_number time rs ws os ≡ 6 → Topmost (own_number time) 6 (row_at_fault 6 time rs ws) (placed rs ws)
  unfolding row_at_fault
  own_6 e =
      let (s, l, t, d) = told time rs ws os 6 e in
      topmost (own_number time) 6 decodes (placed rs ws) d (λ n p a f. gives_6 time t p (fit_at s l n p a) f)
      (λ n p a y z. ⊎_elim (λ e. omega (arith, e, z)) (λ h. omega (arith, h, z)) (not_6 time t p (fit_at s l n p a) y))

  pub own_7 : tick_number time rs ws os ≡ 7 → Topmost (own_number time) 7 (row_at_fault 7 time rs ws) (placed rs ws)
  unfolding row_at_fault
  own_7 e =
      let (s, l, t, d, o) = told time rs ws os 7 e in
      let well : (n : ℕ) (p : Placed) → At n p (placed rs ws) → decodes p ≡ true = λ n p a. every_at decodes n p (placed rs ws) a d in
      topmost (own_number time) 7 (on_time time) (placed rs ws) o (λ n p a f. gives_7 time t p (fit_at s l n p a) (well n p a) f)
      (λ n p a y z. omega (arith, gives_0 time t p (fit_at s l n p a) (well n p a) y, z))

-- ---- a sheet of one row has its block's number
module _ (r : Row) (ws : List ℕ) (reach : in_reach 0 r ≡ true) where
  only_part : eqb (length ws) (wide r) ≡ true → take (wide r) ws ≡ ws
  only_part e = take_all (wide r) ws (omega (arith, eqb-true (length ws) (wide r) e))

  pub one_row_start : start_number (r ∷ []) ws ≡ start_refusal (machine_of r.block) ws
  unfolding start_number all_reach every width_of start_refusal form_refusal
  one_row_start = let z : wide r + 0 ≡ wide r = omega arith in rw (reach, and-true (settled r), z) refl

  pub one_row : (time : Float) (os : List ℕ) → length os ≡ 2 → tick_number time (r ∷ []) ws os ≡ tick_refusal (machine_of r.block) time ws
  unfolding tick_number all_reach every width_of placed tick_refusal
  one_row time os two =
      let z : wide r + 0 ≡ wide r = omega arith in
      let d : Bool = (machine_of r.block).decodes (take (wide r) ws) in
      let o : Bool = not (runs_back time ((machine_of r.block).previous (take (wide r) ws))) in
      rw (reach, and-true (settled r), and-true d, and-true o, z, eq-eqb (length os) 2 two) (⊎_elim (λ e. rw (only_part e) refl) (λ e. rw e (no_length (settled r) d o _ _)) (either (eqb (length ws) (wide r))))
    where
      no_length : (s d o d' o' : Bool) → refusal_of true s false true (finite time) d o ≡ refusal_of true s false true (finite time) d' o'
      no_length true d o d' o' = unfold refusal_of in refl
      no_length false d o d' o' = unfold refusal_of in refl

-- ---- a sheet of no rows is refused with 1
module _ (ws : List ℕ) where
  pub no_rows_start : start_number [] ws ≡ 1
  unfolding start_number refusal_of
  no_rows_start = refl

  pub no_rows : (time : Float) (os : List ℕ) → tick_number time [] ws os ≡ 1
  unfolding tick_number refusal_of
  no_rows _ _ = refl

-- ---- a column that names nothing is refused with 1, wherever its row stands and whether its block reads it or not
reach_at : (m n : ℕ) (r : Row) (rs : List Row) → At n r rs → all_reach m rs ≡ true → in_reach (m + n) r ≡ true
unfolding At all_reach
reach_at m zero r [] a e = absurd a
reach_at m (suc n) r [] a e = absurd a
reach_at m zero r (x ∷ xs) a e = let z : m + 0 ≡ m = omega arith in rw (z, a) (both (in_reach m x) (all_reach (m + 1) xs) e).0
reach_at m (suc n) r (x ∷ xs) a e = let z : m + suc n ≡ (m + 1) + n = omega arith in rw z (reach_at (m + 1) n r xs a (both (in_reach m x) (all_reach (m + 1) xs) e).1)

module _ (rs : List Row) (n : ℕ) (r : Row) (there : At n r rs) (off : in_reach n r ≡ false) where
  off_reach : all_reach 0 rs ≡ false
  off_reach = ⊎_elim
      (λ e. absurd (true≢false (let z : 0 + n ≡ n = omega arith in rw z at (sym (reach_at 0 n r rs there e)) ∙ off)))
      (λ e. e)
      (either (all_reach 0 rs))

  pub column_refused_start : (ws : List ℕ) → start_number rs ws ≡ 1
  unfolding start_number refusal_of
  column_refused_start ws = rw (off_reach, and-false (few_rows (length rs))) refl

  pub column_refused : (time : Float) (ws os : List ℕ) → tick_number time rs ws os ≡ 1
  unfolding tick_number refusal_of
  column_refused time ws os = rw (off_reach, and-false (few_rows (length rs))) refl
