-- What rows receive: of the tick's words, and of the answer words of the same tick. Assumes nothing.
use Prim.Native.Nat.{ℕ, ◌+◌, ◌-◌, ◌*◌, ◌^◌, ◌≤◌, ◌<◌}
use native.Mathlib.Omega.{arith}
use mathlib.Core.Path.{◌≡◌, refl, sym, ◌∙◌, ap}
use mathlib.Core.Bool.{Bool, true, ◌||◌}
use mathlib.Core.Logic.{⊎_elim}
use mathlib.Core.List.{List, [], ◌∷◌, ◌++◌, map, append_assoc, append-nil}
use borrow.Author.Tests.{lt-ltb, le-ltb, ltb-true, ltb-false}
use lib.Dec.{ltb}
use lib.ListN.{length, take, drop, get_or, length-append, get_or-append}
use lib.Seq.{get_or-take, get_or-append-add}
use lib.IntN.{pos}
use lib.Ieee.{fin, of_bits, to_bits, round}
use Rattle.reals.proofs.Values.{both}
use Rattle.reals.specs.Words.{nearest, real_of, word_of, flag_of, word_of_flag}
use Rattle.blocks.specs.declared.block.Tick.{Tick}
use Rattle.sheet.specs.Rows.{wide, placed, every, any_of, joined}
use Rattle.sheet.specs.Sheet.{input_words, row_answers, names, in_reach, all_reach, named_word, row_tick, Fed, feed, fed_below, fed, answers_of}
use Rattle.sheet.specs.Walk.{tick_by}
use Rattle.sheet.specs.declared.row.Row.{Row}
use Rattle.sheet.specs.declared.seen.Seen.{Seen}
use Rattle.sheet.proofs.Stretches.{either}

-- ---- which columns name a word in row n
-- those of the words in sight: the tick's, and two of each row above
pub names_is : (n c : ℕ) → names n c ≡ ltb c (input_words + row_answers * n)
names_is n c = ⊎_elim
    (λ e. rw e (sym (lt-ltb c (input_words + row_answers * n) (omega (arith, ltb-true c input_words e)))))
    (λ e. rw e (⊎_elim
    (λ f. f ∙ sym (lt-ltb c (input_words + row_answers * n) (omega (arith, ltb-false c input_words e, ltb-true (c - input_words) (row_answers * n) f))))
    (λ f. f ∙ sym (le-ltb c (input_words + row_answers * n) (omega (arith, ltb-false c input_words e, ltb-false (c - input_words) (row_answers * n) f))))
    (either (ltb (c - input_words) (row_answers * n)))))
    (either (ltb c input_words))

names_below : (n c : ℕ) → names n c ≡ true → c < input_words + row_answers * n
names_below n c e = ltb-true c (input_words + row_answers * n) (sym (names_is n c) ∙ e)

-- a lower row has them too
names_more : (n m c : ℕ) → n ≤ m → names n c ≡ true → names m c ≡ true
names_more n m c h e = names_is m c ∙ lt-ltb c (input_words + row_answers * m) (omega (arith, names_below n c e))

reaches_more : (n m : ℕ) (r : Row) → n ≤ m → in_reach n r ≡ true → in_reach m r ≡ true
reaches_more n m r h e =
    let (a, more) = both (names n r.first) _ e in
    let (b, c) = both (names n r.second) _ more in
    rw (names_more n m r.first h a, names_more n m r.second h b, names_more n m r.third h c) refl

pub all_reach_more : (n m : ℕ) (rs : List Row) → n + length rs ≤ m → all_reach n rs ≡ true → every (in_reach m) rs ≡ true
unfolding all_reach every
all_reach_more n m [] h e = refl
all_reach_more n m (r ∷ rs) h e =
    let (t, u) = both (in_reach n r) (all_reach (n + 1) rs) e in
    rw (reaches_more n m r (omega (arith, h)) t) (all_reach_more (n + 1) m rs (omega (arith, h)) u)

-- ---- the word that a column names
module _ (k : Tick) (above : List ℕ) (n c : ℕ) (named : names n c ≡ true) where
  -- answers that come behind those above the row do not matter
  same_word : (more : List ℕ) → length above ≡ row_answers * n → named_word k above c ≡ named_word k (above ++ more) c
  same_word more long = ⊎_elim
      (λ e. rw e refl)
      (λ e. rw e (sym (get_or-append above more 0 (c - input_words) (omega (arith, ltb-false c input_words e, names_below n c named, long)))))
      (either (ltb c input_words))

  -- the word stands at the column's place, where the tick's words and these answers are in sight
  word_in_sight : (seen : List ℕ) → length k.words ≡ input_words → take (input_words + row_answers * n) seen ≡ k.words ++ above → get_or seen c 0 ≡ named_word k above c
  word_in_sight seen eight sight =
      sym (get_or-take (input_words + row_answers * n) seen c 0 (names_below n c named)) ∙ ap (λ (l : List ℕ). get_or l c 0) sight ∙ ⊎_elim
      (λ e. rw e (get_or-append k.words above 0 c (omega (arith, ltb-true c input_words e, eight))))
      (λ e.
      let place : c ≡ length k.words + (c - input_words) = omega (arith, ltb-false c input_words e, eight) in
      rw e (ap (λ (i : ℕ). get_or (k.words ++ above) i 0) place ∙ get_or-append-add k.words above (c - input_words) 0))
      (either (ltb c input_words))

module _ (k : Tick) (above : List ℕ) (n : ℕ) (r : Row) (reach : in_reach n r ≡ true) where
  abbrev on_first : names n r.first ≡ true
  on_first = (both (names n r.first) _ reach).0

  abbrev on_second : names n r.second ≡ true
  on_second = (both (names n r.second) (names n r.third) (both (names n r.first) _ reach).1).0

  abbrev on_third : names n r.third ≡ true
  on_third = (both (names n r.second) (names n r.third) (both (names n r.first) _ reach).1).1

  pub same_tick : (more : List ℕ) → length above ≡ row_answers * n → row_tick k above r ≡ row_tick k (above ++ more) r
  unfolding row_tick
  same_tick more long = rw (same_word k above n r.first on_first more long, same_word k above n r.second on_second more long, same_word k above n r.third on_third more long) refl

  -- a row whose columns are in reach reads what it is to receive
  pub sees : (seen : Seen) → length k.words ≡ input_words → take (input_words + row_answers * n) seen.words ≡ k.words ++ above → tick_by k.time seen r ≡ row_tick k above r
  unfolding tick_by row_tick
  sees seen eight sight = rw (word_in_sight k above n r.first on_first seen.words eight sight, word_in_sight k above n r.second on_second seen.words eight sight, word_in_sight k above n r.third on_third seen.words eight sight) refl

-- it is handed on as its bits: -0.0 is a true, and a true is the least real above zero
pub minus_zero_is_true : flag_of (word_of (fin true 0 (pos 0))) ≡ true
unfolding to_bits
minus_zero_is_true = refl

pub true_is_least : real_of (word_of_flag true) ≡ nearest 1 (2 ^ 1074)
unfolding of_bits round
true_is_least = refl

-- ---- all rows: what each received, it received of the answers that the tick hands out
module _ (k : Tick) where
  -- these answers above, and those of the rows from here on
  abbrev pub all_answers : List ℕ → List Row → List ℕ → List ℕ
  all_answers above rs ws = above ++ joined answers_of (fed_below k above (placed rs ws))

  pub none_answered : (above ws : List ℕ) → all_answers above [] ws ≡ above
  unfolding placed fed_below joined
  none_answered above ws = append-nil above

  -- the first of these rows answers, and is above the others then
  module _ (above : List ℕ) (r : Row) (rs : List Row) (ws : List ℕ) where
    abbrev here : Fed
    here = feed k above (record { row = r; words = take (wide r) ws })

    abbrev pub next : List ℕ
    next = above ++ answers_of here

    next_long : (n : ℕ) → length above ≡ row_answers * n → length next ≡ row_answers * (n + 1)
    next_long n long = length-append above (answers_of here) ∙ omega (arith, long)

    pub next_answered : all_answers next rs (drop (wide r) ws) ≡ all_answers above (r ∷ rs) ws
    unfolding placed fed_below joined
    next_answered = append_assoc above (answers_of here) _

  hear : (n : ℕ) (rs : List Row) (ws above : List ℕ) → length above ≡ row_answers * n → all_reach n rs ≡ true → fed_below k above (placed rs ws) ≡ map (feed k (all_answers above rs ws)) (placed rs ws)
  unfolding all_reach placed fed_below
  hear n [] ws above long e = refl
  hear n (r ∷ rs) ws above long e =
      let (t, u) = both (in_reach n r) (all_reach (n + 1) rs) e in
      let more = hear (n + 1) rs (drop (wide r) ws) (next above r rs ws) (next_long above r rs ws n long) u in
      let own = same_tick k above n r t (joined answers_of (fed_below k above (placed (r ∷ rs) ws))) long in
      λ i. record { row = r; words = take (wide r) ws; received = own i } ∷ (more ∙ ap (λ (l : List ℕ). map (feed k l) (placed rs (drop (wide r) ws))) (next_answered above r rs ws)) i

-- ---- over a list that was made from another
module _ {A B : Type 0} (g : A → B) where
  pub joined_map : (f : B → List ℕ) (xs : List A) → joined f (map g xs) ≡ joined (λ x. f (g x)) xs
  unfolding joined
  joined_map f [] = refl
  joined_map f (x ∷ xs) = ap (λ (l : List ℕ). f (g x) ++ l) (joined_map f xs)

  pub any_map : (f : B → Bool) (xs : List A) → any_of f (map g xs) ≡ any_of (λ x. f (g x)) xs
  unfolding any_of
  any_map f [] = refl
  any_map f (x ∷ xs) = ap (λ (b : Bool). f (g x) || b) (any_map f xs)

-- ---- a sheet whose columns are all in reach: each row received of the answers that the tick hands out
module _ (k : Tick) (rs : List Row) (ws : List ℕ) where
  abbrev pub answered : List ℕ
  answered = joined answers_of (fed k rs ws)

  module _ (reach : all_reach 0 rs ≡ true) where
    pub each_fed : fed k rs ws ≡ map (feed k answered) (placed rs ws)
    each_fed = hear k 0 rs ws [] refl reach

    pub any_fed : (f : Fed → Bool) → any_of f (fed k rs ws) ≡ any_of (λ p. f (feed k answered p)) (placed rs ws)
    any_fed f = ap (any_of f) each_fed ∙ any_map (feed k answered) f (placed rs ws)

    pub joined_fed : (f : Fed → List ℕ) → joined f (fed k rs ws) ≡ joined (λ p. f (feed k answered p)) (placed rs ws)
    joined_fed f = ap (joined f) each_fed ∙ joined_map (feed k answered) f (placed rs ws)
