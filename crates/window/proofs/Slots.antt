-- The ring of a finite delta over whole numbers: 2 * ⌈delta raised to 1e-5⌉ slots, kept between 2048 and 131072, and a state of more than 4110 words exactly where delta is above 1024. Assumes nothing.
use Rattle.std.proofs.Common.{◌≡◌, ℕ, ◌+◌, ◌*◌, ◌^◌, ◌<◌, ◌≤◌, Bool, true, false, cond, T, ltb, sym, refl, ap, ◌∙◌, suc-mul, le-div_iff_mul-le, arith, lit<, lit≤, ltb→lt, lt→ltb, ltb-false, ltb-true}
use lib.Ieee.{Float, nan, inf, fin, binary64, up, down, round, lt, le, fits, to_unsigned}
use lib.Ieee.Fits.{down_pos}
use lib.Ieee.Exact.{HasValue}
use lib.Ieee.Back.{round_whole}
use lib.Ieee.Scale.{finite}
use lib.Ieee.Order.{round_mono}
use lib.Ieee.Positive.{num, den, den_pos, positive, above, own_value, value_pos, positive_of_value, positive-finite, above_of_le, mul_at}
use Rattle.reals.specs.Words.{nearest}
use Rattle.reals.specs.Arithmetic.{◌⊗◌}
use Rattle.reals.specs.Rounding.{upward, whole, whole_above}
use Rattle.reals.proofs.Values.{agree}
use Rattle.reals.proofs.Words.{nearest_fits}
use Rattle.reals.proofs.Order.{finite_number, le_of_not_lt, le_not_lt, lt_le, le_transitive}
use Rattle.reals.proofs.Whole.{whole_value, lt_from_whole}
use Rattle.reals.proofs.Counts.{lt_counts, count_back}
use Rattle.dynamics.specs.Leaves.{raised_to}
use Rattle.window.specs.Geometry.{delta_eff, slots_of, slot_count, geometry_of, kept, ceiling, slots_meant}
use Rattle.window.proofs.Sizes.{capacity_is, length_is, length_least}

-- ---- the slots of a whole number n, however large
by_test : (n : ℕ) (b : Bool) → ltb 2048 n ≡ b → n < 131072 → cond b n 2048 ≡ kept 2048 131072 n
by_test n true e h = let l = ltb-true 2048 n e in omega arith
by_test n false e h = let l = ltb-false 2048 n e in omega arith

slots_count : (n : ℕ) → slots_of (nearest n 1) ≡ kept 2048 131072 n
unfolding slots_of
slots_count n = go (ltb n 131072) refl
  where
    go : (b : Bool) → ltb n 131072 ≡ b → cond (lt (nearest n 1) (nearest 131072 1)) (cond (lt (nearest 2048 1) (nearest n 1)) (to_unsigned 64 (nearest n 1)) 2048) 131072 ≡ kept 2048 131072 n
    go true e =
        let h = ltb-true n 131072 e in
        let l : n ≤ 2 ^ 53 = omega arith in
        rw (lt_counts n 131072 l (lit≤ tt) ∙ e, lt_counts 2048 n (lit≤ tt) l, count_back n l) (by_test n (ltb 2048 n) refl h)
    go false e =
        let h = ltb-false n 131072 e in
        rw (le_not_lt (nearest 131072 1) (nearest n 1) (round_mono binary64 131072 1 n 1 (lit< tt) (lit< tt) (omega arith))) (omega arith)

-- ---- a positive x rounded up, and twice that
ceiling_value : (x : Float) → T (fits binary64 x) → T (positive x) → HasValue (whole upward x) false (ceiling x) 1
ceiling_value nan f p = absurd p
ceiling_value (inf s) f p = absurd p
ceiling_value (fin true m e) f p = absurd p
ceiling_value (fin false m e) f p = whole_value upward false m e f

ceiling_pos : (x : Float) → T (positive x) → 0 < ceiling x
ceiling_pos x p =
    let a : 0 < num x = value_pos x (num x) (den x) p (den_pos x) (own_value x p) in
    let c : 0 < den x = den_pos x in
    (le-div_iff_mul-le c).1 (omega arith)

twice : (x : Float) → T (fits binary64 x) → T (positive x) → nearest 2 1 ⊗ whole upward x ≡ nearest (2 * ceiling x) 1
twice x f p =
    let two = round_whole binary64 false 2 (lit≤ tt) in
    let value = ceiling_value x f p in
    mul_at binary64 (nearest 2 1) (whole upward x) 2 1 (ceiling x) 1
    (positive_of_value (nearest 2 1) 2 1 two (lit< tt)) (positive_of_value (whole upward x) (ceiling x) 1 value (ceiling_pos x p))
    (lit< tt) (lit< tt) two value

-- ---- the state is longer than 4110 words where x rounded up is above 1024, and so where x is
words_above : (n : ℕ) → ltb 4110 (6 + 2 * (kept 2048 131072 (2 * n) + 4)) ≡ ltb 1024 n
words_above n =
    let words = 6 + 2 * (kept 2048 131072 (2 * n) + 4) in
    agree (ltb 4110 words) (ltb 1024 n)
    (λ t. let h = ltb→lt 4110 words t in lt→ltb 1024 n (omega arith))
    (λ t. let h = ltb→lt 1024 n t in lt→ltb 4110 words (omega arith))

below_above : (k a c : ℕ) → 0 < c → ltb k (whole_above a c) ≡ ltb (k * c) a
below_above k a c C =
    agree (ltb k (whole_above a c)) (ltb (k * c) a)
    (λ t. let h = (le-div_iff_mul-le C).0 (ltb→lt k (whole_above a c) t) in lt→ltb (k * c) a (omega (arith, suc-mul k c)))
    (λ t. let h = ltb→lt (k * c) a t in lt→ltb k (whole_above a c) ((le-div_iff_mul-le C).1 (omega (arith, suc-mul k c))))

below_ceiling : (x : Float) → T (positive x) → ltb 1024 (ceiling x) ≡ lt (nearest 1024 1) x
below_ceiling (fin true m e) p = absurd p
below_ceiling (fin false m e) p = below_above 1024 (m * up e) (down e) (down_pos e) ∙ sym (lt_from_whole (nearest 1024 1) false m e 1024 (round_whole binary64 false 1024 (lit≤ tt)))
below_ceiling nan p = elim p [ ]
below_ceiling (inf _) p = elim p [ ]

-- ---- delta raised to 1e-5
abbrev 1e-5 : Float
1e-5 = nearest 1 (10 ^ 5)

1e-5-positive : T (positive 1e-5)
unfolding round
1e-5-positive = tt

1e-5-below : T (le 1e-5 (nearest 1024 1))
1e-5-below = round_mono binary64 1 (10 ^ 5) 1024 1 (lit< tt) (lit< tt) (lit≤ tt)

finite_above : (x : Float) → T (finite x) → T (above x) → T (positive x)
finite_above (fin true m e) h a = absurd a
finite_above (fin false m e) h a = a
finite_above nan h a = elim h [ ]
finite_above (inf _) h a = elim h [ ]

module _ (delta : Float) (f : T (fits binary64 delta)) (h : T (finite delta)) where
  raised_fits : T (fits binary64 (delta_eff delta))
  unfolding delta_eff raised_to
  raised_fits = go (lt delta 1e-5)
    where
      go : (b : Bool) → T (fits binary64 (cond b 1e-5 delta))
      go true = nearest_fits 1 (10 ^ 5)
      go false = f

  raised_positive : T (positive (delta_eff delta))
  unfolding delta_eff raised_to
  raised_positive = go (lt delta 1e-5) refl
    where
      go : (b : Bool) → lt delta 1e-5 ≡ b → T (positive (cond b 1e-5 delta))
      go true e = 1e-5-positive
      go false e = finite_above delta h (above_of_le 1e-5 delta 1e-5-positive (le_of_not_lt 1e-5 delta (finite_number 1e-5 (positive-finite 1e-5 1e-5-positive)) (finite_number delta h) e))

  raised_1024 : lt (nearest 1024 1) (delta_eff delta) ≡ lt (nearest 1024 1) delta
  unfolding delta_eff raised_to
  raised_1024 = go (lt delta 1e-5) refl
    where
      go : (b : Bool) → lt delta 1e-5 ≡ b → lt (nearest 1024 1) (cond b 1e-5 delta) ≡ lt (nearest 1024 1) delta
      go true e =
          le_not_lt 1e-5 (nearest 1024 1) 1e-5-below
          ∙ sym (le_not_lt delta (nearest 1024 1) (le_transitive delta 1e-5 (nearest 1024 1) (lt_le delta 1e-5 (rw e tt)) 1e-5-below))
      go false e = refl

  -- ---- what the geometry comes to
  pub slots_mean : slot_count delta ≡ slots_meant delta
  unfolding slot_count slots_meant
  slots_mean = ap slots_of (twice (delta_eff delta) raised_fits raised_positive) ∙ slots_count (2 * ceiling (delta_eff delta))

  pub length_above : ltb 4110 (geometry_of delta).length ≡ lt (nearest 1024 1) delta
  unfolding slots_meant
  length_above =
      ap (λ (z : ℕ). ltb 4110 z) (length_is delta ∙ ap (λ (z : ℕ). 6 + 2 * z) (capacity_is delta ∙ ap (λ (z : ℕ). z + 4) slots_mean))
      ∙ words_above (ceiling (delta_eff delta))
      ∙ below_ceiling (delta_eff delta) raised_positive
      ∙ raised_1024

  pub length_4110 : T (le delta (nearest 1024 1)) → (geometry_of delta).length ≡ 4110
  length_4110 l =
      let most = ltb-false 4110 (geometry_of delta).length (length_above ∙ le_not_lt delta (nearest 1024 1) l) in
      omega (arith, length_least delta)
