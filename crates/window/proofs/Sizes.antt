-- The sizes of a ring, whatever delta is, a NaN and the infinities included: 2048 to 131072 slots, and a state of 4110 to 262158 words. Assumes nothing.
use Rattle.std.proofs.Common.{◌≡◌, ℕ, ◌+◌, ◌-◌, ◌*◌, ◌/◌, ◌^◌, ◌<◌, ◌≤◌, min, Bool, true, false, cond, T, pos, refl, div-lt_iff_lt-mul, le-div_iff_mul-le, arith, ltb→lt, lt→ltb, le→leb}
use lib.Ieee.{Float, nan, inf, fin, binary64, up, down, lt, round, to_unsigned, in_float}
use lib.Ieee.Fits.{down_pos}
use Rattle.reals.specs.Words.{nearest}
use Rattle.window.specs.Geometry.{slots_of, slot_count, geometry_of}

-- ---- a real between 2048 and 131072
within : (x d : ℕ) → 0 < d → 2048 * d < x * 1 → x * 1 < 131072 * d → (2048 ≤ min (x / d) (2 ^ 64 - 1)) × (min (x / d) (2 ^ 64 - 1) ≤ 131072)
within x d p a b =
    let low : 2048 ≤ x / d = (le-div_iff_mul-le p).1 (omega arith) in
    let high : x / d < 131072 = (div-lt_iff_lt-mul p).1 (omega arith) in
    omega arith

cut_within : (w : Float) → T (lt (nearest 2048 1) w) → T (lt w (nearest 131072 1)) → (2048 ≤ to_unsigned 64 w) × (to_unsigned 64 w ≤ 131072)
unfolding lt round to_unsigned
cut_within nan a b = absurd a
cut_within (inf true) a b = absurd a
cut_within (inf false) a b = absurd b
cut_within (fin true m e) a b = absurd a
cut_within (fin false m e) a b = within (m * up e) (down e) (down_pos e) (ltb→lt _ _ a) (ltb→lt _ _ b)

-- it can be cut to a word: it lies above -1 and below 2 ^ 64
pub cut_above : (w : Float) → T (lt (nearest 2048 1) w) → T (lt (fin true 1 (pos 0)) w)
unfolding lt round
cut_above nan a = absurd a
cut_above (inf true) a = absurd a
cut_above (inf false) a = tt
cut_above (fin true m e) a = absurd a
cut_above (fin false m e) a = let p : 0 < down e = down_pos e in lt→ltb _ _ (omega arith)

pub cut_below : (w : Float) → T (lt (nearest 2048 1) w) → T (lt w (nearest 131072 1)) → T (lt w (fin false 1 (pos 64)))
unfolding lt round
cut_below nan a b = absurd a
cut_below (inf true) a b = absurd a
cut_below (inf false) a b = absurd b
cut_below (fin true m e) a b = absurd a
cut_below (fin false m e) a b =
    let h : m * up e * 1 < 131072 * down e = ltb→lt _ _ b in
    lt→ltb _ _ (omega arith)

-- ---- the slots
chosen : (a b : Bool) (n : ℕ) → (a ≡ true → b ≡ true → (2048 ≤ n) × (n ≤ 131072)) → (2048 ≤ cond a (cond b n 2048) 131072) × (cond a (cond b n 2048) 131072 ≤ 131072)
chosen true true n h = h refl refl
chosen true false n h = omega arith
chosen false b n h = omega arith

pub slots_within : (w : Float) → (2048 ≤ slots_of w) × (slots_of w ≤ 131072)
unfolding slots_of
slots_within w = chosen (lt w (nearest 131072 1)) (lt (nearest 2048 1) w) (to_unsigned 64 w) (λ a b. cut_within w (rw b tt) (rw a tt))

-- so few that a real holds their number
pub slots_exact : (w : Float) → T (in_float binary64 (pos (slots_of w)))
unfolding in_float
slots_exact w = le→leb (slots_of w) (2 ^ 53) (omega (arith, slots_within))

pub count_least : (delta : Float) → 2048 ≤ slot_count delta
unfolding slot_count
count_least delta = (slots_within _).0

pub count_most : (delta : Float) → slot_count delta ≤ 131072
unfolding slot_count
count_most delta = (slots_within _).1

-- ---- the ring
pub capacity_is : (delta : Float) → (geometry_of delta).capacity ≡ slot_count delta + 4
unfolding geometry_of
capacity_is delta = refl

pub length_is : (delta : Float) → (geometry_of delta).length ≡ 6 + 2 * (geometry_of delta).capacity
unfolding geometry_of
length_is delta = refl

pub capacity_least : (delta : Float) → 2052 ≤ (geometry_of delta).capacity
capacity_least delta = omega (arith, capacity_is delta, count_least delta)

pub capacity_most : (delta : Float) → (geometry_of delta).capacity ≤ 131076
capacity_most delta = omega (arith, capacity_is delta, count_most delta)

pub length_least : (delta : Float) → 4110 ≤ (geometry_of delta).length
length_least delta = omega (arith, length_is delta, capacity_least delta)

pub length_most : (delta : Float) → (geometry_of delta).length ≤ 262158
length_most delta = omega (arith, length_is delta, capacity_most delta)
