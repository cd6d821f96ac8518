-- The ring that a window of delta seconds asks for. Definitions only.
use Rattle.std.specs.Prelude.{ℕ, ◌+◌, ◌*◌, ◌^◌, min, max, cond, pos, Float}
use Rattle.std.specs.Float.{binary64}
use Rattle.std.specs.Float.Ieee.{lt, of_int, to_unsigned}
use Rattle.std.specs.Float.Ieee.Positive.{num, den}
use Rattle.reals.specs.Words.{nearest}
use Rattle.reals.specs.Arithmetic.{◌⊗◌, ◌⊘◌}
use Rattle.reals.specs.Rounding.{upward, whole, whole_above}
use Rattle.dynamics.specs.Leaves.{raised_to}
use Rattle.window.specs.declared.ring.RingGeometry.{RingGeometry}

-- delta is raised to 1e-5
unfoldable pub delta_eff : Float → Float
delta_eff delta = raised_to (nearest 1 (10 ^ 5)) delta

-- 131072 if whole >= 131072, 2048 if whole <= 2048, else whole
unfoldable pub slots_of : Float → ℕ
slots_of whole =
    cond (lt whole (nearest 131072 1))
    (cond (lt (nearest 2048 1) whole) (to_unsigned 64 whole) 2048)
    131072

-- whole = 2 * (delta rounded up). `proofs/Slots.antt` says over whole numbers what that comes to
unfoldable pub slot_count : Float → ℕ
slot_count delta = slots_of (nearest 2 1 ⊗ whole upward (delta_eff delta))

-- capacity slots + 4; length 6 + 2 * capacity; resolution delta / slots
unfoldable pub geometry_of : Float → RingGeometry
geometry_of delta =
    let slots = slot_count delta in
    record {
      delta = delta_eff delta;
      capacity = slots + 4;
      length = 6 + 2 * (slots + 4);
      resolution = delta_eff delta ⊘ of_int binary64 (pos slots);
    }

-- ---- what that comes to over whole numbers (proofs/Slots.antt)
-- n, but not below least and not above most
abbrev pub kept : ℕ → ℕ → ℕ → ℕ
kept least most n = max least (min n most)

-- a finite x above zero rounded up: the least whole number not below num x / den x, which is x
abbrev pub ceiling : Float → ℕ
ceiling x = whole_above (num x) (den x)

-- two slots for each second begun, 2048 at least and 131072 at most: the slot_count of every finite delta
unfoldable pub slots_meant : Float → ℕ
slots_meant delta = kept 2048 131072 (2 * ceiling (delta_eff delta))
