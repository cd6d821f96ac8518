-- The integral at the window's edge, and where a tick's point is stored. Definitions only.
use Rattle.std.specs.Prelude.{Bool, true, false, ◌&&◌, ◌||◌, cond, List, ◌∷◌, ℕ, ◌+◌, ◌-◌, leb, ltb, eqb, drop, set, Float}
use Rattle.std.specs.Float.Ieee.{le, lt}
use Rattle.reals.specs.Words.{nearest, word_of}
use Rattle.reals.specs.Arithmetic.{◌⊖◌, ◌⊗◌}
use Rattle.window.specs.Mean.{on_line}
use Rattle.window.specs.declared.mean.Point.{Point}
use Rattle.moving_average.specs.Ring.{slot_of, time_place, mu_place, time_word, time_at, point_at, edge_of, expired_of}
use Rattle.moving_average.specs.declared.ring.Ring.{Ring}
use Rattle.moving_average.specs.declared.store.Place.{Place}
use Rattle.moving_average.specs.declared.store.Step.{Step}

-- ---- the integral up to a target time

-- n is the first position at or before whose time the target lies, or the count; the present point closes the ring
unfoldable pub mu_from : List ℕ → Ring → Float → Point → ℕ → Float
mu_from r g target present n =
    cond (eqb g.count 0) present.mu
    (cond (eqb n 0) (point_at r g 0).mu
    (cond (ltb n g.count) (on_line (point_at r g (n - 1)) (point_at r g n) target)
    (cond (le target present.time) (on_line (point_at r g (n - 1)) present target)
    present.mu)))

unfoldable pub mu_at : List ℕ → Ring → Float → Point → Float
mu_at r g target present = mu_from r g target present (edge_of r g target)

-- ---- an update prunes, then stores

-- without the points that have expired
unfoldable pub pruned : List ℕ → Ring → Float → Ring
pruned r g cutoff = let k = expired_of r g cutoff in record { capacity = g.capacity; head = slot_of g k; count = g.count - k }

-- count >= 2 and t minus the last-but-one time < 2 * resolution, or a full ring
unfoldable pub is_crowded : List ℕ → Ring → Float → Float → Bool
is_crowded r g resolution t =
    leb g.capacity g.count
    || (leb 2 g.count && lt (t ⊖ time_at r g (g.count - 2)) (nearest 2 1 ⊗ resolution))

-- after the last point, and in its place
abbrev pub after : Ring → Place
after g = record { position = g.count; count = g.count + 1; coalesced = false }

abbrev pub over : Ring → Bool → Place
over g coalesced = record { position = g.count - 1; count = g.count; coalesced = coalesced }

-- equal time bits overwrite the last point; otherwise, where the ring is crowded, the last point is overwritten
unfoldable pub place_of : List ℕ → Ring → Float → Float → Place
place_of r g resolution t =
    cond (eqb g.count 0) (after g)
    (cond (eqb (time_word r g (g.count - 1)) (word_of t)) (over g false)
    (cond (is_crowded r g resolution t) (over g true)
    (after g)))

-- the region after an update: the first six words, and the two of the tick's point
unfoldable pub written : List ℕ → Step → List ℕ
written r s =
    let front = s.mu ∷ s.t_start ∷ s.time ∷ s.ring.head ∷ s.place.count ∷ s.coalesced ∷ drop 6 r in
    let n = s.place.position in
    set (set front (time_place s.ring n) s.time) (mu_place s.ring n) s.mu
