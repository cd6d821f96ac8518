-- `MovingAverage` over a region. Definitions only.
use Rattle.std.specs.Prelude.{◌≡◌, refl, Bool, true, false, ◌&&◌, cond, List, ◌∷◌, ℕ, ◌+◌, ◌*◌, leb, ltb, get_or, replicate, Float, Some}
use Rattle.std.specs.Float.Ieee.Scale.{finite}
use Rattle.reals.specs.Words.{0·0, real_of, word_of, flag_of}
use Rattle.reals.specs.Arithmetic.{◌⊖◌, ◌⊘◌}
use Rattle.dynamics.specs.Previous.{unset, previous_of, sound_previous, is_first, gap}
use Rattle.dynamics.specs.Leaves.{accumulated, rising}
use Rattle.dynamics.specs.Answer.{real_output}
use Rattle.dynamics.specs.Machine.{Machine, Told, decode_refusal}
use Rattle.window.specs.Geometry.{geometry_of}
use Rattle.window.specs.Mean.{divisor}
use Rattle.window.specs.Order.{Ordered, is_ordered}
use Rattle.window.specs.declared.ring.RingGeometry.{RingGeometry}
use Rattle.moving_average.specs.Ring.{time_at}
use Rattle.moving_average.specs.Average.{mu_at, pruned, place_of, written}
use Rattle.moving_average.specs.declared.MovingAverage.{MovingAverage}
use Rattle.moving_average.specs.declared.ring.Ring.{Ring}
use Rattle.moving_average.specs.declared.store.Place.{Place}
use Rattle.moving_average.specs.declared.store.Step.{Step}
use Rattle.moving_average.specs.declared.state.State.{State}

-- ---- the words: integral, start time, previous time, head, count, coalesced, then the ring

unfoldable pub state_of : List ℕ → State
state_of w = record {
  mu = real_of (get_or w 0 0);
  t_start = real_of (get_or w 1 0);
  previous = previous_of (get_or w 2 0);
  head = get_or w 3 0;
  count = get_or w 4 0;
  coalesced = flag_of (get_or w 5 0);
}

abbrev pub ring_of : State → ℕ → Ring
ring_of s capacity = record { capacity = capacity; head = s.head; count = s.count }

-- the previous time is unset or finite; head below the capacity, count not above it
unfoldable pub decodable : State → ℕ → Bool
decodable s capacity = (sound_previous s.previous && ltb s.head capacity) && leb s.count capacity

-- the times of the ring's points are in order, as a yes or no
unfoldable pub in_order : List ℕ → State → ℕ → Bool
in_order w s capacity = is_ordered (time_at w (ring_of s capacity)) s.count s.previous

-- a fresh region: previous time unset, the rest zero
unfoldable pub fresh : RingGeometry → List ℕ
fresh g = 0 ∷ 0 ∷ unset ∷ replicate (3 + 2 * g.capacity) 0

-- ---- a tick at t with the input u

-- mu is accumulate(integral, input, gap)
unfoldable pub mu_now : State → Float → Float → Float
mu_now s t u = accumulated s.mu u (gap t s.previous)

-- start is t on the first tick
unfoldable pub start_of : State → Float → Float
start_of s t = cond (is_first s.previous) t s.t_start

module _ (g : RingGeometry) (w : List ℕ) (s : State) (t : Float) where
  -- (mu - mu at t - delta) / d
  unfoldable pub output_of : Float → Float
  output_of mu = (mu ⊖ mu_at w (ring_of s g.capacity) (t ⊖ g.delta) (record { time = t; mu = mu })) ⊘ divisor (start_of s t) g.delta t

  -- the ring once it is pruned, and the place of the tick's point in it
  unfoldable pub ring_at : Ring
  ring_at = pruned w (ring_of s g.capacity) (t ⊖ g.delta)

  unfoldable pub place_at : Place
  place_at = place_of w ring_at g.resolution t

  -- true exactly on the call that turns the coalesced word from 0 to 1
  unfoldable pub warning_of : Bool
  warning_of = rising place_at.coalesced s.coalesced

-- the start time's word is written on the first tick alone, the coalesced word with the warning alone
abbrev pub start_word : ℕ → Bool → Float → ℕ
start_word old first t = cond first (word_of t) old

abbrev pub latch : ℕ → Bool → ℕ
latch old warning = cond warning 1 old

unfoldable pub step_of : RingGeometry → List ℕ → State → Float → Float → Step
step_of g w s t mu = record {
  mu = word_of mu;
  t_start = start_word (get_or w 1 0) (is_first s.previous) t;
  time = word_of t;
  ring = ring_at g w s t;
  place = place_at g w s t;
  coalesced = latch (get_or w 5 0) (warning_of g w s t);
}

unfoldable pub after_of : RingGeometry → List ℕ → State → Float → Float → List ℕ
after_of g w s t mu = written w (step_of g w s t mu)

-- ---- the block

unfoldable pub machine_for : Bool → RingGeometry → Machine
machine_for accepted g = record {
  accepts = accepted;
  size = g.length;
  fresh = fresh g;
  decodes = λ w. decodable (state_of w) g.capacity;
  sound = λ w. decodable (state_of w) g.capacity && in_order w (state_of w) g.capacity;
  previous = λ w. (state_of w).previous;
  output = λ w t i. real_output (output_of g w (state_of w) t (mu_now (state_of w) t (real_of i.first)));
  warns = λ w t i. warning_of g w (state_of w) t;
  after = λ w t i. after_of g w (state_of w) t (mu_now (state_of w) t (real_of i.first));
}

-- delta is finite
abbrev pub machine : MovingAverage → Machine
machine b = machine_for (finite b.delta) (geometry_of b.delta)

-- what "sound" means (request 2 of document 02): no refusal of decoding applies, and the times of the ring's points are in order
abbrev pub PointsOrdered : MovingAverage → List ℕ → Type 0
PointsOrdered b w = Ordered (time_at w (ring_of (state_of w) (geometry_of b.delta).capacity)) (state_of w).count (state_of w).previous

pub record Sound (b : MovingAverage) (w : List ℕ) : Type 0 where
  pub decodes : decode_refusal (machine b) w ≡ 0
  pub ordered : PointsOrdered b w

-- what its state tells of its words
pub told : (b : MovingAverage) → Told (machine b) state_of (λ s. decodable s (geometry_of b.delta).capacity) (λ s. s.previous)
unfolding machine_for
told b = record { by_decodes = λ w. refl; by_previous = λ w. refl; sound_decodes = λ w. first _ _ }
  where
    first : (p q : Bool) → p && q ≡ true → p ≡ true
    first true q e = refl
    first false q e = e

-- the record of zeros, for which a refused decode stands
abbrev pub zeros : State
zeros = record { mu = 0·0; t_start = 0·0; previous = Some 0·0; head = 0; count = 0; coalesced = false }
