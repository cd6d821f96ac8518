-- The limits: an output is the sum of the terms, clamped. Assumes nothing.
use mathlib.Core.Path.{◌≡◌, refl, sym, ◌∙◌}
use mathlib.Core.Bool.{Bool, true, false, cond}
use lib.Dec.{T}
use lib.Ieee.{Float, nan, inf, fin, is_nan, lt, le}
use Rattle.reals.proofs.Order.{le_left, le_right, lt_right, not_nan, le_reflexive, le_transitive, le_of_not_lt, le_not_lt, against, lt_le}
use Rattle.controller.specs.Limit.{clamp, limit, Held, Crossed}
use Rattle.controller.specs.declared.config.ControllerConfig.{ControllerConfig}
use Rattle.controller.specs.declared.limit.Rule.{Rule}
use Rattle.controller.specs.declared.limit.Rule.TheVariants.{PassesNan}

module _ (b : ControllerConfig) (y_u : Float) where
  abbrev y_min : Float
  y_min = b.y_min

  abbrev y_max : Float
  y_max = b.y_max

  -- the chain of comparisons, by what they give
  abbrev chain : Bool → Bool → Float
  chain above below = cond above y_max (cond below y_min y_u)

  -- ---- y_min <= y_max, and a sum that is a number
  module _ (order : T (le y_min y_max)) (number : is_nan y_u ≡ false) where
    held_by : (above below : Bool) → lt y_max y_u ≡ above → lt y_u y_min ≡ below → Held b y_u (chain above below)
    held_by true below p q =
        let over : T (lt y_max y_u) = rw p tt in
        record {
          not_below = order;
          not_above = le_reflexive y_max (le_right y_min y_max order);
          between = λ l h. absurd (against y_max y_u over h);
          raised = λ l. absurd (against y_u y_min l (le_transitive y_min y_max y_u order (lt_le y_max y_u over)));
          lowered = λ h. refl;
        }
    held_by false true p q =
        let under : T (lt y_u y_min) = rw q tt in
        record {
          not_below = le_reflexive y_min (le_left y_min y_max order);
          not_above = order;
          between = λ l h. absurd (against y_u y_min under l);
          raised = λ l. refl;
          lowered = λ h. absurd (rw p at h);
        }
    held_by false false p q = record {
      not_below = le_of_not_lt y_min y_u (le_left y_min y_max order) (not_nan y_u number) q;
      not_above = le_of_not_lt y_u y_max (not_nan y_u number) (le_right y_min y_max order) p;
      between = λ l h. refl;
      raised = λ l. absurd (rw q at l);
      lowered = λ h. absurd (rw p at h);
    }

    -- by every rule
    pub held : (rule : Rule) → Held b y_u (clamp b rule y_u)
    unfolding clamp
    held PassesNan = held_by (lt y_max y_u) (lt y_u y_min) refl refl

    pub limit_held : Held b y_u (limit b y_u)
    unfolding limit
    limit_held = held PassesNan

    -- and that says which number it is
    pub held_once : {y z : Float} → Held b y_u y → Held b y_u z → y ≡ z
    held_once {y} {z} g h = go (lt y_max y_u) (lt y_u y_min) refl refl
      where
        go : (above below : Bool) → lt y_max y_u ≡ above → lt y_u y_min ≡ below → y ≡ z
        go true below p q = g.lowered (rw p tt) ∙ sym (h.lowered (rw p tt))
        go false true p q = g.raised (rw q tt) ∙ sym (h.raised (rw q tt))
        go false false p q =
            let l = le_of_not_lt y_min y_u (le_left y_min y_max order) (not_nan y_u number) q in
            let u = le_of_not_lt y_u y_max (not_nan y_u number) (le_right y_min y_max order) p in
            g.between l u ∙ sym (h.between l u)

  -- ---- y_min > y_max
  module _ (order : T (lt y_max y_min)) where
    under : T (le y_u y_max) → lt y_u y_min ≡ true
    under l = go (lt y_u y_min) refl
      where
        go : (below : Bool) → lt y_u y_min ≡ below → below ≡ true
        go true q = refl
        go false q = absurd (against y_max y_min order (le_transitive y_min y_u y_max (le_of_not_lt y_min y_u (lt_right y_max y_min order) (le_left y_u y_max l) q) l))

    pub crossed : (rule : Rule) → Crossed b y_u (clamp b rule y_u)
    unfolding clamp
    crossed PassesNan = record {
      above = λ h. go (lt y_max y_u) h;
      otherwise = λ l. simp (le_not_lt y_u y_max l, under l);
    }
      where
        go : (above : Bool) → T above → chain above (lt y_u y_min) ≡ y_max
        go true t = refl
        go false t = elim t [ ]

    pub limit_crossed : Crossed b y_u (limit b y_u)
    unfolding limit
    limit_crossed = crossed PassesNan

-- a NaN stays NaN, whatever the limits are
pub nan_passes : (b : ControllerConfig) → limit b nan ≡ nan
unfolding limit clamp lt
nan_passes b = go b.y_max
  where
    go : (u : Float) → cond (lt u nan) u nan ≡ nan
    go nan = refl
    go (inf s) = refl
    go (fin s m e) = refl
