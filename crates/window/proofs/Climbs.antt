-- Times are in order up to a previous time exactly if the first is finite and a walk along them climbs to that time; a walk goes in stretches. Assumes nothing.
use Rattle.dynamics.specs.Previous.{Previous}
use Rattle.std.specs.Prelude.{None, Some}
use Rattle.std.proofs.Common.{◌≡◌, ℕ, zero, suc, ◌+◌, ◌-◌, ◌<◌, ◌≤◌, Bool, true, false, cond, ◌&&◌, T, eqb, sym, refl, ap, ◌∙◌, subst, ⊎_elim, add-zero, eq-or-lt_of_le, zero-add, add-one, arith, eq-eqb, eqb-true}
use lib.Ieee.{Float, nan, inf, fin, le}
use lib.Ieee.Scale.{finite}
use denote.Floats.{passes}
use lib.Ieee.Bits.{is_true}
use lib.Ieee.Fits.{and_i, and_l, and_r}
use Rattle.reals.proofs.Values.{agree}
use Rattle.reals.proofs.Order.{number, le_right, le_reflexive, le_transitive, le_of_not_lt, le_not_lt, finite_number, over_all}
use Rattle.window.specs.Order.{Ordered, is_ordered}
use Rattle.window.specs.Walk.{climbed}
use Rattle.window.proofs.Orders.{is_number, ordered_means, means_ordered, none_ordered}

-- ---- one place more, and none
module _ (time : ℕ → Float) where
  pub climbed_none : (n : ℕ) (last : Float) → climbed time n 0 last ≡ last
  unfolding climbed
  climbed_none n last = refl

  pub climbed_on : (n k : ℕ) (last : Float) → le last (time n) ≡ true → climbed time n (suc k) last ≡ climbed time (suc n) k (time n)
  unfolding climbed
  climbed_on n k last e = rw e refl

  -- once a time was below the one before, it stays the NaN
  from_nan : (k n : ℕ) → climbed time n k nan ≡ nan
  unfolding climbed le
  from_nan zero n = refl
  from_nan (suc k) n = from_nan k (suc n)

  pub climbed_off : (n k : ℕ) (last : Float) → le last (time n) ≡ false → climbed time n (suc k) last ≡ nan
  unfolding climbed
  climbed_off n k last e = rw e (from_nan k (suc n))

  -- a walk of two stretches
  pub climbed_split : (j k n : ℕ) (last : Float) → climbed time n (j + k) last ≡ climbed time (n + j) k (climbed time n j last)
  unfolding climbed
  climbed_split zero k n last = ap (λ (m : ℕ). climbed time n m last) (zero-add k) ∙ ap (λ (m : ℕ). climbed time m k last) (sym (add-zero n))
  climbed_split (suc j) k n last =
      let x = cond (le last (time n)) (time n) nan in
      let more : suc j + k ≡ suc (j + k) = omega arith in
      let on : suc n + j ≡ n + suc j = omega arith in
      ap (λ (m : ℕ). climbed time n m last) more ∙ climbed_split j k (suc n) x ∙ ap (λ (m : ℕ). climbed time m k (climbed time (suc n) j x)) on

-- the same times, counted from another place
pub climbed_same : (f g : ℕ → Float) (k a b : ℕ) (last : Float) → ((i : ℕ) → i < k → f (a + i) ≡ g (b + i)) → climbed f a k last ≡ climbed g b k last
unfolding climbed
climbed_same f g zero a b last e = refl
climbed_same f g (suc k) a b last e =
    let here : f a ≡ g b = ap f (sym (add-zero a)) ∙ e 0 (omega arith) ∙ ap g (add-zero b) in
    let next = climbed_same f g k (suc a) (suc b) (cond (le last (f a)) (f a) nan) (λ i h. ap f {x = suc a + i} {y = a + suc i} (omega arith) ∙ e (suc i) (omega arith) ∙ ap g {x = b + suc i} {y = suc b + i} (omega arith)) in
    next ∙ ap (λ (x : Float). climbed g (suc b) k (cond (le last x) x nan)) here

-- ---- a walk from place a up to b that stands at s: what is left, from here, is the whole from the start
module _ (time : ℕ → Float) (a b : ℕ) (last : Float) where
  pub record Left (s : ℕ) (top : Float) : Type 0 where
    pub to_go : s ≤ b
    pub rest : climbed time a (b - a) last ≡ climbed time s (b - s) top

  pub left_none : (s : ℕ) (top : Float) → Left s top → b ≤ s → top ≡ climbed time a (b - a) last
  left_none s top l h =
      let z : b - s ≡ 0 = omega (arith, h) in
      sym (l.rest ∙ ap (λ (k : ℕ). climbed time s k top) z ∙ climbed_none time s top)

  -- the next time is looked at
  module _ (s : ℕ) (top : Float) (l : Left s top) (h : s < b) {next : Float} (is : next ≡ time s) where
    from_here : climbed time a (b - a) last ≡ climbed time s (suc (b - (s + 1))) top
    from_here = l.rest ∙ ap (λ (k : ℕ). climbed time s k top) (omega arith)

    pub left_on : le top next ≡ true → Left (s + 1) next
    left_on e =
        record {
          to_go = omega arith;
          rest = from_here ∙ climbed_on time s (b - (s + 1)) top (rw is at e) ∙ rw (is, add-one s) refl;
        }

    pub left_off : le top next ≡ false → nan ≡ climbed time a (b - a) last
    left_off e = sym (from_here ∙ climbed_off time s (b - (s + 1)) top (rw is at e))

-- ---- what it means that k times from place n on climb from one time to another
record Climbs (time : ℕ → Float) (n k : ℕ) (last p : Float) : Type 0 where
  within : T (le last p)
  first : 0 < k → T (le last (time n))
  up : (m : ℕ) → n ≤ m → m + 1 < n + k → T (le (time m) (time (m + 1)))
  under : (m : ℕ) → n ≤ m → m < n + k → T (le (time m) p)

module _ (time : ℕ → Float) (p : Float) where
  -- at the first place or further on
  at_or_on : (P : ℕ → Type 0) (n m : ℕ) → n ≤ m → (n ≡ m → P n) → (suc n ≤ m → P m) → P m
  at_or_on P n m h here more = ⊎_elim (λ e. subst P e (here e)) (λ l. more (omega arith)) (eq-or-lt_of_le {n = n} {m = m} h)

  climbed_climbs : (k n : ℕ) (last : Float) → T (le (climbed time n k last) p) → Climbs time n k last p
  climbed_climbs zero n last h =
      record {
        within = subst (λ (x : Float). T (le x p)) (climbed_none time n last) h;
        first = λ a. absurd (omega arith);
        up = λ m a b. absurd (omega arith);
        under = λ m a b. absurd (omega arith);
      }
  climbed_climbs (suc k) n last h = go (le last (time n)) refl (λ e. climbed_climbs k (suc n) (time n) (subst (λ (x : Float). T (le x p)) (climbed_on time n k last e) h))
    where
      go : (b : Bool) → le last (time n) ≡ b → (b ≡ true → Climbs time (suc n) k (time n) p) → Climbs time n (suc k) last p
      go false e f = absurd (unfold le in subst (λ (x : Float). T (le x p)) (climbed_off time n k last e) h)
      go true e f =
          let c = f refl in
          record {
            within = le_transitive last (time n) p (passes _ e) c.within;
            first = λ a. passes _ e;
            up = λ m a b. at_or_on (λ m. T (le (time m) (time (m + 1)))) n m a (λ s. subst (λ (j : ℕ). T (le (time n) (time j))) (sym (add-one n)) (c.first (omega arith))) (λ l. c.up m l (omega arith));
            under = λ m a b. at_or_on (λ m. T (le (time m) p)) n m a (λ s. c.within) (λ l. c.under m l (omega arith));
          }

  climbs_climbed : (k n : ℕ) (last : Float) → Climbs time n k last p → T (le (climbed time n k last) p)
  climbs_climbed zero n last c = subst (λ (x : Float). T (le x p)) (sym (climbed_none time n last)) c.within
  climbs_climbed (suc k) n last c =
      let next : Climbs time (suc n) k (time n) p = record {
        within = c.under n (omega arith) (omega arith);
        first = λ a. subst (λ (j : ℕ). T (le (time n) (time j))) (add-one n) (c.up n (omega arith) (omega arith));
        up = λ m a b. c.up m (omega arith) (omega arith);
        under = λ m a b. c.under m (omega arith) (omega arith);
      } in
      subst (λ (x : Float). T (le x p)) (sym (climbed_on time n k last (is_true _ (c.first (omega arith))))) (climbs_climbed k (suc n) (time n) next)

-- ---- a number between two finite ones is finite
between : (a b c : Float) → T (finite a) → T (finite c) → T (le a b) → T (le b c) → T (finite b)
between a nan c fa fc h k = absurd (le_right a nan h)
between nan (inf s) c fa fc h k = absurd fa
between (inf t) (inf s) c fa fc h k = absurd fa
between (fin t m e) (inf true) c fa fc h k = absurd (unfold le in h)
between (fin t m e) (inf false) c fa fc h k = absurd (subst (λ (x : Float). T (finite x)) (over_all c k) fc)
between a (fin s m e) c fa fc h k = tt

-- ---- where there are no times, they are in order
pub none_walked : (time : ℕ → Float) (count : ℕ) (p : Previous) → count ≡ 0 → is_ordered time count p ≡ true
none_walked time count p e = means_ordered time count p (none_ordered time count p e)

-- ---- up to a set previous time, which is finite: the first time is finite, and the walk from it climbs to the previous time
module _ (time : ℕ → Float) (count : ℕ) (p : Float) (fp : finite p ≡ true) (some : 0 < count) where
  abbrev Walked : Type 0
  Walked = Climbs time 0 count (time 0) p

  climbs_ordered : T (finite (time 0)) → Walked → Ordered time count (Some p)
  climbs_ordered f c =
      record {
        finites = λ n h. is_true _ (between (time 0) (time n) p f (passes _ fp) (above n h) (below n h));
        rises = λ n h. le_not_lt (time n) (time (n + 1)) (c.up n (omega arith) (omega arith));
        past = λ n h. le_not_lt (time n) p (below n h);
        begun = λ e. let z : ◌≡◌ {A = ℕ} 0 1 = cc in absurd (omega arith);
      }
    where
      below : (n : ℕ) → n < count → T (le (time n) p)
      below n h = c.under n (omega arith) (omega arith)

      above : (n : ℕ) → n < count → T (le (time 0) (time n))
      above zero h = le_reflexive (time 0) (finite_number (time 0) f)
      above (suc n) h = rw (← add-one n) (le_transitive (time 0) (time n) (time (n + 1)) (above n (omega arith)) (c.up n (omega arith) (omega arith)))

  module _ (o : Ordered time count (Some p)) where
    a_number : (n : ℕ) → n < count → T (number (time n))
    a_number n h = is_number (time n) (o.finites n h)

    below_p : (n : ℕ) → n < count → T (le (time n) p)
    below_p n h = le_of_not_lt (time n) p (a_number n h) (is_number p fp) (o.past n h)

    ordered_climbs : Walked
    ordered_climbs =
        record {
          within = below_p 0 some;
          first = λ a. le_reflexive (time 0) (a_number 0 some);
          up = λ n a b. le_of_not_lt (time n) (time (n + 1)) (a_number n (omega arith)) (a_number (n + 1) (omega arith)) (o.rises n (omega arith));
          under = λ n a b. below_p n (omega arith);
        }

  walk_ordered : finite (time 0) && le (climbed time 0 count (time 0)) p ≡ is_ordered time count (Some p)
  walk_ordered =
      let f = finite (time 0) in
      let l = le (climbed time 0 count (time 0)) p in
      agree (f && l) (is_ordered time count (Some p))
      (λ h. passes _ (means_ordered time count (Some p) (climbs_ordered (and_l f l h) (climbed_climbs time p count 0 (time 0) (and_r f l h)))))
      (λ h. let o = ordered_means time count (Some p) (is_true _ h) in
      and_i f l (passes _ (o.finites 0 some)) (climbs_climbed time p count 0 (time 0) (ordered_climbs o)))

  -- the first time is looked at, then the walk goes from it
  module _ {first : Float} (is : first ≡ time 0) {f : Bool} (tested : f ≡ finite first) where
    pub walk_else : f ≡ false → false ≡ is_ordered time count (Some p)
    walk_else e = rw (← is, ← tested, e) at walk_ordered

    pub walk_then : f ≡ true → {top : Float} → top ≡ climbed time 0 count first → le top p ≡ is_ordered time count (Some p)
    walk_then e t = rw t (rw (← is, ← tested, e) at walk_ordered)

-- ---- before the first tick there are none
pub unset_ordered : (time : ℕ → Float) (count : ℕ) → eqb count 0 ≡ is_ordered time count None
unset_ordered time count =
    agree (eqb count 0) (is_ordered time count None)
    (λ h. passes _ (none_walked time count None (eqb-true _ _ (is_true _ h))))
    (λ h. passes _ (eq-eqb _ _ ((ordered_means time count None (is_true _ h)).begun refl)))
