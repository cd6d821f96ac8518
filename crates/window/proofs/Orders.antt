-- Times in order, by position: what the yes or no says, and what keeps the order: fewer of them, and a time after the last one or in its place, -0.0 after 0.0 too. Assumes nothing.
use Rattle.std.specs.Prelude.{None, Some}
use Rattle.std.proofs.Common.{◌≡◌, ℕ, zero, suc, ◌+◌, ◌-◌, ◌<◌, ◌≤◌, Bool, true, false, not, ◌||◌, T, eqb, sym, refl, ap, ◌∙◌, subst, ⊎_elim, add_assoc, eq-or-lt_of_le, arith, eq-eqb, eqb-true}
use borrow.Author.Tests.{not-true}
use denote.Floats.{passes}
use lib.Ieee.{Float, lt}
use lib.Ieee.Scale.{finite}
use Rattle.reals.proofs.Values.{both, both_pass}
use Rattle.reals.proofs.Order.{number, le_transitive, le_of_not_lt, le_not_lt, le_reflexive, finite_number}
use Rattle.dynamics.specs.Previous.{sound_previous, runs_back, is_first, Previous}
use Rattle.window.specs.Order.{is_above, Ordered, all, is_ordered}

-- ---- a test that does not pass
not_yes : {b : Bool} → b ≡ false → not b ≡ true
not_yes e = rw e refl

pub all_each : (p : ℕ → Bool) (k : ℕ) → all k p ≡ true → (n : ℕ) → n < k → p n ≡ true
unfolding all
all_each p zero e n h = absurd (omega (arith, h))
all_each p (suc k) e n h =
    ⊎_elim (λ s. subst (λ (m : ℕ). p m ≡ true) (sym s) (both (all k p) (p k) e).1) (λ l. all_each p k (both (all k p) (p k) e).0 n l)
    (eq-or-lt_of_le {n = n} {m = k} (omega arith))

pub each_all : (p : ℕ → Bool) (k : ℕ) → ((n : ℕ) → n < k → p n ≡ true) → all k p ≡ true
unfolding all
each_all p zero f = refl
each_all p (suc k) f = both_pass (each_all p k (λ n h. f n (omega arith))) (f k (omega arith))

-- the previous time is set, or the count is 0
set_or_none : (p : Previous) (count : ℕ) → not (is_first p) || eqb count 0 ≡ true → p ≡ None → count ≡ 0
set_or_none None count e u = eqb-true _ _ e
set_or_none (Some p) count e u = let z : ◌≡◌ {A = ℕ} 0 1 = cc in absurd (omega arith)

none_or_set : (p : Previous) (count : ℕ) → (p ≡ None → count ≡ 0) → not (is_first p) || eqb count 0 ≡ true
none_or_set None count f = eq-eqb _ _ (f refl)
none_or_set (Some p) count f = refl

-- ---- `is_ordered` is yes exactly when the times are in order
module _ (time : ℕ → Float) (count : ℕ) (p : Previous) where
  pub ordered_means : is_ordered time count p ≡ true → Ordered time count p
  unfolding is_ordered
  ordered_means e =
      let (f, e1) = both (all count (λ n. finite (time n))) _ e in
      let (r, e2) = both (all (count - 1) (λ n. not (lt (time (n + 1)) (time n)))) _ e1 in
      let (a, b) = both (all count (λ n. not (is_above (time n) p))) _ e2 in
      record {
        finites = all_each (λ n. finite (time n)) count f;
        rises = λ n h. not-true _ (all_each (λ n. not (lt (time (n + 1)) (time n))) (count - 1) r n (omega arith));
        past = λ n h. not-true _ (all_each (λ n. not (is_above (time n) p)) count a n h);
        begun = set_or_none p count b;
      }

  pub means_ordered : Ordered time count p → is_ordered time count p ≡ true
  unfolding is_ordered
  means_ordered o =
      both_pass (each_all (λ n. finite (time n)) count o.finites)
      (both_pass (each_all (λ n. not (lt (time (n + 1)) (time n))) (count - 1) (λ n h. not_yes (o.rises n (omega arith))))
      (both_pass (each_all (λ n. not (is_above (time n) p)) count (λ n h. not_yes (o.past n h))) (none_or_set p count o.begun)))

-- ---- where there are no times, they are in order
pub none_ordered : (time : ℕ → Float) (count : ℕ) (p : Previous) → count ≡ 0 → Ordered time count p
none_ordered time count p e =
    record {
      finites = λ n h. absurd (omega arith);
      rises = λ n h. absurd (omega arith);
      past = λ n h. absurd (omega arith);
      begun = λ x. e;
    }

-- ---- prune: the same times further on, and k fewer
pub dropped_ordered : (old new : ℕ → Float) (count k : ℕ) (p : Previous) → ((n : ℕ) → new n ≡ old (k + n)) → Ordered old count p → Ordered new (count - k) p
dropped_ordered old new count k p on o =
    record {
      finites = λ n h. rw (on n) (o.finites (k + n) (omega arith));
      rises = λ n h. rw (on n, on (n + 1), ← add_assoc k n 1) (o.rises (k + n) (omega arith));
      past = λ n h. rw (on n) (o.past (k + n) (omega arith));
      begun = λ e. omega (arith, o.begun e);
    }

-- ---- store: t at a position, after the last time or in its place
pub is_number : (x : Float) → finite x ≡ true → T (number x)
is_number x f = finite_number x (passes _ f)

-- a time that does not run back is not below one that is not above the previous time
not_before : (t x : Float) (p : Previous) → finite t ≡ true → finite x ≡ true → (p ≡ None → ⊥) → sound_previous p ≡ true → runs_back t p ≡ false → is_above x p ≡ false → lt t x ≡ false
not_before t x None ft fx set s a b = absurd (set refl)
not_before t x (Some p) ft fx set s a b =
    le_not_lt x t (le_transitive x p t (le_of_not_lt x p (is_number x fx) (is_number p s) b) (le_of_not_lt p t (is_number p s) (is_number t ft) a))

module _ (old new : ℕ → Float) (count position : ℕ) (p : Previous) (t : Float) (near : position ≤ count) (o : Ordered old count p)
    (same : (n : ℕ) → n < position → new n ≡ old n) (is : new position ≡ t) (ft : finite t ≡ true) (decodes : sound_previous p ≡ true) (on : runs_back t p ≡ false) where
  later : (n : ℕ) → n < count → lt t (old n) ≡ false
  later n a = not_before t (old n) p ft (o.finites n a) (λ e. omega (arith, o.begun e)) decodes on (o.past n a)

  -- a position is an older one or the new one
  each : (P : Float → Type 0) → ((n : ℕ) → n < count → P (old n)) → P t → (n : ℕ) → n < position + 1 → P (new n)
  each P a b n k = ⊎_elim (λ e. subst P (sym (ap new e ∙ is)) b) (λ i. rw (same n i) (a n (omega arith))) (eq-or-lt_of_le {n = n} {m = position} (omega arith))

  pub stored_ordered : Ordered new (position + 1) (Some t)
  stored_ordered =
      record {
        finites = each (λ x. finite x ≡ true) o.finites ft;
        rises = λ n k.
            let here : n < position = omega arith in
            ⊎_elim (λ e. let last : new (n + 1) ≡ t = ap new e ∙ is in rw (last, same n here) (later n (omega arith)))
            (λ i. rw (same (n + 1) i, same n here) (o.rises n (omega arith)))
            (eq-or-lt_of_le {n = n + 1} {m = position} (omega arith));
        past = each (λ x. is_above x (Some t) ≡ false) later (le_not_lt t t (le_reflexive t (is_number t ft)));
        begun = λ e. let z : ◌≡◌ {A = ℕ} 0 1 = cc in absurd (omega arith);
      }
