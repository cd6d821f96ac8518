-- What it is for a contract to admit one result only. `Post` is the contract as the check reads it from the source: over a call's lifetimes,
-- arguments, result and what is left at its end. Assumes nothing.
use mathlib.Core.Path.{◌≡◌, refl, sym, ◌∙◌}

module _ {K : Type 0} {D : K → Type 0} {R : Type 0} {E : K → Type 0} (Post : (κs : K) → D κs → R → E κs → Type 0) where
  -- two results that meet it at the same arguments are the same
  pub record Once : Type 0 where
    pub alike : (κs : K) (a : D κs) (x y : R) (s t : E κs) → Post κs a x s → Post κs a y t → x ≡ y

  -- and so is what the call leaves
  pub record OnceLeft {W : Type 0} (left : (κs : K) → E κs → W) : Type 0 where
    pub alike : (κs : K) (a : D κs) (x y : R) (s t : E κs) → Post κs a x s → Post κs a y t → (x ≡ y) × (left κs s ≡ left κs t)

-- a contract that is an equation of the result does
pub equation_once : {K : Type 0} {D : K → Type 0} {R : Type 0} {E : K → Type 0} {f : (κs : K) → D κs → R} → Once {K = K} {D = D} {R = R} {E = E} (λ κs a r e. r ≡ f κs a)
equation_once = record { alike = λ κs a x y s t p q. p ∙ sym q }

-- also where a second clause says more of it
pub first_once : {K : Type 0} {D : K → Type 0} {R : Type 0} {E : K → Type 0} {f : (κs : K) → D κs → R} {More : (κs : K) → D κs → R → E κs → Type 0}
    → Once {K = K} {D = D} {R = R} {E = E} (λ κs a r e. (r ≡ f κs a) × More κs a r e)
first_once = record { alike = λ κs a x y s t p q. p.0 ∙ sym q.0 }

-- and so does, where there is no result, one that is an equation of what is left
pub left_once : {K : Type 0} {D : K → Type 0} {E : K → Type 0} {W : Type 0} {f : (κs : K) → D κs → W} {left : (κs : K) → E κs → W}
    → OnceLeft {K = K} {D = D} {R = Unit {0}} {E = E} (λ κs a r e. left κs e ≡ f κs a) left
left_once = record { alike = λ κs a x y s t p q. (refl, p ∙ sym q) }
