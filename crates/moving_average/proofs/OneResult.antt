-- The public function's contract admits one block only: its settings are those that were asked, and they fix its ring. Assumes nothing.
use mathlib.Core.Path.{◌≡◌, sym, ap, ◌∙◌}
use Rattle.window.specs.Geometry.{geometry_of}
use Rattle.moving_average.specs.declared.MovingAverage.{MovingAverage}
use Rattle.moving_average.proofs.MovingAverage.windowed.Reads as windowed

-- of its fields: what else it has is that they fit
pub windowed_once : (κs : _) (a : _) (x y : _) (s t : _) → windowed.Post κs a x s → windowed.Post κs a y t → (x.settings ≡ y.settings) × (x.shape ≡ y.shape)
windowed_once κs a x y s t p q =
    let same : x.settings ≡ y.settings = p ∙ sym q in
    (same, x.shaped ∙ ap (λ (s : MovingAverage). geometry_of s.delta) same ∙ sym y.shaped)
