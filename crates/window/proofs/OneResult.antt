-- Each public function's contract admits one result only. Assumes nothing.
use Rattle.reals.proofs.Once.{Once, equation_once}
use Rattle.window.proofs.ring.geometry.Reads as geometry
use Rattle.window.proofs.mean.interpolate.Reads as interpolate
use Rattle.window.proofs.mean.denominator.Reads as denominator

pub geometry_once : Once geometry.Post
geometry_once = equation_once

pub interpolate_once : Once interpolate.Post
interpolate_once = equation_once

pub denominator_once : Once denominator.Post
denominator_once = equation_once
