-- Each public function's contract admits one result only. Assumes nothing.
use Rattle.reals.proofs.Once.{Once, equation_once}
use Rattle.reals.proofs.word.real_of.Reads as real_of
use Rattle.reals.proofs.word.word_of.Reads as word_of
use Rattle.reals.proofs.word.canonical.Reads as canonical
use Rattle.reals.proofs.word.flag_of.Reads as flag_of
use Rattle.reals.proofs.word.word_of_flag.Reads as word_of_flag
use Rattle.reals.proofs.word.is_finite.Reads as is_finite
use Rattle.reals.proofs.rounding.absolute.Reads as absolute
use Rattle.reals.proofs.rounding.ceil.Reads as ceil
use Rattle.reals.proofs.rounding.floor.Reads as floor

pub real_of_once : Once real_of.Post
real_of_once = equation_once

pub word_of_once : Once word_of.Post
word_of_once = equation_once

pub canonical_once : Once canonical.Post
canonical_once = equation_once

pub flag_of_once : Once flag_of.Post
flag_of_once = equation_once

pub word_of_flag_once : Once word_of_flag.Post
word_of_flag_once = equation_once

pub is_finite_once : Once is_finite.Post
is_finite_once = equation_once

pub absolute_once : Once absolute.Post
absolute_once = equation_once

pub ceil_once : Once ceil.Post
ceil_once = equation_once

pub floor_once : Once floor.Post
floor_once = equation_once
