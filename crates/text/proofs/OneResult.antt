-- Each public function's contract admits one result only. Assumes nothing.
use mathlib.Core.Path.{◌≡◌, sym, ◌∙◌}
use Rattle.reals.proofs.Once.{Once, equation_once}
use Rattle.text.proofs.word.read_word.Reads as read_word
use Rattle.text.proofs.word.word_text.Reads as word_text
use Rattle.text.proofs.flag.read_flag.Reads as read_flag
use Rattle.text.proofs.flag.flag_digit.Reads as flag_digit
use Rattle.text.proofs.controller_type.read_type.Reads as read_type
use Rattle.text.proofs.stretch.end_of.Reads as end_of
use Rattle.text.proofs.decimal.decimal_text.Reads as decimal_text
use Rattle.text.proofs.decimal.Decimal.as_slice.Reads as as_slice

pub read_word_once : Once read_word.Post
read_word_once = equation_once

pub word_text_once : Once word_text.Post
word_text_once = equation_once

pub read_flag_once : Once read_flag.Post
read_flag_once = equation_once

pub flag_digit_once : Once flag_digit.Post
flag_digit_once = equation_once

pub read_type_once : Once read_type.Post
read_type_once = equation_once

pub end_of_once : Once end_of.Post
end_of_once = record { alike = λ κs a x y s t p q. p.0 ∙ sym q.0 }

pub decimal_text_once : Once decimal_text.Post
decimal_text_once = equation_once

-- of the bytes that it lends
pub as_slice_once : (κs : _) (a : _) (x y : _) (s t : _) → as_slice.Post κs a x s → as_slice.Post κs a y t → x.now ≡ y.now
as_slice_once κs a x y s t p q = p ∙ sym q
