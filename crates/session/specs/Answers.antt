-- The lines that soak writes. Definitions only.
use Rattle.std.specs.Prelude.{ℕ, List, [], ◌∷◌, ◌++◌, cond, eqb}
use Prim.Native.Char.{code}
use Rattle.reals.specs.Words.{word_of}
use Rattle.dynamics.specs.Answer.{Answer}
use Rattle.blocks.specs.declared.block.Block.{Block}
use Rattle.text.specs.Bytes.{bytes}
use Rattle.text.specs.Word.{word_text}
use Rattle.text.specs.Items.{flag_text}
use Rattle.text.specs.Decimal.{decimal_text}
use Rattle.lines.specs.Forms.{form_of}

-- a line that is malformed
abbrev pub bad_text : List ℕ
bad_text = bytes "bad\n"

-- a block that starts
abbrev pub block_text : Block → List ℕ
block_text b = bytes "block " ++ (form_of b).name ++ bytes "\n"

-- a refusal
abbrev pub refusal_text : ℕ → List ℕ
refusal_text n = bytes "refused " ++ decimal_text n ++ bytes "\n"

-- the lines that were accepted and refused
abbrev pub counts_text : ℕ → ℕ → List ℕ
counts_text a r = bytes "ticks " ++ decimal_text a ++ bytes " refused " ++ decimal_text r ++ bytes "\n"

-- an output of a class, written as on input
unfoldable pub output_text : ℕ → Answer → List ℕ
output_text class a = cond (eqb class (code "r")) (word_text (word_of a.real)) (flag_text a.boolean)

-- outputs with one space between
unfoldable pub outputs_text : List ℕ → Answer → List ℕ
outputs_text [] a = []
outputs_text (c ∷ []) a = output_text c a
outputs_text (c ∷ d ∷ cs) a = output_text c a ++ bytes " " ++ outputs_text (d ∷ cs) a

-- an accepted tick; of a warning nothing is written
unfoldable pub answer_text : Block → Answer → List ℕ
answer_text b a = outputs_text (form_of b).outputs a ++ bytes "\n"
