-- What a block's own call says of a region, said of one of eight. Assumes nothing.
use mathlib.Core.Path.{◌≡◌, ap, sym, ◌∙◌}
use mathlib.Core.List.{List}
use Prim.Native.Nat.{ℕ}
use Rattle.std.specs.Prelude.{Result, Ok, Err, IsErrAnd}
use Rattle.dynamics.specs.Answer.{Brings}
use Rattle.dynamics.specs.Machine.{decode_refusal, decode_answer, read_as}
use Rattle.dynamics.specs.declared.refusal.Refusal.{Refusal}
use Rattle.dynamics.proofs.Opening.{handed_on, decode_says}
use Rattle.blocks.specs.Block.{machine_of}
use Rattle.blocks.specs.Decoded.{state_of, zeros}
use Rattle.blocks.specs.declared.block.Block.{Block}
use Rattle.blocks.specs.declared.decoded.State.{State}

-- the region of a block b, which is this one
module _ {b this : Block} (is : b ≡ this) (w : List ℕ) where
  abbrev pub Decodes : Result State Refusal → Type 0
  Decodes d = record {
    value : Brings (decode_refusal (machine_of b) w) (state_of b w) d;
    reading : read_as (zeros b) d ≡ decode_answer (machine_of b) (state_of b) (zeros b) w;
  }

  says : {d : Result State Refusal} → Brings (decode_refusal (machine_of b) w) (state_of b w) d → Decodes d
  says o = record { value = o; reading = decode_says (machine_of b) (state_of b) w (zeros b) _ o }

  module _ {S : Type 0} {s : S} where
    -- its own call refused it
    pub refused : {r : Refusal} → Brings (decode_refusal (machine_of this) w) s (Err r) → {d : Result State Refusal} → IsErrAnd d (λ q. q ≡ r) → Decodes d
    refused o e = rw (handed_on _ e) (says (rw is (record { number = o.number; value = tt })))

    -- or handed out a state, which is one of eight
    pub taken : (one : S → State) → one s ≡ state_of this w → {t : S} → Brings (decode_refusal (machine_of this) w) s (Ok t)
        → {x : State} → x ≡ one t → Decodes (Ok x)
    taken one means o e = says (rw is (record { number = o.number; value = e ∙ ap one o.value ∙ means }))
