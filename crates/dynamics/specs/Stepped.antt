-- A block whose words are a state record, and whose update is one step of it. Definitions, and one fact.
use Rattle.std.specs.Prelude.{ℕ, Bool, false, List, Float, refl}
use Rattle.dynamics.specs.Previous.{sound_previous, Previous}
use Rattle.dynamics.specs.Answer.{Outputs}
use Rattle.dynamics.specs.Machine.{Machine, Told}
use Rattle.dynamics.specs.declared.call.Inputs.{Inputs}

-- A block with its settings, told by its states S.
pub record Stepped (S : Type 0) : Type 0 where
  -- whether its settings are accepted, and the state that a start writes
  pub accepts : Bool
  pub initial : S
  -- a state's words: their number, how they are read and how they are written
  pub size : ℕ
  pub state_of : List ℕ → S
  pub words_of : S → List ℕ
  -- the previous time in a state
  pub previous : S → Previous
  -- an accepted tick on a state: what an emit hands out, and the next state
  pub output : S → Float → Inputs → Outputs
  pub advance : S → Float → Inputs → S

-- It decodes, and is sound, where its previous time is unset or finite. It never warns.
unfoldable pub stepped_machine : {S : Type 0} → Stepped S → Machine
stepped_machine B = record {
  accepts = B.accepts;
  size = B.size;
  fresh = B.words_of B.initial;
  decodes = λ w. sound_previous (B.previous (B.state_of w));
  sound = λ w. sound_previous (B.previous (B.state_of w));
  previous = λ w. B.previous (B.state_of w);
  output = λ w time i. B.output (B.state_of w) time i;
  warns = λ w time i. false;
  after = λ w time i. B.words_of (B.advance (B.state_of w) time i);
}

-- what its state tells of its words
pub stepped_told : {S : Type 0} (B : Stepped S) → Told (stepped_machine B) B.state_of (λ s. sound_previous (B.previous s)) B.previous
unfolding stepped_machine
stepped_told B = record { by_decodes = λ w. refl; by_previous = λ w. refl; sound_decodes = λ w e. e }
