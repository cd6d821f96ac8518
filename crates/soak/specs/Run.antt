-- What a turn of the program owes, and what its loop does, with the input read and the text written so far in plain sight. Definitions only.
use Rattle.std.specs.Prelude.{ℕ, ◌≤◌, ◌<◌, ◌≡◌, List, [], ◌++◌, length, take, Option, IfSome, Result, Ok, Err}
use Rattle.std.specs.Io.KnownBytes.{Consumes, Appends, IsAtEnd}
use Rattle.session.specs.Soak.{soak_of}
use Rattle.session.specs.Written.{Written}
use Rattle.soak.specs.declared.turn.Failed.{Failed}
use Rattle.soak.specs.declared.turn.State.{State}
use Rattle.soak.specs.declared.turn.Task.TheVariants.{Read}
use Rattle.soak.specs.declared.turn.Turn.{Turn}
use Rattle.soak.specs.declared.Stopped.{Stopped}
use Rattle.soak.specs.declared.Stopped.TheVariants.{TurnFailed, TurnsRanOut}

-- this input has led here, and this text was written for it
abbrev pub At : (input text : List ℕ) → State → Type 0
At input text s = Written input text s.session s.region s.carry s.held

-- nothing was read, and nothing written
abbrev pub Starts : State → Type 0
Starts s = At [] [] s

-- some input has led here, and some text was written for it
abbrev pub Reached : State → Type 0
Reached s = (input : List ℕ) × (text : List ℕ) × At input text s

-- whatever input has led here and text was written for it: the bytes read come after the one, and the bytes written after the other
abbrev pub TurnTaken : (old new : State) (chunk out : List ℕ) → Turn → Type 0
TurnTaken old new chunk out t =
    (input text : List ℕ) → At input text old → At (input ++ take t.read chunk) (text ++ take t.wrote out) new

-- where the bytes are known that a reader has left and a writer holds: the bytes read are the next of the one, no byte is read only at
-- its end, and the bytes written are the last of the other
pub record Moves (from from' to to' : Option (List ℕ)) (chunk out : List ℕ) (t : Turn) : Type 0 where
  pub reads : Consumes from from' (take t.read chunk)
  pub ends : t.read ≡ 0 → 0 < length chunk → IsAtEnd from'
  pub writes : Appends to to' (take t.wrote out)

-- a turn that failed is one that went well, but that where it could not write how much was written is not known
pub record Stops (old new : State) (from from' to to' : Option (List ℕ)) (chunk out : List ℕ) (t : Turn) (failed : Failed) : Type 0 where
  pub taken : TurnTaken old new chunk out t
  pub reads : Consumes from from' (take t.read chunk)
  pub writes : failed.task ≡ Read → Appends to to' (take t.wrote out)

-- what was read and written leads from one state to the other
pub record Leads (old new : State) (from from' to to' : Option (List ℕ)) : Type 0 where
  pub more : List ℕ
  pub answer : List ℕ
  pub on : (input text : List ℕ) → At input text old → At (input ++ more) (text ++ answer) new
  pub reads : Consumes from from' more
  pub writes : Appends to to' answer

-- a run is at this state after so many turns, each of which read at least a byte
pub record Going (turns : ℕ) (s : State) : Type 0 where
  pub input : List ℕ
  pub text : List ℕ
  pub written : At input text s
  pub byte_each : turns ≤ length input

-- a turn, in which all went well, and nothing was left to read
pub record Last (t : Turn) : Type 0 where
  pub nothing : t.read ≡ 0

-- how no more than so many turns may end: by a turn that went well and found no more input, or by one that could not read, before which all
-- went well, or that could not write; else all of them were taken
abbrev pub Ends : (turns : ℕ) (old new : State) (from from' to to' : Option (List ℕ)) → Result Turn Stopped → Type 0
Ends turns old new from from' to to' (Ok t) = Last t × Reached new × IsAtEnd from' × Leads old new from from' to to'
Ends turns old new from from' to to' (Err (TurnFailed failed)) = Reached new × (failed.task ≡ Read → Leads old new from from' to to')
Ends turns old new from from' to to' (Err TurnsRanOut) = Going turns new × Leads old new from from' to to'

-- with the last bytes the text is all that soak writes for the input
abbrev pub Closes : State → (out : List ℕ) (wrote : ℕ) → Type 0
Closes s out wrote = (input text : List ℕ) → At input text s → text ++ take wrote out ≡ soak_of input

-- and where the bytes are known that the writer holds, these are the last of them
abbrev pub ClosesWith : State → (to to' : Option (List ℕ)) → Type 0
ClosesWith s to to' = (rest : List ℕ) × Appends to to' rest × ((input text : List ℕ) → At input text s → text ++ rest ≡ soak_of input)

-- where the bytes are known that the reader had and the writer holds: what was written is all that soak writes for all that there was to read
abbrev pub Answers : (from to to' : Option (List ℕ)) → Type 0
Answers from to to' = IfSome from (λ input. Appends to to' (soak_of input))
