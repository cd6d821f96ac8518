-- A run is a list of whole ticks: so what is shown of any list of calls is shown of a run too. Assumes nothing.
use mathlib.Core.Path.{◌≡◌, refl, ap, ◌∙◌}
use mathlib.Core.Bool.{true}
use mathlib.Core.List.{List, [], ◌∷◌, ◌++◌}
use Prim.Native.Nat.{ℕ, zero, suc}
use Rattle.reals.specs.Words.{real_of}
use Rattle.reals.proofs.Words.{real_fits}
use Rattle.dynamics.specs.Answer.{accept}
use Rattle.dynamics.specs.Machine.{Machine, is_sound, Tick, Call, updates, ticks, Seen, answer_to, words_after, run, left_after}
use Rattle.dynamics.specs.History.{wiped, retold, grown_through, Wiping}
use Rattle.blocks.specs.Block.{machine_of}
use Rattle.blocks.specs.Wiping.{wipeable, account_of, SettingsF64}
use Rattle.blocks.specs.declared.block.Block.{Block}
use Rattle.blocks.proofs.Wiping.{told, read_told}
use Rattle.blocks.proofs.Sounds.{stays_sound}
use Rattle.runs.specs.Run.{asked, answer_in_words, ran_words, ran_answers, run_refusal, ran_region}

-- four words as a tick: a real that a word means is an f64
abbrev tick_by : (time first second third : ℕ) → Tick
tick_by time first second third = record { time = real_of time; is_f64 = real_fits time; inputs = record { first = first; second = second; third = third } }

-- the calls that words say: a whole tick for every four of them
unfoldable pub calls_in : List ℕ → List Call
calls_in [] = []
calls_in (time ∷ []) = []
calls_in (time ∷ first ∷ []) = []
calls_in (time ∷ first ∷ second ∷ []) = []
calls_in (time ∷ first ∷ second ∷ third ∷ more) = ticks (tick_by time first second third) ∷ calls_in more

-- the answers of what is seen, one after the other, four words each
unfoldable pub answers_in : List Seen → List ℕ
answers_in [] = []
answers_in (s ∷ more) = answer_in_words s.answer ++ answers_in more

-- a run that leaves these words and says these answers
pub record Ran (M : Machine) (w l left said : List ℕ) : Type 0 where
  pub leaves : ran_words M w (asked l) ≡ left
  pub says : ran_answers M w (asked l) ≡ said

-- it leaves and answers what the list of its ticks, as calls, leaves and answers
module _ (M : Machine) where
  words_left : (w l : List ℕ) → ran_words M w (asked l) ≡ left_after M w (calls_in l)
  unfolding ran_words asked left_after calls_in words_after
  words_left w [] = refl
  words_left w (time ∷ []) = refl
  words_left w (time ∷ first ∷ []) = refl
  words_left w (time ∷ first ∷ second ∷ []) = refl
  words_left w (time ∷ first ∷ second ∷ third ∷ more) = words_left (words_after M w (ticks (tick_by time first second third))) more

  answers_said : (w l : List ℕ) → ran_answers M w (asked l) ≡ answers_in (run M w (calls_in l))
  unfolding ran_answers asked answers_in run calls_in answer_to words_after
  answers_said w [] = refl
  answers_said w (time ∷ []) = refl
  answers_said w (time ∷ first ∷ []) = refl
  answers_said w (time ∷ first ∷ second ∷ []) = refl
  answers_said w (time ∷ first ∷ second ∷ third ∷ more) =
      let k = ticks (tick_by time first second third) in
      ap (λ (said : List ℕ). answer_in_words (answer_to M w k) ++ said) (answers_said (words_after M w k) more)

  pub ran_is_run : (w l : List ℕ) → Ran M w l (left_after M w (calls_in l)) (answers_in (run M w (calls_in l)))
  ran_is_run w l = record { leaves = words_left w l; says = answers_said w l }

-- so a run after a wiping tick leaves and answers what the ticks from that one on say
pub run_told : (b : Block) → wipeable b ≡ true → SettingsF64 b → (w : List ℕ) (k : Tick) → Wiping (account_of b) (machine_of b) w k → (l : List ℕ)
    → Ran (machine_of b) (words_after (machine_of b) w (updates k)) l ((account_of b).words (grown_through (account_of b) (wiped k) (calls_in l))) (answers_in (retold (account_of b) (wiped k) (calls_in l)))
run_told b wipes f64 w k p l =
    let ran = ran_is_run (machine_of b) (words_after (machine_of b) w (updates k)) l in
    record {
      leaves = ran.leaves ∙ (read_told b wipes f64 w k p (calls_in l)).words;
      says = ran.says ∙ ap answers_in (told b wipes f64 w k p (calls_in l));
    }

-- and a run keeps a sound region sound, a refused one too
pub run_sound : (b : Block) (l w answers : List ℕ) → is_sound (machine_of b) w ≡ true → is_sound (machine_of b) (ran_region (machine_of b) l w answers) ≡ true
run_sound b l w answers s = go (run_refusal (machine_of b) l w answers)
  where
    ran : is_sound (machine_of b) (ran_words (machine_of b) w (asked l)) ≡ true
    ran = rw (ran_is_run (machine_of b) w l).leaves ((stays_sound b).kept_by_all w (calls_in l) s)

    go : (n : ℕ) → is_sound (machine_of b) (accept n (ran_words (machine_of b) w (asked l)) w) ≡ true
    go zero = unfold accept in ran
    go (suc n) = unfold accept in s
