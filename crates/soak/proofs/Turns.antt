-- A turn takes all that was read, and what it is to the loop. Assumes nothing.
use Prim.Native.Nat.{ℕ, ◌+◌, ◌*◌, ◌/◌, ◌≤◌, ◌<◌, min}
use mathlib.Core.Path.{◌≡◌, sym, subst}
use mathlib.Core.Bool.{false}
use mathlib.Core.List.{List, [], ◌++◌, append_assoc, append-nil}
use native.Mathlib.Omega.{arith}
use lib.ListN.{length, take, length-append, length-take}
use lib.Seq.{take_all, length-take-le}
use Rattle.std.proofs.Common.{Option, Result, Ok, Err}
use Rattle.std.specs.Result.{is_ok}
use Rattle.std.specs.Io.KnownBytes.{Appends, Consumes, ReadConsumes}
use Rattle.std.proofs.KnownBytes.{Consumes-nil, Consumes-kept, Consumes-trans, Appends-nil, Appends-trans}
use Rattle.session.specs.declared.state.Session.{Session}
use Rattle.session.specs.Stream.{streamed, at_hand, Feeds}
use Rattle.session.specs.Written.{Written, more}
use Rattle.soak.specs.declared.turn.Failed.{Failed}
use Rattle.soak.specs.declared.turn.State.{State}
use Rattle.soak.specs.declared.turn.Turn.{Turn}
use Rattle.soak.specs.Run.{At, Reached, TurnTaken, Stops, Leads, Going}

module _ (s : Session) (held : ℕ) (carry region chunk : List ℕ) (n : ℕ) {used : ℕ} {s' : Session} {region' carry' : List ℕ} {held' : ℕ} {old : List ℕ} {wrote : ℕ} {new : List ℕ}
    (inside : n ≤ length chunk) (room : 32 * length chunk ≤ length old) (takes : used ≡ min (length (take n chunk)) (length old / 32))
    (fed : Feeds (streamed (at_hand s region carry held) (take used (take n chunk))) s' region' carry' held' old wrote new) where
  all_taken : take used (take n chunk) ≡ take n chunk
  all_taken =
      let size : length (take n chunk) ≡ n = length-take-le n chunk inside in
      take_all used (take n chunk) (omega arith)

  pub turn_taken : (input text : List ℕ) → Written input text s region carry held → Written (input ++ take n chunk) (text ++ take wrote new) s' region' carry' held'
  turn_taken input text w =
      more w (take n chunk) (subst (λ (l : List ℕ). Feeds (streamed (at_hand s region carry held) l) s' region' carry' held' old wrote new) all_taken fed)

-- ---- the states

pub at_of : {input text i t : List ℕ} {s : State} → i ≡ input → t ≡ text → At input text s → At i t s
at_of {input} {text} {i} {t} {s} e f w = rw (e, f) w

-- a read that failed gave nothing
keeps_at_err : {E : Type 0} (from from' : Option (List ℕ)) (r : Result ℕ E) (buf : List ℕ) → ReadConsumes from from' r buf → is_ok r ≡ false → Consumes from from' []
keeps_at_err from from' (Ok n) buf gave failed = (cc)
keeps_at_err from from' (Err e) buf kept failed = Consumes-kept from from from' [] (Consumes-nil from) kept

-- nothing was taken
pub none_taken : {E : Type 0} (s : State) (from from' to : Option (List ℕ)) (r : Result ℕ E) (chunk out : List ℕ) (failed : Failed)
    → ReadConsumes from from' r chunk → is_ok r ≡ false → Stops s s from from' to to chunk out (record { read = 0; wrote = 0 }) failed
none_taken s from from' to r chunk out failed gave is_err = record {
  taken = λ input text w. at_of (append-nil input) (append-nil text) w;
  reads = keeps_at_err from from' r chunk gave is_err;
  writes = λ _. Appends-nil to;
}

-- ---- what a turn is to the loop

module _ (old new : State) (chunk out : List ℕ) (t : Turn) (taken : TurnTaken old new chunk out t) where
  pub leads_on : {first : State} {from from' from'' to to' to'' : Option (List ℕ)}
      → Leads first old from from' to to' → Consumes from' from'' (take t.read chunk) → Appends to' to'' (take t.wrote out) → Leads first new from from'' to to''
  leads_on {first} {from} {from'} {from''} {to} {to'} {to''} l reads writes = record {
    more = l.more ++ take t.read chunk;
    answer = l.answer ++ take t.wrote out;
    on = λ input text w. at_of (sym (append_assoc input l.more (take t.read chunk))) (sym (append_assoc text l.answer (take t.wrote out))) (taken _ _ (l.on input text w));
    reads = Consumes-trans from from' from'' l.more (take t.read chunk) l.reads reads;
    writes = Appends-trans to to' to'' l.answer (take t.wrote out) l.writes writes;
  }

  pub reached_on : {turns : ℕ} → Going turns old → Reached new
  reached_on on = (on.input ++ take t.read chunk, on.text ++ take t.wrote out, taken on.input on.text on.written)

  -- if it read a byte, it is one turn more
  pub going_on : {turns : ℕ} → Going turns old → 0 < length chunk → 0 < t.read → Going (turns + 1) new
  going_on on room read = record {
    input = on.input ++ take t.read chunk;
    text = on.text ++ take t.wrote out;
    written = taken on.input on.text on.written;
    byte_each = omega (arith, on.byte_each, length-append on.input (take t.read chunk), length-take t.read chunk, read, room);
  }
