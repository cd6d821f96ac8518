-- A turn of the loop over a chunk. Assumes nothing.
use Prim.Native.Nat.{ℕ, ◌+◌, ◌*◌, ◌/◌, ◌≤◌, ◌<◌, min}
use mathlib.Core.Path.{◌≡◌, refl, ap, sym, subst, ◌∙◌}
use mathlib.Core.List.{List, [], ◌∷◌, ◌++◌}
use mathlib.Core.Bool.{Bool, true, false, cond}
use native.Mathlib.Omega.{arith}
use native.Mathlib.Numerals.{add-one}
use borrow.Author.Tests.{eq-eqb, ne_eqb, ltb-true, ltb-false}
use lib.Dec.{ltb}
use lib.ListN.{length, length-set, length-take, set, take, drop, get_or, drop_of_length-le}
use lib.Seq.{drop-cons, take_all}
use Rattle.session.specs.declared.put.Out.{Out}
use Rattle.session.specs.declared.state.Session.{Session}
use Rattle.session.specs.Put.{Put}
use Rattle.session.specs.Stream.{line_in, Goes, Stream, line_ends, held_more, held_with, byte_held, byte_in, streamed, Feeds}
use Rattle.session.proofs.Going.{goes}
use Rattle.session.proofs.Putting.{put_more, put_taken, put_as}
use Rattle.session.proofs.Short.{line_short}

-- the run that the loop has at hand: the first `at` bytes of out are written
abbrev pub seen : Session → (region carry : List ℕ) (held : ℕ) → Out → Stream
seen s region carry held out = record { session = s; words = region; carry = carry; held = held; text = take out.at out.bytes.now }

-- what is left of the chunk leads from the run at hand to where the whole of it leads
pub record Running (st : Stream) (chunk old : List ℕ) (s : Session) (region carry : List ℕ) (held : ℕ) (out : Out) (i : ℕ) : Type 0 where
  pub leads : streamed (seen s region carry held out) (drop i chunk) ≡ streamed st chunk
  pub put : Put old 0 (take out.at out.bytes.now) out.at out.bytes.now

-- no more than there is can be taken
pub take_least : (n : ℕ) (l : List ℕ) → take (min n (length l)) l ≡ take n l
take_least n l = go (ltb n (length l)) refl
  where
    go : (t : Bool) → ltb n (length l) ≡ t → take (min n (length l)) l ≡ take n l
    go true e = let least : min n (length l) ≡ n = omega (arith, ltb-true n (length l) e) in rw least refl
    go false e =
        let long : length l ≤ n = ltb-false n (length l) e in
        let least : min n (length l) ≡ length l = omega arith in
        rw least (take_all (length l) l (omega arith) ∙ sym (take_all n l long))

-- no more of a chunk is taken than there is room to answer
pub part_fits : (chunk out : List ℕ) {n : ℕ} → n ≡ min (length chunk) (length out / 32) → 32 * length (take n chunk) ≤ length out
part_fits chunk out {n} e = omega (arith, e, length-take n chunk)

-- a byte that is held makes the carry no longer
pub held_length : (carry : List ℕ) (held b : ℕ) → length (held_with carry held b) ≡ length carry
unfolding held_with
held_length carry held b = go (ltb held 256)
  where
    go : (t : Bool) → length (cond t (set carry held b) carry) ≡ length carry
    go true = length-set carry held b
    go false = refl

byte_ends : (st : Stream) (b : ℕ) → b ≡ 10 → byte_in st b ≡ line_ends st
unfolding byte_in
byte_ends st b e = rw (eq-eqb b 10 e)

byte_stays : (st : Stream) (b : ℕ) → (b ≡ 10 → ⊥) → byte_in st b ≡ byte_held st b
unfolding byte_in
byte_stays st b n = rw (ne_eqb b 10 n)

module _ {st : Stream} {chunk old : List ℕ} {s : Session} {region carry : List ℕ} {held : ℕ} {out : Out} {i : ℕ}
    (r : Running st chunk old s region carry held out i) (inside : i < length chunk) where
  next_byte : streamed (byte_in (seen s region carry held out) (get_or chunk i 0)) (drop (i + 1) chunk) ≡ streamed st chunk
  unfolding streamed
  next_byte = ap (streamed (seen s region carry held out)) (sym (drop-cons chunk i 0 inside ∙ ap (λ (n : ℕ). get_or chunk i 0 ∷ drop n chunk) (sym (add-one i)))) ∙ r.leads

  -- the byte ends a line
  pub running_line : get_or chunk i 0 ≡ 10 → {n : ℕ} → n ≡ min held (length carry) → {s' : Session} {region' : List ℕ} {new : Out}
      → out.at + 32 ≤ length out.bytes.now
      → Goes (line_in region s (take n carry)) s' region' out new
      → Running st chunk old s' region' carry 0 new (i + 1)
  running_line e {n} n_is {s'} {region'} {new} room g =
      let same : take n carry ≡ take held carry = ap (λ (m : ℕ). take m carry) n_is ∙ take_least held carry in
      let h : Goes (line_in region s (take held carry)) s' region' out new = goes (ap (line_in region s) same) g in
      let fits : out.at + length (line_in region s (take held carry)).text ≤ length out.bytes.now = omega (arith, line_short region s (take held carry)) in
      let turned : seen s' region' carry 0 new ≡ line_ends (seen s region carry held out) = turn h (put_taken fits h.put.put) in
      record {
        leads = ap (λ (z : Stream). streamed z (drop (i + 1) chunk)) (turned ∙ sym (byte_ends (seen s region carry held out) (get_or chunk i 0) e)) ∙ next_byte;
        put = put_as (sym (put_taken fits h.put.put)) (put_more r.put h.put.put);
      }
    where
      turn : Goes (line_in region s (take held carry)) s' region' out new → take new.at new.bytes.now ≡ take out.at out.bytes.now ++ (line_in region s (take held carry)).text
          → seen s' region' carry 0 new ≡ line_ends (seen s region carry held out)
      turn h text = unfold line_ends in rw (h.session, h.words, text) refl

  -- the byte is held
  pub running_byte : (get_or chunk i 0 ≡ 10 → ⊥) → {held' : ℕ} {carry' : List ℕ} → held' ≡ held_more held → carry' ≡ held_with carry held (get_or chunk i 0)
      → Running st chunk old s region carry' held' out (i + 1)
  running_byte no_10 {held'} {carry'} more with_byte =
      let kept : seen s region carry' held' out ≡ byte_held (seen s region carry held out) (get_or chunk i 0) = rw (more, with_byte) refl in
      record {
        leads = ap (λ (z : Stream). streamed z (drop (i + 1) chunk)) (kept ∙ sym (byte_stays (seen s region carry held out) (get_or chunk i 0) no_10)) ∙ next_byte;
        put = r.put;
      }

-- the chunk is at its end
pub running_end : {st : Stream} {chunk old : List ℕ} {s : Session} {region carry : List ℕ} {held : ℕ} {out : Out} {i : ℕ}
    → Running st chunk old s region carry held out i → length chunk ≤ i → out.at ≤ length old → Feeds (streamed st chunk) s region carry held old out.at out.bytes.now
running_end {st} {chunk} {old} {s} {region} {carry} {held} {out} {i} r h room =
    let led : seen s region carry held out ≡ streamed st chunk = at_end (drop_of_length-le chunk h) in
    record {
      session = ap (λ (z : Stream). z.session) led;
      words = ap (λ (z : Stream). z.words) led;
      carried = ap (λ (z : Stream). z.carry) led;
      holds = ap (λ (z : Stream). z.held) led;
      put = put_as (ap (λ (z : Stream). z.text) led) r.put;
      fits = omega (arith, r.put.moved, ap (λ (z : Stream). length z.text) led);
    }
  where
    at_end : drop i chunk ≡ [] → seen s region carry held out ≡ streamed st chunk
    at_end e = sym (ap (streamed (seen s region carry held out)) e ∙ (unfold streamed in refl)) ∙ r.leads

-- what is left in the buffer that was lent
pub feeds_left : {st : Stream} {s : Session} {region carry : List ℕ} {held : ℕ} {old : List ℕ} {wrote : ℕ} {out new : List ℕ}
    → new ≡ out → Feeds st s region carry held old wrote out → Feeds st s region carry held old wrote new
feeds_left {st} {s} {region} {carry} {held} {old} {wrote} e f = subst (λ (l : List ℕ). Feeds st s region carry held old wrote l) (sym e) f

-- the part of a chunk that was taken
pub fed_part : (st : Stream) (chunk : List ℕ) {n used : ℕ} → used ≡ n → {s : Session} {region carry : List ℕ} {held : ℕ} {old : List ℕ} {wrote : ℕ} {new : List ℕ}
    → Feeds (streamed st (take n chunk)) s region carry held old wrote new → Feeds (streamed st (take used chunk)) s region carry held old wrote new
fed_part st chunk e {s} {region} {carry} {held} {old} {wrote} {new} f =
    subst (λ (k : ℕ). Feeds (streamed st (take k chunk)) s region carry held old wrote new) (sym e) f
