-- WHAT SOAK WRITES: all that `feed` and `finish` write for an input, however it is cut into chunks, is what document 01 says of its bytes. Assumes nothing.
use Prim.Native.Nat.{ℕ}
use mathlib.Core.Path.{◌≡◌, refl, ap, sym, ◌∙◌}
use mathlib.Core.List.{List, [], ◌∷◌, ◌++◌, append_assoc, append-nil}
use mathlib.Core.Bool.{Bool, true, false, cond}
use lib.Dec.{eqb}
use lib.ListN.{length, take}
use Rattle.session.specs.declared.state.Session.{Session}
use Rattle.session.specs.declared.state.Session.TheVariants.{Fresh}
use Rattle.session.specs.Soak.{lines_from, soak_of}
use Rattle.session.specs.Stream.{line_in, Stream, line_ends, byte_held, byte_in, streamed, last_line, closing, ended, at_hand, Feeds, Finishes}
use Rattle.session.specs.Written.{Written, none, more}
use Rattle.session.proofs.Whole.{answers, whole}
use Rattle.session.proofs.Counted.{lines_are}
use Rattle.session.proofs.Putting.{put_all}

-- ---- the same run with text before what it writes

abbrev before : List ℕ → Stream → Stream
before t st = record { session = st.session; words = st.words; carry = st.carry; held = st.held; text = t ++ st.text }

before_line : (t : List ℕ) (st : Stream) → line_ends (before t st) ≡ before t (line_ends st)
unfolding line_ends
before_line t st = rw (append_assoc t st.text (line_in st.words st.session (take st.held st.carry)).text) refl

before_byte : (t : List ℕ) (st : Stream) (b : ℕ) → byte_in (before t st) b ≡ before t (byte_in st b)
unfolding byte_in
before_byte t st b = go (eqb b 10)
  where
    go : (s : Bool) → cond s (line_ends (before t st)) (byte_held (before t st) b) ≡ before t (cond s (line_ends st) (byte_held st b))
    go true = before_line t st
    go false = refl

before_all : (t s : List ℕ) (st : Stream) → streamed (before t st) s ≡ before t (streamed st s)
unfolding streamed
before_all t [] st = refl
before_all t (b ∷ s) st = ap (λ (z : Stream). streamed z s) (before_byte t st b) ∙ before_all t s (byte_in st b)

before_last : (t : List ℕ) (st : Stream) → ended (before t st) ≡ t ++ ended st
unfolding ended last_line
before_last t st = go (eqb st.held 0)
  where
    go : (s : Bool) → let z = cond s (before t st) (line_ends (before t st)) in let y = cond s st (line_ends st) in
        z.text ++ closing z.session ≡ t ++ (y.text ++ closing y.session)
    go true = append_assoc t st.text (closing st.session)
    go false = ap (λ (z : Stream). z.text ++ closing z.session) (before_line t st) ∙ append_assoc t (line_ends st).text (closing (line_ends st).session)

-- ---- one chunk after another

streamed_append : (st : Stream) (a b : List ℕ) → streamed st (a ++ b) ≡ streamed (streamed st a) b
unfolding streamed
streamed_append st [] b = refl
streamed_append st (x ∷ a) b = streamed_append (byte_in st x) a b

-- from a start the input leads here, and text is written on the way
record Led (input text : List ℕ) (s : Session) (region carry : List ℕ) (held : ℕ) : Type 0 where
  region₀ : List ℕ
  carry₀ : List ℕ
  lent : length region₀ ≡ 4110
  room : length carry₀ ≡ 256
  leads : streamed (at_hand Fresh region₀ carry₀ 0) input ≡ record { session = s; words = region; carry = carry; held = held; text = text }

led_more : {input text : List ℕ} {s : Session} {region carry : List ℕ} {held : ℕ} → Led input text s region carry held
    → (chunk : List ℕ) {s' : Session} {region' carry' : List ℕ} {held' : ℕ} {old : List ℕ} {wrote : ℕ} {new : List ℕ}
    → Feeds (streamed (at_hand s region carry held) chunk) s' region' carry' held' old wrote new
    → Led (input ++ chunk) (text ++ take wrote new) s' region' carry' held'
led_more {input} {text} {s} {region} {carry} {held} w chunk {wrote = wrote} {new = new} f =
    let st = at_hand s region carry held in
    let said : take wrote new ≡ (streamed st chunk).text = put_all f.fits f.put in
    record {
      region₀ = w.region₀;
      carry₀ = w.carry₀;
      lent = w.lent;
      room = w.room;
      leads =
          streamed_append (at_hand Fresh w.region₀ w.carry₀ 0) input chunk
          ∙ ap (λ (z : Stream). streamed z chunk) w.leads
          ∙ ap (λ (t : List ℕ). streamed (record { session = s; words = region; carry = carry; held = held; text = t }) chunk) (sym (append-nil text))
          ∙ before_all text chunk st
          ∙ rw (f.session, f.words, f.carried, f.holds, said) refl;
    }

led : {input text : List ℕ} {s : Session} {region carry : List ℕ} {held : ℕ} → Written input text s region carry held → Led input text s region carry held
unfolding streamed
led (none {region} {carry} lent room) = record { region₀ = region; carry₀ = carry; lent = lent; room = room; leads = refl }
led (more w chunk f) = led_more (led w) chunk f

-- ---- the whole run

-- however an input is cut into chunks: what `feed` writes for them and what `finish` writes is, in all, what document 01 says of the input
pub soak_writes : {input text : List ℕ} {s : Session} {region carry : List ℕ} {held : ℕ} → Written input text s region carry held
    → {region' old : List ℕ} {wrote : ℕ} {new : List ℕ} → Finishes (at_hand s region carry held) region' old wrote new
    → text ++ take wrote new ≡ soak_of input
soak_writes {input} {text} {s} {region} {carry} {held} written f =
    let st = at_hand s region carry held in
    let w = led written in
    ap (λ (l : List ℕ). text ++ l) (put_all f.fits f.put)
    ∙ sym (before_last text st)
    ∙ ap (λ (t : List ℕ). ended (record { session = s; words = region; carry = carry; held = held; text = t })) (append-nil text)
    ∙ ap ended (sym w.leads)
    ∙ whole (at_hand Fresh w.region₀ w.carry₀ 0) input w.room refl
    ∙ soak_is w.region₀ w.lent
  where
    soak_is : (region : List ℕ) → length region ≡ 4110 → answers region Fresh (lines_from [] input) ≡ soak_of input
    soak_is region lent = unfold soak_of in lines_are region lent (lines_from [] input)
