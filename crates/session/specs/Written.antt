-- An input handed to `feed` chunk by chunk, and all that was written for it. Definitions only.
use Rattle.std.specs.Prelude.{ℕ, ◌≡◌, List, [], ◌++◌, length, take}
use Rattle.session.specs.declared.state.Session.{Session}
use Rattle.session.specs.declared.state.Session.TheVariants.{Fresh}
use Rattle.session.specs.Stream.{streamed, at_hand, Feeds}

-- The input so far, the text written for it, and the session, region, held bytes and their number that it has led to, each chunk's result as the
-- contract of `feed` has it. What a region of 4110 words and 256 bytes for a line hold at first does not matter.
pub data Written : (input text : List ℕ) → Session → (region carry : List ℕ) → ℕ → Type 0 where
  none : {region carry : List ℕ} → length region ≡ 4110 → length carry ≡ 256 → Written [] [] Fresh region carry 0
  more : {input text : List ℕ} {s : Session} {region carry : List ℕ} {held : ℕ} → Written input text s region carry held
      → (chunk : List ℕ) {s' : Session} {region' carry' : List ℕ} {held' : ℕ} {old : List ℕ} {wrote : ℕ} {new : List ℕ}
      → Feeds (streamed (at_hand s region carry held) chunk) s' region' carry' held' old wrote new
      → Written (input ++ chunk) (text ++ take wrote new) s' region' carry' held'
