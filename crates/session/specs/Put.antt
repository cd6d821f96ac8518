-- Text put into a lent buffer. Definitions only.
use Rattle.std.specs.Prelude.{ℕ, ◌+◌, ◌≤◌, ◌≡◌, List, length, take}
use Rattle.std.proofs.lemmas.List.Edits.{sets}
use Rattle.session.specs.declared.put.Out.{Out}

-- text stands in the buffer from `at` on, and the rest of it is as it was; next is the place after the text
pub record Put (old : List ℕ) (at : ℕ) (text : List ℕ) (next : ℕ) (new : List ℕ) : Type 0 where
  pub moved : next ≡ at + length text
  pub holds : new ≡ sets old at text

-- a buffer and its place, before and after a text is put in. That the buffer keeps its length follows from the rest
pub record Puts (old : Out) (text : List ℕ) (new : Out) : Type 0 where
  pub same_reference : new.bytes.ghost_name ≡ old.bytes.ghost_name
  pub size : length new.bytes.now ≡ length old.bytes.now
  pub put : Put old.bytes.now old.at text new.at new.bytes.now

-- there is room for n bytes more
abbrev pub HasRoom : Out → ℕ → Type 0
HasRoom out n = out.at + n ≤ length out.bytes.now

-- n bytes stand at the start of xs. The second part follows from the first; with both `&xs[..n]` needs no proof
abbrev pub Counts : ℕ → List ℕ → Type 0
Counts n xs = (n ≤ length xs) × (n ≡ length (take n xs))
