-- Request 2 of document 02: a start makes a region sound, and no call spoils a sound one. Definitions only.
use Rattle.std.specs.Prelude.{ℕ, ◌≡◌, true, List}
use Rattle.dynamics.specs.Machine.{Machine, start_refusal, started_words, is_sound, Call, words_after, left_after}

pub record StaysSound (M : Machine) : Type 0 where
  -- a fresh start is sound, whatever the region held
  pub fresh : (w : List ℕ) → start_refusal M w ≡ 0 → is_sound M (started_words M w) ≡ true
  -- each call keeps a sound region sound: a start, an emit, an update, a whole tick; a refused one too
  pub kept : (w : List ℕ) (c : Call) → is_sound M w ≡ true → is_sound M (words_after M w c) ≡ true
  -- and so do any calls, one after the other
  pub kept_by_all : (w : List ℕ) (cs : List Call) → is_sound M w ≡ true → is_sound M (left_after M w cs) ≡ true
