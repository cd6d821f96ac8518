-- Each public call's contract admits one result only, and one of each lent list. Assumes nothing.
use Prim.Native.Nat.{ℕ}
use mathlib.Core.Path.{◌≡◌, ap, sym, ◌∙◌}
use mathlib.Core.List.{List}
use lib.ListN.{take}
use Rattle.reals.proofs.Once.{OnceLeft}
use Rattle.session.specs.declared.chunk.Fed.{Fed}
use Rattle.session.specs.declared.state.Session.{Session}
use Rattle.session.specs.Put.{Put}
use Rattle.session.specs.Stream.{Stream, streamed, Feeds}
use Rattle.session.proofs.Feeding.{fed_part}
use Rattle.session.proofs.chunk.feed.Reads as feed
use Rattle.session.proofs.chunk.finish.Reads as finish

module _ {old text : List ℕ} {n m : ℕ} {new other : List ℕ} (p : Put old 0 text n new) (q : Put old 0 text m other) where
  put_place : n ≡ m
  put_place = p.moved ∙ sym q.moved

  put_left : new ≡ other
  put_left = p.holds ∙ sym q.holds

-- what a chunk leads to
module _ (st : Stream) (chunk : List ℕ) (x y : Fed) (taken : x.used ≡ y.used) {region carry region' carry' old new other : List ℕ}
    (p : Feeds (streamed st (take x.used chunk)) x.session region carry x.held old x.wrote new)
    (q : Feeds (streamed st (take y.used chunk)) y.session region' carry' y.held old y.wrote other) where
  q' : Feeds (streamed st (take x.used chunk)) y.session region' carry' y.held old y.wrote other
  q' = fed_part st chunk taken q

  fed_once : x ≡ y
  fed_once =
      ap (λ (s : Session). fed s x.held x.used x.wrote) (p.session ∙ sym q'.session)
      ∙ ap (λ (h : ℕ). fed y.session h x.used x.wrote) (p.holds ∙ sym q'.holds)
      ∙ ap (λ (u : ℕ). fed y.session y.held u x.wrote) taken
      ∙ ap (λ (w : ℕ). fed y.session y.held y.used w) (put_place p.put q'.put)
    where
      fed : Session → ℕ → ℕ → ℕ → Fed
      fed s h u w = record { session = s; held = h; used = u; wrote = w }

  fed_carry : carry ≡ carry'
  fed_carry = p.carried ∙ sym q'.carried

  fed_region : region ≡ region'
  fed_region = p.words ∙ sym q'.words

  fed_out : new ≡ other
  fed_out = put_left p.put q'.put

pub feed_once_carry : OnceLeft feed.Post (λ κs s. s.1.1.0.now)
feed_once_carry = record { alike = λ κs a x y s t p q. let e = p.0 ∙ sym q.0 in (fed_once _ _ x y e p.1.0 q.1.0, fed_carry _ _ x y e p.1.0 q.1.0) }

pub feed_once_region : OnceLeft feed.Post (λ κs s. s.1.1.1.1.0.now)
feed_once_region = record { alike = λ κs a x y s t p q. let e = p.0 ∙ sym q.0 in (fed_once _ _ x y e p.1.0 q.1.0, fed_region _ _ x y e p.1.0 q.1.0) }

pub feed_once_out : OnceLeft feed.Post (λ κs s. s.1.1.1.1.1.0.now)
feed_once_out = record { alike = λ κs a x y s t p q. let e = p.0 ∙ sym q.0 in (fed_once _ _ x y e p.1.0 q.1.0, fed_out _ _ x y e p.1.0 q.1.0) }

pub finish_once_region : OnceLeft finish.Post (λ κs s. s.1.1.1.0.now)
finish_once_region = record { alike = λ κs a x y s t p q. (put_place p.0.put q.0.put, p.0.words ∙ sym q.0.words) }

pub finish_once_out : OnceLeft finish.Post (λ κs s. s.1.1.1.1.0.now)
finish_once_out = record { alike = λ κs a x y s t p q. (put_place p.0.put q.0.put, put_left p.0.put q.0.put) }
