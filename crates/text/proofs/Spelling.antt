-- A number spelled from its last digit on.
use Prim.Native.Nat.{ℕ, zero, suc, ◌+◌, ◌-◌, ◌/◌, ◌%◌, ◌^◌, ◌<◌}
use mathlib.Core.Path.{◌≡◌, refl, sym, ap, subst, ◌∙◌}
use mathlib.Core.List.{List, ◌∷◌, ◌++◌, append-nil}
use native.Mathlib.Nat.{pow-suc}
use native.Mathlib.Omega.{arith}
use lib.ListN.{length, take, drop, set, replicate, length-set, length-drop}
use lib.Seq.{append_snoc, drop-cons, drop-set-lt, lt-length-set, get_or-set_same, take-set-le, take-take}
use Rattle.text.specs.declared.decimal.Decimal.TheInside.{Inside}
use Rattle.text.specs.Decimal.{decimal_of, decimal_text, counting, Padded, Spelled}
use Rattle.text.proofs.Padding.{padded_start}
use Rattle.text.proofs.Decimals.{decimal_few, decimal_more}

-- of twenty places those from `start` on are spelled, and before them come zeros and the digits of `rest`
pub record Spelling (n : ℕ) (digits : List ℕ) (start rest : ℕ) : Type 0 where
  pub size : length digits ≡ 20
  pub room : rest < 10 ^ start
  pub some : start < 20 → 0 < rest
  pub zeros : take start digits ≡ replicate start 48
  pub whole : decimal_of start rest ++ drop start digits ≡ decimal_text n

-- a digit put in front of those from k on
put_ahead : (digits : List ℕ) (k d : ℕ) → k < length digits → drop k (set digits k d) ≡ d ∷ drop (suc k) digits
put_ahead digits k d inside =
    let h : k < length (set digits k d) = lt-length-set digits k d inside in
    let l : k < suc k = omega arith in
    rw (drop-cons (set digits k d) k 0, get_or-set_same, drop-set-lt)

one_fewer : (k x : ℕ) → take k (replicate (suc k) x) ≡ replicate k x
one_fewer zero x = refl
one_fewer (suc k) x = ap (λ (l : List ℕ). x ∷ l) (one_fewer k x)

-- no digit is put
pub spelling_none : (n : ℕ) → n < 2 ^ 64 → Spelling n (replicate 20 48) 20 n
spelling_none n h = record {
  size = refl;
  room = omega arith;
  some = λ l. omega (arith, l);
  zeros = refl;
  whole = append-nil (decimal_text n);
}

-- a place is left
pub spelling_left : {n : ℕ} {digits : List ℕ} {start rest : ℕ} → Spelling n digits start rest → 0 < start → Spelling n digits (suc (start - 1)) rest
spelling_left {n} {digits} {start} {rest} s h =
    let e : start ≡ suc (start - 1) = omega arith in
    subst (λ (m : ℕ). Spelling n digits m rest) e s

module _ {n : ℕ} {digits : List ℕ} {k rest : ℕ} (s : Spelling n digits (suc k) rest) (within : k < 20) where
  -- one more digit, and before it zeros
  pub spelling_zeros : take k (set digits k (48 + rest % 10)) ≡ replicate k 48
  spelling_zeros =
      take-set-le k digits k (48 + rest % 10) (omega arith)
      ∙ sym (take-take k (suc k) digits (omega arith))
      ∙ ap (take k) s.zeros
      ∙ one_fewer k 48

  -- it is not the last
  pub spelling_next : 0 < rest / 10 → Spelling n (set digits k (48 + rest % 10)) k (rest / 10)
  spelling_next more =
      let h : k < length digits = omega arith in
      record {
        size = simp length-set s.size;
        room = omega (arith, rw (pow-suc 10 k) at s.room);
        some = λ l. more;
        zeros = spelling_zeros;
        whole =
            ap (λ (l : List ℕ). decimal_of k (rest / 10) ++ l) (put_ahead digits k (48 + rest % 10) h)
            ∙ sym (append_snoc (decimal_of k (rest / 10)) (48 + rest % 10) (drop (suc k) digits))
            ∙ ap (λ (l : List ℕ). l ++ drop (suc k) digits) (sym (decimal_more k rest (omega arith)))
            ∙ s.whole;
      }

  -- it is
  pub spelling_last : rest / 10 ≡ 0 → drop k (set digits k (48 + rest % 10)) ≡ decimal_text n
  spelling_last none =
      let h : k < length digits = omega arith in
      put_ahead digits k (48 + rest % 10) h
      ∙ ap (λ (l : List ℕ). l ++ drop (suc k) digits) (sym (decimal_few k rest (omega arith)))
      ∙ s.whole

-- a number is spelled before there is no place left
pub spelling_room : {n : ℕ} {digits : List ℕ} {start rest : ℕ} → Spelling n digits start rest → start ≡ 0 → ⊥
spelling_room s none = omega (arith, rw none at s.room, s.some (omega arith))

-- ---- what holds of every value of the type

-- if the digits that count are those of n, they stand behind zeros, twenty in all
pub spelled : {n : ℕ} {d : Inside} → Padded d → counting d ≡ decimal_text n → Spelled n d
spelled {n} {d} p is = record {
  digits = sym (ap (λ (e : Inside). e.digits) p.again) ∙ ap (λ (k : ℕ). replicate k 48 ++ counting d) (padded_start p) ∙ rw is;
  all = omega (arith, ap length is, length-drop d.start d.digits, p.all, padded_start p);
}

-- and only one value has such
pub spelled_once : {n : ℕ} {d e : Inside} → Spelled n d → Spelled n e → d ≡ e
spelled_once {n} {d} {e} s t =
    let same : d.start ≡ e.start = omega (arith, s.all, t.all) in
    ap (λ (l : List ℕ). made l d.start) (s.digits ∙ ap (λ (k : ℕ). replicate k 48 ++ decimal_text n) same ∙ sym t.digits)
    ∙ ap (made e.digits) same
  where
    made : List ℕ → ℕ → Inside
    made l k = record { digits = l; start = k }
