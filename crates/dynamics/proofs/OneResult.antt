-- Each public function's contract admits one result only, and one region. Assumes nothing.
use mathlib.Core.Path.{◌≡◌, refl, sym, ap, ◌∙◌}
use Prim.Native.Nat.{ℕ}
use Rattle.std.specs.Prelude.{Result, Ok, Err}
use Rattle.dynamics.specs.Answer.{Answer, Length, number_of, said, answer_with, answer_of, length_read, Brings}
use Rattle.dynamics.specs.Region.{Gives}
use Rattle.dynamics.specs.declared.call.Reply.{Reply}
use Rattle.dynamics.specs.declared.refusal.Refusal.{Refusal}
use mathlib.Core.List.{List}
use Rattle.dynamics.proofs.Opening.{some_number, same_refusal, one_brought}
use Rattle.reals.proofs.Once.{Once, OnceLeft, equation_once, left_once}
use Rattle.dynamics.proofs.call.tick_answer.Reads as tick_answer
use Rattle.dynamics.proofs.call.both_answer.Reads as both_answer
use Rattle.dynamics.proofs.call.real_answer.Reads as real_answer
use Rattle.dynamics.proofs.call.boolean_answer.Reads as boolean_answer
use Rattle.dynamics.proofs.call.warning_answer.Reads as warning_answer
use Rattle.dynamics.proofs.call.handed_out.Reads as handed_out
use Rattle.dynamics.proofs.leaf.forward_euler_accumulate.Reads as forward_euler_accumulate
use Rattle.dynamics.proofs.leaf.first_order_filter_implicit.Reads as first_order_filter_implicit
use Rattle.dynamics.proofs.leaf.positive_duration.Reads as positive_duration
use Rattle.dynamics.proofs.leaf.raised_to.Reads as raised_to
use Rattle.dynamics.proofs.leaf.is_rising.Reads as is_rising
use Rattle.dynamics.proofs.previous.previous_of.Reads as previous_of
use Rattle.dynamics.proofs.previous.word_of_previous.Reads as word_of_previous
use Rattle.dynamics.proofs.previous.previous_sound.Reads as previous_sound
use Rattle.dynamics.proofs.previous.is_first_tick.Reads as is_first_tick
use Rattle.dynamics.proofs.previous.tick_dt.Reads as tick_dt
use Rattle.dynamics.proofs.previous.runs_back.Reads as runs_back
use Rattle.dynamics.proofs.region.word_at.Reads as word_at
use Rattle.dynamics.proofs.region.real_at.Reads as real_at
use Rattle.dynamics.proofs.region.flag_at.Reads as flag_at
use Rattle.dynamics.proofs.region.previous_at.Reads as previous_at
use Rattle.dynamics.proofs.region.store.Reads as store
use Rattle.dynamics.proofs.region.clear.Reads as clear
use Rattle.dynamics.proofs.control.ControlBlock.state_length.Reads as block_state_length
use Rattle.dynamics.proofs.control.ControlBlock.start.Reads as block_start
use Rattle.dynamics.proofs.control.ControlBlock.decode.Reads as block_decode
use Rattle.dynamics.proofs.control.ControlBlock.sound.Reads as block_sound
use Rattle.dynamics.proofs.control.ControlBlock.emit.Reads as block_emit
use Rattle.dynamics.proofs.control.ControlBlock.update.Reads as block_update
use Rattle.dynamics.proofs.control.ControlBlock.tick.Reads as block_tick
use Rattle.dynamics.proofs.control.ControlBlock.admit.Reads as block_admit
use Rattle.dynamics.proofs.control.ControlBlock.test_form.Reads as block_test_form
use Rattle.dynamics.proofs.refusal.number_of.Reads as number
use Rattle.dynamics.proofs.refusal.test_form.Reads as test_form
use Rattle.dynamics.proofs.refusal.test_time.Reads as test_time

-- ---- what a result says admits one result
same_with : (n : ℕ) (a b : Reply) → answer_with n a ≡ answer_with n b → a ≡ b
same_with n a b e = λ i. record { real = (e i).real; boolean = (e i).boolean; warning = (e i).warning }

same_answer : (q r : Result Reply Refusal) → answer_of q ≡ answer_of r → q ≡ r
same_answer (Ok a) (Ok b) e = ap Ok (same_with 0 a b e)
same_answer (Ok a) (Err r) e = absurd (some_number r (sym (ap (λ (x : Answer). x.refusal) e)))
same_answer (Err r) (Ok b) e = absurd (some_number r (ap (λ (x : Answer). x.refusal) e))
same_answer (Err q) (Err r) e = ap Err (same_refusal q r (ap (λ (x : Answer). x.refusal) e))

same_length : (q r : Result ℕ Refusal) → length_read q ≡ length_read r → q ≡ r
same_length (Ok m) (Ok n) e = ap Ok (ap (λ (x : Length). x.length) e)
same_length (Ok m) (Err r) e = absurd (some_number r (sym (ap (λ (x : Length). x.refusal) e)))
same_length (Err r) (Ok n) e = absurd (some_number r (ap (λ (x : Length). x.refusal) e))
same_length (Err q) (Err r) e = ap Err (same_refusal q r (ap (λ (x : Length). x.refusal) e))

units : (q r : Result (Unit {0}) Refusal) → number_of q ≡ number_of r → q ≡ r
units (Ok x) (Ok y) e = refl
units (Ok x) (Err r) e = absurd (some_number r (sym e))
units (Err r) (Ok x) e = absurd (some_number r e)
units (Err q) (Err r) e = ap Err (same_refusal q r e)

said_once : {K : Type 0} {D : K → Type 0} {E : K → Type 0} {f : (κs : K) → D κs → Answer} → Once {K = K} {D = D} {R = Reply} {E = E} (λ κs a r e. said r ≡ f κs a)
said_once = record { alike = λ κs a x y s t p q. same_with 0 x y (p ∙ sym q) }

pub answer_once : {K : Type 0} {D : K → Type 0} {E : K → Type 0} {f : (κs : K) → D κs → Answer}
    → Once {K = K} {D = D} {R = Result Reply Refusal} {E = E} (λ κs a r e. answer_of r ≡ f κs a)
answer_once = record { alike = λ κs a x y s t p q. same_answer x y (p ∙ sym q) }

pub length_once : {K : Type 0} {D : K → Type 0} {E : K → Type 0} {f : (κs : K) → D κs → Length}
    → Once {K = K} {D = D} {R = Result ℕ Refusal} {E = E} (λ κs a r e. length_read r ≡ f κs a)
length_once = record { alike = λ κs a x y s t p q. same_length x y (p ∙ sym q) }

-- and so does a call that writes
pub writes_once : {K : Type 0} {D : K → Type 0} {E : K → Type 0} {f : (κs : K) → D κs → Answer} {g : (κs : K) → D κs → List ℕ} {left : (κs : K) → E κs → List ℕ}
    → OnceLeft {K = K} {D = D} {R = Result Reply Refusal} {E = E} (λ κs a r e. Gives (f κs a) (g κs a) (answer_of r) (left κs e)) left
writes_once = record { alike = λ κs a x y s t p q. (same_answer x y (p.answers ∙ sym q.answers), p.leaves ∙ sym q.leaves) }

pub starts_once : {K : Type 0} {D : K → Type 0} {E : K → Type 0} {f : (κs : K) → D κs → ℕ} {g : (κs : K) → D κs → List ℕ} {left : (κs : K) → E κs → List ℕ}
    → OnceLeft {K = K} {D = D} {R = Result (Unit {0}) Refusal} {E = E} (λ κs a r e. Gives (f κs a) (g κs a) (number_of r) (left κs e)) left
starts_once = record { alike = λ κs a x y s t p q. (units x y (p.answers ∙ sym q.answers), p.leaves ∙ sym q.leaves) }

pub tick_answer_once : Once tick_answer.Post
tick_answer_once = said_once

pub both_answer_once : Once both_answer.Post
both_answer_once = said_once

pub real_answer_once : Once real_answer.Post
real_answer_once = said_once

pub boolean_answer_once : Once boolean_answer.Post
boolean_answer_once = said_once

pub warning_answer_once : Once warning_answer.Post
warning_answer_once = said_once

pub handed_out_once : Once handed_out.Post
handed_out_once = record { alike = λ κs a x y s t p q. same_with (number_of _) x y (p ∙ sym q) }

pub forward_euler_accumulate_once : Once forward_euler_accumulate.Post
forward_euler_accumulate_once = equation_once

pub first_order_filter_implicit_once : Once first_order_filter_implicit.Post
first_order_filter_implicit_once = equation_once

pub positive_duration_once : Once positive_duration.Post
positive_duration_once = equation_once

pub raised_to_once : Once raised_to.Post
raised_to_once = equation_once

pub is_rising_once : Once is_rising.Post
is_rising_once = equation_once

pub previous_of_once : Once previous_of.Post
previous_of_once = equation_once

pub word_of_previous_once : Once word_of_previous.Post
word_of_previous_once = equation_once

pub previous_sound_once : Once previous_sound.Post
previous_sound_once = equation_once

pub is_first_tick_once : Once is_first_tick.Post
is_first_tick_once = equation_once

pub tick_dt_once : Once tick_dt.Post
tick_dt_once = equation_once

pub runs_back_once : Once runs_back.Post
runs_back_once = equation_once

pub word_at_once : Once word_at.Post
word_at_once = equation_once

pub real_at_once : Once real_at.Post
real_at_once = equation_once

pub flag_at_once : Once flag_at.Post
flag_at_once = equation_once

pub previous_at_once : Once previous_at.Post
previous_at_once = equation_once

pub store_once : OnceLeft store.Post (λ κs s. s.0.now)
store_once = left_once

pub clear_once : OnceLeft clear.Post (λ κs s. s.0.now)
clear_once = left_once

-- ---- what is a number alone, and a number with what it brings
pub numbered_once : {K : Type 0} {D : K → Type 0} {E : K → Type 0} {f : (κs : K) → D κs → ℕ}
    → Once {K = K} {D = D} {R = Result (Unit {0}) Refusal} {E = E} (λ κs a r e. number_of r ≡ f κs a)
numbered_once = record { alike = λ κs a x y s t p q. units x y (p ∙ sym q) }

pub brings_once : {K : Type 0} {D : K → Type 0} {X : Type 0} {E : K → Type 0} {f : (κs : K) → D κs → ℕ} {g : (κs : K) → D κs → X}
    → Once {K = K} {D = D} {R = Result X Refusal} {E = E} (λ κs a r e. Brings (f κs a) (g κs a) r)
brings_once = record { alike = λ κs a x y s t p q. one_brought x y p q }

pub first_brings_once : {K : Type 0} {D : K → Type 0} {X : Type 0} {E : K → Type 0} {f : (κs : K) → D κs → ℕ} {g : (κs : K) → D κs → X}
    {More : (κs : K) → D κs → Result X Refusal → E κs → Type 0}
    → Once {K = K} {D = D} {R = Result X Refusal} {E = E} (λ κs a r e. Brings (f κs a) (g κs a) r × More κs a r e)
first_brings_once = record { alike = λ κs a x y s t p q. one_brought x y p.0 q.0 }

pub test_form_once : Once test_form.Post
test_form_once = numbered_once

pub test_time_once : Once test_time.Post
test_time_once = numbered_once

pub number_of_once : (T laws copy clone clone_dict : _) → Once (number.Post T laws copy clone clone_dict)
number_of_once T laws copy clone clone_dict = equation_once

-- ---- the calls of every block: B is the block, S its states, and what follows is what the bound says of them

pub block_length_once : (B : _) (S : _) (laws : _) (state_laws : _) (copy : _) (state_copy : _) (its : _) (its_dict : _) (clone : _) (clone_dict : _) (state_clone : _) (state_clone_dict : _)
    → Once (block_state_length.Post B S laws state_laws copy state_copy its its_dict clone clone_dict state_clone state_clone_dict)
block_length_once B S laws state_laws copy state_copy its its_dict clone clone_dict state_clone state_clone_dict = length_once

pub block_form_once : (B : _) (S : _) (laws : _) (state_laws : _) (copy : _) (state_copy : _) (its : _) (its_dict : _) (clone : _) (clone_dict : _) (state_clone : _) (state_clone_dict : _)
    → Once (block_test_form.Post B S laws state_laws copy state_copy its its_dict clone clone_dict state_clone state_clone_dict)
block_form_once B S laws state_laws copy state_copy its its_dict clone clone_dict state_clone state_clone_dict = numbered_once

pub block_start_once : (B : _) (S : _) (laws : _) (state_laws : _) (copy : _) (state_copy : _) (its : _) (its_dict : _) (clone : _) (clone_dict : _) (state_clone : _) (state_clone_dict : _)
    → OnceLeft (block_start.Post B S laws state_laws copy state_copy its its_dict clone clone_dict state_clone state_clone_dict) (λ κs s. s.1.0.now)
block_start_once B S laws state_laws copy state_copy its its_dict clone clone_dict state_clone state_clone_dict = starts_once

pub block_decode_once : (B : _) (S : _) (laws : _) (state_laws : _) (copy : _) (state_copy : _) (its : _) (its_dict : _) (clone : _) (clone_dict : _) (state_clone : _) (state_clone_dict : _)
    → Once (block_decode.Post B S laws state_laws copy state_copy its its_dict clone clone_dict state_clone state_clone_dict)
block_decode_once B S laws state_laws copy state_copy its its_dict clone clone_dict state_clone state_clone_dict = first_brings_once

pub block_sound_once : (B : _) (S : _) (laws : _) (state_laws : _) (copy : _) (state_copy : _) (its : _) (its_dict : _) (clone : _) (clone_dict : _) (state_clone : _) (state_clone_dict : _)
    → Once (block_sound.Post B S laws state_laws copy state_copy its its_dict clone clone_dict state_clone state_clone_dict)
block_sound_once B S laws state_laws copy state_copy its its_dict clone clone_dict state_clone state_clone_dict = equation_once

pub block_admit_once : (B : _) (S : _) (laws : _) (state_laws : _) (copy : _) (state_copy : _) (its : _) (its_dict : _) (clone : _) (clone_dict : _) (state_clone : _) (state_clone_dict : _)
    → Once (block_admit.Post B S laws state_laws copy state_copy its its_dict clone clone_dict state_clone state_clone_dict)
block_admit_once B S laws state_laws copy state_copy its its_dict clone clone_dict state_clone state_clone_dict = brings_once

pub block_emit_once : (B : _) (S : _) (laws : _) (state_laws : _) (copy : _) (state_copy : _) (its : _) (its_dict : _) (clone : _) (clone_dict : _) (state_clone : _) (state_clone_dict : _)
    → Once (block_emit.Post B S laws state_laws copy state_copy its its_dict clone clone_dict state_clone state_clone_dict)
block_emit_once B S laws state_laws copy state_copy its its_dict clone clone_dict state_clone state_clone_dict = answer_once

pub block_update_once : (B : _) (S : _) (laws : _) (state_laws : _) (copy : _) (state_copy : _) (its : _) (its_dict : _) (clone : _) (clone_dict : _) (state_clone : _) (state_clone_dict : _)
    → OnceLeft (block_update.Post B S laws state_laws copy state_copy its its_dict clone clone_dict state_clone state_clone_dict) (λ κs s. s.1.1.1.0.now)
block_update_once B S laws state_laws copy state_copy its its_dict clone clone_dict state_clone state_clone_dict = writes_once

pub block_tick_once : (B : _) (S : _) (laws : _) (state_laws : _) (copy : _) (state_copy : _) (its : _) (its_dict : _) (clone : _) (clone_dict : _) (state_clone : _) (state_clone_dict : _)
    → OnceLeft (block_tick.Post B S laws state_laws copy state_copy its its_dict clone clone_dict state_clone state_clone_dict) (λ κs s. s.1.1.1.0.now)
block_tick_once B S laws state_laws copy state_copy its its_dict clone clone_dict state_clone state_clone_dict = writes_once
