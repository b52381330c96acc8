-- One walk over what each instruction does: what it keeps of the state, the bytes that it spares, and its answer.
use Prim.Native.Nat.{ℕ, ◌+◌, ◌<◌, ◌≤◌, ◌/◌, ◌%◌}
use mathlib.Core.Path.{◌≡◌, refl, ap, sym, ◌∙◌, subst}
use mathlib.Core.List.{List}
use mathlib.Core.Bool.{Bool, true, false, cond, ◌&&◌}
use mathlib.Core.Logic.{◌⊎◌, ⊎_elim}
use native.Mathlib.Nat.{add-zero}
use native.Mathlib.Omega.{arith}
use lib.ListN.{get_or, take, drop}
use Rattle.answer.specs.Number.{first_refusal}
use Rattle.answer.specs.declared.Why.TheVariants.{Undefined}
use Rattle.little.specs.declared.Size.{Size}
use Rattle.little.specs.declared.Size.TheVariants.{Byte, Word, Long}
use Rattle.little.specs.Width.{bits_of, bytes_of, twice_of}
use Rattle.little.specs.Bytes.{value_of}
use Rattle.flags.specs.Flag.{byte_of, packed_of, flags_of, any_marked, carried}
use Rattle.flags.specs.declared.Flags.{Flags}
use Rattle.flags.specs.declared.Computed.{Computed}
use Rattle.alu.specs.declared.Arith.{Arith}
use Rattle.alu.specs.Change.{changed}
use Rattle.memory.specs.Access.{bytes_at, load_bytes, load_of, load_from, store_bytes, ram_bytes}
use Rattle.memory.specs.declared.Place.{Place}
use Rattle.memory.specs.declared.Place.TheVariants.{Ram, Rom, Missing}
use Rattle.memory.proofs.Laws.{bytes_length, bytes_below, bytes_above}
use Rattle.state.specs.State.{with_counter, with_bank, with_level, with_nesting, with_flags, with_both_flags}
use Rattle.state.specs.Sr.{f_in}
use Rattle.state.specs.Register.{get_register, set_register}
use Rattle.state.specs.Named.{named, with_held, code_for}
use Rattle.state.proofs.Naming.{plain_names}
use Rattle.state.specs.declared.State.{State}
use Rattle.code.specs.declared.Form.{Form}
use Rattle.code.specs.declared.Operand.{Operand}
use Rattle.code.specs.declared.Operand.TheVariants.{Register, Named, Constant, Memory}
use Rattle.code.specs.declared.Op.{Op}
use Rattle.code.specs.declared.Op.TheVariants.{Controls, Stacks, Puts, Sets, Blocks, Interrupts}
use Rattle.code.specs.declared.Control.{Control}
use Rattle.code.specs.declared.Control.TheVariants.{Nop, Incf, Decf, Ldf, Rcf, Scf, Ccf, Zcf, Exf, Jp16, Jp24, Jr, Jrl, Ei}
use Rattle.code.specs.declared.Stack.{Stack}
use Rattle.code.specs.declared.Stack.TheVariants.{PushF, PopF, Push, Pop, Call16, Call24, Calr, Ret}
use Rattle.code.specs.declared.Interrupt.{Interrupt}
use Rattle.code.specs.declared.Interrupt.TheVariants.{PushSr, PopSr, Reti}
use Rattle.code.specs.declared.Use.{Use}
use Rattle.code.specs.declared.Use.TheVariants.{Number, From, Load, Compute, Changed, Scaled, ScaledWith, Cycled}
use Rattle.code.specs.declared.Side.TheVariants.{First, Second, With}
use Rattle.flags.specs.Condition.{holds_of, reads_v, reads_marked}
use Rattle.flags.proofs.Fits.{Fits, difference_fits, carried_fits, copied_fits, compared_fits}
use Rattle.alu.proofs.Fits.{operated_fits, changed_fits}
use Rattle.feed.specs.declared.scale.Scale.{Scale}
use Rattle.feed.specs.Scale.{scaled}
use Rattle.feed.proofs.Fits.{scaled_fits}
use Rattle.operand.specs.Try.{Try, did, no, and_then, with_loaded}
use Rattle.operand.specs.Operand.{pointer_of, value_at, value_in, storing, storing_bytes, stored_by, put_at, wide_of}
use Rattle.operand.specs.Round.{plus}
use Rattle.stack.specs.Stack.{push_of, push_f_of, pop_bytes, pop_of, stack_of}
use Rattle.interrupt.specs.Interrupt.{with_sr, push_sr_of, returned, interrupt_of}
use Rattle.operand.specs.Flag.{flags_in, flagged, exchanged}
use Rattle.control.specs.Control.{jump_of, control_of}
use Rattle.compute.specs.Compute.{computed, result_in, stores_of, answer_in, scaled_at, puts_of}
use Rattle.flags.specs.Sums.{difference_of}
use Rattle.block.specs.Block.{more_in, counted, moved, accumulator, copied, compared, round_of, goes_on, ends_at}
use Rattle.exec.specs.Exec.{past_of, effect_of}
use Rattle.facts.specs.Touched.{Span, none, bytes, operand_span, on_stack, below_stack, stack_read, stack_stored, interrupt_read, interrupt_stored, use_span, use_read, use_stored, read_of, stored_of, load_to, read_answer, store_answer, operands_answer, answer_by, condition_in, stores_f, stores_sr, uses_marked, KeepsRest}
use Rattle.std.proofs.Common.{Ok, Err}
use Rattle.answer.specs.Number.{Answer}

-- F alone is the flags with no mark
unmarked : Flags → Flags
unmarked f = record { s = f.s; z = f.z; h = f.h; v = f.v; n = f.n; c = f.c; marks = 0 }

byte_packed : (f : Flags) → packed_of (unmarked f) ≡ byte_of f
unfolding packed_of byte_of unmarked
byte_packed f = add-zero _

unmarked_fits : (f : Flags) → Fits (unmarked f)
unfolding unmarked
unmarked_fits f = record { few = omega arith; h = refl; v = refl }

-- what no change of the state breaks
pub record Kept (P : State → Type 0) : Type 0 where
  pub parts : (s : State) (z : Size) (c v : ℕ) → P s → P (with_held s (named (s.bank.0 % 4) (bytes_of z) c) v)
  pub counters : (s : State) (c : ℕ) → P s → P (with_counter s c)
  pub banks : (s : State) (b : ℕ) → P s → P (with_bank s b)
  pub levels : (s : State) (l : ℕ) → P s → P (with_level s l)
  pub fitting : (s : State) → P s → Fits (flags_in s)
  pub flags : (s : State) (f : Flags) → Fits f → P s → P (flagged s f)
  pub exchanges : (s : State) → P s → P (exchanged s)

-- a register 0 to 7 is one of the parts
pub register_kept : {P : State → Type 0} → Kept P → (s : State) (z : Size) (r v : ℕ) → P s → P (set_register s z r v)
register_kept {P} k s z r v ok = subst P (sym ((plain_names s.bank z r).1 s v refl)) (k.parts s z (code_for z (r % 8)) v ok)

-- nor, where an operation is RETI, a change of the nesting count: no other touches it
abbrev pub Recounted : (State → Type 0) → Op → Type 0
Recounted P op = op ≡ Interrupts Reti → (s : State) (n : ℕ) → P s → P (with_nesting s n)

module _ (P : State → Type 0) (k : Kept P) where
  pub past_kept : (n : ℕ) (s : State) → P s → P (past_of n s)
  unfolding past_of
  past_kept n s ok = k.counters s _ ok

  jump_kept : (s : State) (cc to : ℕ) → P s → P (cond (holds_of (flags_in s) cc) (with_counter s to) s)
  jump_kept s cc to ok = go (holds_of (flags_in s) cc)
    where
      go : (b : Bool) → P (cond b (with_counter s to) s)
      go true = k.counters s to ok
      go false = ok

  byte_kept : (s : State) (v : ℕ) → P s → P (with_flags s (byte_of (flags_of v)))
  unfolding flagged
  byte_kept s v ok = subst (λ (n : ℕ). P (with_flags s n)) (byte_packed (flags_of v)) (k.flags s (unmarked (flags_of v)) (unmarked_fits (flags_of v)) ok)

  sr_kept : (s : State) (v : ℕ) → P s → P (with_sr s v)
  unfolding with_sr
  sr_kept s v ok = byte_kept _ (f_in v) (k.banks _ _ (k.levels s _ ok))

  returned_kept : Recounted P (Interrupts Reti) → (s : State) (v : ℕ) → P s → P (returned s v)
  unfolding returned
  returned_kept c s v ok = k.counters _ _ (sr_kept _ _ (c refl s _ ok))

  moved_kept : (f : Form) (r : ℕ) (s : State) → P s → P (moved f r s)
  unfolding moved
  moved_kept f r s ok = register_kept k s Long r _ ok

  counted_kept : (s : State) → P s → P (counted s)
  unfolding counted
  counted_kept s ok = register_kept k s Word 1 _ ok

  pub copied_kept : (f : Form) (s : State) → P s → P (copied f s)
  unfolding copied
  copied_kept f s ok =
      let t = counted (moved f f.to (moved f f.from s)) in
      k.flags t _ (copied_fits (flags_in s) (more_in t)) (counted_kept _ (moved_kept f f.to _ (moved_kept f f.from s ok)))

  pub compared_kept : (f : Form) (v : ℕ) (s : State) → P s → P (compared f v s)
  unfolding compared
  compared_kept f v s ok =
      let t = counted (moved f f.from s) in
      let d = difference_of (bits_of f.size) (accumulator s f.size) v false in
      k.flags t _ (compared_fits (flags_in s) d.flags (more_in t) (difference_fits (bits_of f.size) (accumulator s f.size) v false))
      (counted_kept _ (moved_kept f f.from s ok))

  pub ends_kept : (f : Form) (at : ℕ) (s : State) → P s → P (ends_at f at s)
  unfolding ends_at
  ends_kept f at s ok = go (goes_on f s)
    where
      go : (b : Bool) → P (cond b (with_counter s at) s)
      go true = k.counters s at ok
      go false = ok

module _ (P : State → Type 0) (ram rom : List ℕ) where
  -- what is tried keeps the state's part, spares all but its target, and gives this answer
  unfoldable pub Gives : Answer → Span → Try → Type 0
  Gives a g (did t m) = P t × (KeepsRest g ram m × (a ≡ Ok tt))
  Gives a g (no w) = a ≡ Err w

  -- the answer by where what it reads and its target lie
  abbrev pub Fair : Span → Span → Try → Type 0
  Fair r g t = Gives (operands_answer ram rom r g) g t

  -- what is read is there
  read_first : (r g : Span) (t : Try) → read_answer ram rom r ≡ Ok tt → Fair none g t → Fair r g t
  unfolding Gives operands_answer
  read_first r g (did t m) e (p, (q, a)) = (p, (q, ap (λ (x : Answer). first_refusal x (store_answer ram rom g)) e ∙ a))
  read_first r g (no w) e a = ap (λ (x : Answer). first_refusal x (store_answer ram rom g)) e ∙ a

  fair_did : (s : State) → P s → Fair none none (did s ram)
  unfolding Gives operands_answer
  fair_did s ok = (ok, (refl, refl))

  pub fair_storing_bytes : (t : State) (a n v : ℕ) → P t → Fair none (bytes a n) (storing_bytes t ram rom a n v)
  unfolding Gives operands_answer
  fair_storing_bytes t a n v ok = go (store_bytes ram rom a n) refl
    where
      spared : (i : ℕ) → (i < a) ⊎ (a + n ≤ i) → get_or (ram_bytes ram rom a n v) i 0 ≡ get_or ram i 0
      spared i h = ⊎_elim (bytes_below ram rom a n v i) (bytes_above ram rom a n v i) h

      go : (r : Answer) → store_bytes ram rom a n ≡ r → Fair none (bytes a n) (stored_by r t (ram_bytes ram rom a n v))
      go (Ok _) e = (ok, ((bytes_length ram rom a n v, spared), e))
      go (Err w) e = e

  fair_storing : (t : State) (a : ℕ) (z : Size) (v : ℕ) → P t → Fair none (bytes a (bytes_of z)) (storing t ram rom a z v)
  unfolding storing
  fair_storing t a z v ok = fair_storing_bytes t a (bytes_of z) v ok

  fair_put : (s : State) (z : Size) (o : Operand) (v : ℕ) → Kept P → P s → Fair none (operand_span s z o) (put_at s ram rom z o v)
  fair_put s z (Register r) v k ok = fair_did _ (register_kept k s z r v ok)
  fair_put s z (Named c) v k ok = fair_did _ (k.parts s z c v ok)
  fair_put s z (Constant n) v k ok = fair_did s ok
  fair_put s z (Memory m) v k ok = fair_storing s _ z v ok

  fair_loaded_bytes : (a n : ℕ) (g : Span) (f : ℕ → Try) → ((v : ℕ) → Fair none g (f v)) → Fair (bytes a n) g (with_loaded (load_bytes ram rom a n) f)
  unfolding Gives operands_answer
  fair_loaded_bytes a n g f h = go (bytes_at ram rom a n) refl
    where
      there : (v : ℕ) → read_answer ram rom (bytes a n) ≡ Ok tt → Fair (bytes a n) g (f v)
      there v e = read_first (bytes a n) g (f v) e (h v)

      go : (p : Place) → bytes_at ram rom a n ≡ p → Fair (bytes a n) g (with_loaded (load_from p ram rom n) f)
      go (Ram o) e = there (value_of (take n (drop o ram))) (ap load_to e)
      go (Rom o) e = there (value_of (take n (drop o rom))) (ap load_to e)
      go (Missing x) e = ap (λ (p : Place). first_refusal (load_to p) (store_answer ram rom g)) e

  pub fair_loaded : (a : ℕ) (z : Size) (g : Span) (f : ℕ → Try) → ((v : ℕ) → Fair none g (f v)) → Fair (bytes a (bytes_of z)) g (with_loaded (load_of ram rom a z) f)
  unfolding load_of
  fair_loaded a z g f h = fair_loaded_bytes a (bytes_of z) g f h

  fair_value : (s : State) (z : Size) (o : Operand) (g : Span) (f : ℕ → Try) → ((v : ℕ) → Fair none g (f v)) → Fair (operand_span s z o) g (with_loaded (value_at s ram rom z o) f)
  unfolding value_in
  fair_value s z (Register r) g f h = h _
  fair_value s z (Named c) g f h = h _
  fair_value s z (Constant n) g f h = h _
  fair_value s z (Memory m) g f h = fair_loaded _ z g f h

  pub fair_then : (r g : Span) (t : Try) (f : State → State) → Fair r g t → ((s : State) → P s → P (f s)) → Fair r g (and_then t f)
  unfolding Gives
  fair_then r g (did s m) f (p, q) h = (h s p, q)
  fair_then r g (no w) f e h = e

  fair_push : (s : State) (z : Size) (v : ℕ) → Kept P → P s → Fair none (below_stack s (bytes_of z)) (push_of s ram rom z v)
  unfolding push_of
  fair_push s z v k ok = fair_storing_bytes _ _ (bytes_of z) v (register_kept k s Long 7 _ ok)

  fair_call : (s : State) (to : ℕ) → Kept P → P s → Fair none (below_stack s 4) (and_then (push_of s ram rom Long s.counter) (λ t. with_counter t to))
  fair_call s to k ok = fair_then none _ (push_of s ram rom Long s.counter) _ (fair_push s Long _ k ok) (λ t h. k.counters t to h)

  fair_pop_bytes :
      (s : State) (n : ℕ) (rest : State → ℕ → State) → ((t : State) (v : ℕ) → P t → P (rest t v)) → Kept P → P s
      → Fair (on_stack s n) none (pop_bytes s ram rom n rest)
  fair_pop_bytes s n rest h k ok =
      fair_loaded_bytes (pointer_of s 7) n none _ (λ v. fair_did _ (h _ v (register_kept k s Long 7 (plus 32 (get_register s Long 7) n) ok)))

  fair_pop :
      (s : State) (z : Size) (rest : State → ℕ → State) → ((t : State) (v : ℕ) → P t → P (rest t v)) → Kept P → P s
      → Fair (on_stack s (bytes_of z)) none (pop_of s ram rom z rest)
  unfolding pop_of
  fair_pop s z rest h k ok = fair_pop_bytes s (bytes_of z) rest h k ok

  -- new flags move no operand
  span_flags : (s : State) (f : ℕ) (z : Size) (o : Operand) → operand_span (with_flags s f) z o ≡ operand_span s z o
  unfolding with_flags with_both_flags
  span_flags s f z (Register r) = refl
  span_flags s f z (Named c) = refl
  span_flags s f z (Constant n) = refl
  span_flags s f z (Memory m) = refl

  fair_flagged : (s : State) (f : ℕ) (z : Size) (o : Operand) (v : ℕ) → Kept P → P (with_flags s f) → Fair none (operand_span s z o) (put_at (with_flags s f) ram rom z o v)
  fair_flagged s f z o v k ok = subst (λ (g : Span). Fair none g (put_at (with_flags s f) ram rom z o v)) (span_flags s f z o) (fair_put (with_flags s f) z o v k ok)

  fair_result :
      (s : State) (z : Size) (o : Operand) (r : Computed) → Fits r.flags → Kept P → P s → Fair none (operand_span s z o) (result_in s ram rom z o r)
  unfolding flagged
  fair_result s z o r x k ok = fair_flagged s _ z o _ k (k.flags s r.flags x ok)

  fair_answer :
      (op : Arith) (s : State) (z : Size) (o : Operand) (r : Computed) → Fits r.flags → Kept P → P s
      → Fair none (cond (stores_of op) (operand_span s z o) none) (answer_in op s ram rom z o r)
  fair_answer op s z o r x k ok = go (stores_of op)
    where
      go : (b : Bool) → Fair none (cond b (operand_span s z o) none) (cond b (result_in s ram rom z o r) (did (flagged s r.flags) ram))
      go true = fair_result s z o r x k ok
      go false = fair_did _ (k.flags s r.flags x ok)

  -- of a register the operation stores nothing to memory, CP or not
  fair_register :
      (op : Arith) (s : State) (z : Size) (c : ℕ) (r : Computed) → Fits r.flags → Kept P → P s → Fair none none (answer_in op s ram rom z (Register c) r)
  fair_register op s z c r x k ok = go (stores_of op)
    where
      go : (b : Bool) → Fair none none (cond b (result_in s ram rom z (Register c) r) (did (flagged s r.flags) ram))
      go true = fair_result s z (Register c) r x k ok
      go false = fair_did _ (k.flags s r.flags x ok)

  pub fair_round :
      (f : Form) (s : State) → Kept P → P s
      → Fair (bytes (pointer_of s f.from) (bytes_of f.size)) (cond f.copies (bytes (pointer_of s f.to) (bytes_of f.size)) none) (round_of f s ram rom)
  unfolding round_of
  fair_round f s k ok = fair_loaded (pointer_of s f.from) f.size _ _ (λ v. go v f.copies)
    where
      go :
          (v : ℕ) (b : Bool)
          → Fair none (cond b (bytes (pointer_of s f.to) (bytes_of f.size)) none)
          (cond b (storing (copied f s) ram rom (pointer_of s f.to) f.size v) (did (compared f v s) ram))
      go v true = fair_storing _ _ f.size v (copied_kept P k f s ok)
      go v false = fair_did _ (compared_kept P k f v s ok)

  -- ---- 8 comes first
  -- an instruction's answer, by whether it uses a marked flag and by what it reads and its target
  abbrev pub GivesBy : Bool → Span → Span → Try → Type 0
  GivesBy marked r g t = Gives (answer_by marked (operands_answer ram rom r g)) g t

  fair_marked : (b : Bool) (r g : Span) (t : Try) → Fair r g t → GivesBy b r g (cond b (no Undefined) t)
  unfolding Gives
  fair_marked true r g t h = refl
  fair_marked false r g t h = h

  fair_jump : (s : State) (cc to : ℕ) → Kept P → P s → GivesBy (reads_marked (flags_in s) cc) none none (jump_of s ram cc to)
  unfolding jump_of
  fair_jump s cc to k ok = fair_marked (reads_marked (flags_in s) cc) none none _ (fair_did _ (jump_kept P k s cc to ok))

  -- the condition that is never met reads nothing
  fair_never : (s t : State) → P t → GivesBy (reads_marked (flags_in s) 0) none none (did t ram)
  unfolding reads_marked reads_v
  fair_never s t ok = fair_did t ok

  -- RCF to ZCF
  carries_kept : (s : State) (m : ℕ) (c : Bool) → m ≤ 1 → Kept P → P s → P (flagged s (carried (flags_in s) m c))
  carries_kept s m c l k ok = k.flags s _ (carried_fits (flags_in s) m c l (k.fitting s ok)) ok

  fair_control :
      (what : Control) (n : ℕ) (s : State) → Kept P → P s → GivesBy (reads_marked (flags_in s) (condition_in what)) none none (control_of what n s ram)
  unfolding control_of
  fair_control Nop n s k ok = fair_never s s ok
  fair_control Incf n s k ok = fair_never s _ (k.banks s _ ok)
  fair_control Decf n s k ok = fair_never s _ (k.banks s _ ok)
  fair_control Ldf n s k ok = fair_never s _ (k.banks s _ ok)
  fair_control Rcf n s k ok = fair_never s _ (carries_kept s 0 _ (omega arith) k ok)
  fair_control Scf n s k ok = fair_never s _ (carries_kept s 0 _ (omega arith) k ok)
  fair_control Ccf n s k ok = fair_never s _ (carries_kept s 1 _ (omega arith) k ok)
  fair_control Zcf n s k ok = fair_never s _ (carries_kept s 1 _ (omega arith) k ok)
  fair_control Exf n s k ok = fair_never s _ (k.exchanges s ok)
  fair_control Jp16 n s k ok = fair_never s _ (k.counters s _ ok)
  fair_control Jp24 n s k ok = fair_never s _ (k.counters s _ ok)
  fair_control (Jr cc) n s k ok = fair_jump s cc _ k ok
  fair_control (Jrl cc) n s k ok = fair_jump s cc _ k ok
  fair_control Ei n s k ok = fair_never s _ (k.levels s _ ok)

  fair_push_f : (s : State) → Kept P → P s → GivesBy (any_marked (flags_in s)) none (below_stack s 1) (push_f_of s ram rom)
  unfolding push_f_of
  fair_push_f s k ok = fair_marked (any_marked (flags_in s)) none (below_stack s 1) _ (fair_push s Byte _ k ok)

  fair_stack :
      (what : Stack) (z : Size) (o : Operand) (s : State) → Kept P → P s
      → GivesBy (stores_f what && any_marked (flags_in s)) (stack_read what z s) (stack_stored what z s) (stack_of what z o s ram rom)
  unfolding stack_of
  fair_stack PushF z o s k ok = fair_push_f s k ok
  fair_stack PopF z o s k ok = fair_pop s Byte _ (λ t v h. byte_kept P k t v h) k ok
  fair_stack Push z o s k ok = fair_push s z _ k ok
  fair_stack Pop z o s k ok = fair_pop s z _ (λ t v h. register_kept k t z _ v h) k ok
  fair_stack Call16 z o s k ok = fair_call s _ k ok
  fair_stack Call24 z o s k ok = fair_call s _ k ok
  fair_stack Calr z o s k ok = fair_call s _ k ok
  fair_stack Ret z o s k ok = fair_pop s Long _ (λ t v h. k.counters t v h) k ok

  fair_interrupt :
      (what : Interrupt) (s : State) → Kept P → Recounted P (Interrupts what) → P s
      → GivesBy (stores_sr what && any_marked (flags_in s)) (interrupt_read what s) (interrupt_stored what s) (interrupt_of what s ram rom)
  unfolding interrupt_of push_sr_of
  fair_interrupt PushSr s k c ok = fair_marked (any_marked (flags_in s)) none (below_stack s 2) _ (fair_push s Word _ k ok)
  fair_interrupt PopSr s k c ok = fair_pop s Word _ (λ t v h. sr_kept P k t v h) k ok
  fair_interrupt Reti s k c ok = fair_pop_bytes s 6 _ (λ t v h. returned_kept P k c t v h) k ok

  -- MUL to DIVS of an operand
  fair_scaled : (how : Scale) (z : Size) (w : Operand) (v : ℕ) (s : State) → Kept P → P s → Fair (operand_span s (twice_of z) w) (operand_span s (twice_of z) w) (scaled_at how z w v s ram rom)
  unfolding scaled_at
  fair_scaled how z w v s k ok =
      fair_value s (twice_of z) w _ _
      (λ x. fair_result s (twice_of z) w (scaled how (bits_of (twice_of z) / 2) x v (flags_in s)) (scaled_fits how (bits_of (twice_of z) / 2) x v (flags_in s) (k.fitting s ok)) k ok)

  -- the wider operand has its bytes where the operand has them, or none
  wide_span : (s : State) (z y : Size) (o : Operand) → operand_span s y (wide_of z o) ≡ operand_span s y o
  wide_span s Byte y (Register r) = refl
  wide_span s Word y (Register r) = refl
  wide_span s Long y (Register r) = refl
  wide_span s Byte y (Named c) = refl
  wide_span s Word y (Named c) = refl
  wide_span s Long y (Named c) = refl
  wide_span s Byte y (Constant n) = refl
  wide_span s Word y (Constant n) = refl
  wide_span s Long y (Constant n) = refl
  wide_span s Byte y (Memory m) = refl
  wide_span s Word y (Memory m) = refl
  wide_span s Long y (Memory m) = refl

  fair_wide : (how : Scale) (z : Size) (o : Operand) (v : ℕ) (s : State) → Kept P → P s → Fair (operand_span s (twice_of z) o) (operand_span s (twice_of z) o) (scaled_at how z (wide_of z o) v s ram rom)
  fair_wide how z o v s k ok = subst (λ (g : Span). Fair g g (scaled_at how z (wide_of z o) v s ram rom)) (wide_span s z (twice_of z) o) (fair_scaled how z (wide_of z o) v s k ok)

  fair_puts : (how : Use) (z : Size) (o : Operand) (s : State) → Kept P → P s → Fair (use_read how (use_span s how z o)) (use_stored how (use_span s how z o)) (puts_of how z o s ram rom)
  unfolding puts_of
  fair_puts (Number n) z o s k ok = fair_put s z o n k ok
  fair_puts (From r) z o s k ok = fair_put s z o _ k ok
  fair_puts (Load r) z o s k ok = fair_value s z o _ _ (λ v. fair_did _ (register_kept k s z r v ok))
  fair_puts (Compute op (First r)) z o s k ok = fair_value s z o _ _ (λ v. fair_register op s z r (computed s op z (get_register s z r) v) (operated_fits op _ _ _ _) k ok)
  fair_puts (Compute op (Second r)) z o s k ok = fair_value s z o _ _ (λ v. fair_answer op s z o (computed s op z v (get_register s z r)) (operated_fits op _ _ _ _) k ok)
  fair_puts (Compute op (With n)) z o s k ok = fair_value s z o _ _ (λ v. fair_answer op s z o (computed s op z v n) (operated_fits op _ _ _ _) k ok)
  fair_puts (Changed how) z o s k ok = fair_value s z o _ _ (λ v. fair_result s z o (changed how (bits_of z) v (flags_in s)) (changed_fits how (bits_of z) v (flags_in s) (k.fitting s ok)) k ok)
  fair_puts (Scaled how r) z o s k ok = fair_value s z o _ _ (λ v. fair_wide how z (Register r) v s k ok)
  fair_puts (ScaledWith how n) z o s k ok = fair_wide how z o n s k ok
  fair_puts (Cycled how) z o s k ok = fair_value s z o _ _ (λ v. fair_put s z o _ k ok)

  pub fair_effect :
      (op : Op) (z : Size) (o : Operand) (at : ℕ) (s : State) → Kept P → Recounted P op → P s
      → GivesBy (uses_marked op s) (read_of op z o s) (stored_of op z o s) (effect_of op z o at s ram rom)
  unfolding effect_of uses_marked read_of stored_of
  fair_effect (Controls what) z o at s k c ok = fair_control what _ s k ok
  fair_effect (Stacks what) z o at s k c ok = fair_stack what z o s k ok
  fair_effect (Puts how) z o at s k c ok = fair_puts how z o s k ok
  fair_effect (Sets r) z o at s k c ok = fair_did _ (register_kept k s z r _ ok)
  fair_effect (Blocks f) z o at s k c ok = fair_then _ _ (round_of f s ram rom) (ends_at f at) (fair_round f s k ok) (λ t h. ends_kept P k f at t h)
  fair_effect (Interrupts what) z o at s k c ok = fair_interrupt what s k c ok
