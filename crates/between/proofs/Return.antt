-- The return from a request that was taken, proved.
use Prim.Native.Nat.{ℕ, ◌+◌, ◌/◌, ◌%◌, ◌^◌, ◌<◌, ◌≤◌}
use mathlib.Core.Path.{◌≡◌, refl, ap, sym, ◌∙◌}
use mathlib.Core.List.{List, [], ◌∷◌}
use mathlib.Core.Bool.{true}
use native.Mathlib.Omega.{arith}
use lib.ListN.{length, get_or, set, take, drop}
use lib.Seq.{set-set, set-get_or}
use Rattle.answer.specs.Number.{number_of}
use Rattle.little.specs.declared.Size.TheVariants.{Byte, Long}
use Rattle.little.specs.Bytes.{value_of, bytes_from, replaced}
use Rattle.little.proofs.Laws.{length_bytes, value_bytes, replaced_part, replaced_length}
use Rattle.flags.specs.Flag.{byte_of, flags_of, packed_of}
use Rattle.flags.proofs.Packed.{byte_low}
use Rattle.memory.specs.Access.{bytes_at, load_from, load_bytes, load_of, store_to, store_bytes, ram_with, ram_bytes, code_at}
use Rattle.memory.specs.declared.Place.{Place}
use Rattle.memory.specs.declared.Place.TheVariants.{Ram, Rom, Missing}
use Rattle.memory.proofs.Laws.{place_ram, ram_fits_lem}
use Rattle.state.specs.declared.State.{State}
use Rattle.state.specs.declared.Bank.{Bank}
use Rattle.state.specs.declared.Level.{Level}
use Rattle.state.specs.State.{f_of, marks_of, long_of, with_long, with_counter, with_bank, with_level, with_nesting, with_flags, with_both_flags}
use Rattle.state.specs.inner.Lent.{all_of}
use Rattle.state.specs.Register.{get_bits, set_bits, slot_in, slot_of, set_slot, register_at, get_register, set_register}
use Rattle.state.specs.Sr.{sr_of}
use Rattle.state.specs.Sound.{Sound}
use Rattle.state.proofs.Valid.{Valid, valid_says}
use Rattle.state.proofs.Sr.{sr_lt, sr_back}
use Rattle.state.proofs.Laws.{register_lt, register_same}
use Rattle.code.specs.declared.Form.{Form}
use Rattle.code.specs.declared.Op.TheVariants.{Interrupts}
use Rattle.code.specs.declared.Interrupt.TheVariants.{Reti}
use Rattle.code.specs.declared.Operand.TheVariants.{Constant}
use Rattle.code.specs.declared.Instruction.{Instruction}
use Rattle.code.specs.Listed.{decode_of}
use Rattle.code.specs.Written.{code_of}
use Rattle.code.proofs.Exact.{reads_back}
use Rattle.operand.specs.Try.{Outcome, after, leaves, and_then, with_loaded}
use Rattle.operand.specs.Operand.{pointer_of, stored_by}
use Rattle.operand.specs.Round.{less, plus}
use Rattle.operand.proofs.Flags.{valid_packed}
use Rattle.operand.proofs.Laws.{up_again}
use Rattle.stack.specs.Stack.{with_stack}
use Rattle.interrupt.specs.Interrupt.{with_sr, returned, interrupt_of}
use Rattle.interrupt.proofs.Laws.{six_low, six_high}
use Rattle.exec.specs.Exec.{past_of, effect_of, executed_of}
use Rattle.step.specs.Step.{step_of}
use Rattle.facts.specs.Statements.{Passed}
use Rattle.facts.specs.Touched.{below_stack}
use Rattle.facts.proofs.Kept.{spares_length}
use Rattle.facts.proofs.Statements.{some, step_whole}
use Rattle.run.specs.Demand.{At}
use Rattle.run.proofs.Counts.{count_some}
use Rattle.run.proofs.Known.{rounds_define}
use Rattle.run.proofs.Repeats.{clear, repeat_on}
use Rattle.run.proofs.Demand.{went_run}
use Rattle.run.proofs.Endings.{every_start}
use Rattle.request.specs.Request.{return_address, entered, entering, request_of, took_of}
use Rattle.between.specs.History.{Event, history_of}
use Rattle.between.specs.Return.{unmarked, GivesBack, HandlerReturns, ReturnsAtOnce, GoesOn, RoundsGoOn}
use Rattle.between.proofs.Offer.{Taken, taken_says, taken_is, taken_keeps}
use Rattle.between.proofs.History.{history_keeps}
use Rattle.std.proofs.Common.{Ok, Err}
use Rattle.answer.specs.Number.{Answer}
use Rattle.memory.specs.Access.{Loaded}

-- ---- XSP
-- it is the last of the twenty longs, in every bank
stack_any : (registers : List ℕ) (b c : Bank) → register_at registers b Long 7 ≡ register_at registers c Long 7
unfolding register_at slot_of
stack_any registers b c = refl

-- a long that is written whole is what was written
whole_bits : (x v : ℕ) → x < 2 ^ 32 → v < 2 ^ 32 → set_bits 0 32 x v ≡ v
unfolding set_bits
whole_bits x v h k =
    let a : x / 2 ^ 0 ≡ x = omega arith in
    let b : x / 2 ^ 32 ≡ 0 = omega arith in
    let c : v % 2 ^ 32 ≡ v = omega arith in
    let d : x % 2 ^ 0 ≡ 0 = omega arith in
    rw (a, b, c, d) (omega arith)

stack_set : (s : State) (v : ℕ) → Sound s → v < 2 ^ 32 → (with_stack s v).registers ≡ set s.registers 19 v
unfolding set_register set_slot slot_of with_long long_of
stack_set s v ok h = ap (λ (x : ℕ). set s.registers 19 x) (whole_bits (get_or s.registers 19 0) v (ok.fit 19) h)

stack_is : (s : State) → Sound s → get_register s Long 7 ≡ get_or s.registers 19 0
unfolding register_at slot_of slot_in get_bits
stack_is s ok =
    let h = ok.fit 19 in
    let a : get_or s.registers 19 0 / 2 ^ 0 ≡ get_or s.registers 19 0 = omega arith in
    rw a (omega (arith, h))

-- ---- the request
module _ (level address : ℕ) (s : State) (ram rom : List ℕ) where
  -- where the stack's end goes, and the address there
  abbrev end : ℕ
  end = less 32 (get_register s Long 7) 6

  abbrev at : ℕ
  at = end % 2 ^ 24

  -- what a taken request leaves, with the vector that it read
  record Left : Type 0 where
    vector : ℕ
    left : request_of level address s ram rom ≡ after (Ok tt) (entered level vector (with_stack s end)) (ram_bytes ram rom at 6 (return_address s))
    stored : store_bytes ram rom at 6 ≡ Ok tt

  left_by_lem : Taken level address s ram rom → Left
  left_by_lem t = loading (load_of ram rom address Long) (taken_is level address s ram rom t)
    where
      storing :
          (v : ℕ) (a : Answer) → store_bytes ram rom at 6 ≡ a →
          request_of level address s ram rom ≡ leaves s ram (and_then (stored_by a (with_stack s end) (ram_bytes ram rom at 6 (return_address s))) (entered level v)) → Left
      storing v (Ok _) e h = record { vector = v; left = h; stored = e }
      storing v (Err w) e h = absurd (omega (arith, ap number_of (sym (ap (λ (o : Outcome). o.answer) h) ∙ t.done), some w))

      loading :
          (l : Loaded) → request_of level address s ram rom ≡ leaves s ram (with_loaded l (λ v. entering (return_address s) level v s ram rom)) → Left
      loading (Ok v) h = storing v (store_bytes ram rom at 6) refl h
      loading (Err x) h = absurd (omega (arith, ap number_of (sym (ap (λ (o : Outcome). o.answer) h) ∙ t.done)))

  -- the six bytes are in RAM
  in_ram : (p : Place) → bytes_at ram rom at 6 ≡ p → store_to p at ≡ Ok tt → (bytes_at ram rom at 6 ≡ Ram at) × (at + 6 ≤ length ram)
  in_ram (Ram o) e d = let f = ram_fits_lem (length ram) (length rom) at 6 o e in (e ∙ ap Ram f.0, omega (arith, f.0, f.1))
  in_ram (Rom o) e d = absurd (omega (arith, ap number_of d))
  in_ram (Missing x) e d = absurd (omega (arith, ap number_of d))

-- ---- what comes back
-- all parts the same
all_same :
    {r q : List ℕ} {a b c d e f g h i j k l : ℕ} → r ≡ q → a ≡ b → c ≡ d → e ≡ f → g ≡ h → i ≡ j → k ≡ l → all_of r a c e g i k ≡ all_of q b d f h j l
all_same p a c e g i k = λ t. all_of (p t) (a t) (c t) (e t) (g t) (i t) (k t)

-- what RETI takes of six bytes
returned_is :
    (w : State) (v : ℕ) →
    returned w v
    ≡ all_of w.registers (v / 2 ^ 16 % 2 ^ 24) (v % 2 ^ 16 / 2 ^ 8 % 4) (v % 2 ^ 16 / 2 ^ 12 % 8) (byte_of (flags_of (v % 2 ^ 16 % 2 ^ 8)))
    w.spare (less 16 w.nesting 1 % 2 ^ 16)
unfolding returned with_sr with_counter with_nesting with_level with_bank with_flags with_both_flags
returned_is w v = refl

unmarked_is : (s : State) → unmarked s ≡ all_of s.registers s.counter s.bank.0 s.level.0 (f_of s.flags) s.spare s.nesting
unfolding with_flags with_both_flags
unmarked_is s = refl

-- a bank of three bits that is below four
low_bank : (x b : ℕ) → x % 8 ≡ b → b < 4 → x % 4 ≡ b
low_bank x b e h = omega arith

module _ (s : State) (v : Valid s) where
  -- SR and the counter, told apart again
  low_is : return_address s % 2 ^ 16 ≡ sr_of s
  low_is = six_low (sr_of s) s.counter (sr_lt s v)

  high_is : return_address s / 2 ^ 16 ≡ s.counter
  high_is = six_high (sr_of s) s.counter (sr_lt s v)

  back_counter : return_address s / 2 ^ 16 % 2 ^ 24 ≡ s.counter
  back_counter = rw high_is (omega (arith, v.counter))

  back_bank : return_address s % 2 ^ 16 / 2 ^ 8 % 4 ≡ s.bank.0
  back_bank = rw low_is (low_bank (sr_of s / 2 ^ 8) s.bank.0 (ap (λ (b : Bank). b.0) (sr_back s v).0) v.bank)

  back_level : return_address s % 2 ^ 16 / 2 ^ 12 % 8 ≡ s.level.0
  back_level = rw low_is (ap (λ (l : Level). l.0) (sr_back s v).1)

  known : byte_of (flags_of s.flags) ≡ f_of s.flags
  unfolding packed_of flags_of
  known = omega (arith, valid_packed s.flags v.flags)

  back_flags : byte_of (flags_of (return_address s % 2 ^ 16 % 2 ^ 8)) ≡ f_of s.flags
  back_flags = rw (low_is, (sr_back s v).2) (byte_low s.flags ∙ known)

-- one on and one off
down_again : (n : ℕ) → n < 2 ^ 16 → less 16 (plus 16 n 1 % 2 ^ 16) 1 % 2 ^ 16 ≡ n
down_again n h = omega arith

-- what is entered has the registers of the stack moved, F' as it was, and one more on the count
entered_parts :
    (level vector : ℕ) (s : State) (x : ℕ) → let t = entered level vector (with_stack s x) in
    (t.registers ≡ (with_stack s x).registers) × (t.spare ≡ s.spare) × (t.nesting ≡ plus 16 s.nesting 1 % 2 ^ 16)
unfolding entered with_counter with_nesting with_level set_register set_slot with_long
entered_parts level vector s x = (refl, refl, refl)

-- ---- RETI
abbrev reti : Instruction
reti = record { op = Interrupts Reti; size = Byte; operand = Constant 0; length = 1 }

is_reti_lem : (rest : List ℕ) → decode_of (0x07 ∷ rest) ≡ Ok reti
unfolding code_of
is_reti_lem rest = reads_back (Interrupts Reti) Byte (Constant 0) rest refl

-- with six bytes v on the stack, whose end is x
module _ (u : State) (l rom rest : List ℕ) (v x : ℕ) where
  reti_done :
      register_at u.registers u.bank Long 7 ≡ x → load_bytes l rom (x % 2 ^ 24) 6 ≡ Ok v →
      leaves u l (executed_of reti u l rom) ≡ after (Ok tt) (returned (with_stack (past_of 1 u) (plus 32 x 6)) v) l
  unfolding executed_of effect_of interrupt_of past_of with_counter
  reti_done e h = rw (e, h) refl

  reti_step :
      Passed u l rom → code_at l rom u.counter ≡ 0x07 ∷ rest → register_at u.registers u.bank Long 7 ≡ x →
      load_bytes l rom (x % 2 ^ 24) 6 ≡ Ok v → step_of u l rom ≡ after (Ok tt) (returned (with_stack (past_of 1 u) (plus 32 x 6)) v) l
  reti_step p c e h = step_whole u l rom reti p (ap decode_of c ∙ is_reti_lem rest) ∙ reti_done e h

-- what a pop moves past an instruction: XSP alone
past_set : (u : State) (y : ℕ) → Sound u → y < 2 ^ 32 → (with_stack (past_of 1 u) y).registers ≡ set u.registers 19 y
unfolding past_of with_counter set_register set_slot slot_of with_long long_of
past_set u y ok h = ap (λ (z : ℕ). set u.registers 19 z) (whole_bits (get_or u.registers 19 0) y (ok.fit 19) h)

past_parts : (u : State) (y : ℕ) → ((with_stack (past_of 1 u) y).spare ≡ u.spare) × ((with_stack (past_of 1 u) y).nesting ≡ u.nesting)
unfolding past_of with_counter set_register set_slot with_long
past_parts u y = (refl, refl)

-- ---- the statements
module _ (level address : ℕ) (s : State) (ram rom : List ℕ) (ok : Sound s) (k : took_of level address s ram rom ≡ true) where
  t : State
  t = (request_of level address s ram rom).state

  m : List ℕ
  m = (request_of level address s ram rom).ram

  taken : Taken level address s ram rom
  taken = taken_says level address s ram rom k

  valid : Valid s
  valid = valid_says s taken.passed.1

  made : Left level address s ram rom
  made = left_by_lem level address s ram rom taken

  abbrev x : ℕ
  x = end level address s ram rom

  abbrev a : ℕ
  a = x % 2 ^ 24

  x_lt : x < 2 ^ 32
  x_lt = omega arith

  there : (bytes_at ram rom a 6 ≡ Ram a) × (a + 6 ≤ length ram)
  there = in_ram level address s ram rom (bytes_at ram rom a 6) refl made.stored

  m_is : m ≡ replaced a (bytes_from 6 (return_address s)) ram
  unfolding m
  m_is = ap (λ (o : Outcome). o.ram) made.left ∙ ap (λ (p : Place). ram_with p ram 6 (return_address s)) there.0

  room : a + length (bytes_from 6 (return_address s)) ≤ length ram
  room = rw length_bytes there.1

  m_length : length m ≡ length ram
  m_length = ap length m_is ∙ replaced_length a (bytes_from 6 (return_address s)) ram room

  -- what stands there reads back
  address_lt : return_address s < 256 ^ 6
  address_lt = omega (arith, sr_lt s valid, valid.counter)

  m_part : take 6 (drop a m) ≡ bytes_from 6 (return_address s)
  m_part =
      let n = length_bytes 6 (return_address s) in
      ap (λ (l : List ℕ). take 6 (drop a l)) m_is
      ∙ ap (λ (c : ℕ). take c (drop a (replaced a (bytes_from 6 (return_address s)) ram))) (sym n)
      ∙ replaced_part a (bytes_from 6 (return_address s)) ram room

  t_parts : (t.registers ≡ (with_stack s x).registers) × (t.spare ≡ s.spare) × (t.nesting ≡ plus 16 s.nesting 1 % 2 ^ 16)
  unfolding t
  t_parts =
      let e : (request_of level address s ram rom).state ≡ entered level made.vector (with_stack s x) = ap (λ (o : Outcome). o.state) made.left in
      let p = entered_parts level made.vector s x in (
        ap (λ (u : State). u.registers) e ∙ p.0,
        ap (λ (u : State). u.spare) e ∙ p.1,
        ap (λ (u : State). u.nesting) e ∙ p.2,
      )

  -- XSP of any registers that are those of t
  stack_end : (registers : List ℕ) (b : Bank) → registers ≡ t.registers → register_at registers b Long 7 ≡ x
  stack_end registers b e =
      let f : x % 2 ^ 32 ≡ x = omega (arith, x_lt) in
      rw (e, t_parts.0) (stack_any (with_stack s x).registers b (with_stack s x).bank ∙ register_same s Long 7 x ok ∙ f)

  t_pointer : pointer_of t 7 ≡ a
  t_pointer = ap (λ (n : ℕ). n % 2 ^ 24) (stack_end t.registers t.bank refl)

  passed : Passed t m rom
  unfolding t
  passed = ((rw m_length taken.passed.0.0, taken.passed.0.1), (taken_keeps level address s ram rom k).0)

  t_sound : Sound t
  unfolding t
  t_sound = (taken_keeps level address s ram rom k).1 ok

  -- the registers come back: XSP is the one that was moved
  registers_back : (u : State) → Sound u → u.registers ≡ t.registers → (with_stack (past_of 1 u) (plus 32 x 6)).registers ≡ s.registers
  registers_back u su e =
      let big = register_lt s Long 7 in
      let y : plus 32 x 6 ≡ get_or s.registers 19 0 = up_again (get_register s Long 7) 6 big (omega arith) ∙ stack_is s ok in
      past_set u (plus 32 x 6) su (omega arith)
      ∙ ap (λ (r : List ℕ). set r 19 (plus 32 x 6)) (e ∙ t_parts.0 ∙ stack_set s x ok x_lt)
      ∙ set-set s.registers 19 x (plus 32 x 6)
      ∙ ap (λ (v : ℕ). set s.registers 19 v) y
      ∙ set-get_or s.registers 19 0

  came_back : (es : List Event) (u : State) (l : List ℕ) → GivesBack t m rom es u l → step_of u l rom ≡ after (Ok tt) (unmarked s) l
  came_back es u l g =
      let h = history_keeps es t m rom u l g.came in
      let n : length l ≡ length ram = h.room ∙ m_length in
      let fits : a + 6 ≤ length l = rw n there.1 in
      let part : take 6 (drop a l) ≡ bytes_from 6 (return_address s) =
      rw t_pointer at g.stack ∙ m_part in
      let value : value_of (take 6 (drop a l)) ≡ return_address s = ap value_of part ∙ value_bytes 6 (return_address s) address_lt in
      let loads : load_bytes l rom a 6 ≡ Ok (return_address s) =
      ap (λ (p : Place). load_from p l rom 6) (place_ram (length l) (length rom) a 6 fits) ∙ ap Ok value in
      let w = with_stack (past_of 1 u) (plus 32 x 6) in
      let kept = past_parts u (plus 32 x 6) in
      reti_step u l rom g.rest (return_address s) x (h.passed passed) g.reti (stack_end u.registers u.bank g.registers) loads
      ∙ ap (λ (z : State). after (Ok tt) z l)
      (returned_is w (return_address s)
      ∙ all_same (registers_back u (h.sound t_sound) g.registers) (back_counter s valid) (back_bank s valid) (back_level s valid) (back_flags s valid)
      (kept.0 ∙ g.spare ∙ t_parts.1)
      (ap (λ (c : ℕ). less 16 c 1 % 2 ^ 16) (kept.1 ∙ g.nesting ∙ t_parts.2) ∙ down_again s.nesting ok.nesting_fit)
      ∙ sym (unmarked_is s))

module _ (level address : ℕ) (s : State) (ram rom : List ℕ) where
  pub handler_returns : HandlerReturns level address s ram rom
  unfolding t m
  handler_returns es u l ok k g = came_back level address s ram rom ok k es u l g

  pub returns_at_once : ReturnsAtOnce level address s ram rom
  unfolding history_of
  returns_at_once rest ok k c = (
    handler_returns [] (request_of level address s ram rom).state (request_of level address s ram rom).ram ok k
        (record { came = refl; registers = refl; spare = refl; nesting = refl; stack = refl; rest = rest; reti = c }),
    (taken_keeps level address s ram rom k).2,
  )

-- ---- between two rounds
-- with no mark a state is itself
unmarked_same : (s : State) → marks_of s.flags ≡ 0 → unmarked s ≡ s
unfolding with_flags with_both_flags
unmarked_same s e = let f : f_of s.flags ≡ s.flags = omega arith in rw f refl

module _ (f : Form) (rom : List ℕ) where
  goes_on_lem : (t : State) (m : List ℕ) → At f t m rom → marks_of t.flags ≡ 0 → GoesOn f rom t m
  goes_on_lem t m at none level address es u l k g =
      let back = handler_returns level address t m rom es u l at.sound k g ∙ ap (λ (z : State). after (Ok tt) z l) (unmarked_same t none) in
      let h = history_keeps es _ _ rom u l g.came in
      let n : length l ≡ length m = h.room ∙ spares_length (below_stack t 6) m (request_of level address t m rom).ram (taken_keeps level address t m rom k).2 in (
        back,
        λ bytes same. (
          record {
            sound = at.sound;
            valid = at.valid;
            ram_bytes = bytes;
            rom_bytes = at.rom_bytes;
            ram_fits = rw n at.ram_fits;
            rom_fits = at.rom_fits;
            instruction = at.instruction;
            here = same ∙ at.here;
            form = at.form;
            repeats = at.repeats;
          },
          every_start f t l rom,
        ),
      )

  pub rounds_go_on : RoundsGoOn f rom
  rounds_go_on s ram n at some lt passes spares =
      let y = repeat_on n 0 0 f s ram rom at lt (clear passes spares) (λ i h. (passes i h).2) in
      let few = count_some s in (
        y.0,
        y.1,
        y.2.rounds,
        went_run n f s ram rom y.0 y.1 at (omega arith) y.2,
        y.2.counter,
        goes_on_lem y.0 y.1 y.2.there (rounds_define f s ram rom n y.0 y.1 at some y.2.rounds),
      )
