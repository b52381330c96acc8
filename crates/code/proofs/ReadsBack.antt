-- An instruction within its range is what its bytes say, operation by operation.
use Prim.Native.Nat.{ℕ, ◌+◌, ◌*◌, ◌<◌, ◌^◌}
use mathlib.Core.Path.{◌≡◌, refl, sym, ap, subst, ◌∙◌}
use mathlib.Core.Bool.{Bool, true, false, cond}
use mathlib.Core.List.{List, [], ◌∷◌, ◌++◌}
use mathlib.Core.Logic.{inl, inr}
use native.Mathlib.Omega.{arith}
use lib.Dec.{eqb}
use Rattle.little.specs.Bytes.{bytes_from}
use Rattle.little.specs.Width.{bytes_of}
use Rattle.little.specs.declared.Size.{Size}
use Rattle.little.specs.declared.Size.TheVariants.{Byte, Word, Long}
use Rattle.code.specs.declared.Form.{Form}
use Rattle.code.specs.declared.Op.{Op}
use Rattle.code.specs.declared.Op.TheVariants.{Controls, Stacks, Puts, Sets, Blocks, Interrupts}
use Rattle.code.specs.declared.Control.{Control}
use Rattle.code.specs.declared.Control.TheVariants.{Nop, Incf, Decf, Ldf, Rcf, Scf, Ccf, Zcf, Exf, Jp16, Jp24, Jr, Jrl, Ei}
use Rattle.code.specs.declared.Stack.{Stack}
use Rattle.code.specs.declared.Stack.TheVariants.{PushF, PopF, Push, Pop, Call16, Call24, Calr, Ret}
use Rattle.code.specs.declared.Interrupt.{Interrupt}
use Rattle.code.specs.declared.Interrupt.TheVariants.{PushSr, PopSr, Reti}
use Rattle.code.specs.declared.Use.{Use}
use Rattle.code.specs.declared.Use.TheVariants.{Number, From, Load, Compute, Changed, Scaled, ScaledWith, Cycled}
use Rattle.code.specs.declared.Side.{Side}
use Rattle.code.specs.declared.Side.TheVariants.{First, Second, With}
use Rattle.code.specs.declared.Base.{Base}
use Rattle.code.specs.declared.Base.TheVariants.{Indirect, Displaced, Absolute8, Absolute16, Absolute24}
use Rattle.code.specs.declared.Operand.{Operand}
use Rattle.code.specs.declared.Operand.TheVariants.{Register, Named, Constant, Memory}
use Rattle.code.specs.Said.{Said, whole, number}
use Rattle.code.specs.Rows.{Row, by_rows, only_byte, no_long}
use Rattle.code.specs.Registers.{register_rows}
use Rattle.code.specs.Memory.{form, memory_rows, store_rows}
use Rattle.code.specs.Listed.{alone, with_constant, up_to_seven_rows, code_byte_rows, first_rows}
use Rattle.alu.specs.declared.Arith.{Arith}
use Rattle.code.specs.Range.{Holds, that, InRange, control_range, stack_range, interrupt_range, side_range, use_range, alone_range, up_to_seven_range, pointer_range, constant_below, register_below, base_range, memory_range, register_range, place_range, block_range}
use Rattle.code.specs.Written.{code_of, control_code, stack_code, interrupt_code, side_code, use_code, place_code, base_code, size_step, arith_number, scale_number, block_code, constant_in, register_in}
use Rattle.code.proofs.FirstRows.{first}
use Rattle.code.proofs.Says.{Says, Lists, byte, value, next}
use Rattle.code.proofs.RegisterRows.{of_change}
use Rattle.code.proofs.FeedBytes.{scaled_byte, scaled_with_byte, of_cycle}
use Rattle.code.proofs.EachByte.{set, push, pop, short_jump, long_jump, up_to_seven, register_form, named_form, code_byte, load_constant, load, into, compute, compute_constant, more_rows, rows_of, indirect, displaced, absolute_8, absolute_16, absolute_24, load_memory, compute_memory, compute_into, indirect_store, displaced_store, absolute_store, store, block_byte}

-- the bytes p are this instruction
abbrev Is : List ℕ → Op → Size → Operand → Type 0
Is p op z o = Says (by_rows first_rows) p (whole op z o)

-- ---- what is proved of an operand or a size in range only
on_register : (P : Operand → Type 0) (n : ℕ) → ((r : ℕ) → r < n → P (Register r)) → (o : Operand) → Holds (register_below n o) → P o
on_register P n f (Register r) h = f r h
on_register P n f (Named c) h = absurd h
on_register P n f (Constant v) h = absurd h
on_register P n f (Memory m) h = absurd h

on_constant : (P : Operand → Type 0) (n : ℕ) → ((v : ℕ) → v < n → P (Constant v)) → (o : Operand) → Holds (constant_below n o) → P o
on_constant P n f (Register r) h = absurd h
on_constant P n f (Named c) h = absurd h
on_constant P n f (Constant v) h = f v h
on_constant P n f (Memory m) h = absurd h

on_memory : (P : Operand → Type 0) → ((base : Base) (v : ℕ) → Holds (base_range base v) → P (form base v)) → (o : Operand) → Holds (memory_range o) → P o
on_memory P f (Register r) h = absurd h
on_memory P f (Named c) h = absurd h
on_memory P f (Constant v) h = absurd h
on_memory P f (Memory m) h = f m.base m.number h

-- what has no size of its own, and a constant
on_byte :
    (P : Size → Operand → Type 0) (n : ℕ) → ((v : ℕ) → v < n → P Byte (Constant v)) →
    (z : Size) (o : Operand) → Holds (that (only_byte z)) × Holds (constant_below n o) → P z o
on_byte P n f Byte o h = on_constant (P Byte) n f o h.1
on_byte P n f Word o h = absurd h.0
on_byte P n f Long o h = absurd h.0

-- ---- one byte; one byte and a constant
is_alone : (op : Op) (b : ℕ) → Lists first_rows b (alone op) → (z : Size) (o : Operand) → Holds (alone_range z o) → Is (b ∷ []) op z o
is_alone op b e = on_byte _ 1 (λ v h. let q : v ≡ 0 = omega arith in rw q (byte first_rows b e))

is_up_to_seven : (op : Op) (b : ℕ) → Lists first_rows b (by_rows (up_to_seven_rows op)) → (z : Size) (o : Operand) → Holds (up_to_seven_range z o) → Is (b ∷ constant_in o ∷ []) op z o
is_up_to_seven op b e = on_byte _ _ (λ n h. next (byte first_rows b e) (byte (up_to_seven_rows op) n (up_to_seven op n h)))

is_jump : (op : Op) (b n : ℕ) → Lists first_rows b (with_constant op Byte n) → (z : Size) (o : Operand) → Holds (that (only_byte z)) × Holds (constant_below (256 ^ n) o) → Is (b ∷ bytes_from n (constant_in o)) op z o
is_jump op b n e = on_byte _ (256 ^ n) (λ v h. next (byte first_rows b e) (value n v h))

is_set : (r : ℕ) → r < 8 → (z : Size) (o : Operand) → Holds (constant_below (256 ^ bytes_of z) o) → Is ((0x20 + size_step z + r) ∷ bytes_from (bytes_of z) (constant_in o)) (Sets r) z o
is_set r l z = on_constant _ (256 ^ bytes_of z) (λ v h. next (byte first_rows (0x20 + size_step z + r) (set z r l)) (value (bytes_of z) v h))

is_pushed : (op : Op) (z : Size) (c : ℕ) → ((r : ℕ) → r < 7 → Lists first_rows (c + r) (whole op z (Register r))) → (o : Operand) → Holds (register_below 7 o) → Is ((c + register_in o) ∷ []) op z o
is_pushed op z c e = on_register _ 7 (λ r h. byte first_rows (c + r) (e r h))

-- ---- after a register, and after a memory form in the row g
pub register_begun_lem : (z : Size) (o : Operand) → Holds (register_range z o) → Says (by_rows first_rows) (place_code (size_step z) o) (by_rows (register_rows z o))
register_begun_lem z (Register r) h = byte first_rows (0xC8 + size_step z + r) (register_form z r h)
register_begun_lem z (Named c) h = next (byte first_rows (0xC7 + size_step z) (named_form z)) (byte (code_byte_rows z) c (code_byte z c h.0 h.1))
register_begun_lem z (Constant v) h = absurd h
register_begun_lem z (Memory m) h = absurd h

after_register : {q : List ℕ} {k : Said} (z : Size) (o : Operand) → Holds (register_range z o) → Says (by_rows (register_rows z o)) q k → Says (by_rows first_rows) (place_code (size_step z) o ++ q) k
after_register z o h s = next (register_begun_lem z o h) s

module _
    (g : ℕ) (rows : Base → ℕ → List Row)
    (by_register_lem : (r : ℕ) → r < 8 → Lists first_rows (0x80 + g + r) (by_rows (rows (Indirect r) 0)))
    (by-displacement : (r : ℕ) → r < 8 → Lists first_rows (0x88 + g + r) (number 1 (λ v. by_rows (rows (Displaced r) v))))
    (by_8 : Lists first_rows (0xC0 + g) (number 1 (λ v. by_rows (rows Absolute8 v))))
    (by-16 : Lists first_rows (0xC1 + g) (number 2 (λ v. by_rows (rows Absolute16 v))))
    (by-24 : Lists first_rows (0xC2 + g) (number 3 (λ v. by_rows (rows Absolute24 v))))
  where
    after_form : (base : Base) (v : ℕ) → Holds (base_range base v) → Says (by_rows first_rows) (base_code g base v) (by_rows (rows base v))
    after_form (Indirect r) v h = rw h.1 (byte first_rows (0x80 + g + r) (by_register_lem r h.0))
    after_form (Displaced r) v h = next (byte first_rows (0x88 + g + r) (by-displacement r h.0)) (value 1 v h.1)
    after_form Absolute8 v h = next (byte first_rows (0xC0 + g) by_8) (value 1 v h)
    after_form Absolute16 v h = next (byte first_rows (0xC1 + g) by-16) (value 2 v h)
    after_form Absolute24 v h = next (byte first_rows (0xC2 + g) by-24) (value 3 v h)

after_memory_form : (z : Size) (base : Base) (v : ℕ) → Holds (base_range base v) → Says (by_rows first_rows) (base_code (size_step z) base v) (by_rows (rows_of z base v))
after_memory_form z = after_form (size_step z) (rows_of z) (indirect z) (displaced z) (absolute_8 z) (absolute_16 z) (absolute_24 z)

after_memory : {q : List ℕ} {k : Said} (z : Size) (o : Operand) → Holds (memory_range o) → ((more : List Row) → Says (by_rows (memory_rows z o ++ more)) q k) → Says (by_rows first_rows) (place_code (size_step z) o ++ q) k
after_memory z = on_memory _ (λ base v h s. next (after_memory_form z base v h) (s (more_rows z base)))

after_store_form : (base : Base) (v : ℕ) → Holds (base_range base v) → Says (by_rows first_rows) (base_code 48 base v) (by_rows (store_rows (form base v)))
after_store_form = after_form 48 (λ base v. store_rows (form base v)) indirect_store displaced_store absolute_store.0 absolute_store.1 absolute_store.2

after_store : {q : List ℕ} {k : Said} (o : Operand) → Holds (memory_range o) → Says (by_rows (store_rows o)) q k → Says (by_rows first_rows) (place_code 48 o ++ q) k
after_store = on_memory _ (λ base v h s. next (after_store_form base v h) s)

-- one byte more
register_byte : {k : Said} (z : Size) (o : Operand) (b : ℕ) → Holds (register_range z o) → Lists (register_rows z o) b k → Says (by_rows first_rows) (place_code (size_step z) o ++ (b ∷ [])) k
register_byte z o b h e = after_register z o h (byte (register_rows z o) b e)

memory_byte : {k : Said} (z : Size) (o : Operand) (b : ℕ) → Holds (memory_range o) → ((more : List Row) → Lists (memory_rows z o ++ more) b k) → Says (by_rows first_rows) (place_code (size_step z) o ++ (b ∷ [])) k
memory_byte z o b h e = after_memory z o h (λ more. byte (memory_rows z o ++ more) b (e more))

place_byte :
    {k : Said} (z : Size) (o : Operand) (b : ℕ) → Holds (place_range z o) → Lists (register_rows z o) b k → ((more : List Row) → Lists (memory_rows z o ++ more) b k) →
    Says (by_rows first_rows) (place_code (size_step z) o ++ (b ∷ [])) k
place_byte z (Register r) b h e f = register_byte z (Register r) b h e
place_byte z (Named c) b h e f = register_byte z (Named c) b h e
place_byte z (Constant v) b h e f = absurd h
place_byte z (Memory m) b h e f = memory_byte z (Memory m) b h f

-- one byte more, and a constant of the size
register_constant : {f : ℕ → Said} (z : Size) (o : Operand) (b n : ℕ) → Holds (register_range z o) → n < 256 ^ bytes_of z → Lists (register_rows z o) b (number (bytes_of z) f) → Says (by_rows first_rows) (place_code (size_step z) o ++ (b ∷ bytes_from (bytes_of z) n)) (f n)
register_constant z o b n h l e = after_register z o h (next (byte (register_rows z o) b e) (value (bytes_of z) n l))

-- ---- a copy or a compare
size_of_bytes : ℕ → Size
size_of_bytes n = cond (eqb n 1) Byte (cond (eqb n 2) Word Long)

size_back : (z : Size) → size_of_bytes (bytes_of z) ≡ z
unfolding size_of_bytes
size_back Byte = refl
size_back Word = refl
size_back Long = refl

pointer_below : (c : Bool) (to from : ℕ) → Holds (pointer_range c to from) → from < 8
pointer_below true to from (inl p) = omega arith
pointer_below true to from (inr p) = omega arith
pointer_below false to from p = omega arith

is_block : (f : Form) (z : Size) (base : Base) (v : ℕ) → Holds (block_range f z (form base v)) → Is ((0x80 + size_step z + f.from) ∷ block_code f.copies f.up f.again ∷ []) (Blocks f) z (form base v)
is_block f z (Indirect r) v h =
    let e : f.size ≡ z = sym (size_back f.size) ∙ (ap size_of_bytes h.1.1.0 ∙ size_back z) in
    let l : Holds (that (no_long f.size)) = subst (λ (y : Size). Holds (that (no_long y))) (sym e) h.1.0 in
    rw (h.1.1.1.0, h.1.1.1.1, ← e)
    (next
    (byte first_rows (0x80 + size_step f.size + f.from) (indirect f.size f.from (pointer_below f.copies f.to f.from h.0)))
    (byte (rows_of f.size (Indirect f.from) 0) (block_code f.copies f.up f.again) (block_byte f.copies f.up f.again f.size f.to f.from l h.0)))
is_block f z (Displaced r) v h = absurd h.1.1.1.0
is_block f z Absolute8 v h = absurd h.1.1.1.0
is_block f z Absolute16 v h = absurd h.1.1.1.0
is_block f z Absolute24 v h = absurd h.1.1.1.0

-- ---- every operation, by the kind of work
of_control : (what : Control) (z : Size) (o : Operand) → Holds (control_range what z o) → Is (control_code what o) (Controls what) z o
unfolding first
of_control Nop z o h = is_alone (Controls Nop) 0x00 refl z o h
of_control Incf z o h = is_alone (Controls Incf) 0x0C refl z o h
of_control Decf z o h = is_alone (Controls Decf) 0x0D refl z o h
of_control Ldf z o h = is_up_to_seven (Controls Ldf) 0x17 refl z o h
of_control Rcf z o h = is_alone (Controls Rcf) 0x10 refl z o h
of_control Scf z o h = is_alone (Controls Scf) 0x11 refl z o h
of_control Ccf z o h = is_alone (Controls Ccf) 0x12 refl z o h
of_control Zcf z o h = is_alone (Controls Zcf) 0x13 refl z o h
of_control Exf z o h = is_alone (Controls Exf) 0x16 refl z o h
of_control Jp16 z o h = is_jump (Controls Jp16) 0x1A 2 refl z o h
of_control Jp24 z o h = is_jump (Controls Jp24) 0x1B 3 refl z o h
of_control (Jr cc) z o h = is_jump (Controls (Jr cc)) (0x60 + cc) 1 (short_jump cc h.0) z o h.1
of_control (Jrl cc) z o h = is_jump (Controls (Jrl cc)) (0x70 + cc) 2 (long_jump cc h.0) z o h.1
of_control Ei z o h = is_up_to_seven (Controls Ei) 0x06 refl z o h

of_stack : (what : Stack) (z : Size) (o : Operand) → Holds (stack_range what z o) → Is (stack_code what z o) (Stacks what) z o
unfolding first
of_stack PushF z o h = is_alone (Stacks PushF) 0x18 refl z o h
of_stack PopF z o h = is_alone (Stacks PopF) 0x19 refl z o h
of_stack Push z o h = is_pushed (Stacks Push) z (0x18 + size_step z) (push z h.0) o h.1
of_stack Pop z o h = is_pushed (Stacks Pop) z (0x38 + size_step z) (pop z h.0) o h.1
of_stack Call16 z o h = is_jump (Stacks Call16) 0x1C 2 refl z o h
of_stack Call24 z o h = is_jump (Stacks Call24) 0x1D 3 refl z o h
of_stack Calr z o h = is_jump (Stacks Calr) 0x1E 2 refl z o h
of_stack Ret z o h = is_alone (Stacks Ret) 0x0E refl z o h

of_interrupt : (what : Interrupt) (z : Size) (o : Operand) → Holds (interrupt_range what z o) → Is (interrupt_code what) (Interrupts what) z o
unfolding first
of_interrupt PushSr z o h = is_alone (Interrupts PushSr) 0x02 refl z o h
of_interrupt PopSr z o h = is_alone (Interrupts PopSr) 0x03 refl z o h
of_interrupt Reti z o h = is_alone (Interrupts Reti) 0x07 refl z o h

of_side : (a : Arith) (other : Side) (z : Size) (o : Operand) → Holds (side_range other z o) → Is (place_code (size_step z) o ++ side_code a other z) (Puts (Compute a other)) z o
of_side a (First r) z o h = place_byte z o (0x80 + 16 * arith_number a + r) h.1 (compute z o a r h.0) (λ more. compute_memory z o more a r h.0)
of_side a (Second r) z o h = memory_byte z o (0x88 + 16 * arith_number a + r) h.1 (λ more. compute_into z o more a r h.0)
of_side a (With n) z o h = register_constant z o (0xC8 + arith_number a) n h.1 h.0 (compute_constant z o a)

of_use : (how : Use) (z : Size) (o : Operand) → Holds (use_range how z o) → Is (use_code how z o) (Puts how) z o
of_use (Number n) z o h = register_constant z o 0x03 n h.1 h.0 (load_constant z o)
of_use (From r) z (Register n) h = register_byte z (Register n) (0x98 + r) h.1 (into z (Register n) r h.0)
of_use (From r) z (Named c) h = register_byte z (Named c) (0x98 + r) h.1 (into z (Named c) r h.0)
of_use (From r) z (Constant v) h = absurd h.1
of_use (From r) z (Memory m) h = after_store (Memory m) h.1 (byte (store_rows (Memory m)) (0x40 + size_step z + r) (store (Memory m) z r h.0))
of_use (Load r) z (Register n) h = register_byte z (Register n) (0x88 + r) h.1 (load z (Register n) r h.0)
of_use (Load r) z (Named c) h = register_byte z (Named c) (0x88 + r) h.1 (load z (Named c) r h.0)
of_use (Load r) z (Constant v) h = absurd h.1
of_use (Load r) z (Memory m) h = memory_byte z (Memory m) (0x20 + r) h.1 (λ more. load_memory z (Memory m) more r h.0)
of_use (Compute a other) z o h = of_side a other z o h
of_use (Changed how) z o h = after_register z o h.1 (of_change how z o h.0)
of_use (Scaled how r) z o h = register_byte z o (0x40 + 8 * scale_number how + r) h.1.1 (scaled_byte z o how r h.0 h.1.0)
of_use (ScaledWith how n) z o h = register_constant z o (0x08 + scale_number how) n h.1.1 h.0 (scaled_with_byte z o how h.1.0)
of_use (Cycled how) z o h = after_register z o h.1 (of_cycle z o how h.0)

pub reads : (op : Op) (z : Size) (o : Operand) → InRange op z o → Is (code_of op z o) op z o
unfolding code_of
reads (Controls what) z o h = of_control what z o h
reads (Stacks what) z o h = of_stack what z o h
reads (Puts how) z o h = of_use how z o h
reads (Sets r) z o h = is_set r h.0 z o h.1
reads (Blocks f) z (Register r) h = absurd h.1.1.1
reads (Blocks f) z (Named c) h = absurd h.1.1.1
reads (Blocks f) z (Constant v) h = absurd h.1.1.1
reads (Blocks f) z (Memory m) h = is_block f z m.base m.number h
reads (Interrupts what) z o h = of_interrupt what z o h
