-- C8+r and C7 with the code of r do the same.
use Prim.Native.Nat.{ℕ, ◌+◌, ◌*◌, ◌/◌, ◌%◌, ◌^◌, ◌<◌}
use mathlib.Core.Path.{◌≡◌, refl, sym, ap, ◌∙◌}
use mathlib.Core.List.{List, [], ◌∷◌, ◌++◌}
use mathlib.Core.Bool.{cond, true}
use mathlib.Core.Logic.{inl, inr}
use native.Mathlib.Omega.{arith}
use lib.ListN.{length}
use Rattle.little.specs.declared.Size.{Size}
use Rattle.little.specs.declared.Size.TheVariants.{Byte, Word, Long}
use Rattle.little.specs.Width.{bytes_of, bits_of, twice_of}
use Rattle.flags.specs.declared.Computed.{Computed}
use Rattle.alu.specs.declared.Arith.{Arith}
use Rattle.alu.specs.Change.{changed}
use Rattle.feed.specs.declared.scale.Scale.{Scale}
use Rattle.feed.specs.Scale.{scaled}
use Rattle.feed.specs.Cycle.{cycled}
use Rattle.state.specs.declared.Bank.{Bank}
use Rattle.state.specs.declared.State.{State}
use Rattle.state.specs.State.{with_counter}
use Rattle.state.specs.Register.{get_register, set_register}
use Rattle.state.specs.Named.{code_for, is_named}
use Rattle.state.specs.inner.Lent.{standing_at}
use Rattle.state.proofs.Naming.{plain_names, plain_code}
use Rattle.code.specs.declared.Use.{Use}
use Rattle.code.specs.declared.Use.TheVariants.{Number, From, Load, Compute, Changed, Scaled, ScaledWith, Cycled}
use Rattle.code.specs.declared.Side.TheVariants.{First, Second, With}
use Rattle.code.specs.declared.Operand.{Operand}
use Rattle.code.specs.declared.Operand.TheVariants.{Register, Named}
use Rattle.code.specs.Range.{Holds, register_range}
use Rattle.code.specs.Said.{judge}
use Rattle.code.specs.Rows.{by_rows}
use Rattle.code.specs.Registers.{register_rows, is_low}
use Rattle.code.specs.Listed.{decode_of}
use Rattle.code.specs.Written.{size_step, place_code}
use Rattle.code.specs.inner.Parts.{longer}
use Rattle.code.proofs.Holds.{so_that}
use Rattle.code.proofs.ReadsBack.{register_begun_lem}
use Rattle.code.proofs.Later.{judged_later}
use Rattle.code.proofs.Alike.{Alike, alike}
use Rattle.code.proofs.Tables.{table}
use Rattle.operand.specs.Try.{Try, did, with_loaded}
use Rattle.operand.specs.Flag.{flags_in, flagged}
use Rattle.operand.specs.Operand.{value_in, put_at, wide_of}
use Rattle.compute.specs.Compute.{computed, result_in, stores_of, answer_in, scaled_at, puts_of}
use Rattle.exec.specs.Exec.{past_of, effect_of, executed_of, done}
use Rattle.facts.specs.ByCode.{SameByCode}
use Rattle.std.proofs.Common.{Ok}
use Rattle.memory.specs.Access.{Loaded}
use Rattle.code.specs.Unread.{Decoded}

-- ---- what is put
module _ (z : Size) (r : ℕ) (h : r < 8) where
  same_value : (registers : List ℕ) (bank : Bank) (ram rom : List ℕ) → value_in registers bank ram rom z (Named (code_for z r)) ≡ value_in registers bank ram rom z (Register r)
  unfolding value_in
  same_value registers bank ram rom =
      let e : r % 8 ≡ r = omega arith in
      ap Ok (sym (rw e at ((plain_names bank z r).0 registers)))

  same_put : (s : State) (ram rom : List ℕ) (v : ℕ) → put_at s ram rom z (Named (code_for z r)) v ≡ put_at s ram rom z (Register r) v
  same_put s ram rom v =
      let e : r % 8 ≡ r = omega arith in
      ap (λ (t : State). did t ram) (sym (rw e at ((plain_names s.bank z r).1 s v refl)))

  same_result : (s : State) (ram rom : List ℕ) (x : Computed) → result_in s ram rom z (Named (code_for z r)) x ≡ result_in s ram rom z (Register r) x
  same_result s ram rom x = same_put (flagged s x.flags) ram rom x.value

  same_answer : (op : Arith) (s : State) (ram rom : List ℕ) (x : Computed) → answer_in op s ram rom z (Named (code_for z r)) x ≡ answer_in op s ram rom z (Register r) x
  same_answer op s ram rom x = ap (λ (t : Try). cond (stores_of op) t (did (flagged s x.flags) ram)) (same_result s ram rom x)

  -- the same of what is twice as wide
  same_scaled : (y : Size) → twice_of y ≡ z → (how : Scale) (v : ℕ) (s : State) (ram rom : List ℕ) → scaled_at how y (Named (code_for z r)) v s ram rom ≡ scaled_at how y (Register r) v s ram rom
  unfolding scaled_at value_in
  same_scaled y e how v s ram rom =
      rw e
      (ap (λ (l : Loaded). with_loaded l (λ x. result_in s ram rom z (Named (code_for z r)) (scaled how (bits_of z / 2) x v (flags_in s)))) (same_value s.registers s.bank ram rom)
      ∙ same_result s ram rom _)

-- the wider one of a register's code is the code of its wider one
byte_wide : (r : ℕ) → r < 8 → code_for Byte r / 2 * 2 ≡ code_for Word (r / 2)
byte_wide = table _ _ 8 refl

same_wide : (z : Size) (r : ℕ) → r < 8 → (how : Scale) (v : ℕ) (s : State) (ram rom : List ℕ) → scaled_at how z (wide_of z (Named (code_for z r))) v s ram rom ≡ scaled_at how z (wide_of z (Register r)) v s ram rom
same_wide Byte r h how v s ram rom =
    let e : r % 8 / 2 ≡ r / 2 = omega arith in
    rw (byte_wide r h, e) (same_scaled Word (r / 2) (omega arith) Byte refl how v s ram rom)
same_wide Word r h how v s ram rom =
    let e : (0xE0 + 4 * r) / 4 * 4 ≡ 0xE0 + 4 * r = omega arith in
    rw e (same_scaled Long r h Word refl how v s ram rom)
same_wide Long r h how v s ram rom = same_scaled Long r h Long refl how v s ram rom

-- ---- what is put by both
module _ (z : Size) (r : ℕ) (h : r < 8) where
  same_puts : (how : Use) (s : State) (ram rom : List ℕ) → puts_of how z (Named (code_for z r)) s ram rom ≡ puts_of how z (Register r) s ram rom
  unfolding puts_of value_in
  same_puts (Number n) s ram rom = same_put z r h s ram rom n
  same_puts (From n) s ram rom = same_put z r h s ram rom (get_register s z n)
  same_puts (Load n) s ram rom = ap (λ (l : Loaded). with_loaded l (λ v. did (set_register s z n v) ram)) (same_value z r h s.registers s.bank ram rom)
  same_puts (Compute op (First n)) s ram rom =
      ap (λ (l : Loaded). with_loaded l (λ v. answer_in op s ram rom z (Register n) (computed s op z (get_register s z n) v))) (same_value z r h s.registers s.bank ram rom)
  same_puts (Compute op (Second n)) s ram rom =
      ap (λ (l : Loaded). with_loaded l (λ v. answer_in op s ram rom z (Named (code_for z r)) (computed s op z v (get_register s z n)))) (same_value z r h s.registers s.bank ram rom)
      ∙ same_answer z r h op s ram rom _
  same_puts (Compute op (With n)) s ram rom =
      ap (λ (l : Loaded). with_loaded l (λ v. answer_in op s ram rom z (Named (code_for z r)) (computed s op z v n))) (same_value z r h s.registers s.bank ram rom)
      ∙ same_answer z r h op s ram rom _
  same_puts (Changed how) s ram rom =
      ap (λ (l : Loaded). with_loaded l (λ v. result_in s ram rom z (Named (code_for z r)) (changed how (bits_of z) v (flags_in s)))) (same_value z r h s.registers s.bank ram rom)
      ∙ same_result z r h s ram rom _
  same_puts (Scaled how n) s ram rom = ap (λ (l : Loaded). with_loaded l (λ v. scaled_at how z (wide_of z (Register n)) v s ram rom)) (same_value z r h s.registers s.bank ram rom)
  same_puts (ScaledWith how n) s ram rom = same_wide z r h how n s ram rom
  same_puts (Cycled how) s ram rom =
      ap (λ (l : Loaded). with_loaded l (λ v. put_at s ram rom z (Named (code_for z r)) (cycled how (bits_of z) v))) (same_value z r h s.registers s.bank ram rom)
      ∙ same_put z r h s ram rom _

-- both are lower halves, or neither
low_alike : (z : Size) (r : ℕ) → r < 8 → is_low z (Register r) ≡ is_low z (Named (code_for z r))
low_alike Byte = table _ _ 8 refl
low_alike Word = table _ _ 8 refl
low_alike Long = table _ _ 8 refl

-- ---- what is read: the bytes of the operand, and then by the rows that all operands have
begun : (z : Size) (o : Operand) (rest : List ℕ) → Holds (register_range z o) → decode_of (place_code (size_step z) o ++ rest) ≡ judge (by_rows (register_rows z o)) (place_code (size_step z) o ++ rest) (0 + length (place_code (size_step z) o))
unfolding decode_of
begun z o rest h = (register_begun_lem z o h).judged [] rest

short_form : (z : Size) (r : ℕ) (rest : List ℕ) → r < 8 → decode_of ((0xC8 + size_step z + r) ∷ rest) ≡ longer 1 (judge (by_rows (register_rows z (Register r))) rest 0)
short_form z r rest h = begun z (Register r) rest h ∙ judged_later 1 ((0xC8 + size_step z + r) ∷ rest) (omega arith) (by_rows (register_rows z (Register r))) 0

long_form : (z : Size) (c : ℕ) (rest : List ℕ) → c < 256 → is_named (bytes_of z) c ≡ true → decode_of ((0xC7 + size_step z) ∷ c ∷ rest) ≡ longer 2 (judge (by_rows (register_rows z (Named c))) rest 0)
long_form z c rest l e = begun z (Named c) rest (l, so_that e) ∙ judged_later 2 ((0xC7 + size_step z) ∷ c ∷ rest) (omega arith) (by_rows (register_rows z (Named c))) 0

-- ---- what is done
done_alike :
    (z : Size) (r : ℕ) → r < 8 → (s : State) (before : ℕ) (ram rom : List ℕ) → s.counter ≡ (before + 1) % 2 ^ 24 → (d e : Decoded) →
    Alike z (Register r) (Named (code_for z r)) d e → done (longer 2 e) (standing_at s before) ram rom ≡ done (longer 1 d) s ram rom
unfolding executed_of effect_of past_of with_counter
done_alike z r h s before ram rom k d e (inl w) =
    let past : (before + (2 + w.1)) % 2 ^ 24 ≡ (s.counter + (1 + w.1)) % 2 ^ 24 = omega (arith, k) in
    rw (w.2, w.3, past) (same_puts z r h w.0 (standing_at s ((s.counter + (1 + w.1)) % 2 ^ 24)) ram rom)
done_alike z r h s before ram rom k d e (inr (inl w)) = rw (w.0, w.1) refl
done_alike z r h s before ram rom k d e (inr (inr w)) = rw (w.0, w.1) refl

pub same_by_code : SameByCode
unfolding with_counter
same_by_code z r rest s before ram rom h k =
    let c = plain_code z r h in
    rw (short_form z r rest h, long_form z (code_for z r) rest c.0 c.1)
    (done_alike z r h s (before % 2 ^ 24) ram rom (omega (arith, k)) _ _ (alike z (Register r) (Named (code_for z r)) (low_alike z r h) rest 0))
