-- What EI does to the interrupt level, and which steps touch the nesting count, proved.
use Prim.Native.Nat.{ℕ, ◌%◌, ◌<◌, ◌≤◌}
use mathlib.Core.Path.{◌≡◌, refl, sym, ap, ◌∙◌, subst}
use mathlib.Core.List.{List, ◌∷◌}
use mathlib.Core.Logic.{inl}
use native.Mathlib.Omega.{arith}
use lib.ListN.{length}
use borrow.Author.Tests.{lt-ltb}
use Rattle.answer.specs.Number.{number_of}
use Rattle.little.specs.declared.Size.{Size}
use Rattle.little.specs.declared.Size.TheVariants.{Byte, Long}
use Rattle.memory.specs.Access.{code_at, load_bytes}
use Rattle.state.specs.State.{with_level, with_nesting, with_bank, with_flags, with_both_flags, with_counter, with_long}
use Rattle.state.specs.Register.{set_slot, get_register, set_register}
use Rattle.state.specs.Named.{Bits, bits, nowhere, with_held}
use Rattle.state.specs.declared.State.{State}
use Rattle.state.proofs.Valid.{Valid, valid_says}
use Rattle.code.specs.declared.Op.{Op}
use Rattle.code.specs.declared.Op.TheVariants.{Controls, Interrupts}
use Rattle.code.specs.declared.Control.TheVariants.{Ei}
use Rattle.code.specs.declared.Interrupt.TheVariants.{Reti}
use Rattle.code.specs.declared.Operand.{Operand}
use Rattle.code.specs.declared.Operand.TheVariants.{Constant}
use Rattle.code.specs.declared.Instruction.{Instruction}
use Rattle.code.specs.Listed.{decode_of}
use Rattle.code.specs.Written.{code_of}
use Rattle.code.proofs.Exact.{reads_back}
use Rattle.code.proofs.FirstRows.{first}
use Rattle.control.specs.Control.{control_of}
use Rattle.operand.specs.Try.{Try, Outcome, leaves, with_loaded, did}
use Rattle.operand.specs.Operand.{pointer_of}
use Rattle.operand.specs.Flag.{flagged}
use Rattle.operand.specs.Round.{less, plus}
use Rattle.stack.specs.Stack.{with_stack}
use Rattle.interrupt.specs.Interrupt.{interrupt_of, with_sr, returned}
use Rattle.exec.specs.Exec.{past_of, effect_of, executed_of}
use Rattle.step.specs.Step.{step_of}
use Rattle.facts.specs.Statements.{Passed}
use Rattle.facts.specs.Levels.{EiSets, StepCounts}
use Rattle.facts.proofs.Touched.{Kept}
use Rattle.facts.proofs.Kept.{valid_kept}
use Rattle.facts.proofs.Banks.{past_seven}
use Rattle.facts.proofs.Statements.{not_long, step_judged, step_whole, operated, left}
use Rattle.std.proofs.Common.{Ok, Err}
use Rattle.memory.specs.Access.{Loaded}
use Rattle.code.specs.declared.Unread.TheVariants.{Unlisted}

-- ---- EI
abbrev ei : ℕ → Instruction
ei n = record { op = Controls Ei; size = Byte; operand = Constant n; length = 2 }

is_ei : (n : ℕ) (rest : List ℕ) → n < 8 → decode_of (0x06 ∷ n ∷ rest) ≡ Ok (ei n)
unfolding code_of
is_ei n rest h = reads_back (Controls Ei) Byte (Constant n) rest (rw (lt-ltb n 8 h) refl)

no_ei : (n : ℕ) (rest : List ℕ) → 8 ≤ n → decode_of (0x06 ∷ n ∷ rest) ≡ Err Unlisted
unfolding first
no_ei = past_seven (Controls Ei) 0x06 refl

pub ei_sets : EiSets
unfolding past_of with_counter executed_of effect_of control_of with_level
ei_sets s ram rom rest n p e = (
  λ h.
      let m : n % 8 ≡ n = omega arith in
      rw m at (step_whole s ram rom (ei n) p (ap decode_of e ∙ is_ei n rest h)),
  λ h. step_judged s ram rom (Err Unlisted) (not_long (length ram) (length rom) p.0.0 p.0.1) p.1 (ap decode_of e ∙ no_ei n rest h),
)

-- ---- the nesting count
part_nesting : (s : State) (t : Bits) (v : ℕ) → (with_held s t v).nesting ≡ s.nesting
unfolding with_held with_long
part_nesting s (bits i o k) v = refl
part_nesting s nowhere v = refl

module _ (c : ℕ) where
  -- a valid state with this count
  abbrev Counting : State → Type 0
  Counting s = Valid s × (s.nesting ≡ c)

  -- nothing but RETI changes it
  counting_kept : Kept Counting
  unfolding set_register set_slot with_long with_counter with_bank with_level with_flags with_both_flags flagged
  counting_kept =
      record {
        parts = λ s z e v ok. (valid_kept.parts s z e v ok.0, part_nesting s _ v ∙ ok.1);
        counters = λ s n ok. (valid_kept.counters s n ok.0, ok.1);
        banks = λ s b ok. (valid_kept.banks s b ok.0, ok.1);
        levels = λ s l ok. (valid_kept.levels s l ok.0, ok.1);
        fitting = λ s ok. valid_kept.fitting s ok.0;
        flags = λ s f x ok. (valid_kept.flags s f x ok.0, ok.1);
        exchanges = λ s ok. (valid_kept.exchanges s ok.0, ok.1);
      }

-- what RETI leaves of it
returned_counts : (s : State) (v : ℕ) → (returned s v).nesting ≡ less 16 s.nesting 1
unfolding returned with_sr with_counter with_nesting with_flags with_both_flags with_bank with_level
returned_counts s v = omega arith

popped_counts :
    (s : State) (ram : List ℕ) (c : ℕ) (f : ℕ → State) → ((v : ℕ) → (f v).nesting ≡ c) → (l : Loaded) →
    (leaves s ram (with_loaded l (λ v. did (f v) ram))).answer ≡ Ok tt → (leaves s ram (with_loaded l (λ v. did (f v) ram))).state.nesting ≡ c
popped_counts s ram c f h (Ok v) e = h v
popped_counts s ram c f h (Err x) e = absurd (omega (arith, ap number_of e))

-- an operation done takes one off
abbrev OneOff : State → State → List ℕ → Try → Type 0
OneOff s t ram x = (leaves s ram x).answer ≡ Ok tt → (leaves s ram x).state.nesting ≡ less 16 t.nesting 1

reti_counts : (z : Size) (o : Operand) (at : ℕ) (s t : State) (ram rom : List ℕ) → OneOff s t ram (effect_of (Interrupts Reti) z o at t ram rom)
unfolding effect_of interrupt_of set_register set_slot with_long
reti_counts z o at s t ram rom d =
    let x = plus 32 (get_register t Long 7) 6 in
    popped_counts s ram _ (returned (with_stack t x)) (λ v. returned_counts (with_stack t x) v) (load_bytes ram rom (pointer_of t 7) 6) d

executed_counts : (s : State) (ram rom : List ℕ) (i : Instruction) → i.op ≡ Interrupts Reti → OneOff s s ram (executed_of i s ram rom)
unfolding executed_of past_of with_counter
executed_counts s ram rom i e =
    let t = past_of i.length s in
    subst (λ (op : Op). OneOff s t ram (effect_of op i.size i.operand s.counter t ram rom)) (sym e) (reti_counts i.size i.operand s.counter s t ram rom)

pub step_counts : StepCounts
step_counts s ram rom i d = go (operated s ram rom (Ok tt) (inl refl) d.0)
  where
    go : (j : Instruction) × (Passed s ram rom × (decode_of (code_at ram rom s.counter) ≡ Ok j)) →
        (i.op ≡ Interrupts Reti → (step_of s ram rom).state.nesting ≡ less 16 s.nesting 1)
        × ((i.op ≡ Interrupts Reti → ⊥) → (step_of s ram rom).state.nesting ≡ s.nesting)
    go (j, (p, h)) = (
      λ e.
          let w = step_whole s ram rom i p d.1 in
          ap (λ (x : Outcome). x.state.nesting) w ∙ executed_counts s ram rom i e (sym (ap (λ (x : Outcome). x.answer) w) ∙ d.0),
      λ e. (left s ram rom (Counting s.nesting) (counting_kept s.nesting) (valid_says s p.1, refl) i (λ r. absurd (e r)) p d.1 d.0).0.1,
    )
