-- The byte that is told with 5, and the one with 6.
use Prim.Native.Nat.{ℕ, ◌+◌, ◌-◌, ◌<◌, ◌≤◌, ◌^◌, ◌%◌}
use mathlib.Core.Path.{◌≡◌, refl, ap, sym, ◌∙◌}
use mathlib.Core.List.{List}
use mathlib.Core.Bool.{Bool, true, false, cond}
use mathlib.Core.Logic.{◌⊎◌, inl, inr, ⊎_elim}
use native.Mathlib.Omega.{arith}
use native.Mathlib.Nat.{add-zero, mod-lt, mod-eq_of_lt}
use lib.ListN.{length}
use lib.Dec.{ltb}
use borrow.Author.Tests.{ltb-true, ltb-false}
use Rattle.answer.specs.Number.{why_number, number_of, first_refusal}
use Rattle.answer.specs.declared.Why.{Why}
use Rattle.answer.specs.declared.Why.TheVariants as why
use Rattle.little.specs.declared.Size.{Size}
use Rattle.little.specs.declared.Size.TheVariants.{Byte, Word, Long}
use Rattle.little.specs.Width.{bytes_of}
use Rattle.memory.specs.Access.{code_at, store_to}
use Rattle.memory.specs.Place.{place_of, rom_holds}
use Rattle.memory.specs.inner.Ends.{past_end}
use Rattle.memory.specs.declared.Place.{Place}
use Rattle.memory.specs.declared.Place.TheVariants.{Ram, Rom, Missing}
use Rattle.memory.proofs.Ends.{First, first, in_ram, in_rom, in_none, end_ram, end_rom, end_none, rom_in}
use Rattle.memory.proofs.Laws.{missing_says, rom_fits_lem}
use Rattle.state.specs.declared.State.{State}
use Rattle.code.specs.declared.Base.{Base}
use Rattle.code.specs.declared.Base.TheVariants.{Indirect, Displaced, Absolute8, Absolute16, Absolute24}
use Rattle.code.specs.declared.Operand.{Operand}
use Rattle.code.specs.declared.Operand.TheVariants.{Register, Named, Constant, Memory}
use Rattle.code.specs.declared.Op.{Op}
use Rattle.code.specs.declared.Op.TheVariants.{Controls, Stacks, Puts, Sets, Blocks, Interrupts}
use Rattle.code.specs.declared.Stack.{Stack}
use Rattle.code.specs.declared.Interrupt.{Interrupt}
use Rattle.code.specs.declared.Interrupt.TheVariants.{PushSr, PopSr, Reti}
use Rattle.code.specs.declared.Stack.TheVariants.{PushF, PopF, Push, Pop, Call16, Call24, Calr, Ret}
use Rattle.code.specs.declared.Use.{Use}
use Rattle.code.specs.declared.Use.TheVariants.{Number, From, Load, Compute, Changed, Scaled, ScaledWith, Cycled}
use Rattle.code.specs.declared.Side.TheVariants.{First as FirstSide, Second, With}
use Rattle.code.specs.declared.Instruction.{Instruction}
use Rattle.code.specs.Listed.{decode_of}
use Rattle.operand.specs.Operand.{address_from, address_in}
use Rattle.compute.specs.Compute.{stores_of}
use Rattle.exec.specs.Exec.{past_of}
use Rattle.step.specs.Step.{step_of}
use Rattle.facts.specs.Touched.{Span, none, bytes, operand_span, on_stack, below_stack, stack_read, stack_stored, interrupt_read, interrupt_stored, taken_size, use_read, use_stored, read_of, stored_of, load_to, read_answer, store_answer, operands_answer, answer_by, uses_marked}
use Rattle.facts.specs.Statements.{Within, Passed}
use Rattle.facts.specs.Where.{InRom, FirstApart, OneApart, Reads, Stores, FiveTells, SixTells}
use Rattle.facts.proofs.Statements.{operated, refused_when}
use Rattle.std.proofs.Common.{Ok, Err}
use Rattle.answer.specs.Number.{Answer}

-- ---- one operand whose first byte is below 2^24, within the limits
module _ (ram rom : List ℕ) (a n x : ℕ) (w : Within ram rom) (below : a < 2 ^ 24) (some : 0 < n) where
  apart_ram : length ram < a + n → a < length ram → x ≡ past_end (length ram) (length rom) a → FirstApart ram rom a n x
  apart_ram h f p =
      let told : x ≡ length ram % 2 ^ 24 = p ∙ end_ram (length ram) (length rom) a f in
      let end : x ≡ length ram = told ∙ mod-eq_of_lt (omega (arith, w.0)) in
      let sum : a + (length ram - a) ≡ length ram = omega arith in
      record {
        places = length ram - a;
        inside = omega arith;
        address = rw sum told;
        apart = λ t. ⊎_elim (λ u. omega (arith, u.1)) (λ u. omega (arith, u.0.0, w.0, w.1)) t;
        before = λ j l. let m : (a + j) % 2 ^ 24 ≡ a + j = mod-eq_of_lt (omega (arith, w.0)) in inl (f, rw m (omega arith));
      }

  apart_rom : 2 ^ 24 < a + n → length ram ≤ a → 2 ^ 24 ≤ a + length rom → x ≡ past_end (length ram) (length rom) a → FirstApart ram rom a n x
  apart_rom i f g p =
      let end : x ≡ 0 = p ∙ end_rom (length ram) (length rom) a f g below in
      let sum : a + (2 ^ 24 - a) ≡ 2 ^ 24 = omega arith in
      record {
        places = 2 ^ 24 - a;
        inside = omega arith;
        address = rw sum end;
        apart = λ t. ⊎_elim (λ u. omega (arith, u.0)) (λ u. omega (arith, u.1.0, w.1)) t;
        before = λ j l. let m : (a + j) % 2 ^ 24 ≡ a + j = mod-eq_of_lt (omega arith) in inr ((g, below), rw m (omega arith, omega arith));
      }

  apart_none : length ram ≤ a → rom_holds (length rom) a ≡ false → x ≡ past_end (length ram) (length rom) a → FirstApart ram rom a n x
  apart_none f g p =
      let told : x ≡ a % 2 ^ 24 = p ∙ end_none (length ram) (length rom) a f g in
      record {
        places = 0;
        inside = some;
        address = rw add-zero told;
        apart = λ t. ⊎_elim (λ u. omega (arith, u.0)) (λ u. let z : ◌≡◌ {A = ℕ} 0 1 = ap (λ (b : Bool). cond b 1 0) (sym g ∙ rom_in (length rom) a u.0.0 u.0.1) in omega arith) t;
        before = λ j l. absurd (omega arith);
      }

  first_apart : place_of (length ram) (length rom) a n ≡ Missing x → FirstApart ram rom a n x
  first_apart e = go (missing_says (length ram) (length rom) a n x e) (first (length ram) (length rom) a)
    where
      go :
          (length ram < a + n) × (2 ^ 24 ≤ a + length rom → 2 ^ 24 < a + n) × (x ≡ past_end (length ram) (length rom) a)
          → First (length ram) (length rom) a → FirstApart ram rom a n x
      go (h, i, p) (in_ram f) = apart_ram h f p
      go (h, i, p) (in_rom f g k) = apart_rom (i g) f g p
      go (h, i, p) (in_none f g) = apart_none f g p

-- the byte fewer places on would be apart before the other
apart_later : (ram rom : List ℕ) (a n x y : ℕ) (p : FirstApart ram rom a n x) (q : FirstApart ram rom a n y) → p.places < q.places → ⊥
apart_later ram rom a n x y p q l = p.apart (rw p.address (q.before p.places l))

pub one_apart : OneApart
one_apart ram rom a n x y p q = go (ltb p.places q.places) (ltb q.places p.places) refl refl
  where
    go : (b d : Bool) → ltb p.places q.places ≡ b → ltb q.places p.places ≡ d → x ≡ y
    go true d e f = absurd (apart_later ram rom a n x y p q (ltb-true _ _ e))
    go false true e f = absurd (apart_later ram rom a n y x q p (ltb-true _ _ f))
    go false false e f =
        let same : p.places ≡ q.places = omega (arith, ltb-false p.places q.places e, ltb-false q.places p.places f) in
        p.address ∙ ap (λ (k : ℕ). (a + k) % 2 ^ 24) same ∙ sym q.address

-- ---- the bytes that an instruction touches begin below 2^24, and there is at least one
data Fits : Span → Type 0 where
  fits_none : Fits none
  fits_bytes : {a n : ℕ} → a < 2 ^ 24 → 0 < n → Fits (bytes a n)

round : (x : ℕ) → x % 2 ^ 24 < 2 ^ 24
round x = mod-lt x (omega arith)

size_some : (z : Size) → 0 < bytes_of z
size_some Byte = omega arith
size_some Word = omega arith
size_some Long = omega arith

address_below : (s : State) (b : Base) (n : ℕ) → address_from s.registers s.bank b n < 2 ^ 24
address_below s (Indirect r) n = round _
address_below s (Displaced r) n = round _
address_below s Absolute8 n = round _
address_below s Absolute16 n = round _
address_below s Absolute24 n = round _

operand_fits : (s : State) (z : Size) (o : Operand) → Fits (operand_span s z o)
unfolding address_in
operand_fits s z (Register r) = fits_none
operand_fits s z (Named c) = fits_none
operand_fits s z (Constant n) = fits_none
operand_fits s z (Memory m) = fits_bytes (address_below s m.base m.number) (size_some z)

on_fits : (s : State) (n : ℕ) → 0 < n → Fits (on_stack s n)
on_fits s n h = fits_bytes (round _) h

below_fits : (s : State) (n : ℕ) → 0 < n → Fits (below_stack s n)
below_fits s n h = fits_bytes (round _) h

either_fits : (b : Bool) (x : Span) → Fits x → Fits (cond b x none)
either_fits true x h = h
either_fits false x h = fits_none

stack_read_fits : (what : Stack) (z : Size) (s : State) → Fits (stack_read what z s)
stack_read_fits PushF z s = fits_none
stack_read_fits PopF z s = on_fits s 1 (omega arith)
stack_read_fits Push z s = fits_none
stack_read_fits Pop z s = on_fits s _ (size_some z)
stack_read_fits Call16 z s = fits_none
stack_read_fits Call24 z s = fits_none
stack_read_fits Calr z s = fits_none
stack_read_fits Ret z s = on_fits s 4 (omega arith)

stack_stored_fits : (what : Stack) (z : Size) (s : State) → Fits (stack_stored what z s)
stack_stored_fits PushF z s = below_fits s 1 (omega arith)
stack_stored_fits PopF z s = fits_none
stack_stored_fits Push z s = below_fits s _ (size_some z)
stack_stored_fits Pop z s = fits_none
stack_stored_fits Call16 z s = below_fits s 4 (omega arith)
stack_stored_fits Call24 z s = below_fits s 4 (omega arith)
stack_stored_fits Calr z s = below_fits s 4 (omega arith)
stack_stored_fits Ret z s = fits_none

interrupt_read_fits : (what : Interrupt) (s : State) → Fits (interrupt_read what s)
interrupt_read_fits PushSr s = fits_none
interrupt_read_fits PopSr s = on_fits s 2 (omega arith)
interrupt_read_fits Reti s = on_fits s 6 (omega arith)

interrupt_stored_fits : (what : Interrupt) (s : State) → Fits (interrupt_stored what s)
interrupt_stored_fits PushSr s = below_fits s 2 (omega arith)
interrupt_stored_fits PopSr s = fits_none
interrupt_stored_fits Reti s = fits_none

use_read_fits : (how : Use) (x : Span) → Fits x → Fits (use_read how x)
use_read_fits (Number n) x h = fits_none
use_read_fits (From r) x h = fits_none
use_read_fits (Load r) x h = h
use_read_fits (Compute op other) x h = h
use_read_fits (Changed how) x h = h
use_read_fits (Scaled how r) x h = h
use_read_fits (ScaledWith how n) x h = h
use_read_fits (Cycled how) x h = h

use_stored_fits : (how : Use) (x : Span) → Fits x → Fits (use_stored how x)
use_stored_fits (Number n) x h = h
use_stored_fits (From r) x h = h
use_stored_fits (Load r) x h = fits_none
use_stored_fits (Compute op (FirstSide r)) x h = fits_none
use_stored_fits (Compute op (Second r)) x h = either_fits (stores_of op) x h
use_stored_fits (Compute op (With n)) x h = either_fits (stores_of op) x h
use_stored_fits (Changed how) x h = h
use_stored_fits (Scaled how r) x h = fits_none
use_stored_fits (ScaledWith how n) x h = h
use_stored_fits (Cycled how) x h = h

read_fits : (op : Op) (z : Size) (o : Operand) (s : State) → Fits (read_of op z o s)
unfolding read_of
read_fits (Controls what) z o s = fits_none
read_fits (Stacks what) z o s = stack_read_fits what z s
read_fits (Puts how) z o s = use_read_fits how _ (operand_fits s (taken_size how z) o)
read_fits (Sets r) z o s = fits_none
read_fits (Blocks f) z o s = fits_bytes (round _) (size_some f.size)
read_fits (Interrupts what) z o s = interrupt_read_fits what s

stored_fits : (op : Op) (z : Size) (o : Operand) (s : State) → Fits (stored_of op z o s)
unfolding stored_of
stored_fits (Controls what) z o s = fits_none
stored_fits (Stacks what) z o s = stack_stored_fits what z s
stored_fits (Puts how) z o s = use_stored_fits how _ (operand_fits s (taken_size how z) o)
stored_fits (Sets r) z o s = fits_none
stored_fits (Blocks f) z o s = either_fits f.copies _ (fits_bytes (round _) (size_some f.size))
stored_fits (Interrupts what) z o s = interrupt_stored_fits what s

-- ---- what an answer says of the place
-- a refusal of what is read, or of what is stored
abbrev Either : Answer → Answer → Why → Type 0
Either a b v = (a ≡ Err v) ⊎ (b ≡ Err v)

-- where neither is one
neither : (v : Why) → 1 ≤ why_number v → Either (Ok tt) (Ok tt) v → ⊥
neither v h e = ⊎_elim (λ u. omega (arith, ap number_of u)) (λ u. omega (arith, ap number_of u)) e

either_missing : (p : Place) (a x : ℕ) → Either (load_to p) (store_to p a) (why.Missing x) → p ≡ Missing x
either_missing (Ram o) a x e = absurd (neither (why.Missing x) (omega arith) e)
either_missing (Rom o) a x e = absurd (⊎_elim (λ u. omega (arith, ap number_of u)) (λ u. omega (arith, ap number_of u)) e)
either_missing (Missing y) a x e = ⊎_elim (λ u. cc) (λ u. cc) e

load_rom : (p : Place) (x : ℕ) → load_to p ≡ Err (why.ToRom x) → ⊥
load_rom (Ram o) x e = omega (arith, ap number_of e)
load_rom (Rom o) x e = omega (arith, ap number_of e)
load_rom (Missing y) x e = omega (arith, ap number_of e)

store_rom : (p : Place) (a x : ℕ) → store_to p a ≡ Err (why.ToRom x) → (o : ℕ) × (p ≡ Rom o) × (a ≡ x)
store_rom (Ram o) a x e = absurd (omega (arith, ap number_of e))
store_rom (Rom o) a x e = (o, refl, cc)
store_rom (Missing y) a x e = absurd (omega (arith, ap number_of e))

-- 5 and 6 are the operands'
unmarked : (b : Bool) (a : Answer) (v : Why) → why_number v ≤ 6 → answer_by b a ≡ Err v → a ≡ Err v
unmarked true a v l e = absurd (omega (arith, ap number_of e))
unmarked false a v l e = e

-- the first refusal of two is one of them
one_of : (a b : Answer) (v : Why) → first_refusal a b ≡ Err v → Either a b v
one_of (Ok _) b v e = inr e
one_of (Err u) b v e = inl e

module _ (ram rom : List ℕ) (w : Within ram rom) (x : ℕ) where
  -- the span of which the byte is told
  abbrev Of : Span → Type 0
  Of g = (a : ℕ) × (n : ℕ) × (g ≡ bytes a n) × FirstApart ram rom a n x

  span_of : (g : Span) → Fits g → Either (read_answer ram rom g) (store_answer ram rom g) (why.Missing x) → Of g
  span_of none f e = absurd (neither (why.Missing x) (omega arith) e)
  span_of (bytes a n) (fits_bytes b s) e =
      (a, n, refl, first_apart ram rom a n x w b s (either_missing (place_of (length ram) (length rom) a n) a x e))

  read_not_rom : (r : Span) → read_answer ram rom r ≡ Err (why.ToRom x) → ⊥
  read_not_rom none e = omega (arith, ap number_of e)
  read_not_rom (bytes a n) e = load_rom (place_of (length ram) (length rom) a n) x e

  rom_of : (g : Span) → Fits g → store_answer ram rom g ≡ Err (why.ToRom x) → (n : ℕ) × (g ≡ bytes x n) × InRom rom x
  rom_of none f e = absurd (omega (arith, ap number_of e))
  rom_of (bytes a n) (fits_bytes b s) e = go (store_rom (place_of (length ram) (length rom) a n) a x e)
    where
      go :
          (o : ℕ) × (place_of (length ram) (length rom) a n ≡ Rom o) × (a ≡ x)
          → (m : ℕ) × (bytes a n ≡ bytes x m) × InRom rom x
      go (o, p, q) =
          let fits = rom_fits_lem (length ram) (length rom) a n o p in
          (n, ap (λ (y : ℕ). bytes y n) q, rw (← q) (omega (arith, fits.0), b))

-- ---- of a step
module _ (s : State) (ram rom : List ℕ) (x : ℕ) where
  -- what the instruction reads, and where it stores
  abbrev reads : Instruction → Span
  reads i = read_of i.op i.size i.operand (past_of i.length s)

  abbrev target : Instruction → Span
  target i = stored_of i.op i.size i.operand (past_of i.length s)

  -- it is refused for one of the two
  refused_for :
      (v : Why) → 5 ≤ why_number v → why_number v ≤ 6 → (step_of s ram rom).answer ≡ Err v →
      (i : Instruction) × Within ram rom × (decode_of (code_at ram rom s.counter) ≡ Ok i)
      × Either (read_answer ram rom (reads i)) (store_answer ram rom (target i)) v
  unfolding operands_answer
  refused_for v n l e = go (operated s ram rom (Err v) (inr n) e)
    where
      go :
          (i : Instruction) × (Passed s ram rom × (decode_of (code_at ram rom s.counter) ≡ Ok i))
          → (i : Instruction) × Within ram rom × (decode_of (code_at ram rom s.counter) ≡ Ok i)
          × Either (read_answer ram rom (reads i)) (store_answer ram rom (target i)) v
      go (i, (p, d)) = (i, p.0, d, one_of _ _ v (unmarked (uses_marked i.op s) _ v l (sym ((refused_when s ram rom).operands i p d) ∙ e)))

  five :
      (i : Instruction) → Within ram rom → decode_of (code_at ram rom s.counter) ≡ Ok i →
      Either (read_answer ram rom (reads i)) (store_answer ram rom (target i)) (why.Missing x) →
      (a : ℕ) × (n : ℕ) × (Reads s ram rom a n ⊎ Stores s ram rom a n) × FirstApart ram rom a n x
  five i w d (inl e) =
      let o = span_of ram rom w x (reads i) (read_fits i.op i.size i.operand (past_of i.length s)) (inl e) in
      (o.0, o.1, inl (i, d, o.2), o.3)
  five i w d (inr e) =
      let o = span_of ram rom w x (target i) (stored_fits i.op i.size i.operand (past_of i.length s)) (inr e) in
      (o.0, o.1, inr (i, d, o.2), o.3)

  six :
      (i : Instruction) → Within ram rom → decode_of (code_at ram rom s.counter) ≡ Ok i →
      Either (read_answer ram rom (reads i)) (store_answer ram rom (target i)) (why.ToRom x) →
      (n : ℕ) × Stores s ram rom x n × InRom rom x
  six i w d (inl e) = absurd (read_not_rom ram rom w x (reads i) e)
  six i w d (inr e) =
      let o = rom_of ram rom w x (target i) (stored_fits i.op i.size i.operand (past_of i.length s)) e in
      (o.0, (i, d, o.1), o.2)

pub five_tells : FiveTells
five_tells s ram rom x e = let r = refused_for s ram rom x (why.Missing x) (omega arith) (omega arith) e in five s ram rom x r.0 r.1 r.2 r.3

pub six_tells : SixTells
six_tells s ram rom x e = let r = refused_for s ram rom x (why.ToRom x) (omega arith) (omega arith) e in six s ram rom x r.0 r.1 r.2 r.3
