-- Registers as parts of the twenty longs: what an instruction reads there and puts there, whatever the counter is.
use Prim.Native.Nat.{ℕ, ◌+◌, ◌*◌, ◌/◌, ◌%◌, ◌^◌, ◌<◌, ◌≤◌}
use mathlib.Core.Path.{◌≡◌, refl, sym, ap, ◌∙◌, subst}
use mathlib.Core.List.{List}
use mathlib.Core.Bool.{Bool, true, false, ◌||◌}
use mathlib.Core.Logic.{◌⊎◌, inl, inr}
use native.Mathlib.Omega.{arith}
use native.Mathlib.Nat.{mod-eq_of_lt}
use lib.Dec.{eqb, leb, ltb}
use lib.ListN.{get_or}
use borrow.Author.Tests.{eqb-true, eqb-false, ltb-true, ltb-false}
use Rattle.little.specs.declared.Size.{Size}
use Rattle.little.specs.declared.Size.TheVariants.{Byte, Word, Long}
use Rattle.little.specs.Width.{bytes_of, bits_of}
use Rattle.flags.specs.declared.Flags.{Flags}
use Rattle.state.specs.declared.Bank.{Bank}
use Rattle.state.specs.declared.State.{State}
use Rattle.state.specs.State.{long_of, with_long, with_counter, with_flags, with_both_flags}
use Rattle.state.specs.Named.{sixteen_of, byte_named, is_named, Bits, bits, nowhere, named, held_in, with_held, code_for}
use Rattle.state.specs.Naming.{Names}
use Rattle.state.specs.Sound.{Sound}
use Rattle.state.proofs.Bits.{get_lt}
use Rattle.state.proofs.Valid.{and_true}
use Rattle.state.proofs.Naming.{plain_names, plain_code, named_at, part_writes, part_rewrites, parts_apart}
use Rattle.code.specs.declared.Operand.{Operand}
use Rattle.code.specs.declared.Operand.TheVariants.{Register, Named, Constant, Memory}
use Rattle.code.specs.Range.{InRegisters}
use Rattle.code.proofs.Holds.{that_so}
use Rattle.operand.specs.Try.{did}
use Rattle.operand.specs.Flag.{flagged}
use Rattle.operand.specs.Operand.{value_in, value_at, put_at}
use Rattle.std.proofs.Common.{Ok}

-- ---- which part an operand is
abbrev pub code_in : Size → Operand → ℕ
code_in z (Register r) = code_for z (r % 8)
code_in z (Named c) = c
code_in z (Constant n) = 0
code_in z (Memory m) = 0

abbrev pub part : State → Size → Operand → Bits
part s z o = named (s.bank.0 % 4) (bytes_of z) (code_in z o)

pub names : (s : State) (z : Size) (o : Operand) → InRegisters z o → Names (s.bank.0 % 4) z (code_in z o)
names s z (Register r) h = let c = plain_code z (r % 8) (omega arith) in (omega arith, c.0, c.1)
names s z (Named c) h = (omega arith, h.0, that_so (is_named (bytes_of z) c) h.1)
names s z (Constant n) h = absurd h
names s z (Memory m) h = absurd h

pub value_is : (s : State) (ram rom : List ℕ) (z : Size) (o : Operand) → InRegisters z o → value_at s ram rom z o ≡ Ok (held_in s.registers (part s z o))
unfolding value_in
value_is s ram rom z (Register r) h = ap Ok ((plain_names s.bank z r).0 s.registers)
value_is s ram rom z (Named c) h = refl
value_is s ram rom z (Constant n) h = absurd h
value_is s ram rom z (Memory m) h = absurd h

pub put_is : (s : State) (ram rom : List ℕ) (z : Size) (o : Operand) (v : ℕ) → InRegisters z o → put_at s ram rom z o v ≡ did (with_held s (part s z o) v) ram
put_is s ram rom z (Register r) v h = ap (λ (t : State). did t ram) ((plain_names s.bank z r).1 s v refl)
put_is s ram rom z (Named c) v h = refl
put_is s ram rom z (Constant n) v h = absurd h
put_is s ram rom z (Memory m) v h = absurd h

-- ---- a write keeps the bank, and goes with the counter and with the flags
pub held_bank : (s : State) (p : Bits) (v : ℕ) → (with_held s p v).bank ≡ s.bank
unfolding with_held with_long
held_bank s (bits i o k) v = refl
held_bank s nowhere v = refl

-- so an operand stays the part that it was
pub part_stays : (s : State) (p : Bits) (v : ℕ) (z : Size) (o : Operand) → part (with_held s p v) z o ≡ part s z o
part_stays s p v z o = ap (λ (b : Bank). named (b.0 % 4) (bytes_of z) (code_in z o)) (held_bank s p v)

pub held_counter : (s : State) (c : ℕ) (p : Bits) (v : ℕ) → with_held (with_counter s c) p v ≡ with_counter (with_held s p v) c
unfolding with_held with_long with_counter long_of
held_counter s c (bits i o k) v = refl
held_counter s c nowhere v = refl

pub held_flagged : (s : State) (f : Flags) (p : Bits) (v : ℕ) → with_held (flagged s f) p v ≡ flagged (with_held s p v) f
unfolding with_held with_long flagged with_flags with_both_flags long_of
held_flagged s f (bits i o k) v = refl
held_flagged s f nowhere v = refl

-- ---- what a part holds
field_lt : (l : List ℕ) (i o k : ℕ) → held_in l (bits i o k) < 2 ^ k
unfolding held_in
field_lt l i o k = get_lt o k (get_or l i 0)

module _ (s : State) (z : Size) (o : Operand) (h : InRegisters z o) where
  pub held_lt : held_in s.registers (part s z o) < 2 ^ bits_of z
  held_lt =
      subst (λ (p : Bits). held_in s.registers p < 2 ^ bits_of z) (sym (named_at (s.bank.0 % 4) z (code_in z o) (names s z o h)).0)
      (field_lt s.registers (byte_named (s.bank.0 % 4) (code_in z o) / 4) (8 * (byte_named (s.bank.0 % 4) (code_in z o) % 4)) (bits_of z))

  module _ (ok : Sound s) where
    -- what is written is held
    pub held_back : (v : ℕ) → v < 2 ^ bits_of z → held_in (with_held s (part s z o) v).registers (part s z o) ≡ v
    held_back v l = (part_writes s (s.bank.0 % 4) z (code_in z o) v ok (names s z o h)).0 ∙ mod-eq_of_lt l

    -- of two writes the last one counts, and it may be written with what it holds
    pub held_twice : (v w : ℕ) → with_held (with_held s (part s z o) v) (part s z o) w ≡ with_held s (part s z o) w
    held_twice v w = (part_rewrites s (s.bank.0 % 4) z (code_in z o) v w ok (names s z o h)).0

    pub held_same : with_held s (part s z o) (held_in s.registers (part s z o)) ≡ s
    held_same = (part_rewrites s (s.bank.0 % 4) z (code_in z o) 0 0 ok (names s z o h)).1

-- ---- two parts of one size are one part, or they lie apart
-- a code that names n bytes is a multiple of n, and so is where they begin
multiple : (n c : ℕ) → is_named n c ≡ true → c % n ≡ 0
multiple n c h = eqb-true (c % n) 0 (and_true (ltb c 0x40 || leb 0xD0 c) (eqb (c % n) 0) h).1

aligned : (bank : ℕ) (z : Size) (c : ℕ) → is_named (bytes_of z) c ≡ true → byte_named bank c % bytes_of z ≡ 0
unfolding byte_named
aligned bank z c h = go z (multiple (bytes_of z) c h) (sixteen_of bank (c / 16))
  where
    go : (z : Size) → c % bytes_of z ≡ 0 → (k : ℕ) → (16 * k + c % 16) % bytes_of z ≡ 0
    go Byte e k = omega arith
    go Word e k = omega arith
    go Long e k = omega arith

far : (z : Size) (a b : ℕ) → a % bytes_of z ≡ 0 → b % bytes_of z ≡ 0 → (a ≡ b) ⊎ ((b + bytes_of z ≤ a) ⊎ (a + bytes_of z ≤ b))
far z a b e f = go (eqb a b) (ltb a b) refl refl
  where
    up : (z : Size) (a b : ℕ) → a % bytes_of z ≡ 0 → b % bytes_of z ≡ 0 → a < b → a + bytes_of z ≤ b
    up Byte a b e f h = omega arith
    up Word a b e f h = omega arith
    up Long a b e f h = omega arith

    go : (x y : Bool) → eqb a b ≡ x → ltb a b ≡ y → (a ≡ b) ⊎ ((b + bytes_of z ≤ a) ⊎ (a + bytes_of z ≤ b))
    go true y g h = inl (eqb-true a b g)
    go false true g h = inr (inr (up z a b e f (ltb-true a b h)))
    go false false g h = inr (inl (up z b a f e (omega (arith, ltb-false a b h, eqb-false a b g))))

module _ (s : State) (z : Size) (o p : Operand) (h : InRegisters z o) (k : InRegisters z p) (ok : Sound s) where
  -- what is copied from one to the other is held by both
  pub copied_held : held_in (with_held s (part s z o) (held_in s.registers (part s z p))).registers (part s z p) ≡ held_in s.registers (part s z p)
  copied_held = go (far z a b (aligned bank z (code_in z o) n.2) (aligned bank z (code_in z p) m.2))
    where
      bank : ℕ
      bank = s.bank.0 % 4

      a : ℕ
      a = byte_named bank (code_in z o)

      b : ℕ
      b = byte_named bank (code_in z p)

      n : Names bank z (code_in z o)
      n = names s z o h

      m : Names bank z (code_in z p)
      m = names s z p k

      v : ℕ
      v = held_in s.registers (part s z p)

      go : (a ≡ b) ⊎ ((b + bytes_of z ≤ a) ⊎ (a + bytes_of z ≤ b)) → held_in (with_held s (part s z o) v).registers (part s z p) ≡ v
      go (inl e) =
          let one : part s z o ≡ part s z p = (named_at bank z (code_in z o) n).0 ∙ ap (λ (x : ℕ). bits (x / 4) (8 * (x % 4)) (bits_of z)) e ∙ sym (named_at bank z (code_in z p) m).0 in
          ap (λ (x : Bits). held_in (with_held s x v).registers (part s z p)) one ∙ held_back s z p k ok v (held_lt s z p k)
      go (inr e) = parts_apart s bank z z (code_in z o) (code_in z p) v ok n m e
