-- Operands in the registers: where they begin, what they hold, and what is left where one is put.
use Rattle.std.proofs.Common.{◌≡◌, ℕ, ◌+◌, ◌-◌, ◌*◌, ◌/◌, ◌%◌, ◌<◌, ◌≤◌, Bool, true, false, cond, ◌&&◌, ◌||◌, eqb, ltb, leb, List, sym, refl, ap, ◌∙◌, arith, lt-ltb, eq-eqb, ne_eqb, eqb-true, Ok}
use borrow.Author.Tests.{eqb-false}
use Rattle.little.specs.declared.Size.{Size}
use Rattle.little.specs.declared.Size.TheVariants.{Byte, Word, Long}
use Rattle.little.specs.Width.{bits_of, bytes_of, twice_of}
use Rattle.state.specs.declared.Bank.{Bank}
use Rattle.state.specs.declared.State.{State}
use Rattle.state.specs.declared.named.Field.{Field}
use Rattle.state.specs.State.{banked, with_long, long_of}
use Rattle.state.specs.Register.{register_at, set_register}
use Rattle.state.specs.Named.{sixteen_of, byte_named, is_named, code_for, Bits, bits, nowhere, named, held_in, with_held}
use Rattle.state.specs.inner.Field.{field_in, wide_at, PutWithin}
use Rattle.state.proofs.Fields.{start_stays}
use Rattle.state.proofs.Naming.{plain_names, named_at, plain_at, named_around}
use Rattle.code.specs.declared.Operand.{Operand}
use Rattle.code.specs.declared.Operand.TheVariants.{Register, Named, Constant, Memory}
use Rattle.code.specs.Registers.{is_low}
use Rattle.code.specs.Range.{Holds, that, register_range}
use Rattle.operand.specs.Try.{did}
use Rattle.operand.specs.Operand.{value_in, put_at, wide_of}
use Rattle.operand.specs.inner.Placed.{placed, field_of, BeginsAt, low_at}

-- a register 0 to 7 is where its code is, and what a code byte names is there
pub register_at_lem : (bank : Bank) (z : Size) (r : ℕ) → BeginsAt bank z (Register r) (field_of bank z (Register r))
unfolding placed
register_at_lem bank z r = let p = plain_at (bank.0 % 4) z (r % 8) (omega arith) (omega arith) in record { there = p.0; known = p.1; within = p.2 }

code_at : (bank : Bank) (z : Size) (c : ℕ) → c < 256 → (b : Bool) → is_named (bytes_of z) c ≡ b → Holds (that b) → BeginsAt bank z (Named c) (field_of bank z (Named c))
unfolding placed
code_at bank z c l true e h = let p = named_at (bank.0 % 4) z c (omega arith, l, e) in record { there = p.0; known = p.1; within = p.2 }
code_at bank z c l false e h = absurd h

pub chosen_at : (bank : Bank) (z : Size) (o : Operand) → Holds (register_range z o) → BeginsAt bank z o (field_of bank z o)
chosen_at bank z (Register r) h = register_at_lem bank z r
chosen_at bank z (Named c) h = code_at bank z c h.0 (is_named (bytes_of z) c) refl h.1
chosen_at bank z (Constant n) h = absurd h
chosen_at bank z (Memory m) h = absurd h

-- what a part that is there holds, and what it leaves
held_at : (registers : List ℕ) (z : Size) (f : Field) (t : Bits) → t ≡ bits f.index f.start (bits_of z) → f.index < 20 → f.start + bits_of z ≤ 32 → held_in registers t ≡ field_in registers z f
unfolding held_in field_in
held_at registers z f t e k w = rw (e, lt-ltb f.index 20 k, start_stays z f.start w) refl

put_there : (s : State) (z : Size) (f : Field) (t : Bits) (v : ℕ) (after : List ℕ) → t ≡ bits f.index f.start (bits_of z) → f.index < 20 → f.start + bits_of z ≤ 32 → PutWithin s.registers after z f v → with_held s t v ≡ banked s after s.bank
unfolding with_held with_long long_of
put_there s z f t v after e k w p = rw (e, p k w) refl

-- a register 0 to 7, read and written
pub register_held : (registers : List ℕ) (bank : Bank) (z : Size) (r : ℕ) → register_at registers bank z r ≡ field_in registers z (field_of bank z (Register r))
unfolding placed
register_held registers bank z r =
    let a = register_at_lem bank z r in
    (plain_names bank z r).0 registers ∙ held_at registers z (field_of bank z (Register r)) _ a.there a.known a.within

pub register_put : (s : State) (z : Size) (r v : ℕ) (after : List ℕ) → PutWithin s.registers after z (field_of s.bank z (Register r)) v → set_register s z r v ≡ banked s after s.bank
unfolding placed
register_put s z r v after p =
    let a = register_at_lem s.bank z r in
    (plain_names s.bank z r).1 s v refl ∙ put_there s z (field_of s.bank z (Register r)) _ v after a.there a.known a.within p

nothing : {A : Type 0} (i o k : ℕ) → nowhere ≡ bits i o k → A
nothing i o k e = let z : ◌≡◌ {A = ℕ} 0 1 = cc in let y : ⊥ = omega arith in absurd y

pub value_at_lem : (registers : List ℕ) (bank : Bank) (ram rom : List ℕ) (z : Size) (o : Operand) (f : Field) → BeginsAt bank z o f → value_in registers bank ram rom z o ≡ Ok (field_in registers z f)
unfolding value_in placed
value_at_lem registers bank ram rom z (Register r) f a = ap Ok ((plain_names bank z r).0 registers ∙ held_at registers z f _ a.there a.known a.within)
value_at_lem registers bank ram rom z (Named c) f a = ap Ok (held_at registers z f _ a.there a.known a.within)
value_at_lem registers bank ram rom z (Constant n) f a = nothing _ _ _ a.there
value_at_lem registers bank ram rom z (Memory m) f a = nothing _ _ _ a.there

pub put_at_lem : (s : State) (ram rom : List ℕ) (z : Size) (o : Operand) (f : Field) (v : ℕ) (after : List ℕ) → BeginsAt s.bank z o f → PutWithin s.registers after z f v → put_at s ram rom z o v ≡ did (banked s after s.bank) ram
unfolding placed
put_at_lem s ram rom z (Register r) f v after a p = ap (λ (t : State). did t ram) ((plain_names s.bank z r).1 s v refl ∙ put_there s z f _ v after a.there a.known a.within p)
put_at_lem s ram rom z (Named c) f v after a p = ap (λ (t : State). did t ram) (put_there s z f _ v after a.there a.known a.within p)
put_at_lem s ram rom z (Constant n) f v after a p = nothing _ _ _ a.there
put_at_lem s ram rom z (Memory m) f v after a p = nothing _ _ _ a.there

-- ---- what is twice as wide begins at the multiple of its bytes
byte_code : (r : ℕ) → code_for Word (r % 8 / 2 % 8) ≡ code_for Byte (r % 8) / 2 * 2
byte_code r = omega arith

word_code : (r : ℕ) → code_for Long (r % 8) ≡ code_for Word (r % 8) / 4 * 4
word_code r = omega arith

at_first : (f : Field) → f.start + 32 ≤ 32 → bits f.index f.start 32 ≡ bits f.index (f.start / 64 * 64) 32
at_first f w = ap (λ (o : ℕ). bits f.index o 32) (omega arith)

wide_there :
    (bank : Bank) (z : Size) (o : Operand) (f : Field) → placed bank z o ≡ bits f.index f.start (bits_of z) → f.start + bits_of z ≤ 32 →
    placed bank (twice_of z) (wide_of z o) ≡ bits f.index (wide_at z f).start (bits_of (twice_of z))
unfolding placed
wide_there bank Byte (Register r) f e w = rw (byte_code r) (named_around (bank.0 % 4) Byte Word (code_for Byte (r % 8)) f.index f.start e)
wide_there bank Word (Register r) f e w = rw (word_code r) (named_around (bank.0 % 4) Word Long (code_for Word (r % 8)) f.index f.start e)
wide_there bank Long (Register r) f e w = e ∙ at_first f w
wide_there bank Byte (Named c) f e w = named_around (bank.0 % 4) Byte Word c f.index f.start e
wide_there bank Word (Named c) f e w = named_around (bank.0 % 4) Word Long c f.index f.start e
wide_there bank Long (Named c) f e w = e ∙ at_first f w
wide_there bank z (Constant n) f e w = nothing _ _ _ e
wide_there bank z (Memory m) f e w = nothing _ _ _ e

wide_within : (z : Size) (f : Field) → f.start + bits_of z ≤ 32 → (wide_at z f).start + bits_of (twice_of z) ≤ 32
wide_within Byte f w = omega arith
wide_within Word f w = omega arith
wide_within Long f w = omega arith

pub wide_at_lem : (bank : Bank) (z : Size) (o : Operand) (f : Field) → BeginsAt bank z o f → BeginsAt bank (twice_of z) (wide_of z o) (wide_at z f)
wide_at_lem bank z o f a = record { there = wide_there bank z o f a.there a.within; known = a.known; within = wide_within z f a.within }

-- ---- whether it is the lower half of what is twice as wide
same_test : (a b c d : ℕ) → (c ≡ d → a ≡ b) → (a ≡ b → c ≡ d) → eqb a b ≡ eqb c d
same_test a b c d f g = go (eqb c d) refl
  where
    go : (t : Bool) → eqb c d ≡ t → eqb a b ≡ t
    go true e = eq-eqb a b (f (eqb-true c d e))
    go false e = ne_eqb a b (λ (h : a ≡ b). eqb-false c d e (g h))

both_left : (x w : Bool) → x && w ≡ true → x ≡ true
both_left true w e = refl
both_left false w e = e

-- the first bit of a part
abbrev first_of : Bits → ℕ
first_of (bits i o k) = o
first_of nowhere = 0

-- a code's part begins by its low two bits
byte_low : (bank c : ℕ) → 8 * (byte_named bank c % 4) ≡ 8 * (c % 4)
unfolding byte_named
byte_low bank c = go (sixteen_of bank (c / 16))
  where
    go : (k : ℕ) → 8 * ((16 * k + c % 16) % 4) ≡ 8 * (c % 4)
    go k = omega arith

start_is : (bank n c i o k : ℕ) → named bank n c ≡ bits i o k → (is_named n c ≡ true) × (o ≡ 8 * (c % 4))
unfolding named
start_is bank n c i o k e = go (is_named n c) refl e
  where
    go : (t : Bool) → is_named n c ≡ t → cond t (bits (byte_named bank c / 4) (8 * (byte_named bank c % 4)) (8 * n)) nowhere ≡ bits i o k → (is_named n c ≡ true) × (o ≡ 8 * (c % 4))
    go true h d = (h, sym (ap first_of d) ∙ byte_low bank c)
    go false h d = nothing i o k d

-- a code that names n bytes names m where it is a multiple of m
also_named : (n m c : ℕ) → is_named n c ≡ true → is_named m c ≡ eqb (c % m) 0
also_named n m c h = rw (both_left (ltb c 0x40 || leb 0xD0 c) (eqb (c % n) 0) h) refl

half_of : (c : ℕ) → 8 * (c % 4) % 16 ≡ 8 * (c % 2)
half_of c =
    let d : c % 4 % 2 ≡ c % 2 = omega arith in
    rw (← d) (go (c % 4))
  where
    go : (x : ℕ) → 8 * x % 16 ≡ 8 * (x % 2)
    go x = omega arith

whole_of : (c : ℕ) → 8 * (c % 4) % 32 ≡ 8 * (c % 4)
whole_of c = omega arith

-- A C E L have the even codes
byte_half : (r : ℕ) → code_for Byte (r % 8) % 4 ≡ 1 - r % 2
byte_half r =
    let d : r % 8 % 2 ≡ r % 2 = omega arith in
    rw d (go (r % 8 / 2) (1 - r % 2) (omega arith))
  where
    go : (q b : ℕ) → b < 2 → (0xE0 + 4 * q + b) % 4 ≡ b
    go q b h = omega arith

low_there : (bank : Bank) (z : Size) (o : Operand) (f : Field) → placed bank z o ≡ bits f.index f.start (bits_of z) → is_low z o ≡ low_at z f
unfolding placed
low_there bank Byte (Register r) f e =
    let s : f.start ≡ 8 * (1 - r % 2) = (start_is (bank.0 % 4) 1 (code_for Byte (r % 8)) _ _ _ e).1 ∙ ap (λ (n : ℕ). 8 * n) (byte_half r) in
    let m : f.start % 16 ≡ 8 * (1 - r % 2) = omega (arith, s) in
    same_test (r % 2) 1 (f.start % 16) 0 (λ h. omega (arith, m, h)) (λ h. omega (arith, m, h))
low_there bank Word (Register r) f e =
    let s : f.start ≡ 8 * (code_for Word (r % 8) % 4) = (start_is (bank.0 % 4) 2 (code_for Word (r % 8)) _ _ _ e).1 in
    sym (eq-eqb (f.start % 32) 0 (omega (arith, s)))
low_there bank Long (Register r) f e = refl
low_there bank Byte (Named c) f e =
    let s = start_is (bank.0 % 4) 1 c _ _ _ e in
    let m : f.start % 16 ≡ 8 * (c % 2) = ap (λ (n : ℕ). n % 16) s.1 ∙ half_of c in
    also_named 1 2 c s.0 ∙ same_test (c % 2) 0 (f.start % 16) 0 (λ h. omega (arith, m, h)) (λ h. omega (arith, m, h))
low_there bank Word (Named c) f e =
    let s = start_is (bank.0 % 4) 2 c _ _ _ e in
    let m : f.start % 32 ≡ 8 * (c % 4) = ap (λ (n : ℕ). n % 32) s.1 ∙ whole_of c in
    also_named 2 4 c s.0 ∙ same_test (c % 4) 0 (f.start % 32) 0 (λ h. omega (arith, m, h)) (λ h. omega (arith, m, h))
low_there bank Long (Named c) f e = refl
low_there bank z (Constant n) f e = nothing _ _ _ e
low_there bank z (Memory m) f e = nothing _ _ _ e

pub low_at_lem : (bank : Bank) (z : Size) (o : Operand) (f : Field) → BeginsAt bank z o f → is_low z o ≡ low_at z f
low_at_lem bank z o f a = low_there bank z o f a.there
