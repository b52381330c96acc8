-- The parts that codes name: the registers 0 to 7 among them, what a write leaves, and which of them overlap.
use Prim.Native.Nat.{ℕ, ◌+◌, ◌-◌, ◌*◌, ◌/◌, ◌%◌, ◌^◌, ◌<◌, ◌≤◌}
use mathlib.Core.Path.{◌≡◌, refl, sym, ap, subst, ◌∙◌}
use mathlib.Core.Bool.{Bool, true, false, cond, ◌&&◌, ◌||◌}
use mathlib.Core.List.{List}
use mathlib.Core.Logic.{◌⊎◌, inl, inr, ◌↔◌}
use native.Mathlib.Omega.{arith}
use native.Mathlib.Nat.{mod-lt}
use lib.Dec.{ltb, leb, eqb}
use lib.ListN.{get_or, set}
use lib.Seq.{set-set, set-get_or}
use borrow.Author.Tests.{lt-ltb, le-ltb, le-leb, eq-eqb, ne_eqb, eqb-true, eqb-false, ltb-true, leb-true}
use Rattle.little.specs.declared.Size.{Size}
use Rattle.little.specs.declared.Size.TheVariants.{Byte, Word, Long}
use Rattle.little.specs.Width.{bits_of, bytes_of}
use Rattle.state.specs.declared.Bank.{Bank}
use Rattle.state.specs.declared.State.{State}
use Rattle.state.specs.declared.Part.TheVariants.{Byte0, Byte1}
use Rattle.state.specs.declared.named.Field.{Field}
use Rattle.state.specs.State.{banked, long_of, with_long}
use Rattle.state.specs.Register.{get_bits, set_bits, start_of, width_of, slot_of, slot_in, set_slot, register_at, set_register}
use Rattle.state.specs.Named.{sixteen_of, byte_named, is_named, Bits, bits, nowhere, named, held_in, with_held, code_for}
use Rattle.state.specs.Sound.{Sound}
use Rattle.state.specs.Naming.{CodesAre, byte_in, Names, Share, PlainNames, PartWrites, PartRewrites, PartsOverlap, PartsApart}
use Rattle.state.proofs.Bits.{get_set, set_again, set_same, set_lt}
use Rattle.state.proofs.Laws.{long_same, long_other, part_apart, sound_with}
use Rattle.state.proofs.Fields.{byte_current, byte_field, long_field}

-- ---- the registers 0 to 7
current_named : (n c : ℕ) → 0xD0 ≤ c → c % n ≡ 0 → is_named n c ≡ true
current_named n c h e = rw (le-ltb c 0x40 (omega arith), le-leb 0xD0 c (omega arith), eq-eqb (c % n) 0 e) refl

plain : (b : ℕ) (z : Size) (r : ℕ) → r < 8 → named b (bytes_of z) (code_for z r) ≡ bits (slot_of b z r).index (start_of (slot_of b z r).part) (width_of (slot_of b z r).part)
unfolding named slot_of
plain b Byte r h =
    rw (current_named 1 (code_for Byte r) (omega arith) (omega arith))
    (ap (λ (f : Field). bits f.index f.start 8) (sym (byte_field b r h)) ∙ go (eqb (r % 2) 0) refl)
  where
    go : (t : Bool) → eqb (r % 2) 0 ≡ t → bits (4 * b + r / 2) (8 - 8 * (r % 2)) 8 ≡ bits (4 * b + r / 2) (start_of (cond t Byte1 Byte0)) (width_of (cond t Byte1 Byte0))
    go true e = ap (λ (o : ℕ). bits (4 * b + r / 2) o 8) (omega (arith, eqb-true (r % 2) 0 e))
    go false e = ap (λ (o : ℕ). bits (4 * b + r / 2) o 8) (omega (arith, eqb-false (r % 2) 0 e))
plain b Word r h =
    rw (current_named 2 (code_for Word r) (omega arith) (omega arith))
    (ap (λ (f : Field). bits f.index f.start 16) (sym (long_field b r h)))
plain b Long r h =
    rw (current_named 4 (code_for Long r) (omega arith) (omega arith))
    (ap (λ (f : Field). bits f.index f.start 32) (sym (long_field b r h)))

pub plain_code : (z : Size) (r : ℕ) → r < 8 → (code_for z r < 256) × (is_named (bytes_of z) (code_for z r) ≡ true)
plain_code Byte r h = (omega arith, current_named 1 (code_for Byte r) (omega arith) (omega arith))
plain_code Word r h = (omega arith, current_named 2 (code_for Word r) (omega arith) (omega arith))
plain_code Long r h = (omega arith, current_named 4 (code_for Long r) (omega arith) (omega arith))

plain_held : (registers : List ℕ) (bank : Bank) (z : Size) (r : ℕ) → register_at registers bank z r ≡ held_in registers (named (bank.0 % 4) (bytes_of z) (code_for z (r % 8)))
unfolding register_at slot_in held_in
plain_held registers bank z r = rw (plain (bank.0 % 4) z (r % 8) (omega arith)) refl

plain_put : (s : State) (z : Size) (r v : ℕ) → set_register s z r v ≡ with_held s (named (s.bank.0 % 4) (bytes_of z) (code_for z (r % 8))) v
unfolding set_register set_slot with_held
plain_put s z r v = rw (plain (s.bank.0 % 4) z (r % 8) (omega arith)) refl

pub plain_names : PlainNames
plain_names bank z r = (
  λ registers. plain_held registers bank z r,
  λ s v e. rw (← e) (plain_put s z r v),
)

-- ---- where a named part lies: in one of the twenty, and within it
sixteen_lt : (bank d : ℕ) → bank < 4 → sixteen_of bank d < 5
sixteen_lt bank d h = go (eqb d 0xD) (eqb d 0xE) (eqb d 0xF) (mod-lt _ (omega arith))
  where
    go : {n : ℕ} (x y w : Bool) → n < 4 → cond x n (cond y bank (cond w 4 (d % 4))) < 5
    go true y w l = omega arith
    go false true w l = omega arith
    go false false true l = omega arith
    go false false false l = omega arith

-- the map
bank_byte : (bank n i : ℕ) → n < 4 → i < 16 → byte_named bank (16 * n + i) ≡ 16 * n + i
unfolding byte_named
bank_byte bank n i l h =
    let e : (16 * n + i) / 16 ≡ n = omega arith in
    let f : (16 * n + i) % 16 ≡ i = omega arith in
    let d : n % 4 ≡ n = omega arith in
    rw (e, f, ne_eqb n 0xD (λ k. omega arith), ne_eqb n 0xE (λ k. omega arith), ne_eqb n 0xF (λ k. omega arith), d) refl

dashed_byte : (bank i : ℕ) → i < 16 → byte_named bank (0xD0 + i) ≡ 16 * ((bank + 3) % 4) + i
unfolding byte_named
dashed_byte bank i h =
    let e : (0xD0 + i) / 16 ≡ 13 = omega arith in
    let f : (0xD0 + i) % 16 ≡ i = omega arith in
    rw (e, f) refl

last_byte : (bank i : ℕ) → i < 16 → byte_named bank (0xF0 + i) ≡ 64 + i
unfolding byte_named
last_byte bank i h =
    let e : (0xF0 + i) / 16 ≡ 15 = omega arith in
    let f : (0xF0 + i) % 16 ≡ i = omega arith in
    rw (e, f) refl

pub codes_are : CodesAre
codes_are bank i l h = (λ n k. bank_byte bank n i k h, dashed_byte bank i h, byte_current bank i h, last_byte bank i h)

-- what the test says
is_there : (n code : ℕ) → is_named n code ≡ true → ((code < 0x40) ⊎ (0xD0 ≤ code)) × (code % n ≡ 0)
is_there n code e = go (ltb code 0x40) (leb 0xD0 code) (eqb (code % n) 0) refl refl refl e
  where
    no : {A : Type 0} → ◌≡◌ {A = Bool} false true → A
    no e = let z : ◌≡◌ {A = ℕ} 0 1 = cc in let y : ⊥ = omega arith in absurd y

    go : (x y w : Bool) → ltb code 0x40 ≡ x → leb 0xD0 code ≡ y → eqb (code % n) 0 ≡ w → (x || y) && w ≡ true → ((code < 0x40) ⊎ (0xD0 ≤ code)) × (code % n ≡ 0)
    go true y true e f g h = (inl (ltb-true code 0x40 e), eqb-true (code % n) 0 g)
    go false true true e f g h = (inr (leb-true 0xD0 code f), eqb-true (code % n) 0 g)
    go true y false e f g h = no h
    go false true false e f g h = no h
    go false false w e f g h = no h

pub byte_lt : (bank code : ℕ) → bank < 4 → byte_named bank code / 4 < 20
unfolding byte_named
byte_lt bank code h = omega (arith, sixteen_lt bank (code / 16) h)

pub within : (bank : ℕ) (z : Size) (code : ℕ) → is_named (bytes_of z) code ≡ true → byte_named bank code % 4 + bytes_of z ≤ 4
unfolding byte_named
within bank Byte code h = omega arith
within bank Word code h = omega (arith, (is_there 2 code h).1)
within bank Long code h = omega (arith, (is_there 4 code h).1)

eight_bytes : (z : Size) → 8 * bytes_of z ≡ bits_of z
eight_bytes Byte = refl
eight_bytes Word = refl
eight_bytes Long = refl

is_bits : (bank : ℕ) (z : Size) (code : ℕ) → is_named (bytes_of z) code ≡ true → named bank (bytes_of z) code ≡ bits (byte_named bank code / 4) (8 * (byte_named bank code % 4)) (8 * bytes_of z)
unfolding named
is_bits bank z code h = rw h refl

-- a part that is named, by where it begins
pub named_at :
    (bank : ℕ) (z : Size) (code : ℕ) → Names bank z code →
    (named bank (bytes_of z) code ≡ bits (byte_named bank code / 4) (8 * (byte_named bank code % 4)) (bits_of z))
    × (byte_named bank code / 4 < 20) × (8 * (byte_named bank code % 4) + bits_of z ≤ 32)
named_at bank z code h = (
  is_bits bank z code h.2 ∙ ap (bits (byte_named bank code / 4) (8 * (byte_named bank code % 4))) (eight_bytes z),
  byte_lt bank code h.0,
  rw (← eight_bytes z) (omega (arith, within bank z code h.2)),
)

pub plain_at :
    (bank : ℕ) (z : Size) (r : ℕ) → bank < 4 → r < 8 →
    (named bank (bytes_of z) (code_for z r) ≡ bits (byte_named bank (code_for z r) / 4) (8 * (byte_named bank (code_for z r) % 4)) (bits_of z))
    × (byte_named bank (code_for z r) / 4 < 20) × (8 * (byte_named bank (code_for z r) % 4) + bits_of z ≤ 32)
plain_at bank z r h k = let c = plain_code z r k in named_at bank z (code_for z r) (h, c.0, c.1)

is_none : (bank n code : ℕ) → is_named n code ≡ false → named bank n code ≡ nowhere
unfolding named
is_none bank n code h = rw h refl

-- ---- the part of a size y around another, which begins at the multiple of y's bytes
named_there : (bank n code i o k : ℕ) → named bank n code ≡ bits i o k → is_named n code ≡ true
named_there bank n code i o k h = go (is_named n code) refl
  where
    none : {A : Type 0} → nowhere ≡ bits i o k → A
    none e = let z : ◌≡◌ {A = ℕ} 0 1 = cc in let y : ⊥ = omega arith in absurd y

    go : (b : Bool) → is_named n code ≡ b → is_named n code ≡ true
    go true e = e
    go false e = none (sym (is_none bank n code e) ∙ h)

-- a code that is rounded down keeps its high digit
code_rounds : (y : Size) (c : ℕ) → let d = c / bytes_of y * bytes_of y in (d % bytes_of y ≡ 0) × (d / 16 ≡ c / 16) × (d % 16 ≡ c % 16 / bytes_of y * bytes_of y)
code_rounds Byte c = (omega arith, omega arith, omega arith)
code_rounds Word c = (omega arith, omega arith, omega arith)
code_rounds Long c = (omega arith, omega arith, omega arith)

byte_rounds : (y : Size) (k n : ℕ) → 16 * k + n / bytes_of y * bytes_of y ≡ (16 * k + n) / bytes_of y * bytes_of y
byte_rounds Byte k n = omega arith
byte_rounds Word k n = omega arith
byte_rounds Long k n = omega arith

bits_round : (y : Size) (a : ℕ) → let b = a / bytes_of y * bytes_of y in (b / 4 ≡ a / 4) × (8 * (b % 4) ≡ 8 * (a % 4) / bits_of y * bits_of y)
bits_round Byte a = (omega arith, omega arith)
bits_round Word a = (omega arith, omega arith)
bits_round Long a = (omega arith, omega arith)

same_digit : (n c d : ℕ) → d % n ≡ 0 → d / 16 ≡ c / 16 → (c < 0x40) ⊎ (0xD0 ≤ c) → is_named n d ≡ true
same_digit n c d e f (inl l) = rw (lt-ltb d 0x40 (omega arith), eq-eqb (d % n) 0 e) refl
same_digit n c d e f (inr l) = current_named n d (omega arith) e

around_byte : (bank : ℕ) (y : Size) (c : ℕ) → byte_named bank (c / bytes_of y * bytes_of y) ≡ byte_named bank c / bytes_of y * bytes_of y
unfolding byte_named
around_byte bank y c =
    let r = code_rounds y c in
    rw (r.1, r.2) (byte_rounds y (sixteen_of bank (c / 16)) (c % 16))

-- a part with another start, of another width
abbrev around : ℕ → Bits → Bits
around k (bits i o w) = bits i (o / k * k) k
around k nowhere = nowhere

part_around : (bank n : ℕ) (y : Size) (c : ℕ) → is_named n c ≡ true → named bank (bytes_of y) (c / bytes_of y * bytes_of y) ≡ around (bits_of y) (named bank n c)
unfolding named
part_around bank n y c h =
    let r = code_rounds y c in
    let t = bits_round y (byte_named bank c) in
    rw (h, same_digit (bytes_of y) c (c / bytes_of y * bytes_of y) r.0 r.1 (is_there n c h).0, around_byte bank y c, t.0, t.1, eight_bytes y) refl

pub named_around : (bank : ℕ) (z y : Size) (c i o : ℕ) → named bank (bytes_of z) c ≡ bits i o (bits_of z) → named bank (bytes_of y) (c / bytes_of y * bytes_of y) ≡ bits i (o / bits_of y * bits_of y) (bits_of y)
named_around bank z y c i o e = part_around bank (bytes_of z) y c (named_there bank (bytes_of z) c i o (bits_of z) e) ∙ ap (around (bits_of y)) e

-- ---- what a write leaves
sound_bits : (s : State) (i k n v : ℕ) → Sound s → k + n ≤ 4 → Sound (with_held s (bits i (8 * k) (8 * n)) v)
unfolding with_held long_of
sound_bits s i k n v ok h =
    let e : 32 - (8 * k + 8 * n) + 8 * n + 8 * k ≡ 32 = omega arith in
    sound_with s i _ ok (rw e at (set_lt (8 * k) (8 * n) (32 - (8 * k + 8 * n)) (get_or s.registers i 0) v (rw e (ok.fit i))))

sound_none : (s : State) (v : ℕ) → Sound s → Sound (with_held s nowhere v)
unfolding with_held
sound_none s v ok = ok

bits_kept :
    (s : State) (i o k v j p q : ℕ) → Sound s → i < 20 → (j ≡ i → (p + q ≤ o) ⊎ (o + k ≤ p)) →
    get_bits p q (long_of (with_long s i (set_bits o k (long_of s i) v)) j) ≡ get_bits p q (long_of s j)
bits_kept s i o k v j p q ok h far = go (eqb j i) refl
  where
    go : (t : Bool) → eqb j i ≡ t → get_bits p q (long_of (with_long s i (set_bits o k (long_of s i) v)) j) ≡ get_bits p q (long_of s j)
    go true e = let f : j ≡ i = eqb-true j i e in rw (f, long_same s i (set_bits o k (long_of s i) v) ok h) (part_apart o k p q (long_of s i) v (far f))
    go false e = ap (get_bits p q) (long_other s i j (set_bits o k (long_of s i) v) (eqb-false j i e))

written_back : (s : State) (i o k v : ℕ) → Sound s → i < 20 → held_in (with_held s (bits i o k) v).registers (bits i o k) ≡ v % 2 ^ k
unfolding held_in with_held long_of
written_back s i o k v ok h = ap (get_bits o k) (long_same s i (set_bits o k (long_of s i) v) ok h) ∙ get_set o k (long_of s i) v

held_kept : (s : State) (i o k v j p q : ℕ) → Sound s → i < 20 → (j ≡ i → (p + q ≤ o) ⊎ (o + k ≤ p)) → held_in (with_held s (bits i o k) v).registers (bits j p q) ≡ held_in s.registers (bits j p q)
unfolding held_in with_held long_of
held_kept s i o k v j p q ok h far = bits_kept s i o k v j p q ok h far

pub sound_held : (s : State) (bank : ℕ) (z : Size) (code v : ℕ) → Sound s → Sound (with_held s (named bank (bytes_of z) code) v)
sound_held s bank z code v ok = go (is_named (bytes_of z) code) refl
  where
    go : (b : Bool) → is_named (bytes_of z) code ≡ b → Sound (with_held s (named bank (bytes_of z) code) v)
    go true e = subst (λ (t : Bits). Sound (with_held s t v)) (sym (is_bits bank z code e)) (sound_bits s (byte_named bank code / 4) (byte_named bank code % 4) (bytes_of z) v ok (within bank z code e))
    go false e = subst (λ (t : Bits). Sound (with_held s t v)) (sym (is_none bank (bytes_of z) code e)) (sound_none s v ok)

-- of two parts, by the bytes of the eighty where they begin and how many they have: in one long they do not overlap where these do not
lies_apart : (a n b m : ℕ) → a % 4 + n ≤ 4 → b % 4 + m ≤ 4 → (b + m ≤ a) ⊎ (a + n ≤ b) → b / 4 ≡ a / 4 → (8 * (b % 4) + 8 * m ≤ 8 * (a % 4)) ⊎ (8 * (a % 4) + 8 * n ≤ 8 * (b % 4))
lies_apart a n b m h k (inl l) e = inl (omega arith)
lies_apart a n b m h k (inr l) e = inr (omega arith)

only_registers : (s : State) (t : Bits) (v : ℕ) → with_held s t v ≡ banked s (with_held s t v).registers s.bank
unfolding with_held with_long
only_registers s (bits i o k) v = refl
only_registers s nowhere v = refl

other_byte :
    (s : State) (bank : ℕ) (z : Size) (code v : ℕ) → Sound s → Names bank z code → (i : ℕ) → (i < byte_named bank code) ⊎ (byte_named bank code + bytes_of z ≤ i) →
    byte_in (with_held s (named bank (bytes_of z) code) v).registers i ≡ byte_in s.registers i
unfolding held_in
other_byte s bank z code v ok h i far =
    let a = byte_named bank code in
    rw (is_bits bank z code h.2)
    (held_kept s (a / 4) (8 * (a % 4)) (8 * bytes_of z) v (i / 4) (8 * (i % 4)) 8 ok (byte_lt bank code h.0)
    (lies_apart a (bytes_of z) i 1 (within bank z code h.2) (omega arith) (one_byte far)))
  where
    one_byte : (i < byte_named bank code) ⊎ (byte_named bank code + bytes_of z ≤ i) → (i + 1 ≤ byte_named bank code) ⊎ (byte_named bank code + bytes_of z ≤ i)
    one_byte (inl l) = inl (omega arith)
    one_byte (inr l) = inr l

read_back : (s : State) (bank : ℕ) (z : Size) (code v : ℕ) → Sound s → Names bank z code → held_in (with_held s (named bank (bytes_of z) code) v).registers (named bank (bytes_of z) code) ≡ v % 2 ^ bits_of z
read_back s bank z code v ok h =
    let a = byte_named bank code in
    rw (is_bits bank z code h.2, ← eight_bytes z)
    (written_back s (a / 4) (8 * (a % 4)) (8 * bytes_of z) v ok (byte_lt bank code h.0))

pub part_writes : PartWrites
part_writes s bank z code v ok h = (
  read_back s bank z code v ok h,
  other_byte s bank z code v ok h,
  only_registers s (named bank (bytes_of z) code) v,
  sound_held s bank z code v ok,
)

-- ---- a part that is written again
written_twice : (s : State) (i o k v w : ℕ) → Sound s → i < 20 → with_held (with_held s (bits i o k) v) (bits i o k) w ≡ with_held s (bits i o k) w
unfolding with_held with_long
written_twice s i o k v w ok h =
    let x = long_of s i in
    ap (λ (y : ℕ). banked s (set (set s.registers i (set_bits o k x v)) i (set_bits o k y w)) s.bank) (long_same s i (set_bits o k x v) ok h)
    ∙ ap (λ (l : List ℕ). banked s l s.bank) (set-set s.registers i (set_bits o k x v) (set_bits o k (set_bits o k x v) w))
    ∙ ap (λ (y : ℕ). banked s (set s.registers i y) s.bank) (set_again o k x v w)

written_same : (s : State) (i o k : ℕ) → with_held s (bits i o k) (held_in s.registers (bits i o k)) ≡ s
unfolding with_held with_long held_in long_of
written_same s i o k =
    ap (λ (y : ℕ). banked s (set s.registers i y) s.bank) (set_same o k (get_or s.registers i 0))
    ∙ ap (λ (l : List ℕ). banked s l s.bank) (set-get_or s.registers i 0)

pub part_rewrites : PartRewrites
part_rewrites s bank z code v w ok h =
    let a = byte_named bank code in
    rw (is_bits bank z code h.2) (
      written_twice s (a / 4) (8 * (a % 4)) (8 * bytes_of z) v w ok (byte_lt bank code h.0),
      written_same s (a / 4) (8 * (a % 4)) (8 * bytes_of z),
    )

pub parts_apart : PartsApart
parts_apart s bank z y c d v ok h k far =
    let a = byte_named bank c in
    let b = byte_named bank d in
    rw (is_bits bank z c h.2, is_bits bank y d k.2)
    (held_kept s (a / 4) (8 * (a % 4)) (8 * bytes_of z) v (b / 4) (8 * (b % 4)) (8 * bytes_of y) ok (byte_lt bank c h.0)
    (lies_apart a (bytes_of z) b (bytes_of y) (within bank z c h.2) (within bank y d k.2) far))

-- ---- which of them overlap
overlaps : (a n b m : ℕ) → a % 4 + n ≤ 4 → b % 4 + m ≤ 4 → Share (bits (a / 4) (8 * (a % 4)) (8 * n)) (bits (b / 4) (8 * (b % 4)) (8 * m)) ↔ ((a < b + m) × (b < a + n))
overlaps a n b m h k = (
  λ w. (omega (arith, w.0, w.1.0, w.1.1), omega (arith, w.0, w.1.0, w.1.1)),
  λ w. (omega (arith, w.0, w.1), (omega (arith, w.0, w.1), omega (arith, w.0, w.1))),
)

pub parts_overlap : PartsOverlap
parts_overlap bank z y c d h k =
    rw (is_bits bank z c h.2, is_bits bank y d k.2)
    (overlaps (byte_named bank c) (bytes_of z) (byte_named bank d) (bytes_of y) (within bank z c h.2) (within bank y d k.2))
