-- What holds of the parts that codes name, once over the three widths: statements, each proved in proofs/.
use Rattle.std.specs.Prelude.{ℕ, ◌+◌, ◌*◌, ◌/◌, ◌%◌, ◌^◌, ◌<◌, ◌≤◌, ◌≡◌, true, ◌⊎◌, ◌↔◌, List, get_or}
use Rattle.little.specs.{declared.Size.Size, Width.bytes_of, Width.bits_of}
use Rattle.state.specs.declared.{Bank.Bank, State.State}
use Rattle.state.specs.{State.banked, Register.get_bits, Register.register_at, Register.set_register, Sound.Sound}
use Rattle.state.specs.Named.{byte_named, is_named, Bits, bits, nowhere, named, held_in, with_held, code_for}

-- The map, sixteen codes at a time: 00 to 3F the four banks in order, D0 to DF the bank before the current one, E0 to EF the current one,
-- F0 to FF the last sixteen bytes
abbrev pub CodesAre : Type 0
CodesAre =
    (bank i : ℕ) → bank < 4 → i < 16 →
    ((n : ℕ) → n < 4 → byte_named bank (16 * n + i) ≡ 16 * n + i)
    × (byte_named bank (0xD0 + i) ≡ 16 * ((bank + 3) % 4) + i)
    × (byte_named bank (0xE0 + i) ≡ 16 * bank + i)
    × (byte_named bank (0xF0 + i) ≡ 64 + i)

-- byte i of the eighty
abbrev pub byte_in : List ℕ → ℕ → ℕ
byte_in registers i = get_bits (8 * (i % 4)) 8 (get_or registers (i / 4) 0)

-- A code of a size that names a part, in a bank that there is
abbrev pub Names : ℕ → Size → ℕ → Type 0
Names bank z code = (bank < 4) × (code < 256) × (is_named (bytes_of z) code ≡ true)

-- what is written to it reads back; every other byte of the eighty stays, and so does all that is no register; each long keeps to its 32 bits
abbrev pub PartWrites : Type 0
PartWrites =
    (s : State) (bank : ℕ) (z : Size) (code v : ℕ) → Sound s → Names bank z code →
    let part = named bank (bytes_of z) code in
    let after = with_held s part v in
    (held_in after.registers part ≡ v % 2 ^ bits_of z)
    × ((i : ℕ) → (i < byte_named bank code) ⊎ (byte_named bank code + bytes_of z ≤ i) → byte_in after.registers i ≡ byte_in s.registers i)
    × (after ≡ banked s after.registers s.bank)
    × Sound after

-- of two writes to it the last one counts, and it may be written with what it holds
abbrev pub PartRewrites : Type 0
PartRewrites =
    (s : State) (bank : ℕ) (z : Size) (code v w : ℕ) → Sound s → Names bank z code →
    let part = named bank (bytes_of z) code in
    (with_held (with_held s part v) part w ≡ with_held s part w) × (with_held s part (held_in s.registers part) ≡ s)

-- two parts share a bit
abbrev pub Share : Bits → Bits → Type 0
Share (bits i o k) (bits j p l) = (i ≡ j) × ((o < p + l) × (p < o + k))
Share (bits i o k) nowhere = ⊥
Share nowhere t = ⊥

-- two codes name parts that share a bit exactly where their bytes of the eighty overlap, whatever their sizes are
abbrev pub PartsOverlap : Type 0
PartsOverlap =
    (bank : ℕ) (z y : Size) (c d : ℕ) → Names bank z c → Names bank y d →
    Share (named bank (bytes_of z) c) (named bank (bytes_of y) d)
    ↔ ((byte_named bank c < byte_named bank d + bytes_of y) × (byte_named bank d < byte_named bank c + bytes_of z))

-- a write to one leaves what the other holds, where they do not
abbrev pub PartsApart : Type 0
PartsApart =
    (s : State) (bank : ℕ) (z y : Size) (c d v : ℕ) → Sound s → Names bank z c → Names bank y d →
    (byte_named bank d + bytes_of y ≤ byte_named bank c) ⊎ (byte_named bank c + bytes_of z ≤ byte_named bank d) →
    held_in (with_held s (named bank (bytes_of z) c) v).registers (named bank (bytes_of y) d) ≡ held_in s.registers (named bank (bytes_of y) d)

-- the registers 0 to 7 of a size are some of these parts
abbrev pub PlainNames : Type 0
PlainNames =
    (bank : Bank) (z : Size) (r : ℕ) →
    let part = named (bank.0 % 4) (bytes_of z) (code_for z (r % 8)) in
    ((registers : List ℕ) → register_at registers bank z r ≡ held_in registers part)
    × ((s : State) (v : ℕ) → s.bank ≡ bank → set_register s z r v ≡ with_held s part v)
