-- The names of the registers, as one table: for each name, what it holds in a state where no byte is like another, and what a
-- write to it leaves. All numbers but 01's codes and places are in hex.
use Rattle.std.specs.Prelude.{ℕ, ◌≡◌, List, [], ◌∷◌, map, set}
use Rattle.little.specs.{declared.Size.Size, Width.bytes_of}
use Rattle.little.specs.declared.Size.TheVariants.{Byte, Word, Long}
use Rattle.state.specs.{declared.State.State, State.lent, State.reset_state, Register.get_register, Register.set_register, Named.Bits, Named.nowhere, Named.named, Named.held_in, Named.with_held}

-- twenty longs, no two bytes alike: XWA XBC XDE XHL of bank 0, of bank 1, of bank 2 and of bank 3, then XIX XIY XIZ XSP.
-- 003 draws XWA as QW QA W A, from the high byte down: in bank 2 these are 23 22 21 20
abbrev pub longs : List ℕ
longs =
    0x03020100 ∷ 0x07060504 ∷ 0x0B0A0908 ∷ 0x0F0E0D0C ∷
    0x13121110 ∷ 0x17161514 ∷ 0x1B1A1918 ∷ 0x1F1E1D1C ∷
    0x23222120 ∷ 0x27262524 ∷ 0x2B2A2928 ∷ 0x2F2E2D2C ∷
    0x33323130 ∷ 0x37363534 ∷ 0x3B3A3938 ∷ 0x3F3E3D3C ∷
    0x43424140 ∷ 0x47464544 ∷ 0x4B4A4948 ∷ 0x4F4E4D4C ∷ []

-- a state with these registers, in bank 2, with a counter, F and F' that are not 0 either
abbrev pub in_bank_two : List ℕ → State
in_bank_two registers = lent (reset_state 0) registers 0x123456 2 0x51 0x82

-- a register: what it holds, and what a write of FFEEDDCC leaves; by 01's code, 0 to 7, and by the code byte of request K1
abbrev Told : Type 0
Told = (ℕ × State) × (ℕ × State)

abbrev by_register : Size → ℕ → ℕ × State
by_register size r = (get_register (in_bank_two longs) size r, set_register (in_bank_two longs) size r 0xFFEEDDCC)

abbrev coded : Size → ℕ → ℕ × State
coded size code =
    let part = named 2 (bytes_of size) code in
    (held_in longs part, with_held (in_bank_two longs) part 0xFFEEDDCC)

-- a size, 01's code and the code byte; what that register holds, and which of the twenty longs, counted from 0, the write changes and into what
abbrev is : Size → ℕ → ℕ → ℕ → ℕ → ℕ → Told × Told
is size r code holds place becomes =
    let says : ℕ × State = (holds, in_bank_two (set longs place becomes)) in
    ((by_register size r, coded size code), (says, says))

-- the table, as what is computed and what it must be: of FFEEDDCC a byte takes CC and a word DDCC
abbrev pub names : List (Told × Told)
names =
    is Byte 0 0xE1 0x21 8 0x2322CC20 ∷ is Byte 1 0xE0 0x20 8 0x232221CC ∷  -- W, A
    is Byte 2 0xE5 0x25 9 0x2726CC24 ∷ is Byte 3 0xE4 0x24 9 0x272625CC ∷  -- B, C
    is Byte 4 0xE9 0x29 10 0x2B2ACC28 ∷ is Byte 5 0xE8 0x28 10 0x2B2A29CC ∷  -- D, E
    is Byte 6 0xED 0x2D 11 0x2F2ECC2C ∷ is Byte 7 0xEC 0x2C 11 0x2F2E2DCC ∷  -- H, L
    is Word 0 0xE0 0x2120 8 0x2322DDCC ∷ is Word 1 0xE4 0x2524 9 0x2726DDCC ∷  -- WA, BC
    is Word 2 0xE8 0x2928 10 0x2B2ADDCC ∷ is Word 3 0xEC 0x2D2C 11 0x2F2EDDCC ∷  -- DE, HL
    is Word 4 0xF0 0x4140 16 0x4342DDCC ∷ is Word 5 0xF4 0x4544 17 0x4746DDCC ∷  -- IX, IY
    is Word 6 0xF8 0x4948 18 0x4B4ADDCC ∷ is Word 7 0xFC 0x4D4C 19 0x4F4EDDCC ∷  -- IZ, SP
    is Long 0 0xE0 0x23222120 8 0xFFEEDDCC ∷ is Long 1 0xE4 0x27262524 9 0xFFEEDDCC ∷  -- XWA, XBC
    is Long 2 0xE8 0x2B2A2928 10 0xFFEEDDCC ∷ is Long 3 0xEC 0x2F2E2D2C 11 0xFFEEDDCC ∷  -- XDE, XHL
    is Long 4 0xF0 0x43424140 16 0xFFEEDDCC ∷ is Long 5 0xF4 0x47464544 17 0xFFEEDDCC ∷  -- XIX, XIY
    is Long 6 0xF8 0x4B4A4948 18 0xFFEEDDCC ∷ is Long 7 0xFC 0x4F4E4D4C 19 0xFFEEDDCC ∷ []  -- XIZ, XSP

-- and by a code byte alone, where bank 2 is the current one: a code byte, what that part holds, which long the write changes and into what
abbrev by : Size → ℕ → ℕ → ℕ → ℕ → (ℕ × State) × (ℕ × State)
by size code holds place becomes = (coded size code, (holds, in_bank_two (set longs place becomes)))

abbrev pub parts_named : List ((ℕ × State) × (ℕ × State))
parts_named =
    by Byte 0x00 0x00 0 0x030201CC ∷ by Byte 0x01 0x01 0 0x0302CC00 ∷  -- RA0, RW0
    by Byte 0x02 0x02 0 0x03CC0100 ∷ by Byte 0x03 0x03 0 0xCC020100 ∷  -- QA0, QW0
    by Word 0x3C 0x3D3C 15 0x3F3EDDCC ∷ by Word 0x3E 0x3F3E 15 0xDDCC3D3C ∷  -- RHL3, QHL3
    by Long 0x3C 0x3F3E3D3C 15 0xFFEEDDCC ∷ by Byte 0x20 0x20 8 0x232221CC ∷  -- XHL3, RA2
    by Byte 0xD0 0x10 4 0x131211CC ∷ by Word 0xDE 0x1F1E 7 0xDDCC1D1C ∷ by Long 0xD4 0x17161514 5 0xFFEEDDCC ∷  -- A', QHL', XBC': bank 1
    by Byte 0xE2 0x22 8 0x23CC2120 ∷ by Word 0xE2 0x2322 8 0xDDCC2120 ∷  -- QA, QWA
    by Byte 0xF3 0x43 16 0xCC424140 ∷ by Word 0xFE 0x4F4E 19 0xDDCC4D4C ∷ []  -- QIXH, QSP

-- the dashed bank of bank 0 is bank 3; and codes that name nothing
abbrev pub others_are : List (Bits × Bits)
others_are =
    (named 0 1 0xD0, named 2 1 0x30) ∷ (named 1 4 0xDC, named 2 4 0x0C) ∷ (named 3 2 0xD2, named 2 2 0x22) ∷
    (named 2 1 0x40, nowhere) ∷ (named 2 1 0xCF, nowhere) ∷ (named 2 2 0x21, nowhere) ∷ (named 2 2 0xF1, nowhere) ∷ (named 2 4 0x22, nowhere) ∷ (named 2 4 0xE6, nowhere) ∷ []

-- each name holds what its row says, and a write to it leaves what its row says and all else as it was
abbrev pub NamesHold : Type 0
NamesHold =
    (map (λ n. n.0) names ≡ map (λ n. n.1) names)
    × (map (λ n. n.0) parts_named ≡ map (λ n. n.1) parts_named)
    × (map (λ n. n.0) others_are ≡ map (λ n. n.1) others_are)
