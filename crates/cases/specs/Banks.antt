-- Registers of every bank, by a code byte (request K1): the timer routine's kind of work.
use Rattle.std.specs.Prelude.{ℕ, List, [], ◌∷◌, Err}
use Rattle.answer.specs.declared.Why.{Why}
use Rattle.answer.specs.declared.Why.TheVariants.{NoCode, Unlisted}
use Rattle.cases.specs.Table.{Case, ComesOut, OfEach, begin, ◌▹◌, ◌&◌, nothing, A, WA, F, Bank, Counter, Nth, row, does}

-- every long is 5A5A5A5A before; of the twenty, 0 is XWA of bank 0, 8 of bank 2, 12 of bank 3, and 16 is XIX
-- a part of a bank that is not used, and the flags that it leaves
unfoldable pub elsewhere : List Case
elsewhere =
    -- INC 1,RA2; INC 1,RW2; INC 1,QA2; INC 1,QW2
    does 1 (begin 0x43 (0xC7 ∷ 0x20 ∷ 0x61 ∷ [])) (Nth 8 0x5A5A5A5B & F 0x01 & Counter 3)
    ∷ does 1 (begin 0x43 (0xC7 ∷ 0x21 ∷ 0x61 ∷ [])) (Nth 8 0x5A5A5B5A & F 0x01 & Counter 3)
    ∷ does 1 (begin 0x43 (0xC7 ∷ 0x22 ∷ 0x61 ∷ [])) (Nth 8 0x5A5B5A5A & F 0x01 & Counter 3)
    ∷ does 1 (begin 0x43 (0xC7 ∷ 0x23 ∷ 0x61 ∷ [])) (Nth 8 0x5B5A5A5A & F 0x01 & Counter 3)
    -- ADD RWA2,1; ADD QWA2,1; LD XWA2,12345678H
    ∷ does 1 (begin 0xD7 (0xD7 ∷ 0x20 ∷ 0xC8 ∷ 0x01 ∷ 0x00 ∷ [])) (Nth 8 0x5A5A5A5B & F 0x00 & Counter 5)
    ∷ does 1 (begin 0xD7 (0xD7 ∷ 0x22 ∷ 0xC8 ∷ 0x01 ∷ 0x00 ∷ [])) (Nth 8 0x5A5B5A5A & F 0x00 & Counter 5)
    ∷ does 1 (begin 0xD7 (0xE7 ∷ 0x20 ∷ 0x03 ∷ 0x78 ∷ 0x56 ∷ 0x34 ∷ 0x12 ∷ [])) (Nth 8 0x12345678 & Counter 7)
    -- SUB XBC3,5A5A5A5AH: H of a long is marked
    ∷ does 1 (begin 0x00 (0xE7 ∷ 0x34 ∷ 0xCA ∷ 0x5A ∷ 0x5A ∷ 0x5A ∷ 0x5A ∷ [])) (Nth 13 0x00000000 & F 0x142 & Counter 7)
    -- LD W,QW2 and LD QA2,A: R is the current bank's
    ∷ does 1 (begin 0xD7 (0xC7 ∷ 0x23 ∷ 0x88 ∷ []) ▹ Nth 8 0x12345678) (WA 0x125A & Counter 3)
    ∷ does 1 (begin 0xD7 (0xC7 ∷ 0x22 ∷ 0x99 ∷ []) ▹ A 0x77) (Nth 8 0x5A775A5A & Counter 3)
    -- LD IXL,A; LD IXH,A; LD QIX,WA
    ∷ does 1 (begin 0xD7 (0xC7 ∷ 0xF0 ∷ 0x99 ∷ []) ▹ A 0x77) (Nth 16 0x5A5A5A77 & Counter 3)
    ∷ does 1 (begin 0xD7 (0xC7 ∷ 0xF1 ∷ 0x99 ∷ []) ▹ A 0x77) (Nth 16 0x5A5A775A & Counter 3)
    ∷ does 1 (begin 0xD7 (0xD7 ∷ 0xF2 ∷ 0x98 ∷ []) ▹ WA 0x1234) (Nth 16 0x12345A5A & Counter 3)
    ∷ []

-- the dashed bank is the one before: of bank 0 bank 3, of bank 3 bank 2; and E0 is the current bank's A
unfoldable pub dashed : List Case
dashed =
    does 1 (begin 0xD7 (0xD7 ∷ 0xD0 ∷ 0x03 ∷ 0x34 ∷ 0x12 ∷ [])) (Nth 12 0x5A5A1234 & Counter 5)
    ∷ does 1 (begin 0xD7 (0xD7 ∷ 0xD0 ∷ 0x03 ∷ 0x34 ∷ 0x12 ∷ []) ▹ Bank 1) (Nth 0 0x5A5A1234 & Counter 5)
    ∷ does 1 (begin 0xD7 (0xD7 ∷ 0xD0 ∷ 0x03 ∷ 0x34 ∷ 0x12 ∷ []) ▹ Bank 3) (Nth 8 0x5A5A1234 & Counter 5)
    ∷ does 1 (begin 0xD7 (0xC7 ∷ 0xE0 ∷ 0x03 ∷ 0x12 ∷ []) ▹ Bank 1) (Nth 4 0x5A5A5A12 & Counter 4)
    ∷ []

-- a count in bank 2 while bank 0 runs: LD A,3; INC 1,RA2; DEC 1,A; JR NZ to the INC; and the count read back by LDF 2; LD B,A; LDF 0
unfoldable pub counting : List Case
counting =
    does 10 (begin 0x01 (0x21 ∷ 0x03 ∷ 0xC7 ∷ 0x20 ∷ 0x61 ∷ 0xC9 ∷ 0x69 ∷ 0x6E ∷ 0xF9 ∷ []))
    (A 0 & Nth 8 0x5A5A5A5D & F 0x43 & Counter 9)
    ∷ does 13 (begin 0x01 (0x21 ∷ 0x03 ∷ 0xC7 ∷ 0x20 ∷ 0x61 ∷ 0xC9 ∷ 0x69 ∷ 0x6E ∷ 0xF9 ∷ 0x17 ∷ 0x02 ∷ 0xC9 ∷ 0x8A ∷ 0x17 ∷ 0x00 ∷ []))
    (A 0 & Nth 8 0x5A5A5A5D & Nth 9 0x5A5A5D5A & F 0x43 & Counter 15)
    ∷ []

-- a code byte that names nothing is 4 at that byte, even where no byte follows; 3 where a byte lacks that could still make it whole
abbrev pub halts : Why → List ℕ → Case
halts w code = row 1 (begin 0xD7 code) [] 0 nothing (Err w)

unfoldable pub unnamed : List Case
unnamed =
    halts Unlisted (0xC7 ∷ 0x40 ∷ [])
    ∷ halts Unlisted (0xC7 ∷ 0xCF ∷ 0x61 ∷ [])
    ∷ halts Unlisted (0xD7 ∷ 0x21 ∷ [])
    ∷ halts Unlisted (0xE7 ∷ 0x22 ∷ [])
    ∷ halts Unlisted (0xC7 ∷ 0x20 ∷ 0x12 ∷ [])
    ∷ halts NoCode (0xC7 ∷ [])
    ∷ halts NoCode (0xC7 ∷ 0x20 ∷ [])
    ∷ halts NoCode (0xD7 ∷ 0x22 ∷ 0xC8 ∷ 0x01 ∷ [])
    ∷ halts NoCode (0xE7 ∷ 0x34 ∷ 0xCA ∷ 0x5A ∷ 0x5A ∷ 0x5A ∷ [])
    ∷ []

abbrev pub BanksHold : Type 0
BanksHold = OfEach ComesOut elsewhere × OfEach ComesOut dashed × OfEach ComesOut counting × OfEach ComesOut unnamed
