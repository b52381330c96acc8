-- MUL, MULS, DIV, DIVS, MINC and MDEC by their codes (request K7).
use Rattle.std.specs.Prelude.{List, [], ◌∷◌}
use Rattle.answer.specs.declared.Why.TheVariants.{NoCode, Unlisted}
use Rattle.cases.specs.Table.{Case, ComesOut, OfEach, begin, ◌▹◌, ◌&◌, A, WA, BC, HL, IX, XIX, F, Counter, Nth, does}
use Rattle.cases.specs.Banks.{halts}

-- every long is 5A5A5A5A before. Of the twenty, 0 is XWA of bank 0, 1 is XBC, 8 is XWA of bank 2, 16 is XIX
-- which register is multiplied or divided, by R and by r
unfoldable pub scaled_registers : List Case
scaled_registers =
    -- MUL WA,B: R = 1; the word is the low half of XWA. MULS BC,A; MUL XBC,WA
    does 1 (begin 0xD7 (0xCA ∷ 0x41 ∷ []) ▹ WA 0x7703 & BC 0x0500) (WA 0x000F & Counter 2)
    ∷ does 1 (begin 0xD7 (0xC9 ∷ 0x4B ∷ []) ▹ BC 0x7780 & A 0x80) (BC 0x4000 & Counter 2)
    ∷ does 1 (begin 0xD7 (0xD8 ∷ 0x41 ∷ []) ▹ Nth 1 0x77770003 & WA 0x0005) (Nth 1 0x0000000F & Counter 2)
    -- MUL HL,5; MUL RWA2,5 behind C7; MUL XWA2,5 behind D7, while bank 0 runs
    ∷ does 1 (begin 0xD7 (0xCF ∷ 0x08 ∷ 0x05 ∷ []) ▹ HL 0x7703) (HL 0x000F & Counter 3)
    ∷ does 1 (begin 0xD7 (0xC7 ∷ 0x20 ∷ 0x08 ∷ 0x05 ∷ []) ▹ Nth 8 0x12347703) (Nth 8 0x1234000F & Counter 4)
    ∷ does 1 (begin 0xD7 (0xD7 ∷ 0x20 ∷ 0x08 ∷ 0x05 ∷ 0x00 ∷ []) ▹ Nth 8 0x12340003) (Nth 8 0x0000000F & Counter 5)
    -- MUL QWA2,5: the upper word of a long; MUL IX,5, which only a code byte names
    ∷ does 1 (begin 0xD7 (0xC7 ∷ 0x22 ∷ 0x08 ∷ 0x05 ∷ []) ▹ Nth 8 0x77031234) (Nth 8 0x000F1234 & Counter 4)
    ∷ does 1 (begin 0xD7 (0xC7 ∷ 0xF0 ∷ 0x08 ∷ 0x05 ∷ []) ▹ XIX 0x12347703) (XIX 0x1234000F & Counter 4)
    -- MUL WA,W: the operand is the upper half of what gets the result
    ∷ does 1 (begin 0xD7 (0xC8 ∷ 0x41 ∷ []) ▹ WA 0x0503) (WA 0x000F & Counter 2)
    ∷ []

-- V, and what is kept: of a good division V is 0, and of no quotient it is 1 and the operand stays; its mark goes, H's stays
unfoldable pub quotients : List Case
quotients =
    does 1 (begin 0xD7 (0xC9 ∷ 0x0A ∷ 0x07 ∷ []) ▹ WA 0x0064) (WA 0x020E & F 0xD3 & Counter 3)
    ∷ does 1 (begin 0xD3 (0xC9 ∷ 0x0A ∷ 0x00 ∷ []) ▹ WA 0x1234) (WA 0x1234 & F 0xD7 & Counter 3)
    ∷ does 1 (begin 0x300 (0xC9 ∷ 0x0A ∷ 0x01 ∷ []) ▹ WA 0x0100) (WA 0x0100 & F 0x104 & Counter 3)
    ∷ does 1 (begin 0x300 (0xC9 ∷ 0x0B ∷ 0x02 ∷ []) ▹ WA 0xFFF9) (WA 0xFFFD & F 0x100 & Counter 3)
    ∷ does 1 (begin 0x00 (0xC9 ∷ 0x0B ∷ 0x80 ∷ []) ▹ WA 0x4000) (WA 0x0080 & Counter 3)
    ∷ does 1 (begin 0x00 (0xC9 ∷ 0x0B ∷ 0x80 ∷ []) ▹ WA 0xC000) (WA 0xC000 & F 0x04 & Counter 3)
    ∷ does 1 (begin 0x00 (0xC9 ∷ 0x0B ∷ 0xFF ∷ []) ▹ WA 0x8000) (WA 0x8000 & F 0x04 & Counter 3)
    ∷ does 1 (begin 0x00 (0xD8 ∷ 0x0B ∷ 0xFF ∷ 0xFF ∷ []) ▹ Nth 0 0x80000000) (Nth 0 0x80000000 & F 0x04 & Counter 4)
    ∷ does 1 (begin 0x00 (0xD8 ∷ 0x0B ∷ 0x00 ∷ 0x80 ∷ []) ▹ Nth 0 0x40000000) (Nth 0 0x00008000 & Counter 4)
    ∷ []

-- operand codes that 000 does not allow are 4, judged byte by byte; 3 where a byte is missing that could still make it whole
unfoldable pub disallowed : List Case
disallowed =
    -- R even; r even; a code byte that names no word, and no long; longs
    halts Unlisted (0xC9 ∷ 0x40 ∷ [])
    ∷ halts Unlisted (0xC8 ∷ 0x08 ∷ [])
    ∷ halts Unlisted (0xC7 ∷ 0x21 ∷ 0x08 ∷ [])
    ∷ halts Unlisted (0xD7 ∷ 0x22 ∷ 0x0B ∷ [])
    ∷ halts Unlisted (0xE8 ∷ 0x41 ∷ [])
    ∷ halts Unlisted (0xE7 ∷ 0x20 ∷ 0x0A ∷ [])
    ∷ halts NoCode (0xC9 ∷ 0x08 ∷ [])
    ∷ halts NoCode (0xD7 ∷ 0x20 ∷ 0x0B ∷ 0x01 ∷ [])
    -- MINC1 of a byte, MDEC1 of a long; 3B; a low byte that begins no number; 0 and FFFFH; a step of 2 by a table of 2
    ∷ halts Unlisted (0xC9 ∷ 0x38 ∷ [])
    ∷ halts Unlisted (0xE8 ∷ 0x3C ∷ [])
    ∷ halts Unlisted (0xD8 ∷ 0x3B ∷ [])
    ∷ halts Unlisted (0xD8 ∷ 0x38 ∷ 0x02 ∷ [])
    ∷ halts Unlisted (0xD8 ∷ 0x38 ∷ 0x00 ∷ [])
    ∷ halts Unlisted (0xD8 ∷ 0x38 ∷ 0xFF ∷ 0xFF ∷ [])
    ∷ halts Unlisted (0xD8 ∷ 0x39 ∷ 0x00 ∷ [])
    ∷ halts NoCode (0xD8 ∷ 0x38 ∷ [])
    ∷ halts NoCode (0xD8 ∷ 0x38 ∷ 0x07 ∷ [])
    ∷ []

-- a pointer goes round: MINC2 and MDEC2 with a table of 8000H at the ends of the words, by a code byte too; between two entries it leaves
unfoldable pub turns : List Case
turns =
    does 1 (begin 0xD7 (0xDC ∷ 0x39 ∷ 0xFE ∷ 0x7F ∷ []) ▹ IX 0xFFFE) (IX 0x8000 & Counter 4)
    ∷ does 1 (begin 0xD7 (0xD7 ∷ 0x22 ∷ 0x3D ∷ 0xFE ∷ 0x7F ∷ []) ▹ Nth 8 0x00001234) (Nth 8 0x7FFE1234 & Counter 5)
    ∷ does 1 (begin 0xD7 (0xDC ∷ 0x39 ∷ 0x06 ∷ 0x00 ∷ []) ▹ IX 0x1237) (IX 0x1239 & Counter 4)
    ∷ does 1 (begin 0xD7 (0xDC ∷ 0x3D ∷ 0x06 ∷ 0x00 ∷ []) ▹ IX 0x0001) (IX 0xFFFF & Counter 4)
    ∷ []

abbrev pub FeedHolds : Type 0
FeedHolds = OfEach ComesOut scaled_registers × OfEach ComesOut quotients × OfEach ComesOut disallowed × OfEach ComesOut turns
