-- The document's cases P1 to P12, as one table.
use Rattle.std.specs.Prelude.{ℕ, ◌+◌, ◌%◌, List, [], ◌∷◌, ◌++◌, replicate}
use Rattle.cases.specs.Table.{Case, ComesOut, OfEach, begin, ◌▹◌, ◌&◌, A, WA, BC, HL, IX, XIX, F, Bank, Counter, does}

-- P1 to P12, where F is f before
unfoldable pub cases : ℕ → List Case
cases f =
    -- P1 AND
    does 1 (begin f (0xDC ∷ 0xC3 ∷ []) ▹ HL 0x7350 & IX 0x3456) (HL 0x3050 & F 0x14 & Counter 2)
    -- P2 OR
    ∷ does 1 (begin f (0xDC ∷ 0xE3 ∷ []) ▹ HL 0x7350 & IX 0x3456) (HL 0x7756 & F 0x04 & Counter 2)
    -- P3 XOR
    ∷ does 1 (begin f (0xDC ∷ 0xD3 ∷ []) ▹ HL 0x7350 & IX 0x3456) (HL 0x4706 & F 0x04 & Counter 2)
    -- P4 SLA
    ∷ does 1 (begin f (0xDB ∷ 0xEC ∷ 0x04 ∷ []) ▹ HL 0x1234) (HL 0x2340 & F 0x05 & Counter 3)
    -- P5 SRA
    ∷ does 1 (begin f (0xDB ∷ 0xED ∷ 0x04 ∷ []) ▹ HL 0x8230) (HL 0xF823 & F 0x84 & Counter 3)
    -- P6 SLA by 16 places
    ∷ does 1 (begin f (0xC9 ∷ 0xEC ∷ 0x00 ∷ []) ▹ A 0xFF) (A 0x00 & F 0x44 & Counter 3)
    -- P7 ADD
    ∷ does 1 (begin f (0xC9 ∷ 0xC8 ∷ 0x01 ∷ []) ▹ A 0x7F) (A 0x80 & F 0x94 & Counter 3)
    -- P8 SUB
    ∷ does 1 (begin f (0xC9 ∷ 0xCA ∷ 0x01 ∷ []) ▹ A 0x00) (A 0xFF & F 0x93 & Counter 3)
    -- P9 INC of a word: F is kept
    ∷ does 1 (begin f (0xD8 ∷ 0x61 ∷ []) ▹ WA 0xFFFF) (WA 0x0000 & F f & Counter 2)
    -- P10 JR
    ∷ does 1 (begin f (replicate 0x2000 0x00 ++ (0x68 ∷ 0x32 ∷ [])) ▹ Counter 0x2000) (Counter 0x2034)
    -- P11 INCF
    ∷ does 1 (begin f (0x0C ∷ []) ▹ Bank 3) (Bank 0 & Counter 1)
    -- P12 CPIR: equal at the third element, so Z; BC not 0, so V; N; C is kept
    ∷ does 3 (begin f (0x84 ∷ 0x15 ∷ replicate 0x3454 0x00 ++ (0x11 ∷ 0x22 ∷ 0x33 ∷ [])) ▹ A 0x33 & XIX 0x3456 & BC 0x0200)
    (XIX 0x3459 & BC 0x01FD & F (0x46 + f % 2) & Counter 2)
    ∷ []

-- all of them, with no flag set before, with all of them set, and with H and V marked
abbrev pub CasesHold : Type 0
CasesHold = OfEach ComesOut (cases 0x00) × OfEach ComesOut (cases 0xD7) × OfEach ComesOut (cases 0x300)
