-- Marks, and the steps that stop at one (request K6): set, cleared, kept and exchanged; each condition, and PUSH F.
use Rattle.std.specs.Prelude.{ℕ, ◌+◌, List, [], ◌∷◌, replicate, Err}
use Rattle.answer.specs.declared.Why.TheVariants.{Invalid, Undefined}
use Rattle.cases.specs.Table.{Machine, Case, ComesOut, OfEach, Setting, begin, ◌▹◌, ◌&◌, nothing, A, WA, BC, DE, XDE, XHL, XIX, XSP, F, F'}
use Rattle.cases.specs.Table.{Counter, Ram, row, does}
use Rattle.cases.specs.Runs.{stops, four_rom}

-- RAM of eight bytes that begins with this code, and this F; every register is 5A5A5A5A where no other is given
abbrev pub marked : ℕ → List ℕ → Machine
marked f code = begin f (replicate 8 0x00) ▹ Ram 0 code

-- one step of a code of two bytes with this F, and what it leaves
abbrev pub steps_to : ℕ → List ℕ → Setting → Case
steps_to f code after = does 1 (marked f code) (after & Counter 2)

-- JR cc, with a displacement of 4, and JRL cc: past it, or at 6
abbrev pub jr : ℕ → List ℕ
jr cc = (0x60 + cc) ∷ 0x04 ∷ []

abbrev pub jrl : ℕ → List ℕ
jrl cc = (0x70 + cc) ∷ 0x04 ∷ 0x00 ∷ []

-- ---- set where the book defines no value, and then the flag is 0; the other of the two is cleared, since it is defined
unfoldable pub marks_set : List Case
marks_set =
    -- ADD ADC SUB SBC CP XDE,XHL: H, and V has a value
    steps_to 0x2C1 (0xEB ∷ 0x82 ∷ []) (XDE 0xB4B4B4B4 & F 0x184) ∷ steps_to 0xD7 (0xEB ∷ 0x92 ∷ []) (XDE 0xB4B4B4B5 & F 0x184)
    ∷ steps_to 0xD7 (0xEB ∷ 0xA2 ∷ []) (XDE 0x00000000 & F 0x142) ∷ steps_to 0xD7 (0xEB ∷ 0xB2 ∷ []) (XDE 0xFFFFFFFF & F 0x183)
    ∷ steps_to 0x200 (0xEB ∷ 0xF2 ∷ []) (F 0x142)
    -- AND XOR OR XDE,XHL: V, and H has a value
    ∷ steps_to 0x1C7 (0xEB ∷ 0xC2 ∷ []) (F 0x210) ∷ steps_to 0xD7 (0xEB ∷ 0xD2 ∷ []) (XDE 0x00000000 & F 0x240)
    ∷ steps_to 0xD7 (0xEB ∷ 0xE2 ∷ []) (F 0x200)
    -- SLA SRA SLL SRL 4,XDE: V
    ∷ does 1 (marked 0xD7 (0xEA ∷ 0xEC ∷ 0x04 ∷ [])) (XDE 0xA5A5A5A0 & F 0x281 & Counter 3)
    ∷ does 1 (marked 0xD7 (0xEA ∷ 0xED ∷ 0x04 ∷ [])) (XDE 0x05A5A5A5 & F 0x201 & Counter 3)
    ∷ does 1 (marked 0x100 (0xEA ∷ 0xEE ∷ 0x04 ∷ [])) (XDE 0xA5A5A5A0 & F 0x281 & Counter 3)
    ∷ does 1 (marked 0xD7 (0xEA ∷ 0xEF ∷ 0x04 ∷ [])) (XDE 0x05A5A5A5 & F 0x201 & Counter 3)
    -- CCF and ZCF: H; V is kept with its mark
    ∷ does 1 (marked 0xD7 (0x12 ∷ [])) (F 0x1C4 & Counter 1) ∷ does 1 (marked 0xD7 (0x13 ∷ [])) (F 0x1C4 & Counter 1)
    ∷ does 1 (marked 0x240 (0x12 ∷ [])) (F 0x341 & Counter 1) ∷ does 1 (marked 0x200 (0x13 ∷ [])) (F 0x301 & Counter 1)
    ∷ []

-- ---- cleared where H and V get a value
unfoldable pub marks_cleared : List Case
marks_cleared =
    -- ADD and AND DE,HL; INC 1,A
    steps_to 0x300 (0xDB ∷ 0x82 ∷ []) (DE 0xB4B4 & F 0x94) ∷ steps_to 0x300 (0xDB ∷ 0xC2 ∷ []) (F 0x14)
    ∷ steps_to 0x301 (0xC9 ∷ 0x61 ∷ []) (A 0x5B & F 0x01)
    -- SRL 4,DE
    ∷ does 1 (marked 0x300 (0xDA ∷ 0xEF ∷ 0x04 ∷ [])) (DE 0x05A5 & F 0x05 & Counter 3)
    -- RCF and SCF: H's alone
    ∷ does 1 (marked 0x3C1 (0x10 ∷ [])) (F 0x2C0 & Counter 1) ∷ does 1 (marked 0x300 (0x11 ∷ [])) (F 0x201 & Counter 1)
    -- LDI and CPI; LDIR, whose every round does so
    ∷ does 1 (marked 0x3C1 (0x83 ∷ 0x10 ∷ 0xA5 ∷ []) ▹ XHL 2 & XDE 4 & BC 2) (XHL 3 & XDE 5 & BC 1 & Ram 4 (0xA5 ∷ []) & F 0xC5 & Counter 2)
    ∷ does 1 (marked 0x301 (0x84 ∷ 0x14 ∷ 0x5A ∷ []) ▹ XIX 2 & BC 1) (XIX 3 & BC 0 & F 0x43 & Counter 2)
    ∷ does 1 (marked 0x300 (0x83 ∷ 0x11 ∷ 0xA5 ∷ []) ▹ XHL 2 & XDE 4 & BC 2) (XHL 3 & XDE 5 & BC 1 & Ram 4 (0xA5 ∷ []) & F 0x04)
    -- POP F: both, with any bits 5 and 3
    ∷ does 1 (marked 0x300 (0x19 ∷ 0x00 ∷ 0xFF ∷ []) ▹ XSP 2) (XSP 3 & F 0xD7 & Counter 1)
    ∷ []

-- ---- kept where the flags are kept
unfoldable pub marks_kept : List Case
marks_kept =
    -- NOP; INC 1,WA; DEC 1,XDE; EXTS XDE; LD WA,BC; PUSH WA; JR 6
    does 1 (marked 0x301 (0x00 ∷ [])) (Counter 1) ∷ steps_to 0x301 (0xD8 ∷ 0x61 ∷ []) (WA 0x5A5B)
    ∷ steps_to 0x200 (0xEA ∷ 0x69 ∷ []) (XDE 0x5A5A5A59) ∷ steps_to 0x3C0 (0xEA ∷ 0x13 ∷ []) (XDE 0x00005A5A)
    ∷ steps_to 0x301 (0xD9 ∷ 0x88 ∷ []) nothing ∷ does 1 (marked 0x300 (0x28 ∷ []) ▹ XSP 8) (XSP 6 & Ram 6 (0x5A ∷ 0x5A ∷ []) & Counter 1)
    ∷ does 1 (marked 0x300 (jr 0x8)) (Counter 6)
    -- EX F,F': each set keeps its own
    ∷ does 1 (marked 0x3C1 (0x16 ∷ [])) (F 0x51 & F' 0x3C1 & Counter 1)
    ∷ does 1 (marked 0x51 (0x16 ∷ []) ▹ F' 0x280) (F 0x280 & F' 0x51 & Counter 1)
    ∷ []

-- ---- 8: the step changes nothing
unfoldable pub marks_stop : List Case
marks_stop =
    -- JR LT, LE, V and their opposites, by JRL too; LE and GT even where Z decides; LT and GE with S 0 and S 1
    stops (marked 0x200 (jr 0x1)) [] Undefined ∷ stops (marked 0x240 (jr 0x2)) [] Undefined ∷ stops (marked 0x200 (jr 0x4)) [] Undefined
    ∷ stops (marked 0x380 (jr 0x9)) [] Undefined ∷ stops (marked 0x240 (jr 0xA)) [] Undefined ∷ stops (marked 0x200 (jr 0xC)) [] Undefined
    ∷ stops (marked 0x300 (jrl 0x1)) [] Undefined ∷ stops (marked 0x2C0 (jrl 0x2)) [] Undefined ∷ stops (marked 0x200 (jrl 0x4)) [] Undefined
    ∷ stops (marked 0x280 (jrl 0x9)) [] Undefined ∷ stops (marked 0x200 (jrl 0xA)) [] Undefined ∷ stops (marked 0x200 (jrl 0xC)) [] Undefined
    -- PUSH F with a mark, where the push would be done, where nothing is, and where ROM is
    ∷ stops (marked 0x100 (0x18 ∷ []) ▹ XSP 8) [] Undefined ∷ stops (marked 0x200 (0x18 ∷ []) ▹ XSP 8) [] Undefined
    ∷ stops (marked 0x300 (0x18 ∷ []) ▹ XSP 0x100) [] Undefined ∷ stops (marked 0x100 (0x18 ∷ []) ▹ XSP 0) four_rom Undefined
    -- AND XDE,XHL and then JR LT: the jump is not done
    ∷ row 2 (marked 0x00 (0xEB ∷ 0xC2 ∷ 0x61 ∷ 0x04 ∷ [])) [] 1 (F 0x210 & Counter 2) (Err Undefined)
    -- the marks of F' come with EX F,F'
    ∷ row 2 (marked 0x00 (0x16 ∷ 0x64 ∷ 0x04 ∷ []) ▹ F' 0x200) [] 1 (F 0x200 & F' 0x00 & Counter 1) (Err Undefined)
    ∷ []

-- ---- not 8: what is read is defined
unfoldable pub marks_passed : List Case
marks_passed =
    -- never, ULE, S, Z, C and their opposites read neither H nor V
    does 1 (marked 0x300 (jr 0x0)) (Counter 2) ∷ does 1 (marked 0x300 (jr 0x3)) (Counter 2) ∷ does 1 (marked 0x380 (jr 0x5)) (Counter 6)
    ∷ does 1 (marked 0x300 (jr 0x6)) (Counter 2) ∷ does 1 (marked 0x301 (jr 0x7)) (Counter 6) ∷ does 1 (marked 0x300 (jr 0x8)) (Counter 6)
    ∷ does 1 (marked 0x300 (jr 0xB)) (Counter 6) ∷ does 1 (marked 0x300 (jr 0xD)) (Counter 6) ∷ does 1 (marked 0x300 (jrl 0xE)) (Counter 7)
    ∷ does 1 (marked 0x300 (jrl 0xF)) (Counter 7)
    -- H's mark does not stop a jump that reads V; the marks of F' stop nothing
    ∷ does 1 (marked 0x184 (jr 0x1)) (Counter 2) ∷ does 1 (marked 0x104 (jr 0x4)) (Counter 6)
    ∷ does 1 (marked 0x04 (jr 0x4) ▹ F' 0x300) (Counter 6)
    ∷ does 1 (marked 0xD7 (0x18 ∷ []) ▹ XSP 8 & F' 0x300) (XSP 7 & Ram 7 (0xD7 ∷ []) & Counter 1)
    -- after POP F, or a comparison, the jump is done: POP F and JR V; CP DE,HL and JR GE
    ∷ does 2 (marked 0x300 (0x19 ∷ 0x64 ∷ 0x03 ∷ 0x04 ∷ []) ▹ XSP 3) (XSP 4 & F 0x04 & Counter 6)
    ∷ does 2 (marked 0x300 (0xDB ∷ 0xF2 ∷ 0x69 ∷ 0x04 ∷ [])) (F 0x42 & Counter 8)
    ∷ []

-- ---- 2: a marked flag's bit is 1, or anything but H and V is marked
unfoldable pub marks_invalid : List Case
marks_invalid =
    stops (marked 0x110 []) [] Invalid ∷ stops (marked 0x204 []) [] Invalid ∷ stops (marked 0x314 []) [] Invalid
    ∷ stops (marked 0x400 []) [] Invalid ∷ stops (marked 0x00 [] ▹ F' 0x110) [] Invalid ∷ stops (marked 0x00 [] ▹ F' 0x204) [] Invalid
    ∷ stops (marked 0x00 [] ▹ F' 0x800) [] Invalid
    -- the other flag's bit is free
    ∷ does 1 (marked 0x1C7 [] ▹ F' 0x2D3) (Counter 1)
    ∷ []

-- all these tables hold
abbrev pub MarksHold : Type 0
MarksHold =
    OfEach ComesOut marks_set × OfEach ComesOut marks_cleared × OfEach ComesOut marks_kept × OfEach ComesOut marks_stop
    × OfEach ComesOut marks_passed × OfEach ComesOut marks_invalid
