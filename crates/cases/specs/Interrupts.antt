-- Interrupts (request K8): EI, SR on the stack and RETI; and histories, which are steps with offers of requests among them.
use Rattle.std.specs.Prelude.{ℕ, ◌≡◌, List, [], ◌∷◌, true, replicate, Ok}
use Rattle.answer.specs.declared.Why.TheVariants.{TooLong, Invalid, BadRequest, NoCode, Unlisted, Undefined, Missing, ToRom}
use Rattle.step.specs.Step.{step_of}
use Rattle.request.specs.Request.{request_of, took_of}
use Rattle.between.specs.Return.{GivesBack}
use Rattle.between.specs.History.{Event, step, offer}
use Rattle.cases.specs.Table.{Machine, Case, ComesOut, Tale, TaleHolds, OfEach, Setting, begin, ◌▹◌, ◌&◌, nothing}
use Rattle.cases.specs.Table.{A, BC, XDE, XHL, XIX, XSP, F, F', Bank, Level, Nesting, Counter, Ram, does, row, goes, breaks}
use Rattle.cases.specs.Runs.{stops, four_rom}
use Rattle.cases.specs.Marks.{marked}

-- ROM of eight bytes: FFFFF8H to FFFFFFH
abbrev pub eight_rom : List ℕ
eight_rom = replicate 8 0x00

-- ---- EI
unfoldable pub enables : List Case
enables =
    -- EI 0, 3 and 7: the level alone, and not the bank; the marks of F stay, and the count
    does 1 (marked 0xD7 (0x06 ∷ 0x00 ∷ [])) (Level 0 & Counter 2)
    ∷ does 1 (marked 0xD7 (0x06 ∷ 0x03 ∷ []) ▹ Bank 2 & Level 0 & Nesting 65535) (Level 3 & Counter 2)
    ∷ does 1 (marked 0x300 (0x06 ∷ 0x07 ∷ []) ▹ Bank 3 & Level 2) (Level 7 & Counter 2)
    -- 08 and more are not listed; and the number must stand in the same memory
    ∷ stops (marked 0xD7 (0x06 ∷ 0x08 ∷ [])) [] Unlisted ∷ stops (marked 0xD7 (0x06 ∷ 0xFF ∷ [])) [] Unlisted
    ∷ stops (begin 0xD7 (0x06 ∷ [])) [] NoCode ∷ stops (begin 0xD7 (0x03 ∷ []) ▹ Counter 0xFFFFFF) (0x06 ∷ []) NoCode
    ∷ []

-- ---- PUSH SR, with RAM 0 to 7
unfoldable pub pushes : List Case
pushes =
    -- F below, then one byte of level and bank, with bits 15 and 11; the marks of F' stop nothing
    does 1 (marked 0xD7 (0x02 ∷ []) ▹ XSP 8 & F' 0x300) (XSP 6 & Ram 6 (0xD7 ∷ 0xF8 ∷ []) & Counter 1)
    ∷ does 1 (marked 0x41 (0x02 ∷ []) ▹ XSP 8 & Bank 2 & Level 5) (XSP 6 & Ram 6 (0x41 ∷ 0xDA ∷ []) & Counter 1)
    ∷ does 1 (marked 0x00 (0x02 ∷ []) ▹ XSP 0x12000008 & Bank 3 & Level 0) (XSP 0x12000006 & Ram 6 (0x00 ∷ 0x8B ∷ []) & Counter 1)
    -- 8 with a mark: where the push would be done, where nothing is, and where ROM is
    ∷ stops (marked 0x100 (0x02 ∷ []) ▹ XSP 8) [] Undefined ∷ stops (marked 0x200 (0x02 ∷ []) ▹ XSP 0x100) [] Undefined
    ∷ stops (marked 0x300 (0x02 ∷ []) ▹ XSP 0) four_rom Undefined
    -- 5: nothing is there; the second byte is past RAM's end, or at 000000H behind ROM's end; without ROM it is the first
    ∷ stops (marked 0xD7 (0x02 ∷ []) ▹ XSP 0x100) [] (Missing 0xFE) ∷ stops (marked 0xD7 (0x02 ∷ []) ▹ XSP 9) [] (Missing 8)
    ∷ stops (marked 0xD7 (0x02 ∷ []) ▹ XSP 1) four_rom (Missing 0) ∷ stops (marked 0xD7 (0x02 ∷ []) ▹ XSP 1) [] (Missing 0xFFFFFF)
    -- 6
    ∷ stops (marked 0xD7 (0x02 ∷ []) ▹ XSP 0) four_rom (ToRom 0xFFFFFE)
    ∷ stops (marked 0xD7 (0x02 ∷ []) ▹ XSP 0x12FFFFFE) four_rom (ToRom 0xFFFFFC)
    ∷ []

-- ---- POP SR
unfoldable pub pops : List Case
pops =
    -- all ones: F without bits 5 and 3, bank 3, level 7; all zeros; and all ones where SR is fixed: nothing comes of them. The marks go
    does 1 (marked 0x300 (0x03 ∷ 0x00 ∷ 0xFF ∷ 0xFF ∷ []) ▹ XSP 2 & Level 0) (XSP 4 & F 0xD7 & Bank 3 & Level 7 & Counter 1)
    ∷ does 1 (marked 0x300 (0x03 ∷ []) ▹ XSP 2 & Bank 3) (XSP 4 & F 0x00 & Bank 0 & Level 0 & Counter 1)
    ∷ does 1 (marked 0xD7 (0x03 ∷ 0x00 ∷ 0x28 ∷ 0x8C ∷ []) ▹ XSP 2 & Bank 3) (XSP 4 & F 0x00 & Bank 0 & Level 0 & Counter 1)
    -- each number from its own bits; F' and the count stay
    ∷ does 1 (marked 0xD7 (0x03 ∷ 0x00 ∷ 0x55 ∷ 0x52 ∷ []) ▹ XSP 2 & F' 0x300 & Nesting 9) (XSP 4 & F 0x55 & Bank 2 & Level 5 & Counter 1)
    -- out of ROM, and XSP goes round
    ∷ row 1 (marked 0xD7 (0x03 ∷ []) ▹ XSP 0xFFFFFFFE) (0x00 ∷ 0x00 ∷ 0x01 ∷ 0x11 ∷ []) 1
    (XSP 0 & F 0x01 & Bank 1 & Level 1 & Counter 1) (Ok tt)
    -- 5: the second byte is past RAM's end
    ∷ stops (marked 0xD7 (0x03 ∷ []) ▹ XSP 7) [] (Missing 8)
    -- and PUSH SR after it: bits 15 and 11 are 1, bits 10, 5 and 3 are 0, whatever was popped
    ∷ does 2 (marked 0xD7 (0x03 ∷ 0x02 ∷ []) ▹ XSP 4) (F 0x00 & Level 0 & Ram 4 (0x00 ∷ 0x88 ∷ []) & Counter 2)
    ∷ does 2 (marked 0x00 (0x03 ∷ 0x02 ∷ 0x00 ∷ 0x00 ∷ 0xFF ∷ 0xFF ∷ []) ▹ XSP 4) (F 0xD7 & Bank 3 & Ram 4 (0xD7 ∷ 0xFB ∷ []) & Counter 2)
    -- before it: nothing has changed but the two bytes below the stack
    ∷ does 2 (marked 0xC5 (0x02 ∷ 0x03 ∷ []) ▹ XSP 8 & Bank 2 & Level 3) (Ram 6 (0xC5 ∷ 0xBA ∷ []) & Counter 2)
    ∷ []

-- ---- RETI: SR, then the counter in four bytes
unfoldable pub returns : List Case
returns =
    -- the counter's fourth byte is left out, the marks go, and 0 less one is 65,535
    does 1 (marked 0x300 (0x07 ∷ 0x00 ∷ 0x41 ∷ 0xDA ∷ 0x56 ∷ 0x34 ∷ 0x12 ∷ 0xFF ∷ []) ▹ XSP 2)
    (XSP 8 & F 0x41 & Bank 2 & Level 5 & Counter 0x123456 & Nesting 65535)
    -- all ones and all zeros; 1 less one is 0
    ∷ does 1 (marked 0x00 (0x07 ∷ 0x00 ∷ replicate 6 0xFF) ▹ XSP 2 & Level 0 & Nesting 1)
    (XSP 8 & F 0xD7 & Bank 3 & Level 7 & Counter 0xFFFFFF & Nesting 0)
    ∷ does 1 (marked 0xD7 (0x07 ∷ []) ▹ XSP 2 & Bank 3 & Nesting 65535) (XSP 8 & F 0x00 & Bank 0 & Level 0 & Counter 0 & Nesting 65534)
    -- out of ROM, and XSP goes round
    ∷ row 1 (marked 0xD7 (0x07 ∷ []) ▹ XSP 0xFFFFFFFA & Nesting 1) (0x00 ∷ 0x00 ∷ 0x01 ∷ 0x11 ∷ 0x02 ∷ 0x00 ∷ 0x00 ∷ 0x00 ∷ []) 1
    (XSP 0 & F 0x01 & Bank 1 & Level 1 & Counter 2 & Nesting 0) (Ok tt)
    -- 5: one byte of the six, or five, past RAM's end; over the top; nothing is there
    ∷ stops (marked 0xD7 (0x07 ∷ []) ▹ XSP 3) [] (Missing 8) ∷ stops (marked 0xD7 (0x07 ∷ []) ▹ XSP 7) [] (Missing 8)
    ∷ stops (marked 0xD7 (0x07 ∷ []) ▹ XSP 0xFFFFFC) four_rom (Missing 0)
    ∷ stops (marked 0xD7 (0x07 ∷ []) ▹ XSP 0x12000050) [] (Missing 0x50)
    ∷ []

-- ---- one request. RAM of sixteen bytes, none of them 0, with the stack's end behind it, and at 0 a vector to FFFF10H with a fourth byte;
-- this mask, bank 2, F 41, and a counter where nothing is. SR is 8A41 and the mask times 1000
abbrev pub waiting : ℕ → Machine
waiting mask = begin 0x41 (0x10 ∷ 0xFF ∷ 0xFF ∷ 0xA5 ∷ replicate 12 0xEE) ▹ Bank 2 & Level mask & XSP 0x10 & Counter 0x123456

-- what one that is taken leaves there, with this high byte of SR pushed, and then this mask
abbrev pub inside : ℕ → ℕ → Setting
inside high mask = XSP 0xA & Ram 0xA (0x41 ∷ high ∷ 0x56 ∷ 0x34 ∷ 0x12 ∷ 0x00 ∷ []) & Level mask & Nesting 1 & Counter 0xFFFF10

unfoldable pub masked : List Tale
masked =
    -- one below the mask
    goes (waiting 2) [] (offer 1 0 ∷ []) 0 nothing ∷ goes (waiting 4) [] (offer 3 0 ∷ []) 0 nothing
    ∷ goes (waiting 7) [] (offer 6 0 ∷ []) 0 nothing
    -- the vector is not read, and the stack not looked at: neither is there
    ∷ goes (waiting 4 ▹ XSP 0x2000 & F 0x341 & Nesting 65535) [] (offer 1 0xFFFFFF ∷ offer 3 0x1000 ∷ []) 0 nothing
    ∷ []

unfoldable pub accepted : List Tale
accepted =
    -- at the mask and above it; 6 and 7 both make it 7
    goes (waiting 4) [] (offer 4 0 ∷ []) 1 (inside 0xCA 5) ∷ goes (waiting 4) [] (offer 6 0 ∷ []) 1 (inside 0xCA 7)
    -- 7 through 7
    ∷ goes (waiting 7) [] (offer 7 0 ∷ []) 1 (inside 0xFA 7)
    -- mask 0 counts as 1, and is pushed as 0
    ∷ goes (waiting 0) [] (offer 1 0 ∷ []) 1 (inside 0x8A 2) ∷ goes (waiting 1) [] (offer 1 0 ∷ []) 1 (inside 0x9A 2)
    -- the count goes round; the marks of F stand, and their 0s are pushed; those of F' stand too
    ∷ goes (waiting 3 ▹ Nesting 65535) [] (offer 3 0 ∷ []) 1 (inside 0xBA 4 & Nesting 0)
    ∷ goes (waiting 3 ▹ F 0x341 & F' 0x300) [] (offer 3 0 ∷ []) 1 (inside 0xBA 4)
    -- the address is XSP's low 24 bits
    ∷ goes (waiting 3 ▹ XSP 0xFF000010) [] (offer 3 0 ∷ []) 1 (inside 0xBA 4 & XSP 0xFF00000A)
    -- vectors in ROM: at FFFF00H, and in its last four bytes
    ∷ goes (waiting 3) (0x20 ∷ 0xFF ∷ 0xFF ∷ 0x00 ∷ replicate 252 0x00) (offer 3 0xFFFF00 ∷ []) 1 (inside 0xBA 4 & Counter 0xFFFF20)
    ∷ goes (waiting 3) (0x34 ∷ 0x12 ∷ 0x00 ∷ 0x80 ∷ []) (offer 3 0xFFFFFC ∷ []) 1 (inside 0xBA 4 & Counter 0x1234)
    -- a vector where the push goes: it is read first, or it would be 123456
    ∷ goes (waiting 3 ▹ Ram 0xC (0x10 ∷ 0xFF ∷ 0xFF ∷ 0xA5 ∷ [])) [] (offer 3 0xC ∷ []) 1 (inside 0xBA 4)
    -- 7 again, above the first
    ∷ goes (waiting 7) [] (offer 7 0 ∷ offer 7 0 ∷ []) 2
    (inside 0xFA 7 & XSP 4 & Ram 4 (0x41 ∷ 0xFA ∷ 0x10 ∷ 0xFF ∷ 0xFF ∷ 0x00 ∷ []) & Nesting 2)
    -- EI 3 counts at once: not taken before it, taken after it
    ∷ goes (waiting 7 ▹ Counter 8 & Ram 8 (0x06 ∷ 0x03 ∷ [])) [] (offer 3 0 ∷ step ∷ offer 3 0 ∷ []) 1
    (inside 0xBA 4 & Ram 0xA (0x41 ∷ 0xBA ∷ 0x0A ∷ 0x00 ∷ 0x00 ∷ 0x00 ∷ []))
    ∷ []

unfoldable pub turned_away : List Tale
turned_away =
    -- 9: the level, or the address, also where it would not be taken
    breaks (waiting 0) [] (offer 0 0 ∷ []) 0 BadRequest ∷ breaks (waiting 7) [] (offer 8 0 ∷ []) 0 BadRequest
    ∷ breaks (waiting 3) [] (offer 3 0x1000000 ∷ []) 0 BadRequest ∷ breaks (waiting 7) [] (offer 1 0x1000000 ∷ []) 0 BadRequest
    -- 2 before it, and 1 before that
    ∷ breaks (waiting 3 ▹ F 0x20) [] (offer 0 0 ∷ []) 0 Invalid ∷ breaks (begin 0x20 (replicate 65537 0x00)) [] (offer 0 0 ∷ []) 0 TooLong
    -- 5 of the vector: nothing is there; over RAM's end, and over ROM's; below ROM
    ∷ breaks (waiting 3) [] (offer 3 0x1000 ∷ []) 0 (Missing 0x1000) ∷ breaks (waiting 3) [] (offer 3 0xE ∷ []) 0 (Missing 0x10)
    ∷ breaks (waiting 3) four_rom (offer 3 0xFFFFFE ∷ []) 0 (Missing 0)
    ∷ breaks (waiting 3) four_rom (offer 3 0xFFFFFB ∷ []) 0 (Missing 0xFFFFFB)
    -- it comes before the stack's 5 and 6
    ∷ breaks (waiting 3 ▹ XSP 0x2000) [] (offer 3 0x1000 ∷ []) 0 (Missing 0x1000)
    ∷ breaks (waiting 3 ▹ XSP 0) eight_rom (offer 3 0x1000 ∷ []) 0 (Missing 0x1000)
    -- 6 of the stack; 5, since two of its six bytes are below ROM, or five behind it; three past RAM's end; nothing is there
    ∷ breaks (waiting 3 ▹ XSP 0) eight_rom (offer 3 0 ∷ []) 0 (ToRom 0xFFFFFA)
    ∷ breaks (waiting 3 ▹ XSP 0) four_rom (offer 3 0 ∷ []) 0 (Missing 0xFFFFFA)
    ∷ breaks (waiting 3 ▹ XSP 5) eight_rom (offer 3 0 ∷ []) 0 (Missing 0)
    ∷ breaks (waiting 3 ▹ XSP 0x13) [] (offer 3 0 ∷ []) 0 (Missing 0x10)
    ∷ breaks (waiting 3 ▹ XSP 0x2000) [] (offer 3 0 ∷ []) 0 (Missing 0x1FFA)
    -- the third 7 finds no room; and a vector may lead where nothing is: the step after it is 3
    ∷ breaks (waiting 7) [] (offer 7 0 ∷ offer 7 0 ∷ offer 7 0 ∷ []) 2 (Missing 0xFFFFFE)
    ∷ breaks (waiting 3) [] (offer 3 0 ∷ step ∷ []) 1 NoCode
    ∷ []

-- ---- and back. RAM of thirty-two bytes with the stack's end behind it: vectors to 8 and AH, INCF and RETI at 8, SCF and RETI at AH;
-- this mask, bank 2, F 40, and a counter where nothing is
abbrev pub handling : ℕ → Machine
handling mask =
    begin 0x40 (0x08 ∷ 0x00 ∷ 0x00 ∷ 0x00 ∷ 0x0A ∷ 0x00 ∷ 0x00 ∷ 0x00 ∷ 0x0C ∷ 0x07 ∷ 0x11 ∷ 0x07 ∷ replicate 20 0xEE)
    ▹ Bank 2 & Level mask & XSP 0x20 & Counter 0x123456

unfoldable pub nestings : List Tale
nestings =
    -- the bank is changed, and comes back with SR
    goes (handling 3) [] (offer 3 0 ∷ step ∷ step ∷ []) 1 (Ram 0x1A (0x40 ∷ 0xBA ∷ 0x56 ∷ 0x34 ∷ 0x12 ∷ 0x00 ∷ []))
    -- RETI at once: the marks of F go, and those of F' stay; the count goes to 0 and comes back
    ∷ goes (handling 3 ▹ F 0x340 & F' 0x300 & Nesting 65535 & Ram 0 (0x09 ∷ [])) [] (offer 3 0 ∷ step ∷ []) 1
    (F 0x40 & Ram 0x1A (0x40 ∷ 0xBA ∷ 0x56 ∷ 0x34 ∷ 0x12 ∷ 0x00 ∷ []))
    -- the marks stand in the handler: its PUSH SR is 8
    ∷ breaks (handling 3 ▹ F 0x140 & Ram 8 (0x02 ∷ [])) [] (offer 3 0 ∷ step ∷ []) 1 Undefined
    -- a second one in the first one's handler, where the first's own level is masked: two RETIs bring back all but what is below the stack
    ∷ goes (handling 2) [] (offer 3 0 ∷ step ∷ offer 3 0 ∷ offer 4 4 ∷ step ∷ step ∷ step ∷ []) 2
    (Ram 0x14 (0x40 ∷ 0xCB ∷ 0x09 ∷ 0x00 ∷ 0x00 ∷ 0x00 ∷ 0x40 ∷ 0xAA ∷ 0x56 ∷ 0x34 ∷ 0x12 ∷ 0x00 ∷ []))
    ∷ []

-- ---- between two rounds. A vector at FFFFF8H, and the handler behind it in ROM: INCF, LD A,44H, RETI, which spoils A of bank 1 alone
abbrev pub handler_rom : List ℕ
handler_rom = 0xFC ∷ 0xFF ∷ 0xFF ∷ 0x00 ∷ 0x0C ∷ 0x21 ∷ 0x44 ∷ 0x07 ∷ []

-- a request that is taken, its handler, and then these
abbrev pub handled : List Event → List Event
handled es = offer 5 0xFFFFF8 ∷ step ∷ step ∷ step ∷ es

-- CPIR over 11 22 33, as in cpir_start, and LDIR of A1 A2 A3 as in ldir_start, with mask 2 and room for the stack
abbrev pub search_start : Machine
search_start = begin 0x00 (0x84 ∷ 0x15 ∷ 0x00 ∷ 0x00 ∷ 0x11 ∷ 0x22 ∷ 0x33 ∷ replicate 9 0xEE) ▹ Level 2 & XIX 4 & BC 3 & XSP 0x10

abbrev pub copy_start : Machine
copy_start =
    begin 0xD7 (0x83 ∷ 0x11 ∷ 0x00 ∷ 0x00 ∷ 0xA1 ∷ 0xA2 ∷ 0xA3 ∷ replicate 9 0xEE) ▹ Level 2 & XHL 4 & XDE 7 & BC 3 & XSP 0x10

-- what a handled request leaves: A of bank 1, and below the stack SR with this F, and the counter, which was still at the instruction
abbrev pub spoils : ℕ → Setting
spoils f = Bank 1 & A 0x44 & Bank 0 & Ram 0xA (f ∷ 0xA8 ∷ 0x00 ∷ 0x00 ∷ 0x00 ∷ 0x00 ∷ [])

unfoldable pub gaps : List Tale
gaps =
    -- equal at the second element: past the match
    goes (search_start ▹ A 0x22) handler_rom (step ∷ handled (step ∷ [])) 1 (spoils 0x06 & XIX 6 & BC 1 & F 0x46 & Counter 2)
    -- at the last, with a request in each gap
    ∷ goes (search_start ▹ A 0x33) handler_rom (step ∷ handled (step ∷ handled (step ∷ []))) 2
    (spoils 0x06 & XIX 7 & BC 0 & F 0x42 & Counter 2)
    -- with one in a gap that is not taken
    ∷ goes (search_start ▹ A 0x33) handler_rom (step ∷ offer 1 0xFFFFF8 ∷ step ∷ step ∷ []) 0 (XIX 7 & BC 0 & F 0x42 & Counter 2)
    -- none is equal
    ∷ goes (search_start ▹ A 0x55) handler_rom (step ∷ step ∷ handled (step ∷ [])) 1 (spoils 0x06 & XIX 7 & BC 0 & F 0x02 & Counter 2)
    -- a copy
    ∷ goes copy_start handler_rom (step ∷ handled (step ∷ step ∷ [])) 1
    (spoils 0xC5 & XHL 7 & XDE 0xA & BC 0 & F 0xC1 & Counter 2 & Ram 7 (0xA1 ∷ 0xA2 ∷ 0xA3 ∷ []))
    ∷ []

-- all these tables hold
abbrev pub InterruptsHold : Type 0
InterruptsHold =
    OfEach ComesOut enables × OfEach ComesOut pushes × OfEach ComesOut pops × OfEach ComesOut returns
    × OfEach TaleHolds masked × OfEach TaleHolds accepted × OfEach TaleHolds turned_away × OfEach TaleHolds nestings × OfEach TaleHolds gaps

-- ---- a handler that gives back what it was given, as between/Return supposes it: PUSH WA, POP WA, and then RETI
abbrev pub kept_rom : List ℕ
kept_rom = 0xFC ∷ 0xFF ∷ 0xFF ∷ 0x00 ∷ 0x28 ∷ 0x48 ∷ 0x07 ∷ 0x00 ∷ []

-- after one round of the search a request is taken, and two steps on the handler has come to its RETI
abbrev pub HandlerMet : Type 0
HandlerMet =
    let s = search_start ▹ A 0x33 in
    let r = step_of s.state s.ram kept_rom in
    let o = request_of 3 0xFFFFF8 r.state r.ram kept_rom in
    let p = step_of o.state o.ram kept_rom in
    let q = step_of p.state p.ram kept_rom in
    (took_of 3 0xFFFFF8 r.state r.ram kept_rom ≡ true)
    × GivesBack o.state o.ram kept_rom (step ∷ step ∷ []) q.state q.ram
