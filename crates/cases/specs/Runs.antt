-- Runs of repeating copies and compares, to the end and not so far, refused in the middle, and onto their own code; the checks of a run;
-- the mill's start-up; and the addresses that go with 5 and 6.
use Rattle.std.specs.Prelude.{ℕ, List, [], ◌∷◌, replicate, Ok, Err}
use Rattle.answer.specs.declared.Why.{Why}
use Rattle.answer.specs.declared.Why.TheVariants.{TooMany, TooLong, Invalid, NoCode, Unlisted, Missing, ToRom}
use Rattle.cases.specs.Table.{Machine, Case, ComesOut, OfEach, begin, ◌▹◌, ◌&◌, nothing, A, WA, BC, XDE, XHL, XIX, XIY, XSP, F, Bank, Counter, Ram, row, does}

-- ---- the starts
-- LDIR of three bytes at 4 to 7
abbrev pub ldir_start : Machine
ldir_start = begin 0xD7 (0x83 ∷ 0x11 ∷ 0x00 ∷ 0x00 ∷ 0xA1 ∷ 0xA2 ∷ 0xA3 ∷ 0x00 ∷ 0x00 ∷ 0x00 ∷ []) ▹ XHL 4 & XDE 7 & BC 3

-- LDDR of two words at 8 and 6 to 4 and 2
abbrev pub lddr_start : Machine
lddr_start = begin 0xD7 (0x95 ∷ 0x13 ∷ 0x00 ∷ 0x00 ∷ 0x00 ∷ 0x00 ∷ 0xB1 ∷ 0xB2 ∷ 0xB3 ∷ 0xB4 ∷ []) ▹ XIY 8 & XIX 4 & BC 2

-- CPIR over 11 22 33
abbrev pub cpir_start : Machine
cpir_start = begin 0x00 (0x84 ∷ 0x15 ∷ 0x00 ∷ 0x00 ∷ 0x11 ∷ 0x22 ∷ 0x33 ∷ []) ▹ XIX 4 & BC 3

-- CPDR over the words 5678 and 1234
abbrev pub cpdr_start : Machine
cpdr_start = begin 0x01 (0x92 ∷ 0x17 ∷ 0x34 ∷ 0x12 ∷ 0x78 ∷ 0x56 ∷ []) ▹ XDE 4 & BC 2

-- LDDR at FFFFFCH of four bytes down to 1, 0 and then FFFFFFH, which is ROM
abbrev pub to_rom_start : Machine
to_rom_start = begin 0x00 (0x00 ∷ 0x00 ∷ 0x00 ∷ 0xC3 ∷ 0xC4 ∷ 0xC5 ∷ []) ▹ XHL 5 & XDE 1 & BC 4 & Counter 0xFFFFFC

abbrev pub to_rom_rom : List ℕ
to_rom_rom = 0x83 ∷ 0x13 ∷ 0x00 ∷ 0x00 ∷ []

-- LDF n and then LD A,2AH, in bank 3
abbrev pub ldf_start : ℕ → Machine
ldf_start n = begin 0xD7 (0x17 ∷ n ∷ 0x21 ∷ 0x2A ∷ []) ▹ Bank 3

-- RAM of eight bytes that begins with this code
abbrev pub eight : List ℕ → Machine
eight code = begin 0xD7 (replicate 8 0x00) ▹ Ram 0 code

-- ROM of four bytes: FFFFFCH to FFFFFFH
abbrev pub four_rom : List ℕ
four_rom = replicate 4 0x00

-- RAM of 65,536 bytes, and LD XWA,(FFFDH) at FFFFFCH
abbrev pub whole_ram : Machine
whole_ram = begin 0xD7 (replicate 65536 0x00) ▹ Counter 0xFFFFFC

abbrev pub whole_rom : List ℕ
whole_rom = 0xE1 ∷ 0xFD ∷ 0xFF ∷ 0x20 ∷ []

-- one step that is refused and changes nothing
abbrev pub stops : Machine → List ℕ → Why → Case
stops m rom w = row 1 m rom 0 nothing (Err w)

-- ---- the tables
unfoldable pub copy_runs : List Case
copy_runs =
    -- not yet: the counter is at it still, V says that there is more
    does 2 ldir_start (XHL 6 & XDE 9 & BC 1 & F 0xC5 & Ram 7 (0xA1 ∷ 0xA2 ∷ []))
    -- the last round: S, Z and C kept, the counter past it
    ∷ does 3 ldir_start (XHL 7 & XDE 0xA & BC 0 & F 0xC1 & Counter 2 & Ram 7 (0xA1 ∷ 0xA2 ∷ 0xA3 ∷ []))
    -- each round reads what the one before left
    ∷ does 3 (ldir_start ▹ XDE 5) (XHL 7 & XDE 8 & BC 0 & F 0xC1 & Counter 2 & Ram 5 (0xA1 ∷ 0xA1 ∷ 0xA1 ∷ []))
    -- down, by words
    ∷ does 2 lddr_start (XIY 4 & XIX 0 & BC 0 & F 0xC1 & Counter 2 & Ram 2 (0xB1 ∷ 0xB2 ∷ 0xB3 ∷ 0xB4 ∷ []))
    -- BC 0 is not the end: it goes on with FFFF
    ∷ does 1 (ldir_start ▹ BC 0) (XHL 5 & XDE 8 & BC 0xFFFF & F 0xC5 & Ram 7 (0xA1 ∷ []))
    ∷ []

unfoldable pub compare_runs : List Case
compare_runs =
    -- equal at the first element, and at the last: past the match
    does 1 (cpir_start ▹ A 0x11) (XIX 5 & BC 2 & F 0x46 & Counter 2)
    ∷ does 3 (cpir_start ▹ A 0x33) (XIX 7 & BC 0 & F 0x42 & Counter 2)
    -- not yet
    ∷ does 2 (cpir_start ▹ A 0x33) (XIX 6 & BC 1 & F 0x06)
    -- none is equal
    ∷ does 3 (cpir_start ▹ A 0x44) (XIX 7 & BC 0 & F 0x02 & Counter 2)
    -- BC 0 is not the end
    ∷ does 3 (cpir_start ▹ A 0x33 & BC 0) (XIX 7 & BC 0xFFFD & F 0x46 & Counter 2)
    -- down, by words: equal at the first, at the last, and none
    ∷ does 1 (cpdr_start ▹ WA 0x5678) (XDE 2 & BC 1 & F 0x47 & Counter 2)
    ∷ does 2 (cpdr_start ▹ WA 0x1234) (XDE 0 & BC 0 & F 0x43 & Counter 2)
    ∷ does 2 (cpdr_start ▹ WA 0xFFFF) (XDE 0 & BC 0 & F 0x83 & Counter 2)
    ∷ []

-- refused in the middle: what the earlier rounds did stays, and nothing of the refused one
unfoldable pub refused : List Case
refused =
    -- the third element is past the end of RAM: its address is told
    row 5 (ldir_start ▹ XHL 8 & XDE 2 & BC 5 & Ram 8 (0xC1 ∷ 0xC2 ∷ [])) [] 2
    (XHL 0xA & XDE 4 & BC 3 & F 0xC5 & Ram 2 (0xC1 ∷ 0xC2 ∷ [])) (Err (Missing 0xA))
    ∷ row 9 (cpir_start ▹ A 0x44 & XIX 5 & BC 9) [] 2 (XIX 7 & BC 7 & F 0x06) (Err (Missing 7))
    -- the third target is below 0, which is the end of ROM
    ∷ row 4 to_rom_start to_rom_rom 2 (XHL 3 & XDE 0xFFFFFFFF & BC 2 & F 0x04 & Ram 0 (0xC4 ∷ 0xC5 ∷ [])) (Err (ToRom 0xFFFFFF))
    -- the first target is nowhere
    ∷ row 3 (ldir_start ▹ XDE 0x1000) [] 0 nothing (Err (Missing 0x1000))
    ∷ []

-- onto its own code, which demand 3 leaves out: each step fetches afresh what the round before wrote
unfoldable pub onto : List Case
onto =
    -- 83 11 becomes 00 11: the next steps are NOP and SCF
    does 3 (begin 0x00 (0x83 ∷ 0x11 ∷ 0x00 ∷ 0x00 ∷ 0x00 ∷ 0x10 ∷ []) ▹ XHL 4 & XDE 0 & BC 3)
    (XHL 5 & XDE 1 & BC 2 & F 0x05 & Counter 2 & Ram 0 (0x00 ∷ []))
    -- 83 11 becomes 83 10: the third step is LDI, which goes past it
    ∷ does 3 (begin 0x00 (0x83 ∷ 0x11 ∷ 0x00 ∷ 0x00 ∷ 0x83 ∷ 0x10 ∷ 0x77 ∷ []) ▹ XHL 4 & XDE 0 & BC 5)
    (XHL 7 & XDE 3 & BC 2 & F 0x04 & Counter 2 & Ram 1 (0x10 ∷ 0x77 ∷ []))
    ∷ []

-- the checks of a run, in their order; each of these runs changes nothing
unfoldable pub checks : List Case
checks =
    -- 7: one step too many is refused first of all, and the most that may be asked for is not
    row 1000001 (begin 0x20 (replicate 65537 0)) [] 0 nothing (Err TooMany)
    ∷ row 1000000 (begin 0x00 []) [] 0 nothing (Err NoCode)
    -- 1: even for 0 steps; as much as 65,536 bytes is allowed
    ∷ row 0 (begin 0x20 (replicate 65537 0)) [] 0 nothing (Err TooLong)
    ∷ row 0 (begin 0x00 []) (replicate 65537 0) 0 nothing (Err TooLong)
    ∷ row 0 (begin 0x00 (replicate 65536 0)) (replicate 65536 0) 0 nothing (Ok tt)
    -- 2: even for 0 steps
    ∷ row 0 (begin 0x20 []) [] 0 nothing (Err Invalid)
    ∷ []

-- the mill's start-up, and each number 4 to 7 (request K2): the bank is its low two bits; LDF changes nothing else but the counter
unfoldable pub start_up : List Case
start_up =
    -- LDF 5: bank 1, and the A that is loaded next is that of bank 1
    does 1 (ldf_start 0x05) (Bank 1 & Counter 2)
    ∷ does 2 (ldf_start 0x05) (Bank 1 & A 0x2A & Counter 4)
    -- LDF 4, 6 and 7: banks 0, 2 and 3, the last from bank 0
    ∷ does 1 (ldf_start 0x04) (Bank 0 & Counter 2)
    ∷ does 1 (ldf_start 0x06) (Bank 2 & Counter 2)
    ∷ does 1 (ldf_start 0x07 ▹ Bank 0) (Bank 3 & Counter 2)
    -- 08 is not listed
    ∷ row 1 (ldf_start 0x08) [] 0 nothing (Err Unlisted)
    ∷ []

-- the address that goes with 5 and 6 (request K3), with RAM 0 to 7, and ROM FFFFFCH to FFFFFFH where there is one
unfoldable pub addresses : List Case
addresses =
    -- LD XWA,(6): the first two bytes are RAM, and the third is told; (7): the second; (40H): nothing is there
    stops (eight (0xE0 ∷ 0x06 ∷ 0x20 ∷ [])) [] (Missing 8)
    ∷ stops (eight (0xE0 ∷ 0x07 ∷ 0x20 ∷ [])) [] (Missing 8)
    ∷ stops (eight (0xE0 ∷ 0x40 ∷ 0x20 ∷ [])) [] (Missing 0x40)
    -- LD WA,(FFFFFBH): the first byte is below ROM
    ∷ stops (eight (0xD2 ∷ 0xFB ∷ 0xFF ∷ 0xFF ∷ 0x20 ∷ [])) four_rom (Missing 0xFFFFFB)
    -- LD XWA,(FFFFFEH): the first byte is ROM, and the third is 000000H, which RAM holds; without ROM it is the first.
    -- The same by POP XWA at FFFFFCH, with no RAM: 000000H is in no memory
    ∷ stops (eight (0xE2 ∷ 0xFE ∷ 0xFF ∷ 0xFF ∷ 0x20 ∷ [])) four_rom (Missing 0)
    ∷ stops (eight (0xE2 ∷ 0xFE ∷ 0xFF ∷ 0xFF ∷ 0x20 ∷ [])) [] (Missing 0xFFFFFE)
    ∷ stops (begin 0xD7 [] ▹ XSP 0xFFFFFE & Counter 0xFFFFFC) (0x58 ∷ 0x00 ∷ 0x00 ∷ 0x00 ∷ []) (Missing 0)
    -- LD XWA,(FFFDH) with all the RAM there may be
    ∷ stops whole_ram whole_rom (Missing 0x10000)
    -- PUSH XWA below 0: in ROM; over the top; and without ROM
    ∷ stops (eight (0x38 ∷ []) ▹ XSP 0) four_rom (ToRom 0xFFFFFC)
    ∷ stops (eight (0x38 ∷ []) ▹ XSP 2) four_rom (Missing 0)
    ∷ stops (eight (0x38 ∷ []) ▹ XSP 2) [] (Missing 0xFFFFFE)
    -- CALL 1234H and RET over RAM's end; where nothing is, the address is told without the bits of XSP above it
    ∷ stops (eight (0x1C ∷ 0x34 ∷ 0x12 ∷ []) ▹ XSP 0xA) [] (Missing 8)
    ∷ stops (eight (0x0E ∷ []) ▹ XSP 0x01000005) [] (Missing 8)
    ∷ stops (eight (0x0E ∷ []) ▹ XSP 0x12000050) [] (Missing 0x50)
    -- LDIW: the source is missing; then the target; then both, and the source is told; the target is ROM
    ∷ stops (eight (0x93 ∷ 0x10 ∷ []) ▹ XHL 7 & XDE 4) [] (Missing 8)
    ∷ stops (eight (0x93 ∷ 0x10 ∷ []) ▹ XHL 4 & XDE 0x50) [] (Missing 0x50)
    ∷ stops (eight (0x93 ∷ 0x10 ∷ []) ▹ XHL 0x60 & XDE 0x50) [] (Missing 0x60)
    ∷ stops (eight (0x93 ∷ 0x10 ∷ []) ▹ XHL 4 & XDE 0xFFFFFE) four_rom (ToRom 0xFFFFFE)
    -- CPIW over the top
    ∷ stops (eight (0x94 ∷ 0x14 ∷ []) ▹ XIX 0xFFFFFF) four_rom (Missing 0)
    -- ADD (FFFFFCH),A reads ROM and would store there
    ∷ stops (eight (0xC2 ∷ 0xFC ∷ 0xFF ∷ 0xFF ∷ 0x89 ∷ [])) four_rom (ToRom 0xFFFFFC)
    ∷ []

-- all these tables hold
abbrev pub RunsHold : Type 0
RunsHold =
    OfEach ComesOut copy_runs × OfEach ComesOut compare_runs × OfEach ComesOut refused × OfEach ComesOut onto × OfEach ComesOut checks
    × OfEach ComesOut start_up × OfEach ComesOut addresses
