-- Starts that meet all that demand 3 supposes, each with the ending that it tells; so the demand says something of each.
-- Proved in proofs/Evidence.antt.
use Rattle.std.specs.Prelude.{ℕ, ◌≡◌, List, [], ◌∷◌, Bool, true, false, replicate}
use Rattle.answer.specs.declared.Why.TheVariants.{Missing, ToRom}
use Rattle.little.specs.declared.{Size.Size, Size.TheVariants.Byte, Size.TheVariants.Word}
use Rattle.state.specs.declared.State.{State}
use Rattle.code.specs.declared.Form.{Form}
use Rattle.run.specs.Run.{RunLeaves}
use Rattle.run.specs.Demand.{At, Spares, Ending, at_count, at_equal, at_refusal, Told, rounds_done, EndsAsTold}
use Rattle.cases.specs.Table.{Machine, machine, OfEach, begin, ◌▹◌, ◌&◌, A, WA, BC, XDE, XHL, XIX, Bank, Counter}
use Rattle.cases.specs.Runs.{ldir_start, lddr_start, cpir_start, cpdr_start, to_rom_rom, to_rom_start}

-- ---- a start: a form, the state and the memories; the ending that they tell, and how many rounds are done by then
pub record Start : Type 0 where
  pub form : Form
  pub state : State
  pub ram : List ℕ
  pub rom : List ℕ
  pub ending : Ending
  pub rounds : ℕ

-- it meets all that the demand supposes, and tells this ending after so many rounds
abbrev pub StartMet : Start → Type 0
StartMet b =
    At b.form b.state b.ram b.rom
    × Told b.form b.state b.ram b.rom b.ending
    × (rounds_done b.ending b.state ≡ b.rounds)
    × Spares b.form b.state b.rounds

-- its run comes to that ending, and not before
abbrev pub StartSays : Start → Type 0
StartSays b = EndsAsTold b.form b.state b.ram b.rom (RunLeaves b.state b.ram b.rom) b.ending

-- a row of the table
abbrev pub tells : Form → Machine → List ℕ → Ending → ℕ → Start
tells f m rom e n = record { form = f; state = m.state; ram = m.ram; rom = rom; ending = e; rounds = n }

-- ---- LDIR, LDDR, CPIR and CPDR
-- the form of a repeating copy, and of a repeating compare
abbrev pub copying : Size → Bool → ℕ → ℕ → Form
copying z up to from = record { copies = true; size = z; up = up; again = true; to = to; from = from }

abbrev pub comparing : Size → Bool → ℕ → Form
comparing z up r = record { copies = false; size = z; up = up; again = true; to = r; from = r }

-- LDIR of bytes to (XDE) from (XHL); LDDR of words to (XIX) from (XIY); CPIR of bytes at (XIX); CPDR of words at (XDE)
abbrev pub ldir : Form
ldir = copying Byte true 2 3

abbrev pub lddr : Form
lddr = copying Word false 4 5

abbrev pub cpir : Form
cpir = comparing Byte true 4

abbrev pub cpdr : Form
cpdr = comparing Word false 2

-- ---- starts of 65,536 rounds: BC is 0
-- memories of 65,536 bytes: ROM begins with LDIR, whose source is all of ROM and whose target all of RAM
unfoldable pub full_ram : List ℕ
full_ram = replicate 65536 0x00

unfoldable pub full_rom : List ℕ
full_rom = 0x83 ∷ 0x11 ∷ replicate 65534 0x00

unfoldable pub full_copy : State
full_copy = (begin 0x00 [] ▹ XHL 0xFF0000 & XDE 0 & BC 0 & Counter 0xFF0000).state

-- CPIR looks for 1 in all of RAM, and none is there
unfoldable pub seek_rom : List ℕ
seek_rom = 0x84 ∷ 0x15 ∷ []

unfoldable pub full_seek : State
full_seek = (begin 0x00 [] ▹ A 1 & XIX 0 & BC 0 & Counter 0xFFFFFE).state

-- ---- the table
unfoldable pub evidence : List Start
evidence =
    -- copies end at the count: up and down, and where the target is one above the source, which is overwritten as it goes
    tells ldir ldir_start [] at_count 3
    ∷ tells lddr lddr_start [] at_count 2
    ∷ tells ldir (ldir_start ▹ XDE 5) [] at_count 3
    -- compares end at the first equal element, the first of all and the last, or at the count
    ∷ tells cpir (cpir_start ▹ A 0x11) [] (at_equal 0) 1
    ∷ tells cpir (cpir_start ▹ A 0x33) [] (at_equal 2) 3
    ∷ tells cpir (cpir_start ▹ A 0x44) [] at_count 3
    ∷ tells cpdr (cpdr_start ▹ WA 0x5678) [] (at_equal 0) 1
    ∷ tells cpdr (cpdr_start ▹ WA 0x1234) [] (at_equal 1) 2
    ∷ tells cpdr (cpdr_start ▹ WA 0xFFFF) [] at_count 2
    -- refused: a compare's element is missing; a copy's element is; its target is missing; its target is ROM
    ∷ tells cpir (cpir_start ▹ A 0x44 & XIX 5 & BC 9) [] (at_refusal 2 (Missing 7)) 2
    ∷ tells ldir (ldir_start ▹ XHL 8 & XDE 2 & BC 5) [] (at_refusal 2 (Missing 0xA)) 2
    ∷ tells ldir (ldir_start ▹ XDE 9) [] (at_refusal 1 (Missing 0xA)) 1
    ∷ tells (copying Byte false 2 3) to_rom_start to_rom_rom (at_refusal 2 (ToRom 0xFFFFFF)) 2
    -- each ending in another bank; the compare at (XHL), a pointer that each bank has for itself
    ∷ tells ldir (begin 0x00 ldir_start.ram ▹ Bank 2 & XHL 4 & XDE 7 & BC 3) [] at_count 3
    ∷ tells (comparing Byte true 3) (begin 0x00 (0x83 ∷ 0x15 ∷ 0x00 ∷ 0x00 ∷ 0x11 ∷ 0x22 ∷ 0x33 ∷ []) ▹ Bank 3 & A 0x33 & XHL 4 & BC 3) []
    (at_equal 2) 3
    ∷ tells ldir (begin 0x00 ldir_start.ram ▹ Bank 1 & XHL 8 & XDE 2 & BC 5) [] (at_refusal 2 (Missing 0xA)) 2
    -- BC 0 is 65,536 rounds
    ∷ tells ldir (machine full_copy full_ram) full_rom at_count 65536
    ∷ tells cpir (machine full_seek full_ram) seek_rom at_count 65536
    ∷ []

-- each of these starts meets what is supposed
abbrev pub EvidenceMet : Type 0
EvidenceMet = OfEach StartMet evidence

-- and so the demand says of each how its run ends
abbrev pub EvidenceSays : Type 0
EvidenceSays = OfEach StartSays evidence
