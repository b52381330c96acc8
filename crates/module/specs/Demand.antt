-- Demand 3 as C sees it: tlcs900h_run, which promises CRunMeets, on a record whose state is at a repeating copy or compare.
-- Proved in proofs/Demand.antt.
use Rattle.std.specs.Prelude.{ℕ, ◌-◌, List, [], ◌∷◌, ◌++◌, replicate}
use Rattle.answer.specs.{declared.Why.TheVariants.Missing, Number.number_of, Number.at_of}
use Rattle.state.specs.declared.State.{State}
use Rattle.code.specs.declared.Form.{Form}
use Rattle.saved.specs.Record.{record_length, record_of}
use Rattle.turn.specs.Many.{Result}
use Rattle.run.specs.Demand.{At, Spares, Ending, at_count, at_equal, at_refusal, Told, rounds_done, EndsAfter, EndsAsTold}
use Rattle.cases.specs.{Table.◌▹◌, Table.◌&◌, Table.A, Table.BC, Table.XIX, Runs.cpir_start, Evidence.ldir, Evidence.cpir, Evidence.full_ram}
use Rattle.cases.specs.{Evidence.full_rom, Evidence.full_copy}
use Rattle.module.specs.{Calls.CRunMeets, Statements.HasState}

-- a call of so many steps on a record leaves what this result leaves, with the record of its state
abbrev pub CallLeaves : List ℕ → List ℕ → List ℕ → ℕ → Result → Type 0
CallLeaves bytes ram rom steps r = CRunMeets steps bytes ram rom (number_of r.answer) (at_of r.answer) (record_of r.state) r.ram r.done

module _ (f : Form) (bytes : List ℕ) (s : State) (ram rom : List ℕ) where
  -- all that is supposed: the record holds a state at such an instruction, the start tells this ending
  -- (exactly one, by EveryStart of run/Demand), and the rounds that are done spare the instruction's own two bytes
  abbrev pub CallMet : Ending → Type 0
  CallMet e = HasState bytes s × At f s ram rom × Told f s ram rom e × Spares f s (rounds_done e s)

  -- the call comes to what is told, and not before
  abbrev pub CallEndsAsTold : Type 0
  CallEndsAsTold = (e : Ending) → CallMet e → EndsAsTold f s ram rom (CallLeaves bytes ram rom) e

-- ---- records that meet all of this, with each ending
-- bank 0 with this A and BC, the other banks, this XIX and three more, this counter, SR with this F, F', and zeros
abbrev pub seek_record : ℕ → ℕ → ℕ → ℕ → ℕ → List ℕ
seek_record a bc xix counter f =
    a ∷ 0x5A ∷ 0x5A ∷ 0x5A ∷ bc ∷ 0x00 ∷ 0x5A ∷ 0x5A ∷ replicate 56 0x5A
    ++ (xix ∷ 0x00 ∷ 0x00 ∷ 0x00 ∷ replicate 12 0x5A ++ (counter ∷ 0x00 ∷ 0x00 ∷ 0x00 ∷ f ∷ 0xF8 ∷ 0x51 ∷ replicate (record_length - 87) 0x00))

-- CPIR at 0, and 11 22 33 from 4 to the end of RAM
abbrev pub SeekCalled : Type 0
SeekCalled =
    let ram = cpir_start.ram in
    -- 33 is the third element: after three steps XIX is past it
    CallMet cpir (seek_record 0x33 3 4 0 0x00) (cpir_start ▹ A 0x33).state ram [] (at_equal 2)
    × CRunMeets 3 (seek_record 0x33 3 4 0 0x00) ram [] 0 0 (seek_record 0x33 0 7 2 0x42) ram 3
    -- 44 is none of the three
    × CallMet cpir (seek_record 0x44 3 4 0 0x00) (cpir_start ▹ A 0x44).state ram [] at_count
    × CRunMeets 3 (seek_record 0x44 3 4 0 0x00) ram [] 0 0 (seek_record 0x44 0 7 2 0x02) ram 3
    -- from 5 on the third element is missing, which is at 7: nine steps answer 5 and 7 after two
    × CallMet cpir (seek_record 0x44 9 5 0 0x00) (cpir_start ▹ A 0x44 & XIX 5 & BC 9).state ram [] (at_refusal 2 (Missing 7))
    × CRunMeets 9 (seek_record 0x44 9 5 0 0x00) ram [] 5 7 (seek_record 0x44 7 7 0 0x06) ram 2

-- BC 0: one call does all 65,536 rounds, from the whole of ROM to the whole of RAM
abbrev pub FullCalled : Type 0
FullCalled =
    CallMet ldir (record_of full_copy) full_copy full_ram full_rom at_count
    × EndsAfter ldir full_copy full_ram full_rom (CallLeaves (record_of full_copy) full_ram full_rom) 65536
