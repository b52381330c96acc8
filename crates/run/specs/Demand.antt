-- Demand 3: how a repeating copy or compare ends, told by its start alone. Each statement is proved in proofs/Endings.antt
-- or proofs/Known.antt.
use Rattle.std.specs.Prelude.{ℕ, zero, suc, ◌+◌, ◌-◌, ◌*◌, ◌%◌, ◌^◌, ◌<◌, ◌≤◌, ◌≡◌, ◌⊎◌, List, true, false, cond, eqb, length, Ok, Err}
use Rattle.answer.specs.declared.Why.{Why}
use Rattle.little.specs.{declared.Size.TheVariants.Long, Width.bytes_of, Bytes.Bytes}
use Rattle.memory.specs.{declared.Place.Place, declared.Place.TheVariants.Rom, declared.Place.TheVariants.Missing}
use Rattle.memory.specs.{Place.place_of, Place.Present, Access.load_of, Access.code_at}
use Rattle.state.specs.{declared.State.State, State.valid_of, State.marks_of, Sound.Sound, Register.get_register}
use Rattle.code.specs.{declared.Form.Form, declared.Instruction.Instruction, declared.Op.TheVariants.Blocks}
use Rattle.code.specs.Listed.{decode_of}
use Rattle.operand.specs.Try.{Try, did, no}
use Rattle.block.specs.Block.{count_in, accumulator, round_of}
use Rattle.exec.specs.Exec.{past_of}
use Rattle.turn.specs.Many.{Result, ends}
use Rattle.run.specs.Run.{most_steps, RunLeaves}
use Rattle.answer.specs.declared.Why.TheVariants as why

-- n rounds one after the other, each on the registers, flags and memory that the one before left; or the first refusal
unfoldable pub rounds_of : ℕ → Form → State → List ℕ → List ℕ → Try
rounds_of zero f s ram rom = did s ram
rounds_of (suc n) f s ram rom =
    elim (round_of f s ram rom) [
      | did t m ↦ rounds_of n f t m rom
      | no w ↦ no w
    ]

-- as many rounds as the counter BC says: 0 means 65,536
unfoldable pub count_of : State → ℕ
count_of s = cond (eqb (count_in s) 0) (2 ^ 16) (count_in s)

-- a pointer that has passed i elements, up or down, round at 32 bits
unfoldable pub passed : Form → ℕ → ℕ → ℕ
passed f x i = cond f.up ((x + i * bytes_of f.size) % 2 ^ 32) ((x + i * (2 ^ 32 - bytes_of f.size)) % 2 ^ 32)

-- where it ends: at the count; a compare at the first equal element; or before the first refused round, with its number and address.
-- Elements and rounds are numbered from 0
pub data Ending : Type 0 where
  at_count : Ending
  at_equal : ℕ → Ending
  at_refusal : ℕ → Why → Ending

-- as many rounds as are done: the equal one is, and the refused one is not
abbrev pub rounds_done : Ending → State → ℕ
rounds_done at_count s = count_of s
rounds_done (at_equal i) s = i + 1
rounds_done (at_refusal n w) s = n

-- ---- all below is of any form and any start: a state, and the bytes of RAM and ROM
module _ (f : Form) (s : State) where
  -- the address of element i, from 0, and of the place that a copy writes it to
  abbrev pub element_of : ℕ → ℕ
  element_of i = passed f (get_register s Long f.from) i % 2 ^ 24

  abbrev pub target_of : ℕ → ℕ
  target_of i = passed f (get_register s Long f.to) i % 2 ^ 24

  -- no byte that the first n rounds of a copy write is one of the instruction's own two
  abbrev pub Spares : ℕ → Type 0
  Spares n = f.copies ≡ true → (i : ℕ) → i < n → (target_of i + bytes_of f.size ≤ s.counter) ⊎ (s.counter + 2 ≤ target_of i)

  module _ (ram rom : List ℕ) where
    -- where element i lies, and where a copy writes it to
    abbrev pub element_place : ℕ → Place
    element_place i = place_of (length ram) (length rom) (element_of i) (bytes_of f.size)

    abbrev pub target_place : ℕ → Place
    target_place i = place_of (length ram) (length rom) (target_of i) (bytes_of f.size)

    -- what demand 3 supposes: a valid state, with both memories within their limits, at a listed repeating copy or compare whose bytes lie
    -- in one memory; `sound`, `ram_bytes` and `rom_bytes` say only that each number fits where the code holds it, which the types see to
    pub record At : Type 0 where
      pub sound : Sound s
      pub valid : valid_of s ≡ true
      pub ram_bytes : Bytes ram
      pub rom_bytes : Bytes rom
      pub ram_fits : length ram ≤ 2 ^ 16
      pub rom_fits : length rom ≤ 2 ^ 16
      pub instruction : Instruction
      pub here : decode_of (code_at ram rom s.counter) ≡ Ok instruction
      pub form : instruction.op ≡ Blocks f
      pub repeats : f.again ≡ true

    -- element i equals A, or WA: what a compare looks for
    abbrev pub EqualAt : ℕ → Type 0
    EqualAt i = (f.copies ≡ false) × (load_of ram rom (element_of i) f.size ≡ Ok (accumulator s f.size))

    -- the round of element i is refused with this number and address, in the order of check: 5, the element is missing, with its missing byte;
    -- or a copy finds it, and 5, its target is missing, with its missing byte, or 6, its target is ROM, with its first byte
    pub data RefusedAt (i : ℕ) : Why → Type 0 where
      no_element : (x : ℕ) → element_place i ≡ Missing x → RefusedAt i (why.Missing x)
      no_target : f.copies ≡ true → Present (element_place i) → (x : ℕ) → target_place i ≡ Missing x → RefusedAt i (why.Missing x)
      rom_target : f.copies ≡ true → Present (element_place i) → (o : ℕ) → target_place i ≡ Rom o → RefusedAt i (why.ToRom (target_of i))

    -- nothing ends it in the first n rounds: each element is there, every byte that a copy writes is RAM, and none is equal
    abbrev pub Passes : ℕ → Type 0
    Passes n =
        (i : ℕ) → i < n →
        Present (element_place i) × (f.copies ≡ true → target_of i + bytes_of f.size ≤ length ram) × (EqualAt i → ⊥)

    -- what the start holds for each ending
    abbrev pub Told : Ending → Type 0
    Told at_count = Passes (count_of s)
    Told (at_equal i) = (i < count_of s) × Passes i × EqualAt i
    Told (at_refusal n w) = (n < count_of s) × Passes n × RefusedAt n w

    -- a round or more defines H and V, whatever their marks were: after them no flag of F is marked
    abbrev pub RoundsDefine : Type 0
    RoundsDefine = (n : ℕ) (t : State) (m : List ℕ) → At → 0 < n → rounds_of n f s ram rom ≡ did t m → marks_of t.flags ≡ 0

    -- ---- what a run of so many steps leaves, by `Leaves`: of states (RunLeaves), and of records as C sees them (module/Demand)
    module _ (Leaves : ℕ → Result → Type 0) where
      -- n rounds lead to t and m, and n steps end there: registers, flags and memory are those of n rounds, H and V are defined, the counter
      -- is past it
      abbrev pub EndsAfter : ℕ → Type 0
      EndsAfter n =
          (t : State) × (m : List ℕ) × (rounds_of n f s ram rom ≡ did t m) × Leaves n (ends n (past_of 2 t) m (Ok tt)) × (marks_of t.flags ≡ 0)

      -- n rounds are done, and n steps come so far: the counter is at it still
      abbrev pub GoesOnAfter : ℕ → Type 0
      GoesOnAfter n =
          (t : State) × (m : List ℕ) × (rounds_of n f s ram rom ≡ did t m) × Leaves n (ends n t m (Ok tt)) × (t.counter ≡ s.counter)

      -- n rounds are done, and the next one stops every run of more steps with this number and address: nothing of that one is done
      abbrev pub StopsAfter : ℕ → Why → Type 0
      StopsAfter n w =
          (steps : ℕ) → n < steps → steps ≤ most_steps →
          (t : State) × (m : List ℕ) × (rounds_of n f s ram rom ≡ did t m) × Leaves steps (ends n t m (Err w))

      -- what it comes to: the counter past it after as many steps; or at it still, and a refusal where more steps are asked for
      abbrev pub ComesTo : Ending → Type 0
      ComesTo at_count = EndsAfter (count_of s)
      ComesTo (at_equal i) = EndsAfter (i + 1)
      ComesTo (at_refusal n w) = GoesOnAfter n × StopsAfter n w

      -- and not before: after fewer steps the counter is at it still
      abbrev pub EndsAsTold : Ending → Type 0
      EndsAsTold e = ComesTo e × ((k : ℕ) → k < rounds_done e s → GoesOnAfter k)

    -- all of it: every start tells exactly one ending and, where the rounds that are done spare the instruction's own two bytes, comes to it
    abbrev pub EveryStart : Type 0
    EveryStart =
        (e : Ending) × Told e × ((d : Ending) → Told d → d ≡ e) × (At → Spares (rounds_done e s) → EndsAsTold (RunLeaves s ram rom) e)

    -- a run goes on through all rounds that nothing ends, whatever the later ones spare
    abbrev pub NotBefore : Type 0
    NotBefore = (n : ℕ) → At → n < count_of s → Passes n → Spares n → GoesOnAfter (RunLeaves s ram rom) n
