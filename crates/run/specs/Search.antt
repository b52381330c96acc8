-- The outlet's search, and copies, spelt out: where pointers, BC, flags and memory are at the end. Each statement is proved in proofs/Search.antt
-- and proofs/Copies.antt.
use Rattle.std.specs.Prelude.{ℕ, ◌+◌, ◌-◌, ◌*◌, ◌%◌, ◌^◌, ◌≤◌, ◌≡◌, ◌⊎◌, List, true, false, length, get_or, take, drop, replicate, Ok}
use Rattle.little.specs.{declared.Size.TheVariants.Byte, declared.Size.TheVariants.Long, Width.bytes_of, Bytes.replaced}
use Rattle.state.specs.{declared.State.State, State.marks_of, Register.get_register}
use Rattle.code.specs.declared.Form.{Form}
use Rattle.operand.specs.{Operand.pointer_of, Flag.flags_in}
use Rattle.block.specs.Block.{count_in}
use Rattle.turn.specs.Many.{ends}
use Rattle.run.specs.{Run.run_of, Demand.At, Demand.Told, Demand.at_count, Demand.at_equal, Demand.Spares, Demand.count_of, Demand.passed}

-- how many bytes a copy moves
abbrev pub bytes_moved : Form → State → ℕ
bytes_moved f s = count_of s * bytes_of f.size

-- all below is of any form and any start
module _ (f : Form) (s : State) (ram rom : List ℕ) where
  -- n steps end it, with t and m: the source pointer has passed n elements, BC is the count less n, the counter is past the instruction,
  -- and H and V are defined
  pub record Over (n : ℕ) (t : State) (m : List ℕ) : Type 0 where
    pub ran : run_of n s ram rom ≡ ends n t m (Ok tt)
    pub from : get_register t Long f.from ≡ passed f (get_register s Long f.from) n
    pub bc : count_in t ≡ count_of s - n
    pub past : t.counter ≡ (s.counter + 2) % 2 ^ 24
    pub known : marks_of t.flags ≡ 0

  -- a compare whose match is element i, from 0: i + 1 steps, so that the pointer is past the match and not at it; Z is 1; memory is as it was
  abbrev pub SearchFinds : Type 0
  SearchFinds = (i : ℕ) → At f s ram rom → Told f s ram rom (at_equal i) → (t : State) × Over (i + 1) t ram × ((flags_in t).z ≡ true)

  -- with no match as many steps as the counter says, so that the pointer is past the last element; Z is 0
  abbrev pub SearchFails : Type 0
  SearchFails =
      At f s ram rom → f.copies ≡ false → Told f s ram rom at_count → (t : State) × Over (count_of s) t ram × ((flags_in t).z ≡ false)

  -- a copy: the target pointer too has passed them all
  abbrev pub CopyEnds : Type 0
  CopyEnds =
      At f s ram rom → f.copies ≡ true → Told f s ram rom at_count → Spares f s (count_of s) →
      (t : State) × (m : List ℕ) × Over (count_of s) t m × (get_register t Long f.to ≡ passed f (get_register s Long f.to) (count_of s))

  -- ---- what a copy upwards, LDIR, leaves in memory
  -- the bytes go to RAM from there on, and none of them to the instruction's own two
  pub record Target : Type 0 where
    pub in_ram : pointer_of s f.to + bytes_moved f s ≤ length ram
    pub spares : (pointer_of s f.to + bytes_moved f s ≤ s.counter) ⊎ (s.counter + 2 ≤ pointer_of s f.to)

  -- the source is in RAM and does not overlap the target: the target holds the source's bytes, and nothing else has changed
  abbrev pub CopyMoves : Type 0
  CopyMoves =
      At f s ram rom → f.copies ≡ true → f.up ≡ true → Target → pointer_of s f.from + bytes_moved f s ≤ length ram →
      (pointer_of s f.from + bytes_moved f s ≤ pointer_of s f.to) ⊎ (pointer_of s f.to + bytes_moved f s ≤ pointer_of s f.from) →
      (run_of (count_of s) s ram rom).ram ≡ replaced (pointer_of s f.to) (take (bytes_moved f s) (drop (pointer_of s f.from) ram)) ram

  -- the target of bytes is one above the source: the first byte is spread over it
  abbrev pub CopySpreads : Type 0
  CopySpreads =
      At f s ram rom → f.copies ≡ true → f.up ≡ true → f.size ≡ Byte → Target → pointer_of s f.to ≡ pointer_of s f.from + 1 →
      (run_of (count_of s) s ram rom).ram ≡ replaced (pointer_of s f.to) (replicate (count_of s) (get_or ram (pointer_of s f.from) 0)) ram
