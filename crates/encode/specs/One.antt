-- One instruction as bytes (request K11): whether it is listed, its bytes, and how a writing of them ends.
use Rattle.std.specs.Prelude.{ℕ, ◌≡◌, List, ◌++◌, Bool, ◌&&◌, cond, length, drop, leb, eqb, Result, Ok, Err}
use Rattle.code.specs.{declared.Instruction.Instruction, Range.in_range, Written.code_of}
use Rattle.encode.specs.declared.Refusal.{Refusal}
use Rattle.encode.specs.declared.Refusal.TheVariants.{Short, Unlisted, NoList, NoRoom}

-- the bytes of an instruction
abbrev pub bytes_in : Instruction → List ℕ
bytes_in i = code_of i.op i.size i.operand

-- whether it is a listed one: within its range, and as long as its bytes
abbrev pub is_listed : Instruction → Bool
is_listed i = in_range i.op i.size i.operand && eqb i.length (length (bytes_in i))

-- the number of a refusal, and of an end; 0 where the call was done
abbrev pub refusal_number : Refusal → ℕ
refusal_number Short = 3
refusal_number Unlisted = 4
refusal_number NoList = 30
refusal_number NoRoom = 31

abbrev pub end_number : {X : Type 0} → Result X Refusal → ℕ
end_number (Ok x) = 0
end_number (Err why) = refusal_number why

-- what is told of a writing: how many bytes were written, or why none were
abbrev pub Written : Type 0
Written = Result ℕ Refusal

-- how a writing ends: 30 where something is not listed; then 31 where the room, of so many bytes, is too short for the whole of it
unfoldable pub end_of : Bool → ℕ → ℕ → Written
end_of good size room = cond good (cond (leb size room) (Ok size) (Err NoRoom)) (Err NoList)

-- what the room holds after it: the bytes, and behind them what was there. A refusal leaves what was there
abbrev pub room_after : Written → List ℕ → List ℕ → List ℕ
room_after (Ok n) s room = s ++ drop (length s) room
room_after (Err why) s room = room

-- ---- the promise of a writing of the bytes s, which are good or not: what it tells, and the bytes b of the room afterwards
abbrev pub Writes : Bool → List ℕ → List ℕ → Written → List ℕ → Type 0
Writes good s room told b =
    let end = end_of good (length s) (length room) in
    (told ≡ end) × (b ≡ room_after end s room)
