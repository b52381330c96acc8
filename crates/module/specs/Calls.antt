-- What each call answers and leaves, over the bytes of a saved record.
use Rattle.std.specs.Prelude.{ℕ, ◌≡◌, List, Bool, cond, length, ltb, eqb, Ok, Err}
use Rattle.answer.specs.Number.{number_of, at_of, first_refusal, where_done}
use Rattle.answer.specs.declared.Why.TheVariants.{TooMany, TooLong, Invalid}
use Rattle.saved.specs.Record.{record_length, record_of, refused_record, restored_of}
use Rattle.operand.specs.Try.{Outcome}
use Rattle.turn.specs.Many.{Result}
use Rattle.step.specs.{Step.too_long, Step.step_of, Reset.reset_of}
use Rattle.run.specs.Run.{most_steps, run_of}
use Rattle.request.specs.Request.{request_of, took_of}
use Rattle.saved.specs.declared.Restored.{Restored}
use Rattle.answer.specs.Number.{Answer}

-- what a call leaves: its number, the address in `at`, the bytes of the record, and those of RAM
pub record Left : Type 0 where
  pub number : ℕ
  pub at : ℕ
  pub bytes : List ℕ
  pub ram : List ℕ

-- these four together
abbrev pub left : ℕ → ℕ → List ℕ → List ℕ → Left
left number at bytes ram = record { number = number; at = at; bytes = bytes; ram = ram }

-- the first two by the answer
abbrev pub left_by : Answer → List ℕ → List ℕ → Left
left_by a bytes ram = left (number_of a) (at_of a) bytes ram

-- where a call goes on it leaves this; a refusal leaves the record and RAM as they were
abbrev pub unless : Answer → List ℕ → List ℕ → Left → Left
unless (Err w) bytes ram l = left_by (Err w) bytes ram
unless (Ok _) bytes ram l = l

-- ---- reset
-- its answer with so much room for the record: of the memories 1, then 5; then 2, where the room is not that of a record
unfoldable pub reset_answer : ℕ → List ℕ → List ℕ → Answer
reset_answer room ram rom = first_refusal (reset_of ram rom).answer (cond (eqb room record_length) (Ok tt) (Err Invalid))

-- the record of the reset state; a refusal leaves what was there
unfoldable pub reset_bytes : List ℕ → List ℕ → List ℕ → List ℕ
reset_bytes bytes ram rom = where_done (reset_answer (length bytes) ram rom) (record_of (reset_of ram rom).state) bytes

-- ---- one step
-- the state that a call's record holds, or why it is not opened: 1 of the memories, then 2 of the record
unfoldable pub opened_of : List ℕ → ℕ → ℕ → Restored
opened_of bytes ram_length rom_length = cond (too_long ram_length rom_length) (refused_record TooLong) (restored_of bytes)

-- the record of the state after it
abbrev pub stepped : Outcome → List ℕ → Left
stepped o bytes = unless o.answer bytes o.ram (left_by (Ok tt) (record_of o.state) o.ram)

-- what one step leaves
unfoldable pub step_left : List ℕ → List ℕ → List ℕ → Left
step_left bytes ram rom =
    let o = opened_of bytes (length ram) (length rom) in
    unless o.answer bytes ram (stepped (step_of o.state ram rom) bytes)

-- ---- many steps
-- the state that a run starts from, or why it does not start: 7 before 1 and 2
abbrev pub run_opened : ℕ → List ℕ → List ℕ → List ℕ → Restored
run_opened n bytes ram rom = cond (ltb most_steps n) (refused_record TooMany) (opened_of bytes (length ram) (length rom))

-- what a run leaves, with the record of the state so far, whether all steps were done or not
abbrev pub ran_left : Result → Left
ran_left r = left_by r.answer (record_of r.state) r.ram

-- what many steps leave
unfoldable pub run_left : ℕ → List ℕ → List ℕ → List ℕ → Left
run_left n bytes ram rom = let o = run_opened n bytes ram rom in unless o.answer bytes ram (ran_left (run_of n o.state ram rom))

-- what `done` holds after them; 0 where the run is refused at the start
unfoldable pub run_done : ℕ → List ℕ → List ℕ → List ℕ → ℕ
run_done n bytes ram rom = let o = run_opened n bytes ram rom in where_done o.answer (run_of n o.state ram rom).done 0

-- ---- a request for an interrupt
-- the record of the state after it where it is taken; else the record stays
abbrev pub offered : Bool → Outcome → List ℕ → Left
offered took o bytes = left_by o.answer (cond took (record_of o.state) bytes) o.ram

-- what a request leaves
unfoldable pub request_left : ℕ → ℕ → List ℕ → List ℕ → List ℕ → Left
request_left level vector bytes ram rom =
    let o = opened_of bytes (length ram) (length rom) in
    unless o.answer bytes ram (offered (took_of level vector o.state ram rom) (request_of level vector o.state ram rom) bytes)

-- what `taken` holds after it: 1 where it is taken, 0 where the mask keeps it out or it is refused
unfoldable pub request_taken : ℕ → ℕ → List ℕ → List ℕ → List ℕ → ℕ
request_taken level vector bytes ram rom =
    let o = opened_of bytes (length ram) (length rom) in where_done o.answer (cond (took_of level vector o.state ram rom) 1 0) 0

-- ---- the promise of each call, of its number and of what it leaves
-- reset: number, and the bytes b of the record afterwards
abbrev pub CResetMeets : List ℕ → List ℕ → List ℕ → ℕ → List ℕ → Type 0
CResetMeets bytes ram rom number b =
    (number ≡ number_of (reset_answer (length bytes) ram rom)) × (b ≡ reset_bytes bytes ram rom)

-- step: number, the address in `at`, record b and RAM m afterwards
abbrev pub CStepMeets : List ℕ → List ℕ → List ℕ → ℕ → ℕ → List ℕ → List ℕ → Type 0
CStepMeets bytes ram rom number at b m = left number at b m ≡ step_left bytes ram rom

-- run: the same, and the count of steps done
abbrev pub CRunMeets : ℕ → List ℕ → List ℕ → List ℕ → ℕ → ℕ → List ℕ → List ℕ → ℕ → Type 0
CRunMeets steps bytes ram rom number at b m done =
    (left number at b m ≡ run_left steps bytes ram rom) × (done ≡ run_done steps bytes ram rom)

-- request: what step has, and whether it was taken
abbrev pub CRequestMeets : ℕ → ℕ → List ℕ → List ℕ → List ℕ → ℕ → ℕ → ℕ → List ℕ → List ℕ → Type 0
CRequestMeets level vector bytes ram rom number taken at b m =
    (left number at b m ≡ request_left level vector bytes ram rom) × (taken ≡ request_taken level vector bytes ram rom)
