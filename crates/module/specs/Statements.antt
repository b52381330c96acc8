-- What is proved of the calls, beside what each promises. Each statement is proved in proofs/Settled.antt, Records.antt or Requests.antt.
use Rattle.std.specs.Prelude.{ℕ, ◌+◌, ◌<◌, ◌≤◌, ◌≡◌, ◌⊎◌, List, cond, Ok}
use Rattle.little.specs.Bytes.{Bytes}
use Rattle.state.specs.declared.State.{State}
use Rattle.saved.specs.Record.{record_of, restored_of}
use Rattle.operand.specs.Try.{Outcome}
use Rattle.run.specs.Run.{most_steps, run_of}
use Rattle.request.specs.Request.{request_of, took_of}
use Rattle.module.specs.Calls.{Left, left_by, step_left, ran_left, run_left, run_done, request_left, request_taken}
use Rattle.module.specs.Calls.{CResetMeets, CStepMeets, CRunMeets, CRequestMeets}

-- a record of bytes that is opened, and the state in it
abbrev pub HasState : List ℕ → State → Type 0
HasState bytes s = Bytes bytes × (restored_of bytes ≡ record { answer = Ok tt; state = s })

-- `at` holds 0 where the number is neither 5 nor 6
abbrev pub AtZero : Left → Type 0
AtZero l = (l.number ≡ 5 → ⊥) → (l.number ≡ 6 → ⊥) → l.at ≡ 0

-- what an outcome leaves, with the record of its state
abbrev pub outcome_left : Outcome → Left
outcome_left o = left_by o.answer (record_of o.state) o.ram

-- all below is of any bytes in the place of a record, and of any RAM and ROM
module _ (bytes ram rom : List ℕ) where
  -- two outcomes that meet a call's promise are the same
  abbrev pub Settled : Type 0
  Settled =
      ((n n' : ℕ) (b b' : List ℕ) → CResetMeets bytes ram rom n b → CResetMeets bytes ram rom n' b' → (n ≡ n') × (b ≡ b'))
      × ((n n' a a' : ℕ) (b b' m m' : List ℕ) →
      CStepMeets bytes ram rom n a b m → CStepMeets bytes ram rom n' a' b' m' → (n ≡ n') × (a ≡ a') × (b ≡ b') × (m ≡ m'))
      × ((steps n n' a a' : ℕ) (b b' m m' : List ℕ) (d d' : ℕ) →
      CRunMeets steps bytes ram rom n a b m d → CRunMeets steps bytes ram rom n' a' b' m' d' →
      (n ≡ n') × (a ≡ a') × (b ≡ b') × (m ≡ m') × (d ≡ d'))
      × ((level vector n n' t t' a a' : ℕ) (b b' m m' : List ℕ) →
      CRequestMeets level vector bytes ram rom n t a b m → CRequestMeets level vector bytes ram rom n' t' a' b' m' →
      (n ≡ n') × (a ≡ a') × (b ≡ b') × (m ≡ m') × (t ≡ t'))

  -- after every step, every run and every request `at` holds 0 but with 5 and 6
  abbrev pub ElseZero : Type 0
  ElseZero =
      AtZero (step_left bytes ram rom) × ((n : ℕ) → AtZero (run_left n bytes ram rom)) × ((level vector : ℕ) → AtZero (request_left level vector bytes ram rom))

  -- a step that is not done leaves the record and RAM as they were
  abbrev pub StepRefusedKeeps : Type 0
  StepRefusedKeeps = let l = step_left bytes ram rom in (l.number ≡ 0 → ⊥) → (l.bytes ≡ bytes) × (l.ram ≡ ram)

  -- a run that does no step leaves them as they were
  abbrev pub RunNothingKeeps : Type 0
  RunNothingKeeps =
      (n : ℕ) → let l = run_left n bytes ram rom in Bytes bytes → run_done n bytes ram rom ≡ 0 → (l.bytes ≡ bytes) × (l.ram ≡ ram)

  -- a run on a record is the run from the state in it: what is proved of `run_of` is proved of the call
  abbrev pub RunOnRecord : Type 0
  RunOnRecord =
      (n : ℕ) (s : State) → HasState bytes s →
      (run_left n bytes ram rom ≡ ran_left (run_of n s ram rom)) × (run_done n bytes ram rom ≡ (run_of n s ram rom).done)

  -- a step is a run of one
  abbrev pub StepIsRun : Type 0
  StepIsRun = Bytes bytes → step_left bytes ram rom ≡ run_left 1 bytes ram rom

  -- where the number is 0, `done` is the steps asked for
  abbrev pub RunCounts : Type 0
  RunCounts = (n : ℕ) → (run_left n bytes ram rom).number ≡ 0 → run_done n bytes ram rom ≡ n

  -- two runs in a row are one, which gives the number, address, record and RAM of the second, and the counts add.
  -- A run of no step after a refused one is left out: it has no step to refuse
  abbrev pub JoinedRuns : Type 0
  JoinedRuns =
      (n m : ℕ) → let l = run_left n bytes ram rom in Bytes bytes → n + m ≤ most_steps → (l.number ≡ 0) ⊎ (0 < m) →
      (run_left (n + m) bytes ram rom ≡ run_left m l.bytes l.ram rom)
      × (run_done (n + m) bytes ram rom ≡ run_done n bytes ram rom + run_done m l.bytes l.ram rom)

  -- a refused run is refused again: a run of a step or more from what it left gives the same number and address, does none and changes nothing
  abbrev pub RefusedAgain : Type 0
  RefusedAgain =
      (n m : ℕ) → let l = run_left n bytes ram rom in Bytes bytes → n ≤ most_steps → (l.number ≡ 0 → ⊥) → 0 < m → m ≤ most_steps →
      (run_left m l.bytes l.ram rom ≡ l) × (run_done m l.bytes l.ram rom ≡ 0)

  -- ---- a request
  -- a refused one is not taken, and leaves the record and RAM as they were
  abbrev pub RequestRefusedKeeps : Type 0
  RequestRefusedKeeps =
      (level vector : ℕ) → let l = request_left level vector bytes ram rom in (l.number ≡ 0 → ⊥) →
      (request_taken level vector bytes ram rom ≡ 0) × (l.bytes ≡ bytes) × (l.ram ≡ ram)

  -- one that is not taken, refused or not, leaves them as they were
  abbrev pub NotTakenKeeps : Type 0
  NotTakenKeeps =
      (level vector : ℕ) → let l = request_left level vector bytes ram rom in
      request_taken level vector bytes ram rom ≡ 0 → (l.bytes ≡ bytes) × (l.ram ≡ ram)

  -- a request on a record is that on the state in it: what is proved of `request_of` is proved of the call
  abbrev pub RequestOnRecord : Type 0
  RequestOnRecord =
      (level vector : ℕ) (s : State) → HasState bytes s →
      (request_left level vector bytes ram rom ≡ outcome_left (request_of level vector s ram rom))
      × (request_taken level vector bytes ram rom ≡ cond (took_of level vector s ram rom) 1 0)

  -- and a run on what it left is the run from the state after it
  abbrev pub RunAfterRequest : Type 0
  RunAfterRequest =
      (level vector n : ℕ) (s : State) → HasState bytes s →
      let l = request_left level vector bytes ram rom in let o = request_of level vector s ram rom in
      (run_left n l.bytes l.ram rom ≡ ran_left (run_of n o.state o.ram rom))
      × (run_done n l.bytes l.ram rom ≡ (run_of n o.state o.ram rom).done)
