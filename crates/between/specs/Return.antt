-- The return from a request that was taken, at once or after a handler, also between two rounds of a repeating copy or compare
-- (request K8). Each statement is proved in proofs/Return.antt.
use Rattle.std.specs.Prelude.{ℕ, ◌<◌, ◌≡◌, List, ◌∷◌, true, take, drop, Ok}
use Rattle.little.specs.Bytes.{Bytes}
use Rattle.memory.specs.Access.{code_at}
use Rattle.state.specs.{declared.State.State, State.f_of, State.with_flags, Sound.Sound}
use Rattle.code.specs.{declared.Form.Form, Listed.decode_of}
use Rattle.operand.specs.{Try.did, Try.after, Operand.pointer_of}
use Rattle.facts.specs.Touched.{below_stack, KeepsRest}
use Rattle.step.specs.Step.{step_of}
use Rattle.turn.specs.Many.{ends}
use Rattle.run.specs.{Run.run_of, Demand.At, Demand.Passes, Demand.Spares, Demand.count_of, Demand.EveryStart, Demand.rounds_of}
use Rattle.request.specs.Request.{request_of, took_of}
use Rattle.between.specs.History.{Event, history_of}

-- s with the marks of F cleared: its bits are 0 already
abbrev pub unmarked : State → State
unmarked s = with_flags s (f_of s.flags)

-- From t and m on these events lead to u and l: to RETI, with all registers, F' and the nesting count as they were in t, and the six bytes
-- of the stack as they were in m. Bank, level, F and the rest of RAM may be others: a handler, which may be interrupted itself. One that
-- leaves other values in a bank that nobody uses is not among these.
pub record GivesBack (t : State) (m rom : List ℕ) (es : List Event) (u : State) (l : List ℕ) : Type 0 where
  pub came : history_of es t m rom ≡ did u l
  pub registers : u.registers ≡ t.registers
  pub spare : u.spare ≡ t.spare
  pub nesting : u.nesting ≡ t.nesting
  pub stack : take 6 (drop (pointer_of t 7) l) ≡ take 6 (drop (pointer_of t 7) m)
  pub rest : List ℕ
  pub reti : code_at l rom u.counter ≡ 0x07 ∷ rest

-- a request is taken in s, and a handler gives back what it was given: RETI leaves s, with the marks of F cleared, and RAM as the handler left it
module _ (level address : ℕ) (s : State) (ram rom : List ℕ) where
  abbrev pub HandlerReturns : Type 0
  HandlerReturns =
      (es : List Event) (u : State) (l : List ℕ) → Sound s → took_of level address s ram rom ≡ true →
      GivesBack (request_of level address s ram rom).state (request_of level address s ram rom).ram rom es u l →
      step_of u l rom ≡ after (Ok tt) (unmarked s) l

  -- RETI at once: registers, counter, SR and count are those before the request, the marks of F are cleared, and of RAM nothing
  -- has changed but the six bytes below the stack
  abbrev pub ReturnsAtOnce : Type 0
  ReturnsAtOnce =
      (rest : List ℕ) → Sound s → took_of level address s ram rom ≡ true →
      code_at (request_of level address s ram rom).ram rom (request_of level address s ram rom).state.counter ≡ 0x07 ∷ rest →
      (step_of (request_of level address s ram rom).state (request_of level address s ram rom).ram rom
      ≡ after (Ok tt) (unmarked s) (request_of level address s ram rom).ram)
      × KeepsRest (below_stack s 6) ram (request_of level address s ram rom).ram

-- ---- between two rounds
module _ (f : Form) (rom : List ℕ) where
  -- RETI comes back to t itself, which is at the form, with RAM as the handler left it; and where the form still stands there,
  -- demand 3 speaks of the rest from there (`Bytes l` says only what the types see to)
  abbrev pub GoesOn : State → List ℕ → Type 0
  GoesOn t m =
      (level address : ℕ) (es : List Event) (u : State) (l : List ℕ) → took_of level address t m rom ≡ true →
      GivesBack (request_of level address t m rom).state (request_of level address t m rom).ram rom es u l →
      (step_of u l rom ≡ after (Ok tt) t l)
      × (Bytes l → decode_of (code_at l rom t.counter) ≡ decode_of (code_at m rom t.counter) → At f t l rom × EveryStart f t l rom)

  -- a run comes through n rounds of a repeating form, one or more, that nothing ends, and the counter is at it still; a request is taken there,
  -- and a handler gives back what it was given: the form goes on with these rounds done
  abbrev pub RoundsGoOn : Type 0
  RoundsGoOn =
      (s : State) (ram : List ℕ) (n : ℕ) → At f s ram rom → 0 < n → n < count_of s → Passes f s ram rom n → Spares f s n →
      (t : State) × (m : List ℕ) × (rounds_of n f s ram rom ≡ did t m) × (run_of n s ram rom ≡ ends n t m (Ok tt)) × (t.counter ≡ s.counter) × GoesOn t m
