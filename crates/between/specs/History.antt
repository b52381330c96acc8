-- Steps with offers of requests between them, one after the other (request K8). Each statement is proved in proofs/History.antt.
use Rattle.std.specs.Prelude.{ℕ, ◌+◌, ◌%◌, ◌^◌, ◌<◌, ◌≡◌, List, [], ◌∷◌, Bool, true, false, cond, Ok, Err}
use Rattle.answer.specs.declared.Why.{Why}
use Rattle.memory.specs.Access.{code_at}
use Rattle.state.specs.{declared.State.State, Sound.Sound}
use Rattle.code.specs.{declared.Op.Op, declared.Interrupt.Interrupt, Listed.decode_of}
use Rattle.code.specs.declared.Op.TheVariants.{Controls, Stacks, Puts, Sets, Blocks, Interrupts}
use Rattle.code.specs.declared.Interrupt.TheVariants.{PushSr, PopSr, Reti}
use Rattle.operand.specs.Try.{Try, did, no}
use Rattle.step.specs.Step.{try_of}
use Rattle.turn.specs.Many.{ends}
use Rattle.facts.specs.Statements.{Passed}
use Rattle.run.specs.Run.{most_steps, run_of}
use Rattle.request.specs.Request.{offered_of, took_of}
use Rattle.code.specs.Unread.{Decoded}
use Rattle.code.specs.declared.Unread.TheVariants.{Short, Unlisted}

-- what happens to the machine: a step, or an offer of a level with a vector's address
pub data Event : Type 0 where
  step : Event
  offer : ℕ → ℕ → Event

abbrev pub happens : Event → State → List ℕ → List ℕ → Try
happens step s ram rom = try_of s ram rom
happens (offer level address) s ram rom = offered_of level address s ram rom

-- events one after the other, each on the state and RAM that the one before left; or the first refusal. An offer that is refused leaves
-- all as it was (OfferRefused, between/Offer): who goes on after it has the history without it
unfoldable pub history_of : List Event → State → List ℕ → List ℕ → Try
history_of [] s ram rom = did s ram
history_of (e ∷ es) s ram rom =
    elim (happens e s ram rom) [
      | did t m ↦ history_of es t m rom
      | no w ↦ no w
    ]

-- ---- what is counted along them
-- the instruction at the counter is RETI
abbrev pub is_reti : Interrupt → Bool
is_reti PushSr = false
is_reti PopSr = false
is_reti Reti = true

abbrev pub returns_by : Op → Bool
returns_by (Controls what) = false
returns_by (Stacks what) = false
returns_by (Puts how) = false
returns_by (Sets r) = false
returns_by (Blocks f) = false
returns_by (Interrupts what) = is_reti what

abbrev pub return_at : Decoded → Bool
return_at (Err Short) = false
return_at (Err Unlisted) = false
return_at (Ok i) = returns_by i.op

-- an event is a step; an offer that is taken; a step at RETI
abbrev pub stepping : Event → State → List ℕ → List ℕ → Bool
stepping step s ram rom = true
stepping (offer level address) s ram rom = false

abbrev pub taking : Event → State → List ℕ → List ℕ → Bool
taking step s ram rom = false
taking (offer level address) s ram rom = took_of level address s ram rom

abbrev pub returning : Event → State → List ℕ → List ℕ → Bool
returning step s ram rom = return_at (decode_of (code_at ram rom s.counter))
returning (offer level address) s ram rom = false

-- how many events are so, each judged where it happens
unfoldable pub counted_in : (Event → State → List ℕ → List ℕ → Bool) → List Event → State → List ℕ → List ℕ → ℕ
counted_in test [] s ram rom = 0
counted_in test (e ∷ es) s ram rom =
    cond (test e s ram rom) 1 0 + elim (happens e s ram rom) [
      | did t m ↦ counted_in test es t m rom
      | no w ↦ 0
    ]

module _ (es : List Event) (s t : State) (ram rom m : List ℕ) where
  -- the nesting count goes up by the requests taken and down by the RETIs done, round at 16 bits, whatever else happens between
  abbrev pub NestingBalances : Type 0
  NestingBalances =
      Sound s → history_of es s ram rom ≡ did t m →
      (t.nesting + counted_in returning es s ram rom) % 2 ^ 16 ≡ (s.nesting + counted_in taking es s ram rom) % 2 ^ 16

  -- so n requests taken and n RETIs, in any order and nested in any way, bring the count back
  abbrev pub NestingComesBack : Type 0
  NestingComesBack =
      Sound s → history_of es s ram rom ≡ did t m → counted_in taking es s ram rom ≡ counted_in returning es s ram rom → t.nesting ≡ s.nesting

  -- where no request is taken, the steps are the plain run, and where the next step is refused, the plain run stops there: what is proved of
  -- a run, demand 3 too, holds with offers that are not taken among its steps
  abbrev pub UntakenIsRun : Type 0
  UntakenIsRun =
      let n = counted_in stepping es s ram rom in
      Passed s ram rom → history_of es s ram rom ≡ did t m → counted_in taking es s ram rom ≡ 0 → n < most_steps →
      (run_of n s ram rom ≡ ends n t m (Ok tt)) × ((w : Why) → try_of t m rom ≡ no w → run_of (n + 1) s ram rom ≡ ends n t m (Err w))
