-- What the functions within a request promise.
use Rattle.std.specs.Prelude.{ℕ, ◌%◌, ◌^◌, ◌≡◌, List, true}
use Rattle.memory.specs.inner.Six.{six_from}
use Rattle.state.specs.{declared.State.State, Sr.sr_of}
use Rattle.operand.specs.Try.{Try, after, leaves}
use Rattle.request.specs.{declared.Requested.Requested, Request.if_done}

-- it leaves what was tried leaves, and is taken where that is done
abbrev pub Takes : Try → State → List ℕ → Requested → List ℕ → Type 0
Takes t s ram r m = (after r.answer r.state m ≡ leaves s ram t) × (r.taken ≡ if_done r.answer true)

-- the six bytes that the code pushes, of any state; of a valid one SR has 16 bits
abbrev pub pushed_of : State → ℕ
pushed_of s = six_from (sr_of s % 2 ^ 16) s.counter
