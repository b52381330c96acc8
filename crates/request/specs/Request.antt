-- A request for an interrupt, offered to the machine between two steps (request K8).
use Rattle.std.specs.Prelude.{ℕ, ◌+◌, ◌*◌, ◌^◌, ◌≡◌, List, Bool, false, cond, not, ◌&&◌, ◌||◌, leb, ltb, eqb, Ok, Err}
use Rattle.little.specs.declared.Size.TheVariants.{Long}
use Rattle.answer.specs.declared.Why.TheVariants.{BadRequest}
use Rattle.memory.specs.Access.{load_of}
use Rattle.state.specs.{declared.State.State, State.with_counter, State.with_level, State.with_nesting, Sr.sr_of}
use Rattle.operand.specs.{Try.Try, Try.did, Try.no, Try.and_then, Try.with_loaded, Try.Outcome, Try.after, Try.leaves, Round.plus}
use Rattle.stack.specs.Stack.{push_bytes}
use Rattle.step.specs.Step.{guarded}
use Rattle.request.specs.declared.Requested.{Requested}
use Rattle.answer.specs.Number.{Answer}

-- 9: the level is not 1 to 7, or the vector's address is 2^24 or more
abbrev pub bad_request : ℕ → ℕ → Bool
bad_request level address = not (leb 1 level && leb level 7) || leb (2 ^ 24) address

-- it is taken if its level is at least the mask, where mask 0 counts as 1
unfoldable pub takes : ℕ → ℕ → Bool
takes mask level = leb (cond (eqb mask 0) 1 mask) level

-- ---- taking it
-- what is pushed: the counter and then SR, six bytes with SR lowest; a marked flag is pushed as its 0
abbrev pub return_address : State → ℕ
return_address s = sr_of s + 2 ^ 16 * s.counter

-- the mask then: the level plus one, and 7 stays 7
abbrev pub raised_to : ℕ → ℕ
raised_to level = cond (ltb level 7) (level + 1) 7

-- the state with that mask, one more on the nesting count, and the counter from the low 24 bits of the vector
unfoldable pub entered : ℕ → ℕ → State → State
entered level vector s = with_counter (with_nesting (with_level s (raised_to level)) (plus 16 s.nesting 1)) vector

-- this is pushed, and the machine goes to the vector
abbrev pub entering : ℕ → ℕ → ℕ → State → List ℕ → List ℕ → Try
entering pushed level vector s ram rom = and_then (push_bytes s ram rom 6 pushed) (entered level vector)

-- the four bytes of the vector are read first: 5 where they are missing, before the stack's 5 and 6
abbrev pub taken_of : ℕ → ℕ → State → List ℕ → List ℕ → Try
taken_of level address s ram rom = with_loaded (load_of ram rom address Long) (λ vector. entering (return_address s) level vector s ram rom)

-- ---- the offer
-- 1, 2, then 9; then it is taken, or nothing is read or changed
unfoldable pub offered_of : ℕ → ℕ → State → List ℕ → List ℕ → Try
offered_of level address s ram rom =
    guarded s ram rom
    (cond (bad_request level address) (no BadRequest) (cond (takes s.level.0 level) (taken_of level address s ram rom) (did s ram)))

-- what the call leaves
unfoldable pub request_of : ℕ → ℕ → State → List ℕ → List ℕ → Outcome
request_of level address s ram rom = leaves s ram (offered_of level address s ram rom)

-- whether it was taken: the mask lets it in, and it is not refused
abbrev pub if_done : Answer → Bool → Bool
if_done (Ok _) b = b
if_done (Err w) b = false

unfoldable pub took_of : ℕ → ℕ → State → List ℕ → List ℕ → Bool
took_of level address s ram rom = if_done (request_of level address s ram rom).answer (takes s.level.0 level)

-- what the call promises of its result r, and of RAM m after it
abbrev pub RequestMeets : ℕ → ℕ → State → List ℕ → List ℕ → Requested → List ℕ → Type 0
RequestMeets level address s ram rom r m =
    (after r.answer r.state m ≡ request_of level address s ram rom) × (r.taken ≡ took_of level address s ram rom)
