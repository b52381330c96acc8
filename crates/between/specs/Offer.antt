-- One offer of a request: when each number is given, and what is read and stored (request K8). Each statement is proved in proofs/Offer.antt.
use Rattle.std.specs.Prelude.{ℕ, ◌<◌, ◌≤◌, ◌^◌, ◌≡◌, ◌⊎◌, List, true, false, length, Ok, Err}
use Rattle.answer.specs.declared.{Why.TheVariants.TooLong, Why.TheVariants.Invalid}
use Rattle.answer.specs.declared.Why.{Why, TheVariants.BadRequest}
use Rattle.state.specs.{declared.State.State, State.valid_of, Sound.Sound}
use Rattle.operand.specs.Try.{after}
use Rattle.facts.specs.{Statements.◌⇔◌, Statements.Within, Statements.Passed, Touched.bytes, Touched.below_stack, Touched.operands_answer, Touched.KeepsRest}
use Rattle.request.specs.Request.{takes, request_of, took_of}

-- a level 1 to 7, and a vector's address below 2^24
abbrev pub Good : ℕ → ℕ → Type 0
Good level address = (1 ≤ level) × (level ≤ 7) × (address < 2 ^ 24)

module _ (level address : ℕ) (s : State) (ram rom : List ℕ) where
  -- each number is given in its stated case and in no other: 1, 2, 9; then, where the mask lets it in, 5 of the vector's four bytes,
  -- and 5 and 6 of the six bytes below the stack, each with its address; and it is taken where none of these is given and the mask lets it in
  pub record OfferedWhen : Type 0 where
    pub one : ((request_of level address s ram rom).answer ≡ Err TooLong) ⇔ ((2 ^ 16 < length ram) ⊎ (2 ^ 16 < length rom))
    pub two : ((request_of level address s ram rom).answer ≡ Err Invalid) ⇔ (Within ram rom × (valid_of s ≡ false))
    pub nine : ((request_of level address s ram rom).answer ≡ Err BadRequest) ⇔ (Passed s ram rom × (Good level address → ⊥))
    pub operands :
        Passed s ram rom → Good level address → takes s.level.0 level ≡ true →
        (request_of level address s ram rom).answer ≡ operands_answer ram rom (bytes address 4) (below_stack s 6)
    pub taken :
        (took_of level address s ram rom ≡ true)
        ⇔ (Passed s ram rom × Good level address × (takes s.level.0 level ≡ true)
        × (operands_answer ram rom (bytes address 4) (below_stack s 6) ≡ Ok tt))

  -- one that is not taken is as if it had not been offered, whatever the vector's address is: state and RAM are as they were, and the number is 0
  abbrev pub NotTaken : Type 0
  NotTaken =
      Passed s ram rom → Good level address → takes s.level.0 level ≡ false →
      (request_of level address s ram rom ≡ after (Ok tt) s ram) × (took_of level address s ram rom ≡ false)

  -- a refusal leaves the state and RAM as they were, and is not taken
  abbrev pub OfferRefused : Type 0
  OfferRefused =
      (w : Why) → (request_of level address s ram rom).answer ≡ Err w →
      ((request_of level address s ram rom).state ≡ s) × ((request_of level address s ram rom).ram ≡ ram) × (took_of level address s ram rom ≡ false)

  -- one that is taken leaves a valid state, RAM's length, and every byte but the six below the stack; a state whose numbers fit stays so
  abbrev pub TakenKeeps : Type 0
  TakenKeeps =
      took_of level address s ram rom ≡ true →
      (valid_of (request_of level address s ram rom).state ≡ true) × (Sound s → Sound (request_of level address s ram rom).state)
      × KeepsRest (below_stack s 6) ram (request_of level address s ram rom).ram
