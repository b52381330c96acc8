-- An instruction's bytes, shown where they stand.
use Rattle.std.specs.Prelude.{ℕ, ◌^◌, ◌≡◌, List, [], cond, length, take, ltb, eqb, Ok, Err}
use Rattle.answer.specs.declared.Why.TheVariants.{TooLong, Invalid}
use Rattle.memory.specs.{Access.code_at, Access.stands_at, Place.place_of}
use Rattle.code.specs.Listed.{decode_of}
use Rattle.step.specs.Step.{too_long}
use Rattle.answer.specs.Number.{Answer}
use Rattle.code.specs.Unread.{Decoded, why_of}

-- 3 where the bytes are short, 4 where they are not listed
abbrev pub judged_of : Decoded → Answer
judged_of (Err unread) = Err (why_of unread)
judged_of (Ok i) = Ok tt

-- 1, then 2 for an address of 2^24 or more, then 3 or 4
unfoldable pub show_answer_of : List ℕ → List ℕ → ℕ → Answer
show_answer_of ram rom at =
    cond (too_long (length ram) (length rom)) (Err TooLong)
    (cond (ltb at (2 ^ 24)) (judged_of (decode_of (code_at ram rom at))) (Err Invalid))

-- how many bytes a whole instruction has; 0 of what is none
abbrev pub length_in : Decoded → ℕ
length_in (Err unread) = 0
length_in (Ok i) = i.length

-- the instruction's bytes; a refusal shows none
unfoldable pub shown_of : List ℕ → List ℕ → ℕ → List ℕ
shown_of ram rom at =
    cond (too_long (length ram) (length rom)) []
    (cond (ltb at (2 ^ 24)) (take (length_in (decode_of (code_at ram rom at))) (code_at ram rom at)) [])

-- where they stand: in the memory that holds them; a refusal shows a part of ROM
unfoldable pub shown_from : List ℕ → List ℕ → ℕ → ℕ × ℕ → ℕ × ℕ → ℕ × ℕ
shown_from ram rom at p q = cond (eqb (length (shown_of ram rom at)) 0) q (stands_at (place_of (length ram) (length rom) at 1) p q)

-- what the calls promise: of the answer a; and of the part, its bytes b and where it stands, w, with RAM at p and ROM at q
abbrev pub ShowAnswerMeets : List ℕ → List ℕ → ℕ → Answer → Type 0
ShowAnswerMeets ram rom at a = a ≡ show_answer_of ram rom at

abbrev pub ShowMeets : List ℕ → List ℕ → ℕ → ℕ × ℕ → ℕ × ℕ → List ℕ → ℕ × ℕ → Type 0
ShowMeets ram rom at p q b w = (b ≡ shown_of ram rom at) × (w ≡ shown_from ram rom at p q)
