-- The line that the program prints.
use Rattle.std.specs.Prelude.{ℕ, ◌≡◌, ◌≤◌, List, [], ◌∷◌, ◌++◌, cond, length, replicate, ltb, Ok, Err}
use Rattle.answer.specs.declared.Why.{Why}
use Rattle.answer.specs.{declared.Why.TheVariants.TooLong, Number.why_number, Number.number_of}
use Rattle.little.specs.declared.Size.TheVariants.{Long}
use Rattle.state.specs.{declared.State.State, Register.get_register, Sr.sr_of}
use Rattle.turn.specs.Many.{Result}
use Rattle.step.specs.Reset.{reset_of}
use Rattle.run.specs.Run.{run_of}
use Rattle.text.specs.{declared.Line.Line, Text.decimal_of, Text.hex_of, Text.line_of}
use Rattle.answer.specs.Number.{Answer}

-- ---- the fields
-- the counter has six hex digits, SR four and each register eight
abbrev pub where_of : State → List (List ℕ)
where_of s = hex_of 6 s.counter ∷ hex_of 4 (sr_of s) ∷ []

-- the long register of a code in the current bank, as eight hex digits
abbrev pub register_of : State → ℕ → List ℕ
register_of s code = hex_of 8 (get_register s Long code)

-- the current XWA XBC XDE XHL, then XIX XIY XIZ XSP
abbrev pub registers_of : State → List (List ℕ)
registers_of s = let r = register_of s in r 0 ∷ r 1 ∷ r 2 ∷ r 3 ∷ r 4 ∷ r 5 ∷ r 6 ∷ r 7 ∷ []

-- ---- the lines
-- a refused reset, or a longer image, prints 0 and the number only
unfoldable pub refused_line : Why → List ℕ
refused_line w = line_of (decimal_of 0) (decimal_of (why_number w) ∷ [])

-- steps, number, counter, SR, and the eight registers
unfoldable pub ran_line : State → ℕ → Answer → List ℕ
ran_line s done a = line_of (decimal_of done) (decimal_of (number_of a) ∷ (where_of s ++ registers_of s))

-- ---- the program: reset, and 1,000 steps with 4,096 zero bytes of RAM; an image of up to 32,768 bytes
-- the program's RAM
abbrev pub zeros : List ℕ
zeros = replicate 4096 0

-- the line of a refused reset, or of what the run leaves
abbrev pub line_after : Answer → Result → List ℕ
line_after (Err w) r = refused_line w
line_after (Ok _) r = ran_line r.state r.done r.answer

-- the line of an image: 1 where it is too long, else what reset and the run give
unfoldable pub line_for : List ℕ → List ℕ
line_for image =
    let s = reset_of zeros image in
    cond (ltb 32768 (length image)) (refused_line TooLong) (line_after s.answer (run_of 1000 s.state zeros image))

-- what the call promises of its result r: this line, and that an array of 128 bytes has room for it
abbrev pub LineMeets : List ℕ → Line → Type 0
LineMeets image r = (r ≡ line_for image) × (length r ≤ 128)
