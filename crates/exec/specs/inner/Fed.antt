-- What `exec::feed` promises: a form of the feed calculation, read and done.
use Rattle.std.specs.Prelude.{ℕ, ◌≡◌, List, cond, eqb, Ok, Err}
use Rattle.answer.specs.declared.Why.{TheVariants.NoCode, TheVariants.Unlisted}
use Rattle.state.specs.declared.State.{State}
use Rattle.operand.specs.{Try.Try, Try.no, inner.Does.Does}
use Rattle.exec.specs.Exec.{effect_of}
use Rattle.answer.specs.Number.{Answer}
use Rattle.code.specs.Unread.{Decoded}
use Rattle.code.specs.declared.Unread.TheVariants as unread

-- what was read, as one number: how many bytes, or 1 where they are too few, or 0 where they begin nothing that is listed
abbrev pub bytes_told : Decoded → ℕ
bytes_told (Ok i) = i.length
bytes_told (Err unread.Short) = 1
bytes_told (Err unread.Unlisted) = 0

-- and the answer to it
abbrev pub answer_of : ℕ → Answer
answer_of n = cond (eqb n 0) (Err Unlisted) (cond (eqb n 1) (Err NoCode) (Ok tt))

-- what an instruction does where the state is past it already; none of these looks at where it stands
abbrev pub fed_of : Decoded → State → List ℕ → List ℕ → Try
fed_of (Ok i) s ram rom = effect_of i.op i.size i.operand s.counter s ram rom
fed_of (Err unread.Short) s ram rom = no NoCode
fed_of (Err unread.Unlisted) s ram rom = no Unlisted

-- it is told, and done
abbrev pub Feeds : Decoded → ℕ → State → List ℕ → List ℕ → State → Type 0
Feeds d n s ram rom after = (n ≡ bytes_told d) × Does (λ t m. fed_of d t m rom) s ram (answer_of n) after ram
