-- An instruction has at most seven bytes, and the promise settles the result.
use Prim.Native.Nat.{ℕ, ◌^◌, ◌≤◌}
use mathlib.Core.Path.{◌≡◌, refl, sym, ◌∙◌}
use mathlib.Core.List.{List, []}
use mathlib.Core.Bool.{Bool, true, false, cond}
use native.Mathlib.Omega.{arith}
use lib.ListN.{length, take, length-take}
use lib.Dec.{ltb}
use Rattle.answer.specs.Number.{number_of}
use Rattle.memory.specs.Access.{code_at}
use Rattle.code.specs.Listed.{decode_of}
use Rattle.code.proofs.Walked.{length_fits}
use Rattle.step.specs.Step.{too_long}
use Rattle.step.specs.Show.{length_in, shown_of, show_answer_of}
use Rattle.look.specs.Statements.{CShowMeets, Settled}
use Rattle.answer.specs.Number.{Answer}
use Rattle.std.proofs.Common.{Ok, Err}
use Rattle.code.specs.Unread.{Decoded}
use Rattle.code.specs.declared.Unread.TheVariants.{Short, Unlisted}

length_few : (l : List ℕ) → length_in (decode_of l) ≤ 7
length_few l = go (decode_of l) refl
  where
    go : (d : Decoded) → decode_of l ≡ d → length_in d ≤ 7
    go (Err Short) e = omega arith
    go (Err Unlisted) e = omega arith
    go (Ok i) e = (length_fits l i e).1.0

pub shown_few : (ram rom : List ℕ) (at : ℕ) (code : List ℕ) → code ≡ shown_of ram rom at → length code ≤ 7
unfolding shown_of
shown_few ram rom at code e = rw e (go (too_long (length ram) (length rom)) (ltb at (2 ^ 24)))
  where
    go : (x y : Bool) → length (cond x [] (cond y (take (length_in (decode_of (code_at ram rom at))) (code_at ram rom at)) [])) ≤ 7
    go true y = omega arith
    go false false = omega arith
    go false true = omega (arith, length-take (length_in (decode_of (code_at ram rom at))) (code_at ram rom at), length_few (code_at ram rom at))

pub shows :
    (ram rom : List ℕ) (at : ℕ) {code : List ℕ} {a : Answer} {n : ℕ} → code ≡ shown_of ram rom at → a ≡ show_answer_of ram rom at → n ≡ number_of a →
    CShowMeets ram rom at n (length code)
shows ram rom at e f g = (rw (g, f) refl, rw (← e) refl)

pub settled : Settled
settled ram rom at n n' l l' e f = (e.0 ∙ sym f.0, e.1 ∙ sym f.1)
