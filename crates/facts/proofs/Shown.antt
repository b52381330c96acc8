-- What is shown stands at the address, and a refusal shows an empty part of ROM.
use Prim.Native.Nat.{ℕ, ◌^◌}
use mathlib.Core.Path.{◌≡◌, refl, sym, ◌∙◌}
use mathlib.Core.List.{List, [], ◌++◌}
use mathlib.Core.Bool.{Bool, true, false, cond}
use mathlib.Core.Logic.{◌≢◌}
use native.Mathlib.Omega.{arith}
use lib.ListN.{length, take, drop, take-append-drop}
use lib.Seq.{length-take-le}
use lib.Dec.{ltb}
use borrow.Author.Tests.{ne_eqb}
use Rattle.answer.specs.declared.Why.{Why}
use Rattle.answer.specs.declared.Why.TheVariants.{TooLong, Invalid}
use Rattle.memory.specs.Access.{code_at}
use Rattle.code.specs.Listed.{decode_of}
use Rattle.code.proofs.Walked.{length_fits}
use Rattle.step.specs.Step.{too_long}
use Rattle.step.specs.Show.{judged_of, show_answer_of, length_in, shown_of, shown_from}
use Rattle.facts.specs.Statements.{ShownStands, RefusedShowsNone}
use Rattle.std.proofs.Common.{Ok, Err}
use Rattle.code.specs.Unread.{Decoded}
use Rattle.code.specs.declared.Unread.TheVariants.{Short, Unlisted}

begins : (ram rom : List ℕ) (at : ℕ) → show_answer_of ram rom at ≡ Ok tt → (rest : List ℕ) × (shown_of ram rom at ++ rest ≡ code_at ram rom at)
unfolding show_answer_of shown_of
begins ram rom at = go (too_long (length ram) (length rom)) (ltb at (2 ^ 24))
  where
    go :
        (b c : Bool) → cond b (Err TooLong) (cond c (judged_of (decode_of (code_at ram rom at))) (Err Invalid)) ≡ Ok tt →
        (rest : List ℕ) × (cond b [] (cond c (take (length_in (decode_of (code_at ram rom at))) (code_at ram rom at)) []) ++ rest ≡ code_at ram rom at)
    go true c e = let z : ◌≡◌ {A = ℕ} 0 1 = cc in absurd (omega arith)
    go false true e = let n = length_in (decode_of (code_at ram rom at)) in (drop n (code_at ram rom at), take-append-drop n (code_at ram rom at))
    go false false e = let z : ◌≡◌ {A = ℕ} 0 1 = cc in absurd (omega arith)

-- an instruction that is shown has a byte
some_shown : (ram rom : List ℕ) (at : ℕ) → show_answer_of ram rom at ≡ Ok tt → length (shown_of ram rom at) ≢ 0
unfolding show_answer_of shown_of
some_shown ram rom at = go (too_long (length ram) (length rom)) (ltb at (2 ^ 24)) (decode_of (code_at ram rom at)) refl
  where
    go :
        (b c : Bool) (d : Decoded) → decode_of (code_at ram rom at) ≡ d →
        cond b (Err TooLong) (cond c (judged_of d) (Err Invalid)) ≡ Ok tt →
        length (cond b [] (cond c (take (length_in d) (code_at ram rom at)) [])) ≢ 0
    go true c d h e = let z : ◌≡◌ {A = ℕ} 0 1 = cc in absurd (omega arith)
    go false true (Err Short) h e = let z : ◌≡◌ {A = ℕ} 0 1 = cc in absurd (omega arith)
    go false true (Err Unlisted) h e = let z : ◌≡◌ {A = ℕ} 0 1 = cc in absurd (omega arith)
    go false true (Ok i) h e =
        λ k.
        let f = length_fits (code_at ram rom at) i h in
        let one = f.0 in
        let n = sym (length-take-le i.length (code_at ram rom at) f.1.1) ∙ k in
        omega (arith, one, n)
    go false false d h e = let z : ◌≡◌ {A = ℕ} 0 1 = cc in absurd (omega arith)

-- what is refused has none
none_shown : (ram rom : List ℕ) (at : ℕ) (w : Why) → show_answer_of ram rom at ≡ Err w → shown_of ram rom at ≡ []
unfolding show_answer_of shown_of
none_shown ram rom at w = go (too_long (length ram) (length rom)) (ltb at (2 ^ 24)) (decode_of (code_at ram rom at))
  where
    go :
        (b c : Bool) (d : Decoded) → cond b (Err TooLong) (cond c (judged_of d) (Err Invalid)) ≡ Err w →
        cond b [] (cond c (take (length_in d) (code_at ram rom at)) []) ≡ []
    go true c d e = refl
    go false true (Err Short) e = refl
    go false true (Err Unlisted) e = refl
    go false true (Ok i) e = let z : ◌≡◌ {A = ℕ} 0 1 = cc in absurd (omega arith)
    go false false d e = refl

pub shown_stands : ShownStands
unfolding shown_from
shown_stands ram rom at p q e = (begins ram rom at e, rw (ne_eqb (length (shown_of ram rom at)) 0 (some_shown ram rom at e)) refl)

pub refused_shows_none : RefusedShowsNone
unfolding shown_from
refused_shows_none ram rom at p q w e = let n = none_shown ram rom at w e in (n, rw n refl)
