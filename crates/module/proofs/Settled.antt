-- The calls' statements settle their results, and what is not done leaves the record and RAM as they were.
use Prim.Native.Nat.{ℕ, zero, suc}
use mathlib.Core.Path.{◌≡◌, refl, ap, sym, ◌∙◌}
use mathlib.Core.List.{List}
use mathlib.Core.Bool.{Bool, true, false}
use native.Mathlib.Omega.{arith}
use lib.ListN.{length}
use lib.Dec.{ltb}
use borrow.Author.Tests.{ltb-true, ltb-false}
use Rattle.answer.specs.declared.Why.TheVariants.{TooMany, TooLong, Invalid, BadRequest, NoOldForm, NoCode, Unlisted, Undefined, Missing, ToRom}
use Rattle.answer.specs.Number.{number_of, at_of}
use Rattle.state.specs.declared.State.{State}
use Rattle.saved.specs.Record.{record_of}
use Rattle.operand.specs.Try.{Try, did, no, Outcome, leaves}
use Rattle.step.specs.Step.{try_of, step_of}
use Rattle.turn.specs.Many.{Result}
use Rattle.run.specs.Run.{run_of}
use Rattle.run.proofs.Joins.{Began, none, first, began, run_zero}
use Rattle.request.specs.Request.{request_of}
use Rattle.module.specs.Calls.{Left, left, opened_of, unless, stepped, step_left, run_opened, run_left, request_left, CRunMeets}
use Rattle.module.specs.Statements.{Settled, AtZero, ElseZero, StepRefusedKeeps, RunNothingKeeps}
use Rattle.module.proofs.Laws.{run_many}
use Rattle.module.proofs.Records.{Start, shut, starts, start, meets}
use Rattle.std.proofs.Common.{Ok, Err}
use Rattle.answer.specs.Number.{Answer}

-- two that leave the same are the same, each in its four parts
same_parts : (n n' a a' : ℕ) (b b' m m' : List ℕ) → left n a b m ≡ left n' a' b' m' → (n ≡ n') × (a ≡ a') × (b ≡ b') × (m ≡ m')
same_parts n n' a a' b b' m m' e = (
  ap (λ (l : Left). l.number) e,
  ap (λ (l : Left). l.at) e,
  ap (λ (l : Left). l.bytes) e,
  ap (λ (l : Left). l.ram) e,
)

pub settled : (b ram rom : List ℕ) → Settled b ram rom
settled bytes ram rom = (
  λ n n' b b' e f. (e.0 ∙ sym f.0, e.1 ∙ sym f.1),
  λ n n' a a' b b' m m' e f. same_parts n n' a a' b b' m m' (e ∙ sym f),
  λ steps n n' a a' b b' m m' d d' e f. and_more (same_parts n n' a a' b b' m m' (e.0 ∙ sym f.0)) (e.1 ∙ sym f.1),
  λ level vector n n' t t' a a' b b' m m' e f. and_more (same_parts n n' a a' b b' m m' (e.0 ∙ sym f.0)) (e.1 ∙ sym f.1),
)
  where
    and_more : {A B C D E : Type 0} → A × B × C × D → E → A × B × C × D × E
    and_more (a, b, c, d) e = (a, b, c, d, e)

-- an answer that is neither 5 nor 6 has no address
none_at : (a : Answer) → (number_of a ≡ 5 → ⊥) → (number_of a ≡ 6 → ⊥) → at_of a ≡ 0
none_at (Ok _) f s = refl
none_at (Err TooMany) f s = refl
none_at (Err TooLong) f s = refl
none_at (Err Invalid) f s = refl
none_at (Err BadRequest) f s = refl
none_at (Err NoOldForm) f s = refl
none_at (Err NoCode) f s = refl
none_at (Err Unlisted) f s = refl
none_at (Err Undefined) f s = refl
none_at (Err (Missing x)) f s = absurd (f refl)
none_at (Err (ToRom x)) f s = absurd (s refl)

pub else_zero : (b ram rom : List ℕ) → ElseZero b ram rom
unfolding step_left run_left request_left
else_zero bytes ram rom = (
  (let o = opened_of bytes (length ram) (length rom) in unless_at o.answer ram _ (stepped_at (step_of o.state ram rom))),
  λ n. let o = run_opened n bytes ram rom in unless_at o.answer ram _ (none_at (run_of n o.state ram rom).answer),
  λ level vector.
      let o = opened_of bytes (length ram) (length rom) in
      unless_at o.answer ram _ (none_at (request_of level vector o.state ram rom).answer),
)
  where
    unless_at : (a : Answer) (m : List ℕ) (l : Left) → AtZero l → AtZero (unless a bytes m l)
    unless_at (Err w) m l h = none_at (Err w)
    unless_at (Ok _) m l h = h

    stepped_at : (o : Outcome) → AtZero (stepped o bytes)
    stepped_at o = unless_at o.answer o.ram _ (none_at (Ok tt))

pub step_refused_keeps : (b ram rom : List ℕ) → StepRefusedKeeps b ram rom
unfolding step_left step_of
step_refused_keeps bytes ram rom h =
    let s = opened_of bytes (length ram) (length rom) in
    go s.state s.answer (try_of s.state ram rom) h
  where
    go : (s : State) (a : Answer) (t : Try) → ((unless a bytes ram (stepped (leaves s ram t) bytes)).number ≡ 0 → ⊥) →
        ((unless a bytes ram (stepped (leaves s ram t) bytes)).bytes ≡ bytes) × ((unless a bytes ram (stepped (leaves s ram t) bytes)).ram ≡ ram)
    go s (Err w) t f = (refl, refl)
    go s (Ok _) (did u m) f = absurd (f refl)
    go s (Ok _) (no w) f = (refl, refl)

-- a run that does no step leaves the state and RAM
abbrev Same : State → List ℕ → Result → Type 0
Same s ram r = (r.state ≡ s) × (r.ram ≡ ram)

run_nothing : (n : ℕ) (s : State) (ram rom : List ℕ) → (run_of n s ram rom).done ≡ 0 → Same s ram (run_of n s ram rom)
run_nothing zero s ram rom h = rw (run_zero s ram rom).1 (refl, refl)
run_nothing (suc n) s ram rom h = go (began n s ram rom)
  where
    go : Began n s ram rom → Same s ram (run_of (suc n) s ram rom)
    go (none a e) = rw e (refl, refl)
    go (first t m f e) = absurd (omega (arith, h, ap (λ (r : Result). r.done) e))

pub run_nothing_keeps : (b ram rom : List ℕ) → RunNothingKeeps b ram rom
run_nothing_keeps b ram rom n ok h = go (start b ram rom ok) (ltb 1000000 n) refl
  where
    Kept : Type 0
    Kept = ((run_left n b ram rom).bytes ≡ b) × ((run_left n b ram rom).ram ≡ ram)

    left_so : (k x d : ℕ) → CRunMeets n b ram rom k x b ram d → Kept
    left_so k x d m = (sym (ap (λ (l : Left). l.bytes) m.0), sym (ap (λ (l : Left). l.ram) m.0))

    go : Start b ram rom → (x : Bool) → ltb 1000000 n ≡ x → Kept
    go t true e = left_so _ _ _ (run_many n b ram rom (ltb-true 1000000 n e) refl refl)
    go (shut w f) false e = left_so _ _ _ (f n (ltb-false 1000000 n e))
    go (starts s o) false e =
        let m = meets n b ram rom s o in
        let same = run_nothing n s ram rom (m.1 ∙ h) in
        (sym (ap (λ (l : Left). l.bytes) m.0) ∙ ap record_of same.0 ∙ o.back, sym (ap (λ (l : Left). l.ram) m.0) ∙ same.1)
