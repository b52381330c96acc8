-- The endings of a repeating copy or compare, from what is supposed of its rounds.
use Prim.Native.Nat.{ℕ, suc, ◌+◌, ◌-◌, ◌<◌, ◌≤◌}
use mathlib.Core.Path.{◌≡◌, ap, sym, ◌∙◌, subst}
use mathlib.Core.Logic.{◌⊎◌, inl}
use mathlib.Core.List.{List}
use mathlib.Core.Bool.{true, false}
use native.Mathlib.Omega.{arith}
use native.Mathlib.Nat.{zero-add, add-zero}
use Rattle.answer.specs.declared.Why.{Why}
use Rattle.memory.specs.Place.{Present}
use Rattle.state.specs.declared.State.{State}
use Rattle.code.specs.declared.Form.{Form}
use Rattle.exec.specs.Exec.{past_of}
use Rattle.turn.specs.Many.{ends, many_of}
use Rattle.run.specs.Run.{run_of, RunLeaves}
use Rattle.run.specs.Demand.{At, EqualAt, RefusedAt, element_place, count_of, EndsAfter, GoesOnAfter, StopsAfter}
use Rattle.turn.proofs.ManySteps.{many_none}
use Rattle.run.proofs.Counts.{count_some}
use Rattle.run.proofs.Known.{rounds_define}
use Rattle.run.proofs.Repeats.{Clear, NoneEqual, Goes, repeat_on, repeat_ends, repeat_refused, refused_at, run_at}
use Rattle.std.proofs.Common.{Ok}

-- a compare writes nothing
pub compare_clear : (n : ℕ) (f : Form) (s : State) (ram rom : List ℕ) → f.copies ≡ false → ((i : ℕ) → i < n → Present (element_place f s ram rom i)) →
    Clear n f s ram rom
compare_clear n f s ram rom c there =
    record {
      there = there;
      writable = λ e i h. let z : ◌≡◌ {A = ℕ} 0 1 = cc in absurd (omega arith);
      spared = λ e i h. let z : ◌≡◌ {A = ℕ} 0 1 = cc in absurd (omega arith);
    }

-- a copy has no equal element
pub copy_none : (n : ℕ) (f : Form) (s : State) (ram rom : List ℕ) → f.copies ≡ true → NoneEqual n f s ram rom
copy_none n f s ram rom c i h q = let b = q.0 in let z : ◌≡◌ {A = ℕ} 0 1 = cc in omega arith

-- n rounds that end it, as a run of n steps
pub ended_run :
    (j : ℕ) (f : Form) (s : State) (ram rom : List ℕ) → At f s ram rom → suc j ≤ count_of s →
    Clear (suc j) f s ram rom → NoneEqual j f s ram rom → (suc j ≡ count_of s) ⊎ EqualAt f s ram rom j → EndsAfter f s ram rom (RunLeaves s ram rom) (suc j)
ended_run j f s ram rom a le c none last =
    let x = repeat_ends j 0 f s ram rom a le c none last in
    let few = count_some s in (
      x.0,
      x.1,
      x.2.rounds,
      run_at (suc j) f s ram rom a (omega arith)
          ∙ ap (λ (n : ℕ). many_of n 0 s ram rom) (sym (add-zero (suc j)))
          ∙ x.2.goes
          ∙ many_none (suc j) (past_of 2 x.0) x.1 rom,
      rounds_define f s ram rom (suc j) x.0 x.1 a (omega arith) x.2.rounds,
    )

-- as many as the counter says
pub to_the_end :
    (f : Form) (s : State) (ram rom : List ℕ) → At f s ram rom → Clear (count_of s) f s ram rom → NoneEqual (count_of s) f s ram rom →
    EndsAfter f s ram rom (RunLeaves s ram rom) (count_of s)
to_the_end f s ram rom a c none =
    let some = count_some s in
    let e : suc (count_of s - 1) ≡ count_of s = omega arith in
    subst (λ (n : ℕ). EndsAfter f s ram rom (RunLeaves s ram rom) n) e
    (ended_run (count_of s - 1) f s ram rom a (omega arith)
    (subst (λ (n : ℕ). Clear n f s ram rom) (sym e) c) (λ i h. none i (omega arith)) (inl e))

-- n rounds that go on, as a run of n steps
pub went_run :
    (n : ℕ) (f : Form) (s : State) (ram rom : List ℕ) (t : State) (m : List ℕ) → At f s ram rom → n ≤ 1000000 → Goes n 0 0 f s ram rom t m →
    run_of n s ram rom ≡ ends n t m (Ok tt)
went_run n f s ram rom t m a few g =
    run_at n f s ram rom a few
    ∙ ap (λ (k : ℕ). many_of k 0 s ram rom) (sym (add-zero n))
    ∙ g.goes
    ∙ many_none (0 + n) t m rom
    ∙ ap (λ (k : ℕ). ends k t m (Ok tt)) (zero-add n)

module _ (n : ℕ) (f : Form) (s : State) (ram rom : List ℕ) (a : At f s ram rom) (lt : n < count_of s) (c : Clear n f s ram rom) (none : NoneEqual n f s ram rom) where
  pub goes_on_after : GoesOnAfter f s ram rom (RunLeaves s ram rom) n
  goes_on_after =
      let x = repeat_on n 0 0 f s ram rom a lt c none in
      let few = count_some s in (
        x.0,
        x.1,
        x.2.rounds,
        went_run n f s ram rom x.0 x.1 a (omega arith) x.2,
        x.2.counter,
      )

  pub stops_after : (w : Why) → RefusedAt f s ram rom n w → StopsAfter f s ram rom (RunLeaves s ram rom) n w
  stops_after w r steps more few =
      let x = repeat_on n 0 0 f s ram rom a lt c none in
      let t = x.0 in
      let m = x.1 in
      let e = x.2.rounds in
      let z : n + suc (steps - suc n) ≡ steps = omega arith in (
        t,
        m,
        e,
        run_at steps f s ram rom a few
            ∙ ap (λ (k : ℕ). many_of k 0 s ram rom) (sym z)
            ∙ repeat_refused n (steps - suc n) f s ram rom t m w a lt c none e (refused_at n 0 0 f s ram rom t m x.2 w r),
      )
