-- The outlet's search and the ends of copies, as specs/Search.antt states them.
use Prim.Native.Nat.{ℕ, suc, ◌+◌, ◌-◌, ◌*◌, ◌%◌, ◌^◌, ◌≤◌}
use mathlib.Core.Path.{◌≡◌, refl, ap, sym, ◌∙◌, subst}
use mathlib.Core.Logic.{inl, inr}
use mathlib.Core.List.{List}
use mathlib.Core.Bool.{Bool, true, cond}
use native.Mathlib.Omega.{arith}
use native.Mathlib.Nat.{add-zero}
use Rattle.little.specs.declared.Size.TheVariants.{Long}
use Rattle.little.specs.Width.{bytes_of}
use Rattle.state.specs.State.{long_of, marks_of, with_counter}
use Rattle.state.specs.Register.{slot_in, register_at, get_register}
use Rattle.state.specs.declared.State.{State}
use Rattle.code.specs.declared.Form.{Form}
use Rattle.operand.specs.Flag.{flags_in}
use Rattle.block.specs.Block.{count_in}
use Rattle.exec.specs.Exec.{past_of}
use Rattle.turn.specs.Many.{ends, many_of}
use Rattle.run.specs.Run.{run_of}
use Rattle.run.specs.Demand.{At, count_of, passed}
use Rattle.run.specs.Search.{Over, SearchFinds, SearchFails, CopyEnds}
use Rattle.turn.proofs.ManySteps.{many_none}
use Rattle.run.proofs.Counts.{count_some}
use Rattle.run.proofs.Repeats.{Clear, clear, Ended, repeat_ends, run_at}
use Rattle.run.proofs.Known.{rounds_define}
use Rattle.run.proofs.Demand.{compare_clear}
use Rattle.run.proofs.Endings.{equal_clear}
use Rattle.std.proofs.Common.{Ok}

-- ---- the state past the form has the registers and flags of the last round
past_register : (t : State) (r : ℕ) → get_register (past_of 2 t) Long r ≡ get_register t Long r
unfolding past_of with_counter register_at slot_in long_of
past_register t r = refl

past_count : (t : State) → count_in (past_of 2 t) ≡ count_in t
unfolding past_of with_counter register_at slot_in long_of
past_count t = refl

past_flags : (t : State) → (flags_in (past_of 2 t)).z ≡ (flags_in t).z
unfolding past_of with_counter
past_flags t = refl

past_known : (t : State) → marks_of (past_of 2 t).flags ≡ marks_of t.flags
unfolding past_of with_counter
past_known t = refl

past_counter : (t : State) (c : ℕ) → t.counter ≡ c → (past_of 2 t).counter ≡ (c + 2) % 2 ^ 24
unfolding past_of with_counter
past_counter t c e = ap (λ (x : ℕ). (x + 2) % 2 ^ 24) e

-- upwards, a pointer that passed i elements is so many sizes on
pub up_passed : (f : Form) (x i : ℕ) → f.up ≡ true → passed f x i ≡ (x + i * bytes_of f.size) % 2 ^ 32
unfolding passed
up_passed f x i e =
    ap (λ (b : Bool). cond b ((x + i * bytes_of f.size) % 2 ^ 32) ((x + i * (2 ^ 32 - bytes_of f.size)) % 2 ^ 32)) e

-- a run of as many steps as rounds that end it
pub ended_steps :
    (j : ℕ) (f : Form) (s : State) (ram rom : List ℕ) (t : State) (m : List ℕ) → At f s ram rom → suc j ≤ count_of s →
    Ended j 0 f s ram rom t m → run_of (suc j) s ram rom ≡ ends (suc j) (past_of 2 t) m (Ok tt)
ended_steps j f s ram rom t m a le e =
    let few = count_some s in
    run_at (suc j) f s ram rom a (omega arith)
    ∙ ap (λ (n : ℕ). many_of n 0 s ram rom) (sym (add-zero (suc j)))
    ∙ e.goes
    ∙ many_none (suc j) (past_of 2 t) m rom

-- where everything is after the last round
over :
    (j n : ℕ) (f : Form) (s : State) (ram rom : List ℕ) (t : State) (m : List ℕ) → At f s ram rom → suc j ≡ n → n ≤ count_of s →
    Ended j 0 f s ram rom t m → Over f s ram rom n (past_of 2 t) m
over j n f s ram rom t m a k le e =
    let bc = e.bc in
    record {
      ran =
          ap (λ (y : ℕ). run_of y s ram rom) (sym k)
          ∙ ended_steps j f s ram rom t m a (omega arith) e
          ∙ ap (λ (y : ℕ). ends y (past_of 2 t) m (Ok tt)) k;
      from = past_register t f.from ∙ e.from ∙ ap (passed f (get_register s Long f.from)) k;
      bc = past_count t ∙ omega (arith, bc, k);
      past = past_counter t s.counter e.counter;
      known = past_known t ∙ rounds_define f s ram rom (suc j) t m a (omega arith) e.rounds;
    }

pub search_finds : (f : Form) (s : State) (ram rom : List ℕ) → SearchFinds f s ram rom
search_finds f s ram rom i a told =
    let n : suc i ≡ i + 1 = omega arith in
    let lt = told.0 in
    let q = told.2 in
    let x = repeat_ends i 0 f s ram rom a (omega arith) (equal_clear f s ram rom i told) (λ i h. (told.1 i h).2) (inr q) in
    let o = over i (i + 1) f s ram rom x.0 x.1 a n (omega arith) x.2 in
    (past_of 2 x.0, subst (Over f s ram rom (i + 1) (past_of 2 x.0)) (x.2.same q.0) o, past_flags x.0 ∙ x.2.equal q)

-- the last round of as many as the counter says
last_of : (s : State) → suc (count_of s - 1) ≡ count_of s
last_of s = let some = count_some s in omega arith

pub search_fails : (f : Form) (s : State) (ram rom : List ℕ) → SearchFails f s ram rom
search_fails f s ram rom a c told =
    let n = last_of s in
    let j = count_of s - 1 in
    let k = subst (λ (y : ℕ). Clear y f s ram rom) (sym n) (compare_clear (count_of s) f s ram rom c (λ i h. (told i h).0)) in
    let x = repeat_ends j 0 f s ram rom a (omega arith) k (λ i h. (told i (omega arith)).2) (inl n) in
    let o = over j (count_of s) f s ram rom x.0 x.1 a n (omega arith) x.2 in (
      past_of 2 x.0,
      subst (Over f s ram rom (count_of s) (past_of 2 x.0)) (x.2.same c) o,
      past_flags x.0 ∙ x.2.unequal c (told j (omega arith)).2,
    )

pub copy_ends : (f : Form) (s : State) (ram rom : List ℕ) → CopyEnds f s ram rom
copy_ends f s ram rom a c told spared =
    let n = last_of s in
    let j = count_of s - 1 in
    let k = subst (λ (y : ℕ). Clear y f s ram rom) (sym n) (clear told spared) in
    let x = repeat_ends j 0 f s ram rom a (omega arith) k (λ i h. (told i (omega arith)).2) (inl n) in (
      past_of 2 x.0,
      x.1,
      over j (count_of s) f s ram rom x.0 x.1 a n (omega arith) x.2,
      past_register x.0 f.to ∙ x.2.to c ∙ ap (passed f (get_register s Long f.to)) n,
    )
