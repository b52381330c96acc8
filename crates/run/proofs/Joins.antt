-- Runs one after the other, the run of one step, and the count.
use Prim.Native.Nat.{ℕ, zero, suc, ◌+◌, ◌<◌, ◌≤◌}
use mathlib.Core.Path.{◌≡◌, refl, ap, sym, ◌∙◌}
use mathlib.Core.List.{List}
use mathlib.Core.Bool.{Bool, true, false}
use native.Mathlib.Omega.{arith}
use native.Mathlib.Nat.{zero-add, add-zero}
use lib.ListN.{length}
use lib.Dec.{ltb}
use borrow.Author.Tests.{ltb-true, ltb-false}
use Rattle.answer.specs.declared.Why.{Why}
use Rattle.answer.specs.declared.Why.TheVariants.{TooMany, TooLong, Invalid}
use Rattle.answer.proofs.Laws.{not_refused}
use Rattle.state.specs.State.{valid_of}
use Rattle.state.specs.declared.State.{State}
use Rattle.operand.specs.Try.{Try, did, no, Outcome, after, leaves}
use Rattle.turn.specs.Once.{once_of}
use Rattle.step.specs.Step.{too_long, guarded, try_of, step_of}
use Rattle.turn.proofs.ManySteps.{many_none, many_did, many_no}
use Rattle.turn.specs.Many.{Result, result_with, ends, many_of}
use Rattle.run.specs.Run.{run_of}
use Rattle.run.specs.Statements.{RunSettled, RunsJoin, RunStops, OneStepRun, RunIsSteps, CountIsTrue, later}
use Rattle.run.proofs.Laws.{try_once, run_many, run_long, run_invalid, run_goes, still_passes}
use Rattle.std.proofs.Common.{Ok, Err}
use Rattle.answer.specs.Number.{Answer}

pub run_settled : (s : State) (ram rom : List ℕ) → RunSettled s ram rom
run_settled s ram rom n p q l m e f =
    let g : result_with p l ≡ result_with q m = e ∙ sym f in
    (ap (λ (r : Result). record { state = r.state; done = r.done; answer = r.answer }) g, ap (λ (r : Result). r.ram) g)

-- ---- steps left, from any count
shift : (n d : ℕ) (s : State) (ram rom : List ℕ) → many_of n d s ram rom ≡ later d (many_of n 0 s ram rom)
shift zero d s ram rom =
    many_none d s ram rom ∙ sym (ap (later d) (many_none 0 s ram rom) ∙ ap (λ (k : ℕ). ends k s ram (Ok tt)) (add-zero d))
shift (suc n) d s ram rom = go (λ t m e. shift n e t m rom) (once_of s ram rom) refl
  where
    go : ((t : State) (m : List ℕ) (e : ℕ) → many_of n e t m rom ≡ later e (many_of n 0 t m rom))
        → (t : Try) → once_of s ram rom ≡ t → many_of (suc n) d s ram rom ≡ later d (many_of (suc n) 0 s ram rom)
    go ih (did t m) e =
        let r = many_of n 0 t m rom in
        let k : d + 1 + r.done ≡ d + (0 + 1 + r.done) = omega arith in
        many_did n d s ram rom t m e
        ∙ ih t m (d + 1)
        ∙ ap (λ (x : ℕ). ends x r.state r.ram r.answer) k
        ∙ sym (ap (later d) (many_did n 0 s ram rom t m e ∙ ih t m (0 + 1)))
    go ih (no w) e =
        many_no n d s ram rom w e
        ∙ sym (ap (later d) (many_no n 0 s ram rom w e) ∙ ap (λ (k : ℕ). ends k s ram (Err w)) (add-zero d))

-- n steps that were all done, and then m
pub record Joined (n m d : ℕ) (s : State) (ram rom : List ℕ) : Type 0 where
  pub count : (many_of n d s ram rom).done ≡ d + n
  pub rest : many_of (n + m) d s ram rom ≡ many_of m (d + n) (many_of n d s ram rom).state (many_of n d s ram rom).ram rom

join : (n m d : ℕ) (s : State) (ram rom : List ℕ) → (many_of n d s ram rom).answer ≡ Ok tt → Joined n m d s ram rom
join zero m d s ram rom a =
    let e = many_none d s ram rom in
    record {
      count = ap (λ (r : Result). r.done) e ∙ sym (add-zero d);
      rest =
          ap (λ (k : ℕ). many_of k d s ram rom) (zero-add m)
          ∙ ap (λ (k : ℕ). many_of m k s ram rom) (sym (add-zero d))
          ∙ sym (ap (λ (r : Result). many_of m (d + 0) r.state r.ram rom) e);
    }
join (suc n) m d s ram rom a = go (λ t l e. join n m e t l rom) (once_of s ram rom) refl
  where
    go : ((t : State) (l : List ℕ) (e : ℕ) → (many_of n e t l rom).answer ≡ Ok tt → Joined n m e t l rom)
        → (t : Try) → once_of s ram rom ≡ t → Joined (suc n) m d s ram rom
    go ih (did t l) e =
        let f = many_did n d s ram rom t l e in
        let j = ih t l (d + 1) (sym (ap (λ (r : Result). r.answer) f) ∙ a) in
        let k : d + 1 + n ≡ d + suc n = omega arith in
        let p : suc n + m ≡ suc (n + m) = omega arith in
        record {
          count = ap (λ (r : Result). r.done) f ∙ j.count ∙ k;
          rest =
              ap (λ (x : ℕ). many_of x d s ram rom) p
              ∙ many_did (n + m) d s ram rom t l e
              ∙ j.rest
              ∙ ap (λ (x : ℕ). many_of m x (many_of n (d + 1) t l rom).state (many_of n (d + 1) t l rom).ram rom) k
              ∙ sym (ap (λ (r : Result). many_of m (d + suc n) r.state r.ram rom) f);
        }
    go ih (no w) e = not_refused a (ap (λ (r : Result). r.answer) (many_no n d s ram rom w e))

-- n steps that were not
stop : (n m d : ℕ) (s : State) (ram rom : List ℕ) (w : Why) → (many_of n d s ram rom).answer ≡ Err w → many_of (n + m) d s ram rom ≡ many_of n d s ram rom
stop zero m d s ram rom w a = not_refused (ap (λ (r : Result). r.answer) (many_none d s ram rom)) a
stop (suc n) m d s ram rom w a = go (λ t l e. stop n m e t l rom w) (once_of s ram rom) refl
  where
    go : ((t : State) (l : List ℕ) (e : ℕ) → (many_of n e t l rom).answer ≡ Err w → many_of (n + m) e t l rom ≡ many_of n e t l rom)
        → (t : Try) → once_of s ram rom ≡ t → many_of (suc n + m) d s ram rom ≡ many_of (suc n) d s ram rom
    go ih (did t l) e =
        let f = many_did n d s ram rom t l e in
        let p : suc n + m ≡ suc (n + m) = omega arith in
        ap (λ (x : ℕ). many_of x d s ram rom) p
        ∙ many_did (n + m) d s ram rom t l e
        ∙ ih t l (d + 1) (sym (ap (λ (r : Result). r.answer) f) ∙ a)
        ∙ sym f
    go ih (no x) e =
        let p : suc n + m ≡ suc (n + m) = omega arith in
        ap (λ (y : ℕ). many_of y d s ram rom) p ∙ many_no (n + m) d s ram rom x e ∙ sym (many_no n d s ram rom x e)

-- the steps before the first one refused
pub record Before (n d : ℕ) (s : State) (ram rom : List ℕ) (w : Why) : Type 0 where
  pub steps : ℕ
  pub fewer : steps < n
  pub count : (many_of n d s ram rom).done ≡ d + steps
  pub done : many_of steps d s ram rom ≡ ends (d + steps) (many_of n d s ram rom).state (many_of n d s ram rom).ram (Ok tt)
  pub refused : once_of (many_of n d s ram rom).state (many_of n d s ram rom).ram rom ≡ no w

before : (n d : ℕ) (s : State) (ram rom : List ℕ) (w : Why) → (many_of n d s ram rom).answer ≡ Err w → Before n d s ram rom w
before zero d s ram rom w a = not_refused (ap (λ (r : Result). r.answer) (many_none d s ram rom)) a
before (suc n) d s ram rom w a = go (λ t l e. before n e t l rom w) (once_of s ram rom) refl
  where
    go : ((t : State) (l : List ℕ) (e : ℕ) → (many_of n e t l rom).answer ≡ Err w → Before n e t l rom w)
        → (t : Try) → once_of s ram rom ≡ t → Before (suc n) d s ram rom w
    go ih (did t l) e =
        let f = many_did n d s ram rom t l e in
        let b = ih t l (d + 1) (sym (ap (λ (r : Result). r.answer) f) ∙ a) in
        let k = b.steps in
        let p : d + 1 + k ≡ d + suc k = omega arith in
        record {
          steps = suc k;
          fewer = let h = b.fewer in omega arith;
          count = ap (λ (r : Result). r.done) f ∙ b.count ∙ p;
          done =
              many_did k d s ram rom t l e
              ∙ b.done
              ∙ ap (λ (x : ℕ). ends x (many_of n (d + 1) t l rom).state (many_of n (d + 1) t l rom).ram (Ok tt)) p
              ∙ sym (ap (λ (r : Result). ends (d + suc k) r.state r.ram (Ok tt)) f);
          refused = ap (λ (r : Result). once_of r.state r.ram rom) f ∙ b.refused;
        }
    go ih (no x) e =
        let f = many_no n d s ram rom x e in
        let y : Err x ≡ Err w = sym (ap (λ (r : Result). r.answer) f) ∙ a in
        let z : no x ≡ no w = cc in
        record {
          steps = 0;
          fewer = omega arith;
          count = ap (λ (r : Result). r.done) f ∙ sym (add-zero d);
          done =
              many_none d s ram rom
              ∙ ap (λ (x : ℕ). ends x s ram (Ok tt)) (sym (add-zero d))
              ∙ sym (ap (λ (r : Result). ends (d + 0) r.state r.ram (Ok tt)) f);
          refused = ap (λ (r : Result). once_of r.state r.ram rom) f ∙ e ∙ z;
        }

-- ---- the checks of a run pass, or every run is refused by them
pub data Checks (s : State) (ram rom : List ℕ) : Type 0 where
  pass : too_long (length ram) (length rom) ≡ false → valid_of s ≡ true → Checks s ram rom
  fail : (w : Why) → ((n : ℕ) → n ≤ 1000000 → run_of n s ram rom ≡ ends 0 s ram (Err w)) → try_of s ram rom ≡ no w → Checks s ram rom

long_fails : (s : State) (ram rom : List ℕ) → too_long (length ram) (length rom) ≡ true → try_of s ram rom ≡ no TooLong
unfolding try_of guarded
long_fails s ram rom l = rw l refl

invalid_fails : (s : State) (ram rom : List ℕ) → too_long (length ram) (length rom) ≡ false → valid_of s ≡ false → try_of s ram rom ≡ no Invalid
unfolding try_of guarded
invalid_fails s ram rom l v = rw (l, v) refl

pub checks : (s : State) (ram rom : List ℕ) → Checks s ram rom
checks s ram rom = go (too_long (length ram) (length rom)) (valid_of s) refl refl
  where
    go : (a b : Bool) → too_long (length ram) (length rom) ≡ a → valid_of s ≡ b → Checks s ram rom
    go true b l v = fail TooLong (λ n h. run_long s ram rom n h l) (long_fails s ram rom l)
    go false false l v = fail Invalid (λ n h. run_invalid s ram rom n h l v) (invalid_fails s ram rom l v)
    go false true l v = pass l v

-- what a run leaves, but for the count
abbrev uncounted : Result → Outcome
uncounted r = after r.answer r.state r.ram

step_from : (s : State) (ram rom : List ℕ) (t : Try) → try_of s ram rom ≡ t → step_of s ram rom ≡ leaves s ram t
unfolding step_of
step_from s ram rom t e = ap (leaves s ram) e

-- steps that were done keep a valid state valid, and RAM's length
go_keeps :
    (n d : ℕ) (s : State) (ram rom : List ℕ) → too_long (length ram) (length rom) ≡ false → valid_of s ≡ true → (many_of n d s ram rom).answer ≡ Ok tt →
    (valid_of (many_of n d s ram rom).state ≡ true) × (length (many_of n d s ram rom).ram ≡ length ram)
go_keeps zero d s ram rom l v a =
    let e = many_none d s ram rom in
    (ap (λ (r : Result). valid_of r.state) e ∙ v, ap (λ (r : Result). length r.ram) e)
go_keeps (suc n) d s ram rom l v a = go (λ t m e. go_keeps n e t m rom) (once_of s ram rom) refl
  where
    go :
        ((t : State) (m : List ℕ) (e : ℕ) → too_long (length m) (length rom) ≡ false → valid_of t ≡ true → (many_of n e t m rom).answer ≡ Ok tt →
        (valid_of (many_of n e t m rom).state ≡ true) × (length (many_of n e t m rom).ram ≡ length m))
        → (t : Try) → once_of s ram rom ≡ t
        → (valid_of (many_of (suc n) d s ram rom).state ≡ true) × (length (many_of (suc n) d s ram rom).ram ≡ length ram)
    go ih (did t m) e =
        let k = still_passes s ram rom t m v e in
        let f = many_did n d s ram rom t m e in
        let w : too_long (length m) (length rom) ≡ false = ap (λ (x : ℕ). too_long x (length rom)) k.1 ∙ l in
        let r = ih t m (d + 1) w k.0 (sym (ap (λ (r : Result). r.answer) f) ∙ a) in
        (ap (λ (r : Result). valid_of r.state) f ∙ r.0, ap (λ (r : Result). length r.ram) f ∙ r.1 ∙ k.1)
    go ih (no w) e = not_refused a (ap (λ (r : Result). r.answer) (many_no n d s ram rom w e))

-- ---- the statements
pub runs_join : (s : State) (ram rom : List ℕ) → RunsJoin s ram rom
runs_join s ram rom n m h a = go (checks s ram rom)
  where
    go : Checks s ram rom → run_of (n + m) s ram rom ≡ later n (run_of m (run_of n s ram rom).state (run_of n s ram rom).ram rom)
    go (fail w f t) = not_refused a (ap (λ (r : Result). r.answer) (f n (omega arith)))
    go (pass l v) =
        let e = run_goes s ram rom n (omega arith) l v in
        let b = sym (ap (λ (r : Result). r.answer) e) ∙ a in
        let j = join n m 0 s ram rom b in
        let k = go_keeps n 0 s ram rom l v b in
        let r = many_of n 0 s ram rom in
        let w : too_long (length r.ram) (length rom) ≡ false = ap (λ (x : ℕ). too_long x (length rom)) k.1 ∙ l in
        run_goes s ram rom (n + m) h l v
        ∙ j.rest
        ∙ shift m (0 + n) r.state r.ram rom
        ∙ ap (λ (x : ℕ). later x (many_of m 0 r.state r.ram rom)) (zero-add n)
        ∙ ap (later n) (sym (run_goes r.state r.ram rom m (omega arith) w k.0))
        ∙ sym (ap (λ (x : Result). later n (run_of m x.state x.ram rom)) e)

pub run_stops : (s : State) (ram rom : List ℕ) → RunStops s ram rom
run_stops s ram rom n m w h a = go (checks s ram rom)
  where
    go : Checks s ram rom → run_of (n + m) s ram rom ≡ run_of n s ram rom
    go (fail x f t) = f (n + m) h ∙ sym (f n (omega arith))
    go (pass l v) =
        let e = run_goes s ram rom n (omega arith) l v in
        run_goes s ram rom (n + m) h l v ∙ stop n m 0 s ram rom w (sym (ap (λ (r : Result). r.answer) e) ∙ a) ∙ sym e

pub one_step_run : (s : State) (ram rom : List ℕ) → OneStepRun s ram rom
one_step_run s ram rom = go (checks s ram rom)
  where
    go : Checks s ram rom → uncounted (run_of 1 s ram rom) ≡ step_of s ram rom
    go (fail w f t) = ap uncounted (f 1 (omega arith)) ∙ sym (step_from s ram rom (no w) t)
    go (pass l v) = tried (once_of s ram rom) refl
      where
        one : run_of 1 s ram rom ≡ many_of 1 0 s ram rom
        one = run_goes s ram rom 1 (omega arith) l v

        tried : (t : Try) → once_of s ram rom ≡ t → uncounted (run_of 1 s ram rom) ≡ step_of s ram rom
        tried (did t m) e =
            ap uncounted (one ∙ many_did 0 0 s ram rom t m e ∙ many_none (0 + 1) t m rom)
            ∙ sym (step_from s ram rom (did t m) (try_once s ram rom l v ∙ e))
        tried (no w) e = ap uncounted (one ∙ many_no 0 0 s ram rom w e) ∙ sym (step_from s ram rom (no w) (try_once s ram rom l v ∙ e))

-- a run is its first step, with that step's own checks, and then a run of the others
module _ (n : ℕ) (s : State) (ram rom : List ℕ) (h : n < 1000000) where
  not_done : {A : Type 0} {t : State} {m : List ℕ} {w : Why} → try_of s ram rom ≡ did t m → try_of s ram rom ≡ no w → A
  not_done e f = let z : ◌≡◌ {A = ℕ} 0 1 = cc in absurd (omega arith)

  one_more : suc n ≡ n + 1
  one_more = omega arith

  first_done : (t : State) (m : List ℕ) → try_of s ram rom ≡ did t m → Checks s ram rom → run_of (n + 1) s ram rom ≡ later 1 (run_of n t m rom)
  first_done t m e (fail w f x) = not_done e x
  first_done t m e (pass l v) =
      let o : once_of s ram rom ≡ did t m = sym (try_once s ram rom l v) ∙ e in
      let k = still_passes s ram rom t m v o in
      let j : too_long (length m) (length rom) ≡ false = ap (λ (x : ℕ). too_long x (length rom)) k.1 ∙ l in
      run_goes s ram rom (n + 1) (omega arith) l v
      ∙ ap (λ (x : ℕ). many_of x 0 s ram rom) (sym one_more)
      ∙ many_did n 0 s ram rom t m o
      ∙ shift n (0 + 1) t m rom
      ∙ ap (later 1) (sym (run_goes t m rom n (omega arith) j k.0))

  first_refused : (w : Why) → try_of s ram rom ≡ no w → Checks s ram rom → run_of (n + 1) s ram rom ≡ ends 0 s ram (Err w)
  first_refused w e (fail x f y) =
      let z : no x ≡ no w = sym y ∙ e in
      let q : x ≡ w = cc in
      f (n + 1) (omega arith) ∙ ap (λ (k : Why). ends 0 s ram (Err k)) q
  first_refused w e (pass l v) =
      run_goes s ram rom (n + 1) (omega arith) l v
      ∙ ap (λ (x : ℕ). many_of x 0 s ram rom) (sym one_more)
      ∙ many_no n 0 s ram rom w (sym (try_once s ram rom l v) ∙ e)

pub run_is_steps : (s : State) (ram rom : List ℕ) → RunIsSteps s ram rom
run_is_steps s ram rom n h = (
  λ t m e. first_done n s ram rom h t m e (checks s ram rom),
  λ w e. first_refused n s ram rom h w e (checks s ram rom),
)

-- a run of no step, and of some: none of them is done, or the first is
pub run_zero : (s : State) (ram rom : List ℕ) → (a : Answer) × (run_of 0 s ram rom ≡ ends 0 s ram a)
run_zero s ram rom = go (checks s ram rom)
  where
    go : Checks s ram rom → (a : Answer) × (run_of 0 s ram rom ≡ ends 0 s ram a)
    go (fail w f t) = (Err w, f 0 (omega arith))
    go (pass l v) = ((Ok tt), run_goes s ram rom 0 (omega arith) l v ∙ many_none 0 s ram rom)

pub data Began (n : ℕ) (s : State) (ram rom : List ℕ) : Type 0 where
  none : (a : Answer) → run_of (suc n) s ram rom ≡ ends 0 s ram a → Began n s ram rom
  first : (t : State) (m : List ℕ) → try_of s ram rom ≡ did t m → run_of (suc n) s ram rom ≡ later 1 (run_of n t m rom) → Began n s ram rom

pub began : (n : ℕ) (s : State) (ram rom : List ℕ) → Began n s ram rom
began n s ram rom = go (ltb 1000000 (suc n)) refl (try_of s ram rom) refl
  where
    longer : {r : Result} → run_of (n + 1) s ram rom ≡ r → run_of (suc n) s ram rom ≡ r
    longer e = let k : suc n ≡ n + 1 = omega arith in ap (λ (x : ℕ). run_of x s ram rom) k ∙ e

    go : (b : Bool) → ltb 1000000 (suc n) ≡ b → (t : Try) → try_of s ram rom ≡ t → Began n s ram rom
    go true e t f = none (Err TooMany) (run_many s ram rom (suc n) (ltb-true 1000000 (suc n) e))
    go false e (did t m) f = first t m f (longer ((run_is_steps s ram rom n (ltb-false 1000000 (suc n) e)).0 t m f))
    go false e (no w) f = none (Err w) (longer ((run_is_steps s ram rom n (ltb-false 1000000 (suc n) e)).1 w f))

pub count_is_true : (s : State) (ram rom : List ℕ) → CountIsTrue s ram rom
count_is_true s ram rom n = go (ltb 1000000 n) refl (checks s ram rom)
  where
    r : Result
    r = run_of n s ram rom

    Count : Type 0
    Count =
        (r.answer ≡ Ok tt → r.done ≡ n)
        × ((w : Why) → 0 < r.done → r.answer ≡ Err w →
        (r.done < n) × (run_of r.done s ram rom ≡ ends r.done r.state r.ram (Ok tt)) × (try_of r.state r.ram rom ≡ no w))

    -- the steps that were done left a valid state, so that the refused one passed its checks
    last_checks : (k : ℕ) → too_long (length ram) (length rom) ≡ false → valid_of s ≡ true →
        many_of k 0 s ram rom ≡ ends (0 + k) (many_of n 0 s ram rom).state (many_of n 0 s ram rom).ram (Ok tt) →
        try_of (many_of n 0 s ram rom).state (many_of n 0 s ram rom).ram rom ≡ once_of (many_of n 0 s ram rom).state (many_of n 0 s ram rom).ram rom
    last_checks k l v d =
        let x = go_keeps k 0 s ram rom l v (ap (λ (y : Result). y.answer) d) in
        try_once (many_of n 0 s ram rom).state (many_of n 0 s ram rom).ram rom
        (ap (λ (y : ℕ). too_long y (length rom)) (sym (ap (λ (y : Result). length y.ram) d) ∙ x.1) ∙ l)
        (sym (ap (λ (y : Result). valid_of y.state) d) ∙ x.0)

    none_done : (w : Why) → r ≡ ends 0 s ram (Err w) → Count
    none_done w e =
        let d : r.done ≡ 0 = ap (λ (x : Result). x.done) e in
        (λ a. not_refused a (ap (λ (x : Result). x.answer) e), λ x h a. absurd (omega (arith, d, h)))

    go : (b : Bool) → ltb 1000000 n ≡ b → Checks s ram rom → Count
    go true e c = none_done TooMany (run_many s ram rom n (ltb-true 1000000 n e))
    go false e (fail w f t) = none_done w (f n (ltb-false 1000000 n e))
    go false e (pass l v) =
        let few = ltb-false 1000000 n e in
        let g = run_goes s ram rom n few l v in (
          λ a.
              ap (λ (x : Result). x.done) g ∙ (join n 0 0 s ram rom (sym (ap (λ (x : Result). x.answer) g) ∙ a)).count ∙ zero-add n,
          λ w h a.
              let b = before n 0 s ram rom w (sym (ap (λ (x : Result). x.answer) g) ∙ a) in
              let k : r.done ≡ b.steps = ap (λ (x : Result). x.done) g ∙ b.count ∙ zero-add b.steps in
              let less = b.fewer in (
                omega (arith, k, less),
                ap (λ (x : ℕ). run_of x s ram rom) k
                    ∙ run_goes s ram rom b.steps (omega (arith, few, less)) l v
                    ∙ b.done
                    ∙ ap (λ (x : ℕ). ends x (many_of n 0 s ram rom).state (many_of n 0 s ram rom).ram (Ok tt)) (zero-add b.steps ∙ sym k)
                    ∙ sym (ap (λ (x : Result). ends r.done x.state x.ram (Ok tt)) g),
                ap (λ (x : Result). try_of x.state x.ram rom) g ∙ last_checks b.steps l v b.done ∙ b.refused,
              ),
        )
