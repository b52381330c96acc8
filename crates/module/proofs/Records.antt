-- A run on a record is the run from the state in it; so two runs in a row are one, and a refused one is refused again.
use Prim.Native.Nat.{ℕ, zero, suc, ◌+◌, ◌-◌, ◌<◌, ◌≤◌}
use mathlib.Core.Path.{◌≡◌, refl, ap, sym, ◌∙◌, subst}
use mathlib.Core.Logic.{◌⊎◌, inl, inr, ⊎_elim}
use mathlib.Core.List.{List}
use mathlib.Core.Bool.{Bool, true, false}
use native.Mathlib.Omega.{arith}
use lib.ListN.{length}
use lib.Dec.{ltb}
use borrow.Author.Tests.{le-ltb, ltb-true, ltb-false}
use Rattle.answer.specs.declared.Why.{Why}
use Rattle.answer.specs.declared.Why.TheVariants.{TooMany, TooLong, Invalid}
use Rattle.answer.specs.Number.{why_number, number_of, at_of, where_done}
use Rattle.answer.proofs.Laws.{not_refused}
use Rattle.little.specs.Bytes.{Bytes}
use Rattle.state.specs.Sound.{Sound}
use Rattle.state.specs.declared.State.{State}
use Rattle.state.proofs.Valid.{Valid, valid_says, valid_from}
use Rattle.saved.specs.declared.Restored.{Restored}
use Rattle.saved.specs.Record.{record_length, record_of, state_at, is_record, restored_of, refused_record}
use Rattle.saved.proofs.Laws.{load_good}
use Rattle.saved.proofs.Refusals.{bad_records}
use Rattle.saved.proofs.RoundTrip.{saved_reads_back, read_saves_back, sound_at, good_says}
use Rattle.operand.specs.Try.{Try, did, no, leaves}
use Rattle.step.specs.Step.{too_long, try_of, step_of}
use Rattle.turn.specs.Many.{Result, ends}
use Rattle.run.specs.Run.{run_of}
use Rattle.run.proofs.Laws.{run_long, run_goes}
use Rattle.facts.proofs.Statements.{some}
use Rattle.turn.proofs.ManySteps.{many_none}
use Rattle.run.proofs.Laws as run
use Rattle.run.proofs.Joins.{Checks, pass, fail, checks, one_step_run, run_is_steps, runs_join, run_stops, count_is_true}
use Rattle.module.specs.Calls.{Left, left_by, opened_of, unless, stepped, step_left, run_opened, ran_left, run_left, run_done, CRunMeets}
use Rattle.module.specs.Statements.{HasState, outcome_left, RunOnRecord, StepIsRun, RunCounts, JoinedRuns, RefusedAgain}
use Rattle.module.specs.Demand.{CallLeaves}
use Rattle.module.proofs.Laws.{run_sound, run_valid, run_many, opened_long, opened_loads}
use Rattle.module.proofs.Laws as call
use Rattle.std.proofs.Common.{Ok, Err}
use Rattle.answer.specs.Number.{Answer}

-- ---- the state in a record of bytes
-- a record that is opened: it is written again as itself, and the state in it is good
pub record Opens (b : List ℕ) (s : State) : Type 0 where
  pub load : restored_of b ≡ record { answer = Ok tt; state = s }
  pub back : record_of s ≡ b
  pub sound : Sound s
  pub valid : Valid s

opens : (b : List ℕ) → Bytes b → Opens b (state_at b) ⊎ (restored_of b ≡ refused_record Invalid)
opens b h = go (is_record b) refl
  where
    go : (x : Bool) → is_record b ≡ x → Opens b (state_at b) ⊎ (restored_of b ≡ refused_record Invalid)
    go true e =
        inl (record {
          load = load_good record_length b e;
          back = read_saves_back b h e;
          sound = sound_at b h;
          valid = valid_says (state_at b) (good_says record_length b e).1;
        })
    go false e = inr (bad_records record_length b e)

pub held : (b : List ℕ) (s : State) → HasState b s → Opens b s
held b s h =
    ⊎_elim
    (λ (o : Opens b (state_at b)). subst (Opens b) (ap (λ (r : Restored). r.state) (sym o.load ∙ h.1)) o)
    (λ (f : restored_of b ≡ refused_record Invalid). not_refused (ap (λ (r : Restored). r.answer) h.1) (ap (λ (r : Restored). r.answer) f))
    (opens b h.0)

pub saved_opens : (s : State) → Sound s → Valid s → Opens (record_of s) s
saved_opens s ok v = record { load = (saved_reads_back s ok (valid_from s v)).0; back = refl; sound = ok; valid = v }

-- ---- a run on it
run_here :
    (n : ℕ) (b ram rom : List ℕ) (s : State) → n ≤ 1000000 → opened_of b (length ram) (length rom) ≡ record { answer = Ok tt; state = s } →
    CallLeaves b ram rom n (run_of n s ram rom)
unfolding run_left run_done
run_here n b ram rom s few h = (rw (le-ltb 1000000 n few, h) refl, rw (le-ltb 1000000 n few, h) refl)

pub meets : (n : ℕ) (b ram rom : List ℕ) (s : State) → Opens b s → CallLeaves b ram rom n (run_of n s ram rom)
meets n b ram rom s o = go (ltb 1000000 n) (too_long (length ram) (length rom)) refl refl
  where
    none : (w : Why) → CRunMeets n b ram rom (number_of (Err w)) (at_of (Err w)) b ram 0 → run_of n s ram rom ≡ ends 0 s ram (Err w) → CallLeaves b ram rom n (run_of n s ram rom)
    none w h e = subst (CallLeaves b ram rom n) (sym e) (subst (λ (x : List ℕ). CRunMeets n b ram rom (number_of (Err w)) (at_of (Err w)) x ram 0) (sym o.back) h)

    go : (x y : Bool) → ltb 1000000 n ≡ x → too_long (length ram) (length rom) ≡ y → CallLeaves b ram rom n (run_of n s ram rom)
    go true y e f = let many = ltb-true 1000000 n e in none TooMany (run_many n b ram rom many refl refl) (run.run_many s ram rom n many)
    go false true e f =
        let few = ltb-false 1000000 n e in
        none TooLong (call.run_stops n b ram rom few (refused_record TooLong) (sym (opened_long b _ _ f)) TooLong refl refl refl) (run_long s ram rom n few f)
    go false false e f = run_here n b ram rom s (ltb-false 1000000 n e) (opened_loads b _ _ f ∙ o.load)

pub run_on_record : (b ram rom : List ℕ) → RunOnRecord b ram rom
run_on_record b ram rom n s h = let m = meets n b ram rom s (held b s h) in (sym m.0, sym m.1)

-- ---- a step is a run of one
-- a refused step leaves the record, and a refused run writes it again as itself
stepped_run : (b ram rom : List ℕ) (s : State) → record_of s ≡ b → stepped (step_of s ram rom) b ≡ outcome_left (step_of s ram rom)
unfolding step_of
stepped_run b ram rom s back = go (try_of s ram rom)
  where
    go : (t : Try) → stepped (leaves s ram t) b ≡ outcome_left (leaves s ram t)
    go (did u m) = refl
    go (no w) = ap (λ (l : List ℕ). left_by (Err w) l ram) (sym back)

step_here :
    (b ram rom : List ℕ) (s : State) → opened_of b (length ram) (length rom) ≡ record { answer = Ok tt; state = s } →
    step_left b ram rom ≡ stepped (step_of s ram rom) b
unfolding step_left
step_here b ram rom s h = rw h refl

pub step_is_run : (b ram rom : List ℕ) → StepIsRun b ram rom
step_is_run b ram rom h = go (too_long (length ram) (length rom)) refl (opens b h)
  where
    closed : (w : Why) → opened_of b (length ram) (length rom) ≡ refused_record w → step_left b ram rom ≡ run_left 1 b ram rom
    closed w e =
        sym (call.step_stops b ram rom (refused_record w) (sym e) w refl refl refl)
        ∙ (call.run_stops 1 b ram rom (omega arith) (refused_record w) (sym e) w refl refl refl).0

    go : (x : Bool) → too_long (length ram) (length rom) ≡ x → Opens b (state_at b) ⊎ (restored_of b ≡ refused_record Invalid) →
        step_left b ram rom ≡ run_left 1 b ram rom
    go true e o = closed TooLong (opened_long b _ _ e)
    go false e (inr f) = closed Invalid (opened_loads b _ _ e ∙ f)
    go false e (inl o) =
        let s = state_at b in
        step_here b ram rom s (opened_loads b _ _ e ∙ o.load)
        ∙ stepped_run b ram rom s o.back
        ∙ sym (ap outcome_left (one_step_run s ram rom))
        ∙ (meets 1 b ram rom s o).0

-- ---- a refused run
-- the step that stopped it is refused
run_refused : (n : ℕ) (s : State) (ram rom : List ℕ) (w : Why) → n ≤ 1000000 → (run_of n s ram rom).answer ≡ Err w →
    try_of (run_of n s ram rom).state (run_of n s ram rom).ram rom ≡ no w
run_refused zero s ram rom w few a = go (checks s ram rom)
  where
    go : Checks s ram rom → try_of (run_of 0 s ram rom).state (run_of 0 s ram rom).ram rom ≡ no w
    go (fail x f t) =
        let e = f 0 few in
        let y : Err x ≡ Err w = sym (ap (λ (r : Result). r.answer) e) ∙ a in
        let z : no x ≡ no w = cc in
        ap (λ (r : Result). try_of r.state r.ram rom) e ∙ t ∙ z
    go (pass l v) =
        let e = ap (λ (r : Result). r.answer) (run_goes s ram rom 0 few l v ∙ many_none 0 s ram rom) in
        let z : ◌≡◌ {A = ℕ} 0 1 = cc in absurd (omega arith)
run_refused (suc n) s ram rom w few a = go (λ t m. run_refused n t m rom w (omega arith)) (try_of s ram rom) refl
  where
    at : Result → Try
    at r = try_of r.state r.ram rom

    one : {r : Result} → run_of (n + 1) s ram rom ≡ r → run_of (suc n) s ram rom ≡ r
    one e = let k : suc n ≡ n + 1 = omega arith in ap (λ (x : ℕ). run_of x s ram rom) k ∙ e

    go : ((u : State) (m : List ℕ) → (run_of n u m rom).answer ≡ Err w → at (run_of n u m rom) ≡ no w) →
        (t : Try) → try_of s ram rom ≡ t → at (run_of (suc n) s ram rom) ≡ no w
    go more (did u m) f =
        let e = one ((run_is_steps s ram rom n few).0 u m f) in
        ap at e ∙ more u m (sym (ap (λ (r : Result). r.answer) e) ∙ a)
    go more (no x) f =
        let e = one ((run_is_steps s ram rom n few).1 x f) in
        let y : Err x ≡ Err w = sym (ap (λ (r : Result). r.answer) e) ∙ a in
        let z : no x ≡ no w = cc in
        ap at e ∙ f ∙ z

-- and so is every run from there
stays : (m : ℕ) (s : State) (ram rom : List ℕ) (w : Why) → 0 < m → m ≤ 1000000 → try_of s ram rom ≡ no w → run_of m s ram rom ≡ ends 0 s ram (Err w)
stays m s ram rom w pos few e =
    let k : m ≡ m - 1 + 1 = omega arith in
    ap (λ (x : ℕ). run_of x s ram rom) k ∙ (run_is_steps s ram rom (m - 1) (omega arith)).1 w e

-- ---- a call on any record: refused at the start however many steps it is asked for, or a run from the state in it
pub data Start (b ram rom : List ℕ) : Type 0 where
  shut : (w : Why) → ((n : ℕ) → n ≤ 1000000 → CRunMeets n b ram rom (number_of (Err w)) (at_of (Err w)) b ram 0) → Start b ram rom
  starts : (s : State) → Opens b s → Start b ram rom

pub start : (b ram rom : List ℕ) → Bytes b → Start b ram rom
start b ram rom h = ⊎_elim (λ (o : Opens b (state_at b)). starts (state_at b) o) (λ f. go (too_long (length ram) (length rom)) refl f) (opens b h)
  where
    closed : (w : Why) → opened_of b (length ram) (length rom) ≡ refused_record w → Start b ram rom
    closed w e = shut w (λ n few. call.run_stops n b ram rom few (refused_record w) (sym e) w refl refl refl)

    go : (x : Bool) → too_long (length ram) (length rom) ≡ x → restored_of b ≡ refused_record Invalid → Start b ram rom
    go true e f = closed TooLong (opened_long b _ _ e)
    go false e f = closed Invalid (opened_loads b _ _ e ∙ f)

not_zero : {A : Type 0} (w : Why) → why_number w ≡ 0 → A
not_zero w h = absurd (omega (arith, some w))

done_by : (a : Answer) → number_of a ≡ 0 → a ≡ Ok tt
done_by (Ok _) h = refl
done_by (Err w) h = not_zero w h

pub run_counts : (b ram rom : List ℕ) → RunCounts b ram rom
unfolding run_left run_done
run_counts b ram rom n h =
    let s = (run_opened n b ram rom).state in
    go (run_opened n b ram rom).answer (run_of n s ram rom) (count_is_true s ram rom n).0 h
  where
    go : (a : Answer) (r : Result) → (r.answer ≡ Ok tt → r.done ≡ n) → (unless a b ram (ran_left r)).number ≡ 0 → where_done a r.done 0 ≡ n
    go (Ok _) r true-count z = true-count (done_by r.answer z)
    go (Err w) r true-count z = not_zero w z

-- ---- a second run of m steps, on what a first of n left
abbrev next_left : ℕ → Left → List ℕ → Left
next_left m l rom = run_left m l.bytes l.ram rom

abbrev next_done : ℕ → Left → List ℕ → ℕ
next_done m l rom = run_done m l.bytes l.ram rom

module _ (n m : ℕ) (b ram rom : List ℕ) (few : n ≤ 1000000) where
  -- where the first did not start, the second does not
  second_shut :
      (w : Why) → ((k : ℕ) → k ≤ 1000000 → CRunMeets k b ram rom (number_of (Err w)) (at_of (Err w)) b ram 0) → m ≤ 1000000 →
      (next_left m (run_left n b ram rom) rom ≡ run_left n b ram rom) × (next_done m (run_left n b ram rom) rom ≡ 0) × (run_done n b ram rom ≡ 0)
  second_shut w f less =
      let p = f n few in
      let q = f m less in
      (sym (ap (λ (l : Left). next_left m l rom) p.0) ∙ sym q.0 ∙ p.0, sym (ap (λ (l : Left). next_done m l rom) p.0) ∙ sym q.1, sym p.1)

  module _ (s : State) (o : Opens b s) where
    abbrev r : Result
    r = run_of n s ram rom

    -- else it is a run from the state that the first came to
    second :
        (next_left m (run_left n b ram rom) rom ≡ ran_left (run_of m r.state r.ram rom))
        × (next_done m (run_left n b ram rom) rom ≡ (run_of m r.state r.ram rom).done)
    second =
        let p = meets n b ram rom s o in
        let q = meets m (record_of r.state) r.ram rom r.state
        (saved_opens r.state (run_sound n s ram rom o.sound) (run_valid n s ram rom o.valid)) in
        (sym (ap (λ (l : Left). next_left m l rom) p.0) ∙ sym q.0, sym (ap (λ (l : Left). next_done m l rom) p.0) ∙ sym q.1)

    -- and is refused where the first was
    second_refused :
        (w : Why) → r.answer ≡ Err w → 0 < m → m ≤ 1000000 →
        (next_left m (run_left n b ram rom) rom ≡ run_left n b ram rom) × (next_done m (run_left n b ram rom) rom ≡ 0)
    second_refused w a pos less =
        let e = stays m r.state r.ram rom w pos less (run_refused n s ram rom w few a) in
        let f : ran_left (ends 0 r.state r.ram (Err w)) ≡ ran_left r = ap (λ (x : Answer). ran_left (ends 0 r.state r.ram x)) (sym a) in
        (second.0 ∙ ap ran_left e ∙ f ∙ (meets n b ram rom s o).0, second.1 ∙ ap (λ (x : Result). x.done) e)

pub refused_again : (b ram rom : List ℕ) → RefusedAgain b ram rom
refused_again b ram rom n m h few bad pos less = go (start b ram rom h)
  where
    Again : Type 0
    Again = (next_left m (run_left n b ram rom) rom ≡ run_left n b ram rom) × (next_done m (run_left n b ram rom) rom ≡ 0)

    go : Start b ram rom → Again
    go (shut w f) = let t = second_shut n m b ram rom few w f less in (t.0, t.1)
    go (starts s o) = by (run_of n s ram rom).answer refl
      where
        by : (a : Answer) → (run_of n s ram rom).answer ≡ a → Again
        by (Ok _) a = absurd (bad (sym (ap (λ (l : Left). l.number) (meets n b ram rom s o).0) ∙ ap number_of a))
        by (Err w) a = second_refused n m b ram rom few s o w a pos less

pub joined_runs : (b ram rom : List ℕ) → JoinedRuns b ram rom
joined_runs b ram rom n m h most c = go (start b ram rom h)
  where
    Joined : Type 0
    Joined =
        (run_left (n + m) b ram rom ≡ next_left m (run_left n b ram rom) rom)
        × (run_done (n + m) b ram rom ≡ run_done n b ram rom + next_done m (run_left n b ram rom) rom)

    go : Start b ram rom → Joined
    go (shut w f) =
        let t = second_shut n m b ram rom (omega arith) w f (omega arith) in
        let p = f n (omega arith) in
        let q = f (n + m) most in
        (sym q.0 ∙ p.0 ∙ sym t.0, omega (arith, q.1, t.1, t.2))
    go (starts s o) = by (run_of n s ram rom).answer refl c
      where
        by : (a : Answer) → (run_of n s ram rom).answer ≡ a → ((run_left n b ram rom).number ≡ 0) ⊎ (0 < m) → Joined
        by (Ok _) a d =
            let p = meets n b ram rom s o in
            let q = meets (n + m) b ram rom s o in
            let t = second n m b ram rom (omega arith) s o in
            let j = runs_join s ram rom n m most a in
            let k = ap (λ (x : Result). x.done) j in
            let i = (count_is_true s ram rom n).0 a in
            (sym q.0 ∙ ap ran_left j ∙ sym t.0, omega (arith, q.1, k, t.1, i, p.1))
        by (Err w) a (inl z) = not_zero w (sym (ap number_of a) ∙ ap (λ (l : Left). l.number) (meets n b ram rom s o).0 ∙ z)
        by (Err w) a (inr pos) =
            let p = meets n b ram rom s o in
            let q = meets (n + m) b ram rom s o in
            let t = second_refused n m b ram rom (omega arith) s o w a pos (omega arith) in
            let j = run_stops s ram rom n m w most a in
            let k = ap (λ (x : Result). x.done) j in
            (sym q.0 ∙ ap ran_left j ∙ p.0 ∙ sym t.0, omega (arith, q.1, k, t.1, p.1))
