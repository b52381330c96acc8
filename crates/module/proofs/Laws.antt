-- What each call comes to, case by case.
use Prim.Native.Nat.{ℕ, zero, suc, ◌<◌, ◌≤◌}
use mathlib.Core.Path.{◌≡◌, refl, ap, sym, ◌∙◌, subst}
use mathlib.Core.List.{List}
use mathlib.Core.Bool.{Bool, true, false, cond, not}
use lib.ListN.{length}
use lib.Dec.{eqb}
use borrow.Author.Tests.{lt-ltb, le-ltb, not-true, not-false}
use Rattle.answer.specs.declared.Why.{Why}
use Rattle.answer.specs.declared.Why.TheVariants.{TooMany, TooLong, Invalid}
use Rattle.answer.specs.Number.{why_number, number_of, at_of, where_done}
use Rattle.answer.proofs.Laws.{not_refused}
use Rattle.little.specs.declared.Size.TheVariants.{Long}
use Rattle.memory.specs.Access as access
use Rattle.state.specs.State.{zero_state}
use Rattle.state.specs.Sound.{Sound}
use Rattle.state.specs.declared.State.{State}
use Rattle.state.proofs.Valid.{Valid, valid_says, valid_from, valid_zero, valid_reset}
use Rattle.saved.specs.declared.Restored.{Restored}
use Rattle.saved.specs.Record.{record_length, record_of, save_answer, save_bytes, state_at, restored_of, refused_record}
use Rattle.saved.proofs.Laws.{load_done}
use Rattle.saved.proofs.Refusals as saved
use Rattle.saved.proofs.RoundTrip.{good_says}
use Rattle.step.specs.declared.Stepped.{Stepped}
use Rattle.operand.specs.Try.{did, Outcome, after, leaves}
use Rattle.step.specs.Result.{refused_with}
use Rattle.step.specs.Step.{too_long, try_of, step_of}
use Rattle.step.specs.Reset.{reset_from, reset_of}
use Rattle.facts.proofs.Statements.{keeps_valid}
use Rattle.request.specs.declared.Requested.{Requested}
use Rattle.request.specs.Request.{request_of, took_of, RequestMeets}
use Rattle.turn.specs.declared.Ran.{Ran}
use Rattle.turn.specs.Many.{Result, result_with}
use Rattle.run.specs.Run.{run_of}
use Rattle.run.proofs.Joins.{Began, none, first, began, run_zero}
use Rattle.module.specs.Calls.{reset_answer, reset_bytes, opened_of, step_left, run_left, run_done, request_left, request_taken}
use Rattle.module.specs.Calls.{CResetMeets, CStepMeets, CRunMeets, CRequestMeets}
use Rattle.between.proofs.Offer.{offer_valid}
use Rattle.std.proofs.Common.{Ok, Err}
use Rattle.answer.specs.Number.{Answer}
use Rattle.memory.specs.Access.{Loaded}

-- ---- the states that are written are valid
reset_valid : (ram rom : List ℕ) → Valid (reset_of ram rom).state
unfolding reset_of
reset_valid ram rom = go (too_long (length ram) (length rom)) (access.load_of ram rom 0xFFFF00 Long)
  where
    go : (b : Bool) (l : Loaded) → Valid (cond b (refused_with zero_state TooLong) (reset_from l)).state
    go true l = valid_zero
    go false (Ok v) = valid_reset v
    go false (Err x) = valid_zero

-- what every accepted step keeps, every run keeps
module _ (P : State → Type 0) (kept : (s : State) (ram rom : List ℕ) (t : State) (m : List ℕ) → try_of s ram rom ≡ did t m → P s → P t) where
  run_keeps : (n : ℕ) (s : State) (ram rom : List ℕ) → P s → P (run_of n s ram rom).state
  run_keeps zero s ram rom ok = subst (λ (r : Result). P r.state) (sym (run_zero s ram rom).1) ok
  run_keeps (suc n) s ram rom ok = go (λ u m v. run_keeps n u m rom v) (began n s ram rom)
    where
      go : ((u : State) (m : List ℕ) → P u → P (run_of n u m rom).state) → Began n s ram rom → P (run_of (suc n) s ram rom).state
      go more (none a e) = subst (λ (r : Result). P r.state) (sym e) ok
      go more (first u m f e) = subst (λ (r : Result). P r.state) (sym e) (more u m (kept s ram rom u m f ok))

try_keeps : (s : State) (ram rom : List ℕ) (t : State) (m : List ℕ) → try_of s ram rom ≡ did t m → Valid t × (Sound s → Sound t)
unfolding step_of
try_keeps s ram rom t m e =
    let f : step_of s ram rom ≡ leaves s ram (did t m) = ap (leaves s ram) e in
    let k = keeps_valid s ram rom (ap (λ (o : Outcome). o.answer) f) in (
      subst (λ (o : Outcome). Valid o.state) f (valid_says _ k.0),
      λ ok. subst (λ (o : Outcome). Sound o.state) f (k.2 ok),
    )

pub run_valid : (n : ℕ) (s : State) (ram rom : List ℕ) → Valid s → Valid (run_of n s ram rom).state
run_valid = run_keeps Valid (λ s ram rom t m e ok. (try_keeps s ram rom t m e).0)

pub run_sound : (n : ℕ) (s : State) (ram rom : List ℕ) → Sound s → Sound (run_of n s ram rom).state
run_sound = run_keeps Sound (λ s ram rom t m e ok. (try_keeps s ram rom t m e).1 ok)

-- ---- a record that is opened
load_valid : (b : List ℕ) → (restored_of b).answer ≡ Ok tt → Valid (restored_of b).state × (length b ≡ record_length)
load_valid b h =
    let l = load_done record_length b refl h in
    let g = good_says record_length b l.0 in
    (subst Valid (sym l.1) (valid_says (state_at b) g.1), g.0)

opened_done : (b : List ℕ) (m n : ℕ) → (opened_of b m n).answer ≡ Ok tt → Valid (opened_of b m n).state × (length b ≡ record_length)
unfolding opened_of
opened_done b m n h = go (too_long m n) h
  where
    go : (x : Bool) → (cond x (record { answer = Err TooLong; state = zero_state }) (restored_of b)).answer ≡ Ok tt →
        Valid (cond x (record { answer = Err TooLong; state = zero_state }) (restored_of b)).state × (length b ≡ record_length)
    go true f = not_refused f refl
    go false f = load_valid b f

-- ---- a valid state is saved wherever there is room
saves : (s : State) (b : List ℕ) → Valid s → (save_answer s (length b) ≡ cond (eqb (length b) record_length) (Ok tt) (Err Invalid)) × (save_bytes s b ≡ cond (eqb (length b) record_length) (record_of s) b)
unfolding save_answer save_bytes
saves s b ok = (rw (valid_from s ok) refl, rw (valid_from s ok) refl)

saved_whole : (s : State) (b : List ℕ) → Valid s → length b ≡ record_length → (save_answer s (length b) ≡ Ok tt) × (save_bytes s b ≡ record_of s)
saved_whole s b ok e = (saved.saves s b).0 (valid_from s ok) e

pub opened_long : (b : List ℕ) (m n : ℕ) → too_long m n ≡ true → opened_of b m n ≡ refused_record TooLong
unfolding opened_of
opened_long b m n h = rw h refl

pub opened_loads : (b : List ℕ) (m n : ℕ) → too_long m n ≡ false → opened_of b m n ≡ restored_of b
unfolding opened_of
opened_loads b m n h = rw h refl

-- ---- reset
module _ (b ram rom : List ℕ) (r : Stepped) (is : r ≡ reset_of ram rom) where
  pub reset_stops : {n : ℕ} (w : Why) → r.answer ≡ Err w → n ≡ why_number w → CResetMeets b ram rom n b
  unfolding reset_answer reset_bytes
  reset_stops w a e =
      let f : (reset_of ram rom).answer ≡ Err w = ap (λ (x : Stepped). x.answer) (sym is) ∙ a in
      (rw (f, e) refl, rw f refl)

  pub reset_saves : {n : ℕ} {x : Answer} {b' : List ℕ} → r.answer ≡ Ok tt → x ≡ save_answer r.state (length b) → b' ≡ save_bytes r.state b →
      n ≡ number_of x → CResetMeets b ram rom n b'
  unfolding reset_answer reset_bytes
  reset_saves a e g h =
      let f : (reset_of ram rom).answer ≡ Ok tt = ap (λ (y : Stepped). y.answer) (sym is) ∙ a in
      let k = saves (reset_of ram rom).state b (reset_valid ram rom) in
      (rw (f, h, e, is, k.0) refl, rw (f, g, is, k.1) (room _ _ (eqb (length b) record_length)))
    where
      room : (x y : List ℕ) (t : Bool) → cond t x y ≡ where_done (cond t (Ok tt) (Err Invalid)) x y
      room x y true = refl
      room x y false = refl

-- ---- a call on a record
module _ (b ram rom : List ℕ) (o : Restored) (is : o ≡ opened_of b (length ram) (length rom)) where
  abbrev held : Restored
  held = opened_of b (length ram) (length rom)

  opened_answer : {a : Answer} → o.answer ≡ a → held.answer ≡ a
  opened_answer e = ap (λ (x : Restored). x.answer) (sym is) ∙ e

  -- over one that is opened, a state that is valid where that in it is can be saved
  saved_over : (s : State) → o.answer ≡ Ok tt → (Valid held.state → Valid s) → (save_answer s (length b) ≡ Ok tt) × (save_bytes s b ≡ record_of s)
  saved_over s good f = let v = opened_done b (length ram) (length rom) (opened_answer good) in saved_whole s b (f v.0) v.1

  -- ---- one step
  pub step_stops : {n x : ℕ} (w : Why) → o.answer ≡ Err w → n ≡ number_of o.answer → x ≡ at_of o.answer → CStepMeets b ram rom n x b ram
  unfolding step_left
  step_stops {n} {x} w a e f = subst (λ (y : ℕ). CStepMeets b ram rom n y b ram) (sym f) (rw (opened_answer a, e, a) refl)

  -- ---- a request
  module _ (level vector : ℕ) where
    pub request_stops : {n x : ℕ} (w : Why) → o.answer ≡ Err w → n ≡ number_of o.answer → x ≡ at_of o.answer →
        CRequestMeets level vector b ram rom n 0 x b ram
    unfolding request_left request_taken
    request_stops w a e f = (rw (opened_answer a, e, f, a) refl, rw (opened_answer a) refl)

    module _ (q : Requested) (m : List ℕ) (good : o.answer ≡ Ok tt) (e : RequestMeets level vector o.state ram rom q m) where
      came : after q.answer q.state m ≡ request_of level vector held.state ram rom
      came = e.0 ∙ ap (λ (x : Restored). request_of level vector x.state ram rom) is

      took : q.taken ≡ took_of level vector held.state ram rom
      took = e.1 ∙ ap (λ (x : Restored). took_of level vector x.state ram rom) is

      request_told : {n x : ℕ} {b' : List ℕ} (t : Bool) → q.taken ≡ t → b' ≡ cond t (record_of q.state) b → n ≡ number_of q.answer →
          x ≡ at_of q.answer → CRequestMeets level vector b ram rom n (cond t 1 0) x b' m
      unfolding request_left request_taken
      request_told t d f g h = rw (opened_answer good, sym took ∙ d) (rw (sym came, f, g, h) refl, refl)

      pub request_not : {n x : ℕ} → not q.taken ≡ true → n ≡ number_of q.answer → x ≡ at_of q.answer →
          CRequestMeets level vector b ram rom n 0 x b m
      request_not d = request_told false (not-true q.taken d) refl

      pub request_took : {n x : ℕ} {b' : List ℕ} → not q.taken ≡ false → b' ≡ save_bytes q.state b → n ≡ number_of q.answer →
          x ≡ at_of q.answer → CRequestMeets level vector b ram rom n 1 x b' m
      request_took d f =
          let k = saved_over q.state good (λ v. subst (λ (x : Outcome). Valid x.state) (sym came) (offer_valid level vector _ ram rom v)) in
          request_told true (not-false q.taken d) (f ∙ k.1)

-- ---- many steps
module _ (n : ℕ) (b ram rom : List ℕ) where
  pub run_many : {k x : ℕ} → 1000000 < n → k ≡ number_of (Err TooMany) → x ≡ at_of (Err TooMany) → CRunMeets n b ram rom k x b ram 0
  unfolding run_left run_done
  run_many h e f = (rw (lt-ltb 1000000 n h, e, f) refl, rw (lt-ltb 1000000 n h) refl)

  module _ (few : n ≤ 1000000) (o : Restored) (is : o ≡ opened_of b (length ram) (length rom)) where
    pub run_stops : {k x : ℕ} (w : Why) → o.answer ≡ Err w → k ≡ number_of o.answer → x ≡ at_of o.answer → CRunMeets n b ram rom k x b ram 0
    unfolding run_left run_done
    run_stops w a e g =
        let f = opened_answer b ram rom o is a in
        (rw (le-ltb 1000000 n few, f, e, g, a) refl, rw (le-ltb 1000000 n few, f) refl)

    pub run_ran : {k x : ℕ} {b' : List ℕ} (r : Ran) (m : List ℕ) → o.answer ≡ Ok tt → result_with r m ≡ run_of n o.state ram rom → b' ≡ save_bytes r.state b →
        k ≡ number_of r.answer → x ≡ at_of r.answer → CRunMeets n b ram rom k x b' m r.done
    unfolding run_left run_done
    run_ran r m a e g h i =
        let f = opened_answer b ram rom o is a in
        let here : result_with r m ≡ run_of n (opened_of b (length ram) (length rom)).state ram rom = e ∙ ap (λ (x : Restored). run_of n x.state ram rom) is in
        let s = saved_over b ram rom o is r.state a (λ v. subst (λ (x : Result). Valid x.state) (sym here) (run_valid n _ ram rom v)) in
        (rw (le-ltb 1000000 n few, f, sym here, h, i, g, s.1) refl, rw (le-ltb 1000000 n few, f, sym here) refl)
