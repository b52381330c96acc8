-- A request on a record is that on the state in it, and one that is not taken leaves the record and RAM as they were.
use Prim.Native.Nat.{ℕ}
use mathlib.Core.Path.{◌≡◌, refl, ap, sym, ◌∙◌}
use mathlib.Core.List.{List}
use mathlib.Core.Bool.{Bool, true, false, cond}
use native.Mathlib.Omega.{arith}
use lib.ListN.{length}
use Rattle.answer.specs.declared.Why.TheVariants.{TooLong}
use Rattle.answer.specs.Number.{where_done}
use Rattle.state.specs.declared.State.{State}
use Rattle.saved.specs.Record.{record_of, refused_record}
use Rattle.operand.specs.Try.{Outcome, no, leaves}
use Rattle.step.specs.Step.{too_long, guarded}
use Rattle.request.specs.Request.{takes, offered_of, request_of, if_done, took_of}
use Rattle.module.specs.Calls.{Left, left_by, opened_of, unless, offered, run_left, run_done, request_left, request_taken}
use Rattle.module.specs.Statements.{outcome_left, RequestRefusedKeeps, NotTakenKeeps, RequestOnRecord, RunAfterRequest}
use Rattle.between.proofs.Offer.{untaken_same, offer_whole}
use Rattle.module.proofs.Laws.{opened_long, opened_loads, request_stops}
use Rattle.module.proofs.Records.{Opens, held, saved_opens, meets}
use Rattle.std.proofs.Common.{Ok, Err}
use Rattle.answer.specs.Number.{Answer}

module _ (b ram rom : List ℕ) where
  -- ---- what is not taken
  pub not_taken_keeps : NotTakenKeeps b ram rom
  unfolding request_left request_taken
  not_taken_keeps level vector h =
      let o = opened_of b (length ram) (length rom) in go o.state o.answer (took_of level vector o.state ram rom) refl h
    where
      go : (s : State) (a : Answer) (t : Bool) → took_of level vector s ram rom ≡ t → ◌≡◌ {A = ℕ} (where_done a (cond t 1 0) 0) 0 →
          let l = unless a b ram (offered t (request_of level vector s ram rom) b) in (l.bytes ≡ b) × (l.ram ≡ ram)
      go s (Err w) t e z = (refl, refl)
      go s (Ok _) true e z = absurd (omega (arith, z))
      go s (Ok _) false e z = (refl, (untaken_same level vector s ram rom e).1)

  pub request_refused_keeps : RequestRefusedKeeps b ram rom
  unfolding request_left request_taken took_of
  request_refused_keeps level vector h =
      let o = opened_of b (length ram) (length rom) in
      let z : request_taken level vector b ram rom ≡ 0 =
      go o.answer (request_of level vector o.state ram rom).answer _ _ (takes o.state.level.0 level) h in
      let k = not_taken_keeps level vector z in
      (z, k.0, k.1)
    where
      go : (a x : Answer) (c m : List ℕ) (t : Bool) → ((unless a b ram (left_by x c m)).number ≡ 0 → ⊥) →
          ◌≡◌ {A = ℕ} (where_done a (cond (if_done x t) 1 0) 0) 0
      go (Err w) x c m t f = refl
      go (Ok _) (Err w) c m t f = refl
      go (Ok _) (Ok _) c m t f = absurd (f refl)

  -- ---- a request on the state in a record
  module _ (level vector : ℕ) (s : State) where
    abbrev o : Outcome
    o = request_of level vector s ram rom

    abbrev t : Bool
    t = took_of level vector s ram rom

    abbrev OnState : Type 0
    OnState = (request_left level vector b ram rom ≡ outcome_left o) × (request_taken level vector b ram rom ≡ cond t 1 0)

    -- one that is not taken leaves the record, which is that of the state
    offered_back : record_of s ≡ b → offered t o b ≡ outcome_left o
    offered_back back = go t refl
      where
        go : (x : Bool) → t ≡ x → offered x o b ≡ outcome_left o
        go true e = refl
        go false e = ap (λ (l : List ℕ). left_by o.answer l o.ram) (sym (ap record_of (untaken_same level vector s ram rom e).0 ∙ back))

    opened_on : opened_of b (length ram) (length rom) ≡ record { answer = Ok tt; state = s } → record_of s ≡ b → OnState
    unfolding request_left request_taken
    opened_on e back = rw e (offered_back back, refl)

    -- where a memory is too long, the record is not opened, and a request on the state is refused as well
    request_long : too_long (length ram) (length rom) ≡ true → (o ≡ leaves s ram (no TooLong)) × (t ≡ false)
    unfolding request_of took_of offered_of guarded
    request_long e = rw e (refl, refl)

    on_state : Opens b s → OnState
    on_state x = go (too_long (length ram) (length rom)) refl
      where
        go : (y : Bool) → too_long (length ram) (length rom) ≡ y → OnState
        go false e = opened_on (opened_loads b _ _ e ∙ x.load) x.back
        go true e =
            let h = request_stops b ram rom (refused_record TooLong) (sym (opened_long b _ _ e)) level vector TooLong refl refl refl in
            let k = request_long e in
            (sym h.0 ∙ ap (λ (l : List ℕ). left_by (Err TooLong) l ram) (sym x.back) ∙ sym (ap outcome_left k.0), sym h.1 ∙ rw k.1 refl)

  pub request_on_record : RequestOnRecord b ram rom
  request_on_record level vector s h = on_state level vector s (held b s h)

  pub run_after_request : RunAfterRequest b ram rom
  run_after_request level vector n s h =
      let x = held b s h in
      let o = request_of level vector s ram rom in
      let w = offer_whole level vector s ram rom (x.valid, x.sound) in
      let m = meets n (record_of o.state) o.ram rom o.state (saved_opens o.state w.1 w.0) in
      let e = (on_state level vector s x).0 in
      (ap (λ (l : Left). run_left n l.bytes l.ram rom) e ∙ sym m.0, ap (λ (l : Left). run_done n l.bytes l.ram rom) e ∙ sym m.1)
