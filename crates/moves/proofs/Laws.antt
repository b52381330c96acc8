-- What is promised is settled; what each call answers and leaves, by its cases, and the bytes of a moved record.
use Prim.Native.Nat.{ℕ, ◌+◌, ◌≤◌}
use native.Mathlib.Omega.{arith}
use mathlib.Core.Path.{◌≡◌, refl, ap, sym, ◌∙◌, subst}
use mathlib.Core.Logic.{◌⊎◌, inl, inr}
use mathlib.Core.Bool.{Bool, true, false, not}
use mathlib.Core.List.{List}
use lib.ListN.{length, replicate}
use lib.Seq.{take-append-le}
use borrow.Author.Tests.{eq-eqb, not-true, not-false}
use Rattle.little.specs.Bytes.{Bytes}
use Rattle.answer.specs.declared.Why.{Why}
use Rattle.answer.specs.declared.Why.TheVariants.{Invalid, NoOldForm}
use Rattle.answer.specs.Number.{why_number, number_of}
use Rattle.saved.specs.declared.Restored.{Restored}
use Rattle.saved.specs.Record.{record_length, old_length, record_of, old_record_of, widened, narrowed, fits_old, state_at}
use Rattle.saved.specs.Record.{is_record, is_old_record, restored_of, old_restored_of}
use Rattle.saved.proofs.Laws.{load_done, load_refused}
use Rattle.saved.proofs.Refusals.{either_fails, alike}
use Rattle.saved.proofs.RoundTrip.{front_is_old, sound_at, good_says, read_saves_back, old_records_are_of_states}
use Rattle.moves.specs.Moves.{widen_answer, widen_bytes, narrow_answer, narrow_bytes, CWidenMeets, CNarrowMeets}
use Rattle.moves.specs.Statements.{Widens, Settled}
use Rattle.moves.specs.inner.Filled.{filled}
use Rattle.moves.proofs.Filling.{filled_long}
use Rattle.std.proofs.Common.{Ok, Err}
use Rattle.answer.specs.Number.{Answer}

-- ---- what is promised is settled
pub settled : Settled
settled = (λ old new b c n m. alike, λ new old b c n m. alike)

-- ---- the bytes: to move a record is to write its state in the other form
pub wide_bytes : (old : List ℕ) → Bytes old → is_old_record old ≡ true → record_of (state_at old) ≡ widened old
wide_bytes old h e =
    let g = old_records_are_of_states.1 old h e in
    (front_is_old (state_at old) (sound_at old h)).1 g.1 ∙ ap widened g.2

pub narrow_bytes_lem : (new : List ℕ) → Bytes new → is_record new ≡ true → old_record_of (state_at new) ≡ narrowed new
narrow_bytes_lem new h e = sym (front_is_old (state_at new) (sound_at new h)).0 ∙ ap narrowed (read_saves_back new h e)

-- ---- the cases
pub widens : Widens
unfolding widen_answer widen_bytes
widens old room = (
  λ g e. (rw (g, eq-eqb _ _ e) refl, rw (g, eq-eqb _ _ e) refl),
  λ x. let z = either_fails _ _ _ x in (rw z refl, rw z refl),
)

pub narrow_done :
    (new room : List ℕ) → is_record new ≡ true → length room ≡ old_length → fits_old (state_at new) ≡ true →
    (narrow_answer new (length room) ≡ Ok tt) × (narrow_bytes new room ≡ narrowed new)
unfolding narrow_answer narrow_bytes
narrow_done new room g e f = (rw (g, eq-eqb _ _ e, f) refl, rw (g, eq-eqb _ _ e, f) refl)

pub narrow_ten :
    (new room : List ℕ) → is_record new ≡ true → length room ≡ old_length → fits_old (state_at new) ≡ false →
    (narrow_answer new (length room) ≡ Err NoOldForm) × (narrow_bytes new room ≡ room)
unfolding narrow_answer narrow_bytes
narrow_ten new room g e f = (rw (g, eq-eqb _ _ e, f) refl, rw (g, eq-eqb _ _ e, f) refl)

pub narrow_two :
    (new room : List ℕ) → (is_record new ≡ false) ⊎ (length room ≡ old_length → ⊥) →
    (narrow_answer new (length room) ≡ Err Invalid) × (narrow_bytes new room ≡ room)
unfolding narrow_answer narrow_bytes
narrow_two new room x = let z = either_fails _ _ _ x in (rw z refl, rw z refl)

-- ---- each call, by what its own calls gave
-- what a call gave, a and b, and what is defined, y and v, are both those of the case, x and u: the promise is met
told :
    {x y a : Answer} {u v b : List ℕ} {n : ℕ} → n ≡ number_of a → a ≡ x → b ≡ u → (y ≡ x) × (v ≡ u) → (n ≡ number_of y) × (b ≡ v)
told k e f d = (k ∙ ap number_of (e ∙ sym d.0), f ∙ sym d.1)

pub widen_stops :
    (old room : List ℕ) {o : Restored} {n : ℕ} → o ≡ old_restored_of old → (w : Why) → o.answer ≡ Err w → n ≡ why_number w → CWidenMeets old room n room
widen_stops old room e w r k = let l = load_refused old_length old e w r in told k l.1 refl ((widens old room).1 (inl l.0))

-- a room of another length
pub widen_other_room :
    (old room : List ℕ) {n : ℕ} → (length room ≡ record_length → ⊥) → n ≡ why_number Invalid → CWidenMeets old room n room
widen_other_room old room h k = told k refl refl ((widens old room).1 (inr h))

pub widen_fills :
    (old room : List ℕ) {o : Restored} {b : List ℕ} {n : ℕ} → o ≡ old_restored_of old → o.answer ≡ Ok tt → length room ≡ record_length →
    b ≡ filled (length room) old → n ≡ number_of (Ok tt) → CWidenMeets old room n b
widen_fills old room e r fit f k =
    let g = (load_done old_length old e r).0 in
    let long : filled (length room) old ≡ widened old =
    ap (λ (m : ℕ). filled m old) (fit ∙ ap (λ (m : ℕ). m + 4) (sym (good_says old_length old g).0)) ∙ filled_long old 4 in
    told k refl (f ∙ long) ((widens old room).0 g fit)

pub narrow_stops :
    (new room : List ℕ) {o : Restored} {n : ℕ} → o ≡ restored_of new → (w : Why) → o.answer ≡ Err w → n ≡ why_number w → CNarrowMeets new room n room
narrow_stops new room e w r k = let l = load_refused record_length new e w r in told k l.1 refl (narrow_two new room (inl l.0))

pub narrow_other_room :
    (new room : List ℕ) {n : ℕ} → (length room ≡ old_length → ⊥) → n ≡ why_number Invalid → CNarrowMeets new room n room
narrow_other_room new room h k = told k refl refl (narrow_two new room (inr h))

module _ (new room : List ℕ) {o : Restored} {f : Bool} (e : o ≡ restored_of new) (r : o.answer ≡ Ok tt) (fit : length room ≡ old_length) (q : f ≡ fits_old o.state) where
  good : is_record new ≡ true
  good = (load_done record_length new e r).0

  fits : {x : Bool} → f ≡ x → fits_old (state_at new) ≡ x
  fits h = ap fits_old (sym (load_done record_length new e r).1) ∙ sym q ∙ h

  -- the state has no old form
  pub narrow_turned : {n : ℕ} → not f ≡ true → n ≡ why_number NoOldForm → CNarrowMeets new room n room
  narrow_turned t k = told k refl refl (narrow_ten new room good fit (fits (not-true f t)))

  pub narrow_fills : {b : List ℕ} {n : ℕ} → not f ≡ false → b ≡ filled (length room) new → n ≡ number_of (Ok tt) → CNarrowMeets new room n b
  narrow_fills t m k =
      let l : old_length ≤ length new = subst (λ (x : ℕ). old_length ≤ x) (sym (good_says record_length new good).0) (omega arith) in
      told k refl (m ∙ ap (λ (x : ℕ). filled x new) fit ∙ take-append-le old_length new (replicate old_length 0) l) (narrow_done new room good fit (fits (not-false f t)))
