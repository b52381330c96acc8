-- Laws of several steps in one call.
use Prim.Native.Nat.{ℕ, suc, ◌+◌, ◌-◌, ◌%◌, ◌^◌, ◌<◌, ◌≤◌}
use mathlib.Core.Path.{◌≡◌, refl, ap, sym, ◌∙◌}
use mathlib.Core.List.{List}
use mathlib.Core.Bool.{Bool, true, false}
use native.Mathlib.Omega.{arith}
use native.Mathlib.Nat.{sub_self, mod-eq_of_lt}
use lib.ListN.{length}
use lib.Dec.{ltb}
use borrow.Author.Tests.{ltb-true}
use Rattle.state.proofs.Valid.{and_true}
use Rattle.answer.specs.declared.Why.{Why}
use Rattle.little.specs.declared.Size.{Size}
use Rattle.memory.specs.Access.{code_at}
use Rattle.memory.specs.Place.{place_of}
use Rattle.memory.specs.declared.Place.{Place}
use Rattle.memory.specs.declared.Place.TheVariants.{Ram, Rom, Missing}
use Rattle.memory.proofs.Laws.{rom_fits_lem, code_in}
use Rattle.state.specs.State.{with_counter}
use Rattle.state.specs.inner.Lent.{banked_at_with, standing_at}
use Rattle.state.specs.declared.Bank.{Bank}
use Rattle.state.specs.declared.State.{State}
use Rattle.code.specs.Listed.{decode_of}
use Rattle.code.specs.Said.{whole_of}
use Rattle.code.specs.declared.Form.{Form}
use Rattle.code.specs.declared.Operand.{Operand}
use Rattle.code.specs.declared.Op.TheVariants.{Blocks}
use Rattle.operand.specs.Try.{Try, did, no, Outcome, leaves, and_then, after}
use Rattle.block.specs.Block.{round_of, goes_on, ends_at}
use Rattle.exec.specs.Exec.{past_of, effect_of, executed_of, done}
use Rattle.turn.specs.Once.{once_of}
use Rattle.turn.specs.inner.Times.{times_of, Fewer, most_rounds, Stands}
use Rattle.block.specs.inner.Again.{in_rom, again_of}
use Rattle.std.proofs.Common.{Ok, Err}
use Rattle.answer.specs.Number.{Answer}
use Rattle.code.specs.Unread.{Decoded}

-- ---- what was tried, from what a call leaves
module _ (s : State) (ram : List ℕ) (a : Answer) (u : State) (m : List ℕ) where
  pub was_done : (t : Try) → after a u m ≡ leaves s ram t → a ≡ Ok tt → t ≡ did u m
  was_done (did v n) e d = rw (ap (λ (o : Outcome). o.state) e, ap (λ (o : Outcome). o.ram) e) refl
  was_done (no w) e d =
      let b : a ≡ Err w = ap (λ (o : Outcome). o.answer) e in
      let z : ◌≡◌ {A = ℕ} 0 1 = cc in
      absurd (omega arith)

  pub was_refused : (w : Why) (t : Try) → after a u m ≡ leaves s ram t → a ≡ Err w → (t ≡ no w) × (u ≡ s) × (m ≡ ram)
  was_refused w (did v n) e d =
      let b : a ≡ Ok tt = ap (λ (o : Outcome). o.answer) e in
      let z : ◌≡◌ {A = ℕ} 0 1 = cc in
      absurd (omega arith)
  was_refused w (no x) e d =
      let b : Err w ≡ Err x = sym d ∙ ap (λ (o : Outcome). o.answer) e in
      (cc, ap (λ (o : Outcome). o.state) e, ap (λ (o : Outcome). o.ram) e)

-- the state and RAM of a step that is done
abbrev pub state_or : State → Try → State
state_or d (did s m) = s
state_or d (no w) = d

abbrev pub ram_or : List ℕ → Try → List ℕ
ram_or d (did s m) = m
ram_or d (no w) = d

-- ---- steps
pub times_one : (n : ℕ) (s : State) (ram rom : List ℕ) → times_of (suc (n - n)) s ram rom ≡ once_of s ram rom
unfolding times_of
times_one n s ram rom = rw (sub_self n) refl

pub times_more : (k : ℕ) (s : State) (ram rom : List ℕ) (t : State) (m : List ℕ) → times_of k s ram rom ≡ did t m → times_of (suc k) s ram rom ≡ once_of t m rom
unfolding times_of
times_more k s ram rom t m e = rw e refl

pub times_none : (n : ℕ) (s : State) (ram rom : List ℕ) → times_of (suc (0 - n)) s ram rom ≡ once_of s ram rom
times_none n s ram rom = let z : 0 - n ≡ 0 - 0 = omega arith in ap (λ (k : ℕ). times_of (suc k) s ram rom) z ∙ times_one 0 s ram rom

pub again_says : (f : Form) (left : ℕ) (s : State) → again_of f left s ≡ true → (0 < left) × (goes_on f s ≡ true)
again_says f left s e = let a = and_true (ltb 0 left) (goes_on f s) e in (ltb-true 0 left a.0, a.1)

-- no more rounds than there are steps for, and none where the form does not stay what it is
pub rounds_few : (stays : Bool) (more : ℕ) → most_rounds stays more ≤ more
rounds_few true more = omega arith
rounds_few false more = omega arith

pub rounds_stay : (stays : Bool) (more : ℕ) → 0 < most_rounds stays more → stays ≡ true
rounds_stay true more l = refl
rounds_stay false more l = absurd (omega arith)

pub fewer_same : (a : Answer) (n : ℕ) → Fewer a n n
fewer_same (Ok _) n = omega arith
fewer_same (Err w) n = refl

-- ---- what stands at an address
pub stands_form :
    (f : Form) (z : Size) (o : Operand) (n at past : ℕ) (ram rom : List ℕ) → decode_of (code_at ram rom at) ≡ whole_of (Blocks f) z o n → past ≡ (at + n) % 2 ^ 24
    → Stands at past ram rom (λ s m. and_then (round_of f s m rom) (ends_at f at))
unfolding once_of executed_of effect_of past_of with_counter
stands_form f z o n at past ram rom d e m same rest =
    let s = standing_at rest at in
    ap (λ (x : List ℕ). done (decode_of x) s m rom) same
    ∙ ap (λ (x : Decoded). done x s m rom) d
    ∙ rw e refl

-- ---- in ROM
module _ (ram rom : List ℕ) (a : ℕ) where
  pub rom_below : in_rom (place_of (length ram) (length rom) a 1) ≡ true → a < 2 ^ 24
  rom_below h = go (place_of (length ram) (length rom) a 1) refl h
    where
      go : (p : Place) → place_of (length ram) (length rom) a 1 ≡ p → in_rom p ≡ true → a < 2 ^ 24
      go (Ram o) e k = let z : ◌≡◌ {A = ℕ} 0 1 = cc in absurd (omega arith)
      go (Rom o) e k = let f = rom_fits_lem (length ram) (length rom) a 1 o e in omega (arith, f.0, f.1)
      go (Missing x) e k = let z : ◌≡◌ {A = ℕ} 0 1 = cc in absurd (omega arith)

  pub rom_same : (m : List ℕ) → in_rom (place_of (length ram) (length rom) a 1) ≡ true → length m ≡ length ram → code_at m rom a ≡ code_at ram rom a
  rom_same m h l = go (place_of (length ram) (length rom) a 1) refl h
    where
      go : (p : Place) → place_of (length ram) (length rom) a 1 ≡ p → in_rom p ≡ true → code_at m rom a ≡ code_at ram rom a
      go (Ram o) e k = let z : ◌≡◌ {A = ℕ} 0 1 = cc in absurd (omega arith)
      go (Rom o) e k = code_in m rom a (ap (λ (n : ℕ). place_of n (length rom) a 1) l ∙ e) ∙ sym (code_in ram rom a e)
      go (Missing x) e k = let z : ◌≡◌ {A = ℕ} 0 1 = cc in absurd (omega arith)

-- ---- one round more of a form that stands at an address, after k steps that were done
module _
    (f : Form) (at past : ℕ) (bank : Bank) (rest : State) (ram rom : List ℕ) (start : State)
    (h : Stands at past ram rom (λ s m. and_then (round_of f s m rom) (ends_at f at)))
    (k : ℕ) (registers : List ℕ) (flags : ℕ) (m : List ℕ)
    (same : code_at m rom at ≡ code_at ram rom at)
    (so_far : times_of k start ram rom ≡ did (banked_at_with rest registers bank at flags) m)
    (a : Answer) (registers' : List ℕ) (flags' : ℕ) (m' : List ℕ)
    (e : after a (banked_at_with rest registers' bank past flags') m'
    ≡ leaves (banked_at_with rest registers bank past flags) m (round_of f (banked_at_with rest registers bank past flags) m rom)) where
  next_is : times_of (suc k) start ram rom ≡ and_then (round_of f (banked_at_with rest registers bank past flags) m rom) (ends_at f at)
  next_is = times_more k start ram rom (banked_at_with rest registers bank at flags) m so_far ∙ h m same (banked_at_with rest registers bank at flags)

  pub round_done : a ≡ Ok tt → times_of (suc k) start ram rom ≡ did (ends_at f at (banked_at_with rest registers' bank past flags')) m'
  round_done d =
      next_is
      ∙ ap (λ (t : Try). and_then t (ends_at f at))
      (was_done (banked_at_with rest registers bank past flags) m a (banked_at_with rest registers' bank past flags') m' (round_of f (banked_at_with rest registers bank past flags) m rom) e d)

  pub round_again : a ≡ Ok tt → goes_on f (banked_at_with rest registers' bank past flags') ≡ true → at < 2 ^ 24
      → times_of (suc k) start ram rom ≡ did (banked_at_with rest registers' bank at flags') m'
  unfolding ends_at with_counter
  round_again d g l = round_done d ∙ rw (g, mod-eq_of_lt l) refl

  pub round_not : (w : Why) → a ≡ Err w → times_of (suc k) start ram rom ≡ no w
  round_not w d =
      next_is
      ∙ ap (λ (t : Try). and_then t (ends_at f at))
      (was_refused (banked_at_with rest registers bank past flags) m a (banked_at_with rest registers' bank past flags') m' w (round_of f (banked_at_with rest registers bank past flags) m rom) e d).0

  -- a refusal of the first round, and of a later one
  pub first_not :
      (w : Why) → a ≡ Err w → (registers₀ : List ℕ) (flags₀ : ℕ) → start ≡ banked_at_with rest registers₀ bank at flags₀ → k ≡ 0
      → after (Err w) (banked_at_with rest registers' bank past flags') m'
      ≡ leaves (banked_at_with rest registers₀ bank past flags₀) ram (times_of (suc k) start ram rom)
  unfolding times_of
  first_not w d registers₀ flags₀ s z =
      let g = was_refused (banked_at_with rest registers bank past flags) m a (banked_at_with rest registers' bank past flags') m' w (round_of f (banked_at_with rest registers bank past flags) m rom) e d in
      let b : did start ram ≡ did (banked_at_with rest registers bank at flags) m = ap (λ (n : ℕ). times_of n start ram rom) (sym z) ∙ so_far in
      let v : banked_at_with rest registers' bank past flags' ≡ banked_at_with rest registers₀ bank past flags₀ =
      g.1 ∙ sym (ap (λ (x : State). banked_at_with rest x.registers bank past x.flags) (sym s ∙ ap (state_or start) b)) in
      let r : m' ≡ ram = g.2 ∙ sym (ap (ram_or ram) b) in
      ap (λ (x : State). after (Err w) x m') v ∙ ap (λ (x : List ℕ). after (Err w) (banked_at_with rest registers₀ bank past flags₀) x) r
      ∙ ap (leaves (banked_at_with rest registers₀ bank past flags₀) ram) (sym (round_not w d))

  pub later_not :
      (w : Why) → a ≡ Err w → (p : State) → after (Ok tt) (banked_at_with rest registers' bank at flags') m' ≡ leaves p ram (times_of k start ram rom)
  later_not w d p =
      let g = was_refused (banked_at_with rest registers bank past flags) m a (banked_at_with rest registers' bank past flags') m' w (round_of f (banked_at_with rest registers bank past flags) m rom) e d in
      let v : banked_at_with rest registers' bank at flags' ≡ banked_at_with rest registers bank at flags =
      ap (λ (x : State). banked_at_with rest x.registers bank at x.flags) g.1 in
      ap (λ (x : State). after (Ok tt) x m') v ∙ ap (λ (x : List ℕ). after (Ok tt) (banked_at_with rest registers bank at flags) x) g.2
      ∙ ap (leaves p ram) (sym so_far)
