-- Every start tells one ending and comes to it, as specs/Demand.antt states it.
use Prim.Native.Nat.{ℕ, zero, suc, ◌+◌, ◌<◌, ◌≤◌}
use mathlib.Core.Path.{◌≡◌, refl, ap, sym, ◌∙◌, subst}
use mathlib.Core.Logic.{◌≢◌, inr}
use mathlib.Core.List.{List}
use mathlib.Core.Bool.{Bool, true, false}
use native.Mathlib.Omega.{arith}
use native.Mathlib.Nat.{add-zero}
use lib.Dec.{eqb, ltb}
use lib.ListN.{length}
use borrow.Author.Tests.{eqb-true, eqb-false, ltb-true, ltb-false}
use Rattle.answer.specs.declared.Why.{Why}
use Rattle.answer.specs.declared.Why.TheVariants as why
use Rattle.little.specs.Width.{bytes_of}
use Rattle.memory.specs.Access.{load_of}
use Rattle.memory.specs.declared.Place.{Place}
use Rattle.memory.specs.Place.{Present}
use Rattle.memory.specs.declared.Place.TheVariants.{Ram, Rom, Missing}
use Rattle.memory.proofs.Laws.{place_ram, ram_fits_lem}
use Rattle.state.specs.declared.State.{State}
use Rattle.code.specs.declared.Form.{Form}
use Rattle.block.specs.Block.{accumulator}
use Rattle.run.specs.Run.{RunLeaves}
use Rattle.run.specs.Demand.{At, Spares, EqualAt, RefusedAt, no_element, no_target, rom_target, count_of, element_of, target_of, element_place, target_place, EndsAfter, GoesOnAfter, Ending, at_count, at_equal, at_refusal, Passes, Told, rounds_done, ComesTo, EndsAsTold, EveryStart, NotBefore}
use Rattle.run.proofs.Repeats.{Clear, clear}
use Rattle.run.proofs.Rounds.{loaded_there, missing_load}
use Rattle.run.proofs.Demand.{compare_clear, ended_run, to_the_end, goes_on_after, stops_after}
use Rattle.std.proofs.Common.{Ok}

-- what holds of the first n and of number n holds of the first n + 1
one_longer : (P : ℕ → Type 0) (n : ℕ) → ((i : ℕ) → i < n → P i) → P n → (i : ℕ) → i < suc n → P i
one_longer P n h x i l = go (eqb i n) refl
  where
    go : (b : Bool) → eqb i n ≡ b → P i
    go true e = subst P (sym (eqb-true i n e)) x
    go false e = let k : i ≢ n = eqb-false i n e in h i (omega arith)

module _ (f : Form) (s : State) (ram rom : List ℕ) where
  -- ---- the round of element i, by the start alone: nothing ends it there
  abbrev Fine : ℕ → Type 0
  Fine i =
      Present (element_place f s ram rom i)
      × (f.copies ≡ true → target_of f s i + bytes_of f.size ≤ length ram)
      × (EqualAt f s ram rom i → ⊥)

  -- or it is equal, or refused
  data Met (i : ℕ) : Type 0 where
    fine : Fine i → Met i
    equal : EqualAt f s ram rom i → Met i
    refused : (w : Why) → RefusedAt f s ram rom i w → Met i

  -- a copy's, by its target
  met_target : (i : ℕ) → f.copies ≡ true → Present (element_place f s ram rom i) → (p : Place) → target_place f s ram rom i ≡ p → Met i
  met_target i c h (Ram o) e =
      let x = ram_fits_lem (length ram) (length rom) (target_of f s i) (bytes_of f.size) o e in
      let y = x.0 in
      let z = x.1 in
      fine (h, (λ k. omega (arith, y, z)), λ q. let b = q.0 in let z : ◌≡◌ {A = ℕ} 0 1 = cc in omega arith)
  met_target i c h (Rom o) e = refused _ (rom_target c h o e)
  met_target i c h (Missing x) e = refused _ (no_target c h x e)

  -- a compare's, by its element
  met_value : (i v : ℕ) → f.copies ≡ false → Present (element_place f s ram rom i) → load_of ram rom (element_of f s i) f.size ≡ Ok v →
      (b : Bool) → eqb v (accumulator s f.size) ≡ b → Met i
  met_value i v c h l true e = equal (c, l ∙ ap Ok (eqb-true v (accumulator s f.size) e))
  met_value i v c h l false e =
      fine (
        h,
        (λ k. let z : ◌≡◌ {A = ℕ} 0 1 = cc in absurd (omega arith)),
        λ q.
            let x = q.1 in
            let y : v ≡ accumulator s f.size = cc in
            eqb-false v (accumulator s f.size) e y,
      )

  met_there : (i : ℕ) → Present (element_place f s ram rom i) → (b : Bool) → f.copies ≡ b → Met i
  met_there i h true c = met_target i c h (target_place f s ram rom i) refl
  met_there i h false c =
      let x = loaded_there f s ram rom (element_of f s i) f.size h in
      met_value i x.0 c h x.1 (eqb x.0 (accumulator s f.size)) refl

  met : (i : ℕ) → Met i
  met i = go (element_place f s ram rom i) refl
    where
      go : (p : Place) → element_place f s ram rom i ≡ p → Met i
      go (Ram o) e = met_there i (λ x h. let z : ◌≡◌ {A = ℕ} 0 1 = cc in omega arith) f.copies refl
      go (Rom o) e = met_there i (λ x h. let z : ◌≡◌ {A = ℕ} 0 1 = cc in omega arith) f.copies refl
      go (Missing x) e = refused _ (no_element x e)

  -- ---- the search for the first that ends it: k rounds are left, and nothing ends it in the first n
  passes_more : (n : ℕ) → Passes f s ram rom n → Fine n → Passes f s ram rom (suc n)
  passes_more n p x = one_longer Fine n p x

  search_told : (k n : ℕ) → k + n ≡ count_of s → Passes f s ram rom n → (e : Ending) × Told f s ram rom e
  search_told zero n h p = let e : n ≡ count_of s = omega arith in (at_count, subst (λ (j : ℕ). Passes f s ram rom j) e p)
  search_told (suc k) n h p = go (λ x. search_told k (suc n) (omega arith) (passes_more n p x)) (met n)
    where
      go : (Fine n → (e : Ending) × Told f s ram rom e) → Met n → (e : Ending) × Told f s ram rom e
      go on (fine x) = on x
      go on (equal q) = (at_equal n, (omega arith, p, q))
      go on (refused w r) = (at_refusal n w, (omega arith, p, r))

  some_told : (e : Ending) × Told f s ram rom e
  some_told =
      search_told (count_of s) 0 (add-zero (count_of s)) (λ i h. absurd (omega arith))

  -- ---- no other
  refused_not_fine : (i : ℕ) (w : Why) → RefusedAt f s ram rom i w → Fine i → ⊥
  refused_not_fine i _ (no_element y h) x = x.0 y h
  refused_not_fine i _ (no_target c h v k) x =
      let y = place_ram (length ram) (length rom) (target_of f s i) (bytes_of f.size) (x.1 c) in
      let z : ◌≡◌ {A = ℕ} 0 1 = cc in omega arith
  refused_not_fine i _ (rom_target c h o k) x =
      let y = place_ram (length ram) (length rom) (target_of f s i) (bytes_of f.size) (x.1 c) in
      let z : ◌≡◌ {A = ℕ} 0 1 = cc in omega arith

  -- an equal element is there
  equal_there : (i : ℕ) → EqualAt f s ram rom i → Present (element_place f s ram rom i)
  equal_there i q x h = missing_load f s ram rom (element_of f s i) f.size (accumulator s f.size) x h q.1

  equal_not_refused : (i : ℕ) (w : Why) → EqualAt f s ram rom i → RefusedAt f s ram rom i w → ⊥
  equal_not_refused i _ q (no_element x h) = equal_there i q x h
  equal_not_refused i _ q (no_target c h x k) = let b = q.0 in let z : ◌≡◌ {A = ℕ} 0 1 = cc in omega arith
  equal_not_refused i _ q (rom_target c h o k) = let b = q.0 in let z : ◌≡◌ {A = ℕ} 0 1 = cc in omega arith

  -- an operand has one missing byte
  one_byte : {p : Place} {x y : ℕ} → p ≡ Missing x → p ≡ Missing y → why.Missing x ≡ why.Missing y
  one_byte {p} {x} {y} h g = let e : x ≡ y = cc in ap why.Missing e

  same_why : (i : ℕ) (w v : Why) → RefusedAt f s ram rom i w → RefusedAt f s ram rom i v → w ≡ v
  same_why i _ _ (no_element x h) (no_element y g) = one_byte h g
  same_why i _ _ (no_element x h) (no_target c g y k) = absurd (g x h)
  same_why i _ _ (no_element x h) (rom_target c g o k) = absurd (g x h)
  same_why i _ _ (no_target c h x k) (no_element y g) = absurd (h y g)
  same_why i _ _ (no_target c h x k) (no_target d g y l) = one_byte k l
  same_why i _ _ (no_target c h x k) (rom_target d g o l) = let z : ◌≡◌ {A = ℕ} 0 1 = cc in absurd (omega arith)
  same_why i _ _ (rom_target c h o k) (no_element x g) = absurd (h x g)
  same_why i _ _ (rom_target c h o k) (no_target d g x l) = let z : ◌≡◌ {A = ℕ} 0 1 = cc in absurd (omega arith)
  same_why i _ _ (rom_target c h o k) (rom_target d g p l) = refl

  -- the first round that does not go on
  abbrev first : Ending → ℕ
  first at_count = count_of s
  first (at_equal i) = i
  first (at_refusal n w) = n

  first_passes : (e : Ending) → Told f s ram rom e → Passes f s ram rom (first e)
  first_passes at_count x = x
  first_passes (at_equal i) x = x.1
  first_passes (at_refusal n w) x = x.1

  first_within : (e : Ending) → Told f s ram rom e → first e ≤ count_of s
  first_within at_count x = omega arith
  first_within (at_equal i) x = let l = x.0 in omega arith
  first_within (at_refusal n w) x = let l = x.0 in omega arith

  first_not_fine : (e : Ending) → Told f s ram rom e → first e < count_of s → Fine (first e) → ⊥
  first_not_fine at_count x l y = omega arith
  first_not_fine (at_equal i) x l y = y.2 x.2
  first_not_fine (at_refusal n w) x l y = refused_not_fine n w x.2 y

  not_sooner : (d e : Ending) → Told f s ram rom d → Told f s ram rom e → first d < first e → ⊥
  not_sooner d e x y l =
      let m = first_within e y in
      first_not_fine d x (omega (arith, l, m)) (first_passes e y (first d) l)

  same_first : (d e : Ending) → Told f s ram rom d → Told f s ram rom e → first d ≡ first e
  same_first d e x y = go (ltb (first d) (first e)) refl (ltb (first e) (first d)) refl
    where
      go : (a : Bool) → ltb (first d) (first e) ≡ a → (b : Bool) → ltb (first e) (first d) ≡ b → first d ≡ first e
      go true h b k = absurd (not_sooner d e x y (ltb-true (first d) (first e) h))
      go false h true k = absurd (not_sooner e d y x (ltb-true (first e) (first d) k))
      go false h false k =
          let l = ltb-false (first d) (first e) h in
          let m = ltb-false (first e) (first d) k in
          omega (arith, l, m)

  same_ending : (d e : Ending) → Told f s ram rom d → Told f s ram rom e → first d ≡ first e → d ≡ e
  same_ending at_count at_count x y h = refl
  same_ending at_count (at_equal j) x y h = let l = y.0 in absurd (omega arith)
  same_ending at_count (at_refusal m v) x y h = let l = y.0 in absurd (omega arith)
  same_ending (at_equal i) at_count x y h = let l = x.0 in absurd (omega arith)
  same_ending (at_equal i) (at_equal j) x y h = ap at_equal h
  same_ending (at_equal i) (at_refusal m v) x y h =
      absurd (equal_not_refused m v (subst (λ (j : ℕ). EqualAt f s ram rom j) h x.2) y.2)
  same_ending (at_refusal n w) at_count x y h = let l = x.0 in absurd (omega arith)
  same_ending (at_refusal n w) (at_equal j) x y h =
      absurd (equal_not_refused n w (subst (λ (k : ℕ). EqualAt f s ram rom k) (sym h) y.2) x.2)
  same_ending (at_refusal n w) (at_refusal m v) x y h =
      ap (λ (k : ℕ). at_refusal k w) h
      ∙ ap (at_refusal m) (same_why m w v (subst (λ (k : ℕ). RefusedAt f s ram rom k w) h x.2) y.2)

  same_told : (d e : Ending) → Told f s ram rom d → Told f s ram rom e → d ≡ e
  same_told d e x y = same_ending d e x y (same_first d e x y)

  -- a compare's equal element is there, as those before it are
  pub equal_clear : (i : ℕ) → Told f s ram rom (at_equal i) → Clear (suc i) f s ram rom
  equal_clear i x =
      compare_clear (suc i) f s ram rom x.2.0
      (one_longer (λ j. Present (element_place f s ram rom j)) i (λ j h. (x.1 j h).0) (equal_there i x.2))

-- ---- the run comes to what is told
module _ (f : Form) (s : State) (ram rom : List ℕ) (a : At f s ram rom) where
  comes : (e : Ending) → Told f s ram rom e → Spares f s (rounds_done e s) → ComesTo f s ram rom (RunLeaves s ram rom) e
  comes at_count x spared = to_the_end f s ram rom a (clear x spared) (λ i h. (x i h).2)
  comes (at_equal i) x spared =
      let n : suc i ≡ i + 1 = omega arith in
      let l = x.0 in
      subst (EndsAfter f s ram rom (RunLeaves s ram rom)) n
      (ended_run i f s ram rom a (omega arith) (equal_clear f s ram rom i x) (λ i h. (x.1 i h).2) (inr x.2))
  comes (at_refusal n w) x spared = (
    goes_on_after n f s ram rom a x.0 (clear x.1 spared) (λ i h. (x.1 i h).2),
    stops_after n f s ram rom a x.0 (clear x.1 spared) (λ i h. (x.1 i h).2) w x.2,
  )

  -- the rounds that are done, but the last, end nothing
  done_first : (e : Ending) (k : ℕ) → Told f s ram rom e → k < rounds_done e s → k ≤ first f s ram rom e
  done_first at_count k x l = omega arith
  done_first (at_equal i) k x l = omega arith
  done_first (at_refusal n w) k x l = omega arith

  done_within : (e : Ending) (k : ℕ) → Told f s ram rom e → k < rounds_done e s → k < count_of s
  done_within at_count k x l = l
  done_within (at_equal i) k x l = let m = x.0 in omega arith
  done_within (at_refusal n w) k x l = let m = x.0 in omega arith

  before : (e : Ending) → Told f s ram rom e → Spares f s (rounds_done e s) → (k : ℕ) → k < rounds_done e s → GoesOnAfter f s ram rom (RunLeaves s ram rom) k
  before e x spared k l =
      let m = done_first e k x l in
      let p = first_passes f s ram rom e x in
      let q : Passes f s ram rom k = λ i h. p i (omega (arith, h, m)) in
      goes_on_after k f s ram rom a (done_within e k x l) (clear q (λ c i h. spared c i (omega (arith, h, l)))) (λ i h. (q i h).2)

  pub ends_as_told : (e : Ending) → Told f s ram rom e → Spares f s (rounds_done e s) → EndsAsTold f s ram rom (RunLeaves s ram rom) e
  ends_as_told e x spared = (comes e x spared, before e x spared)

module _ (f : Form) (s : State) (ram rom : List ℕ) where
  pub every_start : EveryStart f s ram rom
  every_start =
      let x = some_told f s ram rom in
      let e = x.0 in
      (e, x.1, (λ d y. same_told f s ram rom d e y x.1), λ a spared. ends_as_told f s ram rom a e x.1 spared)

  pub not_before : NotBefore f s ram rom
  not_before n a lt p spared = goes_on_after n f s ram rom a lt (clear p spared) (λ i h. (p i h).2)
