-- What demand 3 supposes of a start, each from a test that computes.
use Prim.Native.Nat.{ℕ, zero, suc, ◌+◌, ◌^◌, ◌<◌, ◌≤◌}
use mathlib.Core.Path.{◌≡◌, refl, ap, sym, subst}
use mathlib.Core.Logic.{◌⊎◌, inl, inr, ⊎_elim}
use mathlib.Core.List.{List}
use mathlib.Core.Bool.{Bool, true, false, not, ◌&&◌, ◌||◌}
use native.Mathlib.Omega.{arith}
use lib.Dec.{T, T_not, leb, ltb, eqb, leb→le, ltb→lt, eqb_refl}
use lib.ListN.{length}
use Rattle.answer.specs.declared.Why.{Why}
use Rattle.little.specs.Width.{bytes_of}
use Rattle.memory.specs.Access.{load_of, code_at}
use Rattle.memory.specs.declared.Place.{Place}
use Rattle.memory.specs.declared.Place.TheVariants.{Ram, Rom, Missing}
use Rattle.state.specs.State.{valid_of}
use Rattle.state.specs.declared.State.{State}
use Rattle.state.proofs.Sound.{and_left, and_right, fits, fits_says, sound_test, sound_by}
use Rattle.code.specs.Listed.{decode_of}
use Rattle.code.specs.Memory.{form}
use Rattle.code.specs.declared.Form.{Form}
use Rattle.code.specs.declared.Base.TheVariants.{Indirect}
use Rattle.code.specs.declared.Op.TheVariants.{Blocks}
use Rattle.code.specs.declared.Instruction.{Instruction}
use Rattle.block.specs.Block.{accumulator}
use Rattle.run.specs.Demand.{At, Spares, EqualAt, RefusedAt, element_of, target_of, element_place, count_of, at_count, at_equal, at_refusal, Passes}
use Rattle.cases.specs.Table.{Machine}
use Rattle.cases.specs.Evidence.{StartMet, tells}
use Rattle.std.proofs.Common.{Ok, Err}
use Rattle.memory.specs.Access.{Loaded}

or_says : (a b : Bool) → T (a || b) → T a ⊎ T b
or_says true b t = inl tt
or_says false b t = inr t

either_le : (a b c d : ℕ) → T (leb a b || leb c d) → (a ≤ b) ⊎ (c ≤ d)
either_le a b c d t =
    ⊎_elim (λ (l : T (leb a b)). inl (leb→le a b l)) (λ (r : T (leb c d)). inr (leb→le c d r)) (or_says (leb a b) (leb c d) t)

-- ---- every number below n
unfoldable pub below : ℕ → (ℕ → Bool) → Bool
below zero p = true
below (suc n) p = p 0 && below n (λ i. p (suc i))

below_says : (n : ℕ) (p : ℕ → Bool) → T (below n p) → (i : ℕ) → i < n → T (p i)
unfolding below
below_says zero p t i h = absurd (omega arith)
below_says (suc n) p t zero h = and_left (p 0) (below n (λ i. p (suc i))) t
below_says (suc n) p t (suc i) h = below_says n (λ j. p (suc j)) (and_right (p 0) (below n (λ j. p (suc j))) t) i (omega arith)

-- ---- the elements and the targets of n rounds
unfoldable pub present : Place → Bool
present (Ram o) = true
present (Rom o) = true
present (Missing x) = false

unfoldable pub differs : Loaded → ℕ → Bool
differs (Ok v) a = not (eqb v a)
differs (Err x) a = true

missing_not : (x : ℕ) → T (present (Missing x)) → ⊥
unfolding present
missing_not x t = t

value_not : (a : ℕ) → T (differs (Ok a) a) → ⊥
unfolding differs
value_not a t = T_not (eqb a a) t (eqb_refl a)

-- what is asked of copies alone
unfoldable pub only : Bool → Bool → Bool
only c b = not c || b

only_says : (c b : Bool) → T (only c b) → c ≡ true → T b
unfolding only
only_says true b t e = t
only_says false b t e = let z : ◌≡◌ {A = ℕ} 0 1 = cc in absurd (omega arith)

module _ (f : Form) (s : State) where
  -- the target of a round spares the instruction's own two bytes
  abbrev pub spared_test : ℕ → Bool
  spared_test i = only f.copies (leb (target_of f s i + bytes_of f.size) s.counter || leb (s.counter + 2) (target_of f s i))

  pub spared : (n : ℕ) → T (below n spared_test) → Spares f s n
  spared n t c i h =
      either_le (target_of f s i + bytes_of f.size) s.counter (s.counter + 2) (target_of f s i)
      (only_says f.copies _ (below_says n spared_test t i h) c)

module _ (f : Form) (s : State) (ram rom : List ℕ) where
  -- nothing ends it in a round: the element is there, the target is RAM, and it is not equal
  abbrev there_test : ℕ → Bool
  there_test i = present (element_place f s ram rom i)

  abbrev writable_test : ℕ → Bool
  writable_test i = only f.copies (leb (target_of f s i + bytes_of f.size) (length ram))

  abbrev none_test : ℕ → Bool
  none_test i = only (not f.copies) (differs (load_of ram rom (element_of f s i) f.size) (accumulator s f.size))

  abbrev pub pass_test : ℕ → Bool
  pass_test i = there_test i && (writable_test i && none_test i)

  pub passes : (n : ℕ) → T (below n pass_test) → Passes f s ram rom n
  passes n t i h =
      let each = below_says n pass_test t i h in
      let both = and_right (there_test i) _ each in (
        (λ x e. missing_not x (subst (λ (p : Place). T (present p)) e (and_left (there_test i) _ each))),
        (λ c. leb→le _ _ (only_says f.copies _ (and_left (writable_test i) (none_test i) both) c)),
        λ q.
            value_not (accumulator s f.size)
            (subst (λ (l : Loaded). T (differs l (accumulator s f.size))) q.1
            (only_says (not f.copies) _ (and_right (writable_test i) (none_test i) both) (ap not q.0))),
      )

-- ---- the machine, and the instruction at its counter
abbrev pub block : Form → Instruction
block f = record { op = Blocks f; size = f.size; operand = form (Indirect f.from) 0; length = 2 }

abbrev pub memory_test : List ℕ → Bool
memory_test l = fits (2 ^ 8) l && leb (length l) (2 ^ 16)

module _ (f : Form) (s : State) (ram rom : List ℕ) where
  abbrev pub at_test : Bool
  at_test = sound_test s && (memory_test ram && memory_test rom)

  pub at_by : T at_test → valid_of s ≡ true → decode_of (code_at ram rom s.counter) ≡ Ok (block f) → f.again ≡ true → At f s ram rom
  at_by t valid here again =
      let both = and_right (sound_test s) (memory_test ram && memory_test rom) t in
      let m = and_left (memory_test ram) (memory_test rom) both in
      let n = and_right (memory_test ram) (memory_test rom) both in
      record {
        sound = sound_by s (and_left (sound_test s) (memory_test ram && memory_test rom) t);
        valid = valid;
        ram_bytes = fits_says (2 ^ 8) (omega arith) ram (and_left (fits (2 ^ 8) ram) (leb (length ram) (2 ^ 16)) m);
        rom_bytes = fits_says (2 ^ 8) (omega arith) rom (and_left (fits (2 ^ 8) rom) (leb (length rom) (2 ^ 16)) n);
        ram_fits = leb→le (length ram) (2 ^ 16) (and_right (fits (2 ^ 8) ram) (leb (length ram) (2 ^ 16)) m);
        rom_fits = leb→le (length rom) (2 ^ 16) (and_right (fits (2 ^ 8) rom) (leb (length rom) (2 ^ 16)) n);
        instruction = block f;
        here = here;
        form = refl;
        repeats = again;
      }

-- ---- a start that tells each ending
module _ (f : Form) (x : Machine) (rom : List ℕ) where
  abbrev s : State
  s = x.state

  abbrev ram : List ℕ
  ram = x.ram

  module _ (t : T (at_test f s ram rom)) (v : valid_of s ≡ true) (h : decode_of (code_at ram rom s.counter) ≡ Ok (block f)) (a : f.again ≡ true) where
    pub count_met :
        (n : ℕ) → count_of s ≡ n → T (below n (pass_test f s ram rom)) → T (below n (spared_test f s)) → StartMet (tells f x rom at_count n)
    count_met n e y z = (at_by f s ram rom t v h a, subst (λ (k : ℕ). Passes f s ram rom k) (sym e) (passes f s ram rom n y), e, spared f s n z)

    pub equal_met :
        (i : ℕ) → T (ltb i (count_of s)) → T (below i (pass_test f s ram rom)) → EqualAt f s ram rom i
        → StartMet (tells f x rom (at_equal i) (i + 1))
    equal_met i l y q = (
      at_by f s ram rom t v h a,
      (ltb→lt i (count_of s) l, passes f s ram rom i y, q),
      refl,
      λ c. let b = q.0 in let z : ◌≡◌ {A = ℕ} 0 1 = cc in absurd (omega arith),
    )

    pub refusal_met :
        (n : ℕ) {w : Why} → T (ltb n (count_of s)) → T (below n (pass_test f s ram rom)) → RefusedAt f s ram rom n w → T (below n (spared_test f s))
        → StartMet (tells f x rom (at_refusal n w) n)
    refusal_met n l y r z = (at_by f s ram rom t v h a, (ltb→lt n (count_of s) l, passes f s ram rom n y, r), refl, spared f s n z)
