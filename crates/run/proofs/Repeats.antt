-- A repeating form runs as its rounds: one induction for all forms.
use Prim.Native.Nat.{ℕ, zero, suc, ◌+◌, ◌%◌, ◌^◌, ◌<◌, ◌≤◌}
use mathlib.Core.Path.{◌≡◌, refl, ap, sym, ◌∙◌, subst}
use mathlib.Core.Logic.{◌⊎◌, inl, inr, ⊎_elim}
use mathlib.Core.List.{List}
use mathlib.Core.Bool.{Bool, true, false, cond, not, ◌&&◌}
use native.Mathlib.Omega.{arith}
use native.Mathlib.Nat.{zero-add, add-zero}
use lib.Dec.{eqb}
use lib.ListN.{length}
use borrow.Author.Tests.{eq-eqb, ne_eqb}
use Rattle.answer.specs.declared.Why.{Why}
use Rattle.answer.specs.declared.Why.TheVariants as why
use Rattle.little.specs.{declared.Size.TheVariants.Long, Width.bytes_of}
use Rattle.memory.specs.{Place.place_of, Place.Present, Access.load_of, declared.Place.TheVariants.Rom, declared.Place.TheVariants.Missing}
use Rattle.state.specs.{declared.State.State, Register.get_register}
use Rattle.state.proofs.Laws.{register_lt}
use Rattle.code.specs.declared.Form.{Form}
use Rattle.operand.specs.{Try.Try, Try.did, Try.no, Operand.pointer_of, Flag.flags_in}
use Rattle.block.specs.Block.{count_in, accumulator, round_of, equal_in}
use Rattle.exec.specs.Exec.{past_of}
use Rattle.turn.specs.{Once.once_of, Many.ends, Many.many_of}
use Rattle.turn.proofs.ManySteps.{many_did, many_no}
use Rattle.block.proofs.Rounds.{round_compares, round_missing}
use Rattle.run.specs.Run.{run_of}
use Rattle.run.specs.Demand.{At, Spares, EqualAt, RefusedAt, no_element, no_target, rom_target, Passes, count_of, rounds_of, passed, element_of, target_of, element_place, target_place}
use Rattle.run.proofs.Bytes.{loaded_fits}
use Rattle.run.proofs.Laws.{run_goes}
use Rattle.run.proofs.Registers.{once, once_lt}
use Rattle.run.proofs.Rounds.{Rounded, Left, left_length, left_compare, round_leaves, ready_did, round_no_element, round_no_target, refused_not, same_did, compared_equal, copy_unequal}
use Rattle.run.proofs.Counts.{count_round, count_bc, goes_on_lem, goes_not, rounds_none, rounds_did, rounds_no, passed_more, passed_none}
use Rattle.run.proofs.Steps.{at_pointers, at_valid, within, step_did, step_no, at_next}
use Rattle.std.proofs.Common.{Ok, Err}
use Rattle.memory.specs.Access.{Loaded}

-- what is supposed of the first n rounds: every element is there, every byte that a copy writes is RAM and none of the instruction's own two
pub record Clear (n : ℕ) (f : Form) (s : State) (ram rom : List ℕ) : Type 0 where
  pub there : (i : ℕ) → i < n → Present (element_place f s ram rom i)
  pub writable : f.copies ≡ true → (i : ℕ) → i < n → target_of f s i + bytes_of f.size ≤ length ram
  pub spared : Spares f s n

-- and none is equal
abbrev pub NoneEqual : ℕ → Form → State → List ℕ → List ℕ → Type 0
NoneEqual n f s ram rom = (i : ℕ) → i < n → EqualAt f s ram rom i → ⊥

pub clear : {n : ℕ} {f : Form} {s : State} {ram rom : List ℕ} → Passes f s ram rom n → Spares f s n → Clear n f s ram rom
clear p spared = record { there = λ i h. (p i h).0; writable = λ c i h. (p i h).1 c; spared = spared }

-- ---- the address of element i after one round is that of element i + 1 before it
module _ (f : Form) (s t : State) (r : Rounded f s t) where
  element_next : (i : ℕ) → element_of f t i ≡ element_of f s (suc i)
  element_next i = ap (λ (x : ℕ). x % 2 ^ 24) (ap (λ (x : ℕ). passed f x i) r.from ∙ passed_more f (get_register s Long f.from) i)

  target_next : f.copies ≡ true → (i : ℕ) → target_of f t i ≡ target_of f s (suc i)
  target_next c i = ap (λ (x : ℕ). x % 2 ^ 24) (ap (λ (x : ℕ). passed f x i) (r.to c) ∙ passed_more f (get_register s Long f.to) i)

-- and of the first is where the pointer is
element_first : (f : Form) (s : State) → element_of f s 0 ≡ pointer_of s f.from
element_first f s = ap (λ (x : ℕ). x % 2 ^ 24) (passed_none f (get_register s Long f.from) (register_lt s Long f.from))

target_first : (f : Form) (s : State) → target_of f s 0 ≡ pointer_of s f.to
target_first f s = ap (λ (x : ℕ). x % 2 ^ 24) (passed_none f (get_register s Long f.to) (register_lt s Long f.to))

-- ---- what is supposed of n + 1 rounds is supposed of n after the first
module _ (f : Form) (s : State) (ram rom : List ℕ) (t : State) (m : List ℕ) (r : Rounded f s t) (l : Left f s ram rom m) where
  clear_next : (n : ℕ) → Clear (suc n) f s ram rom → Clear n f t m rom
  clear_next n c =
      record {
        there = λ i h y e. c.there (suc i) (omega arith) y
            (ap (λ (x : ℕ). place_of (length ram) (length rom) x (bytes_of f.size)) (sym (element_next f s t r i))
            ∙ ap (λ (x : ℕ). place_of x (length rom) (element_of f t i) (bytes_of f.size)) (sym (left_length l)) ∙ e);
        writable = λ k i h.
            let e = target_next f s t r k i in
            let n = left_length l in
            let w = c.writable k (suc i) (omega arith) in
            omega (arith, e, n, w);
        spared = λ k i h.
            let e = target_next f s t r k i in
            let p = r.counter in
            ⊎_elim (λ (x : target_of f s (suc i) + bytes_of f.size ≤ s.counter). inl (omega (arith, e, p, x)))
            (λ (x : s.counter + 2 ≤ target_of f s (suc i)). inr (omega (arith, e, p, x))) (c.spared k (suc i) (omega arith));
      }

  none_next : (n : ℕ) → NoneEqual (suc n) f s ram rom → NoneEqual n f t m rom
  none_next n none i h q =
      none (suc i) (omega arith) (
        q.0,
        ap (λ (x : ℕ). load_of ram rom x f.size) (sym (element_next f s t r i))
            ∙ ap (λ (x : List ℕ). load_of x rom (element_of f t i) f.size) (sym (left_compare q.0 l))
            ∙ q.1
            ∙ ap Ok r.acc,
      )

-- ---- whether the first round is equal
module _ (f : Form) (s : State) (ram rom : List ℕ) (a : At f s ram rom) (t : State) (m : List ℕ) (e : round_of f s ram rom ≡ did t m) where
  equal_is : (x : ℕ) → f.copies ≡ false → load_of ram rom (pointer_of s f.from) f.size ≡ Ok x → equal_in f t ≡ eqb (accumulator s f.size) x
  equal_is x c h =
      let q = same_did (sym (round_compares f s ram rom x h c) ∙ e) in
      ap (equal_in f) (sym q.0)
      ∙ compared_equal f x s c (loaded_fits ram rom (pointer_of s f.from) f.size x a.ram_bytes a.rom_bytes h)

  unequal : (EqualAt f s ram rom 0 → ⊥) → equal_in f t ≡ false
  unequal none = go f.copies refl (load_of ram rom (pointer_of s f.from) f.size) refl
    where
      go : (b : Bool) → f.copies ≡ b → (l : Loaded) → load_of ram rom (pointer_of s f.from) f.size ≡ l → equal_in f t ≡ false
      go true c l h = copy_unequal f t c
      go false c (Err y) h = refused_not (sym (round_missing f s ram rom y h) ∙ e)
      go false c (Ok x) h =
          equal_is x c h
          ∙ ne_eqb (accumulator s f.size) x
          (λ (k : accumulator s f.size ≡ x).
          none (c, ap (λ (y : ℕ). load_of ram rom y f.size) (element_first f s) ∙ h ∙ ap Ok (sym k)))

  equal : EqualAt f s ram rom 0 → equal_in f t ≡ true
  equal q =
      equal_is (accumulator s f.size) q.0 (ap (λ (y : ℕ). load_of ram rom y f.size) (sym (element_first f s)) ∙ q.1)
      ∙ eq-eqb (accumulator s f.size) (accumulator s f.size) refl

-- ---- after n rounds, with more to come: a run goes on from there, and this is where its registers are
pub record Goes (n k d : ℕ) (f : Form) (s : State) (ram rom : List ℕ) (t : State) (m : List ℕ) : Type 0 where
  pub rounds : rounds_of n f s ram rom ≡ did t m
  pub goes : many_of (n + k) d s ram rom ≡ many_of k (d + n) t m rom
  pub there : At f t m rom
  pub counter : t.counter ≡ s.counter
  pub left : count_of t + n ≡ count_of s
  pub from : get_register t Long f.from ≡ passed f (get_register s Long f.from) n
  pub to : f.copies ≡ true → get_register t Long f.to ≡ passed f (get_register s Long f.to) n
  pub acc : accumulator t f.size ≡ accumulator s f.size
  pub same : f.copies ≡ false → m ≡ ram
  pub size : length m ≡ length ram

abbrev Went : ℕ → ℕ → ℕ → Form → State → List ℕ → List ℕ → Type 0
Went n k d f s ram rom = (t : State) × (m : List ℕ) × Goes n k d f s ram rom t m

-- the first round of a form that is clear
module _ (f : Form) (s : State) (ram rom : List ℕ) (a : At f s ram rom) where
  first_did : Clear 1 f s ram rom → (t : State) × (m : List ℕ) × (round_of f s ram rom ≡ did t m)
  first_did c =
      ready_did f s ram rom
      (λ y e. c.there 0 (omega arith) y (ap (λ (x : ℕ). place_of (length ram) (length rom) x (bytes_of f.size)) (element_first f s) ∙ e))
      (λ k. let w = c.writable k 0 (omega arith) in let e = target_first f s in omega (arith, w, e))

  first_leaves : (t : State) (m : List ℕ) → round_of f s ram rom ≡ did t m → Rounded f s t × Left f s ram rom m
  first_leaves t m e = round_leaves f (at_pointers f s ram rom a) s a.sound (at_valid f s ram rom a) ram rom t m e

  first_next : (t : State) (m : List ℕ) → Clear 1 f s ram rom → Rounded f s t → Left f s ram rom m → At f t m rom
  first_next t m c r l =
      at_next f s ram rom a t m r l
      (λ k. let e = target_first f s in
      ⊎_elim (λ (x : target_of f s 0 + bytes_of f.size ≤ s.counter). inl (omega (arith, e, x)))
      (λ (x : s.counter + 2 ≤ target_of f s 0). inr (omega (arith, e, x))) (c.spared k 0 (omega arith)))

clear_less : (i n : ℕ) (f : Form) (s : State) (ram rom : List ℕ) → i ≤ n → Clear n f s ram rom → Clear i f s ram rom
clear_less i n f s ram rom h c =
    record {
      there = λ j k. c.there j (omega arith);
      writable = λ e j k. c.writable e j (omega arith);
      spared = λ e j k. c.spared e j (omega arith);
    }

-- no round: everything is where it was
none_yet : (k d : ℕ) (f : Form) (s : State) (ram rom : List ℕ) → At f s ram rom → Goes 0 k d f s ram rom s ram
none_yet k d f s ram rom a =
    record {
      rounds = rounds_none f s ram rom;
      goes = ap (λ (x : ℕ). many_of x d s ram rom) (zero-add k) ∙ ap (λ (x : ℕ). many_of k x s ram rom) (sym (add-zero d));
      there = a;
      counter = refl;
      left = add-zero (count_of s);
      from = sym (passed_none f (get_register s Long f.from) (register_lt s Long f.from));
      to = λ c. sym (passed_none f (get_register s Long f.to) (register_lt s Long f.to));
      acc = refl;
      same = λ c. refl;
      size = refl;
    }

-- one round more, before the others
one_more :
    (j k d : ℕ) (f : Form) (s : State) (ram rom : List ℕ) (u : State) (v : List ℕ) (t : State) (m : List ℕ) →
    round_of f s ram rom ≡ did u v → once_of s ram rom ≡ did u v → Rounded f s u → Left f s ram rom v → count_of u + 1 ≡ count_of s →
    Goes j k (d + 1) f u v rom t m → Goes (suc j) k d f s ram rom t m
one_more j k d f s ram rom u v t m h step r l c g =
    let n1 : suc j + k ≡ suc (j + k) = omega arith in
    let n2 : d + suc j ≡ d + 1 + j = omega arith in
    record {
      rounds = rounds_did j f s ram rom u v h ∙ g.rounds;
      goes =
          ap (λ (x : ℕ). many_of x d s ram rom) n1
          ∙ many_did (j + k) d s ram rom u v step
          ∙ g.goes
          ∙ ap (λ (x : ℕ). many_of k x t m rom) (sym n2);
      there = g.there;
      counter = g.counter ∙ r.counter;
      left = let x : count_of t + j ≡ count_of u = g.left in omega (arith, x, c);
      from = g.from ∙ ap (λ (x : ℕ). passed f x j) r.from ∙ passed_more f (get_register s Long f.from) j;
      to = λ e. g.to e ∙ ap (λ (x : ℕ). passed f x j) (r.to e) ∙ passed_more f (get_register s Long f.to) j;
      acc = g.acc ∙ r.acc;
      same = λ e. g.same e ∙ left_compare e l;
      size = g.size ∙ left_length l;
    }

-- the first n rounds, one a step
pub repeat_on :
    (n k d : ℕ) (f : Form) (s : State) (ram rom : List ℕ) → At f s ram rom → n < count_of s →
    Clear n f s ram rom → NoneEqual n f s ram rom → Went n k d f s ram rom
repeat_on zero k d f s ram rom a lt c none = (s, ram, none_yet k d f s ram rom a)
repeat_on (suc j) k d f s ram rom a lt c none =
    let c1 = clear_less 1 (suc j) f s ram rom (omega arith) c in
    let x = first_did f s ram rom a c1 in
    let u = x.0 in
    let v = x.1 in
    let y = first_leaves f s ram rom a u v x.2 in
    let r = y.0 in
    let l = y.1 in
    let bc : count_in u + 1 ≡ count_of s = count_round s u r.bc in
    let cu : count_of u ≡ count_in u = count_bc u (omega arith) in
    let on = goes_on_lem f u a.repeats (omega arith) (unequal f s ram rom a u v x.2 (none 0 (omega arith))) in
    let step : once_of s ram rom ≡ did u v =
    step_did f s ram rom a u v x.2 r.counter ∙ ap (λ (b : Bool). did (cond b u (past_of 2 u)) v) on in
    let g =
    repeat_on j k (d + 1) f u v rom (first_next f s ram rom a u v c1 r l) (omega arith)
    (clear_next f s ram rom u v r l j c) (none_next f s ram rom u v r l j none) in
    (g.0, g.1, one_more j k d f s ram rom u v g.0 g.1 x.2 step r l (omega (arith, bc, cu)) g.2)

-- ---- rounds and one more, after them
rounds_then :
    (j : ℕ) (f : Form) (s : State) (ram rom : List ℕ) (u : State) (v : List ℕ) (t : State) (m : List ℕ) →
    rounds_of j f s ram rom ≡ did u v → round_of f u v rom ≡ did t m → rounds_of (suc j) f s ram rom ≡ did t m
rounds_then zero f s ram rom u v t m e h =
    let q = same_did (sym (rounds_none f s ram rom) ∙ e) in
    let k : round_of f s ram rom ≡ did t m = rw (q.0, q.1) h in
    rounds_did 0 f s ram rom t m k ∙ rounds_none f t m rom
rounds_then (suc j) f s ram rom u v t m e h = go (λ x y. rounds_then j f x y rom u v t m) (round_of f s ram rom) refl
  where
    go : ((x : State) (y : List ℕ) → rounds_of j f x y rom ≡ did u v → round_of f u v rom ≡ did t m → rounds_of (suc j) f x y rom ≡ did t m)
        → (r : Try) → round_of f s ram rom ≡ r → rounds_of (suc (suc j)) f s ram rom ≡ did t m
    go ih (no w) k = refused_not (sym (rounds_no j f s ram rom w k) ∙ e)
    go ih (did x y) k = rounds_did (suc j) f s ram rom x y k ∙ ih x y (sym (rounds_did j f s ram rom x y k) ∙ e) h

-- ---- the round after n of them, in terms of where it began
module _ (n k d : ℕ) (f : Form) (s : State) (ram rom : List ℕ) (t : State) (m : List ℕ) (g : Goes n k d f s ram rom t m) where
  element_at : element_of f t 0 ≡ element_of f s n
  element_at =
      ap (λ (x : ℕ). x % 2 ^ 24)
      (passed_none f (get_register t Long f.from) (register_lt t Long f.from) ∙ g.from)

  target_at : f.copies ≡ true → target_of f t 0 ≡ target_of f s n
  target_at c =
      ap (λ (x : ℕ). x % 2 ^ 24)
      (passed_none f (get_register t Long f.to) (register_lt t Long f.to) ∙ g.to c)

  zero_only : {i : ℕ} → i < 1 → i ≡ 0
  zero_only h = omega arith

  clear_at : Clear (suc n) f s ram rom → Clear 1 f t m rom
  clear_at c =
      record {
        there = λ i h y e. c.there n (omega arith) y
            (ap (λ (x : ℕ). place_of (length ram) (length rom) x (bytes_of f.size))
            (sym element_at ∙ ap (λ (y : ℕ). element_of f t y) (sym (zero_only h)))
            ∙ ap (λ (x : ℕ). place_of x (length rom) (element_of f t i) (bytes_of f.size)) (sym g.size) ∙ e);
        writable = λ e i h.
            let w = c.writable e n (omega arith) in
            let x = target_at e in
            let z : target_of f t i ≡ target_of f t 0 = ap (λ (y : ℕ). target_of f t y) (zero_only h) in
            let l = g.size in
            omega (arith, w, x, z, l);
        spared = λ e i h.
            let x = target_at e in
            let z : target_of f t i ≡ target_of f t 0 = ap (λ (y : ℕ). target_of f t y) (zero_only h) in
            let p = g.counter in
            ⊎_elim (λ (y : target_of f s n + bytes_of f.size ≤ s.counter). inl (omega (arith, x, z, p, y)))
            (λ (y : s.counter + 2 ≤ target_of f s n). inr (omega (arith, x, z, p, y))) (c.spared e n (omega arith));
      }

  equal_at : EqualAt f s ram rom n → EqualAt f t m rom 0
  equal_at q = (
    q.0,
    ap (λ (x : ℕ). load_of m rom x f.size) element_at
        ∙ ap (λ (x : List ℕ). load_of x rom (element_of f s n) f.size) (g.same q.0)
        ∙ q.1
        ∙ ap Ok (sym g.acc),
  )

  equal_back : EqualAt f t m rom 0 → EqualAt f s ram rom n
  equal_back q = (
    q.0,
    ap (λ (x : ℕ). load_of ram rom x f.size) (sym element_at)
        ∙ ap (λ (x : List ℕ). load_of x rom (element_of f t 0) f.size) (sym (g.same q.0))
        ∙ q.1
        ∙ ap Ok g.acc,
  )

  -- it is refused where the start tells so
  element_there : place_of (length m) (length rom) (pointer_of t f.from) (bytes_of f.size) ≡ element_place f s ram rom n
  element_there =
      ap (λ (x : ℕ). place_of x (length rom) (pointer_of t f.from) (bytes_of f.size)) g.size
      ∙ ap (λ (x : ℕ). place_of (length ram) (length rom) x (bytes_of f.size)) (sym (element_first f t) ∙ element_at)

  target_there : f.copies ≡ true → place_of (length m) (length rom) (pointer_of t f.to) (bytes_of f.size) ≡ target_place f s ram rom n
  target_there c =
      ap (λ (x : ℕ). place_of x (length rom) (pointer_of t f.to) (bytes_of f.size)) g.size
      ∙ ap (λ (x : ℕ). place_of (length ram) (length rom) x (bytes_of f.size)) (sym (target_first f t) ∙ target_at c)

  pub refused_at : (w : Why) → RefusedAt f s ram rom n w → round_of f t m rom ≡ no w
  refused_at _ (no_element x h) = round_no_element f t m rom x (element_there ∙ h)
  refused_at _ (no_target c h x k) = round_no_target f t m rom (Missing x) _ c (λ y e. h y (sym element_there ∙ e)) (target_there c ∙ k) refl
  refused_at _ (rom_target c h o k) = round_no_target f t m rom (Rom o) _ c (λ y e. h y (sym element_there ∙ e)) (target_there c ∙ k) (ap (λ (x : ℕ). Err (why.ToRom x)) (sym (target_first f t) ∙ target_at c))

-- a pointer that passed j elements and then one more
once_passed : (f : Form) (j x : ℕ) → x < 2 ^ 32 → once f (passed f x j) ≡ passed f x (suc j)
once_passed f zero x h =
    ap (once f) (passed_none f x h) ∙ sym (passed_none f (once f x) (once_lt f x)) ∙ passed_more f x 0
once_passed f (suc j) x h =
    ap (once f) (sym (passed_more f x j)) ∙ once_passed f j (once f x) (once_lt f x) ∙ passed_more f x (suc j)

after_one : (f : Form) (x y j : ℕ) → y ≡ passed f x j → x < 2 ^ 32 → once f y ≡ passed f x (suc j)
after_one f x y j e h = ap (once f) e ∙ once_passed f j x h

-- ---- it ends: as many rounds as BC says, or the last is the first equal one
pub record Ended (j k : ℕ) (f : Form) (s : State) (ram rom : List ℕ) (t : State) (m : List ℕ) : Type 0 where
  pub rounds : rounds_of (suc j) f s ram rom ≡ did t m
  pub goes : many_of (suc j + k) 0 s ram rom ≡ many_of k (suc j) (past_of 2 t) m rom
  pub counter : t.counter ≡ s.counter
  pub from : get_register t Long f.from ≡ passed f (get_register s Long f.from) (suc j)
  pub to : f.copies ≡ true → get_register t Long f.to ≡ passed f (get_register s Long f.to) (suc j)
  pub bc : count_in t + suc j ≡ count_of s
  pub same : f.copies ≡ false → m ≡ ram
  pub equal : EqualAt f s ram rom j → (flags_in t).z ≡ true
  pub unequal : f.copies ≡ false → (EqualAt f s ram rom j → ⊥) → (flags_in t).z ≡ false

-- the round of a compare is equal where Z is set
zero_set : (f : Form) (t : State) → f.copies ≡ false → equal_in f t ≡ (flags_in t).z
zero_set f t c = ap (λ (b : Bool). not b && (flags_in t).z) c

pub repeat_ends :
    (j k : ℕ) (f : Form) (s : State) (ram rom : List ℕ) → At f s ram rom → suc j ≤ count_of s →
    Clear (suc j) f s ram rom → NoneEqual j f s ram rom → (suc j ≡ count_of s) ⊎ EqualAt f s ram rom j →
    (t : State) × (m : List ℕ) × Ended j k f s ram rom t m
repeat_ends j k f s ram rom a le c none last =
    let w = repeat_on j (suc k) 0 f s ram rom a (omega arith) (clear_less j (suc j) f s ram rom (omega arith) c) none in
    let u = w.0 in
    let v = w.1 in
    let g = w.2 in
    let c1 = clear_at j (suc k) 0 f s ram rom u v g c in
    let x = first_did f u v rom g.there c1 in
    let t = x.0 in
    let m = x.1 in
    let y = first_leaves f u v rom g.there t m x.2 in
    let r = y.0 in
    let bc : count_in t + 1 ≡ count_of u = count_round u t r.bc in
    let left = g.left in
    let stop : (count_in t ≡ 0) ⊎ (equal_in f t ≡ true) =
    ⊎_elim (λ (h : suc j ≡ count_of s). inl (omega (arith, bc, left, h)))
    (λ (q : EqualAt f s ram rom j). inr (equal f u v rom g.there t m x.2 (equal_at j (suc k) 0 f s ram rom u v g q))) last in
    let step : once_of u v rom ≡ did (past_of 2 t) m =
    step_did f u v rom g.there t m x.2 r.counter ∙ ap (λ (b : Bool). did (cond b t (past_of 2 t)) m) (goes_not f t stop) in
    let n1 : suc j + k ≡ j + suc k = omega arith in
    let n2 : 0 + j + 1 ≡ suc j = omega arith in (
      t,
      m,
      record {
        rounds = rounds_then j f s ram rom u v t m g.rounds x.2;
        goes =
            ap (λ (z : ℕ). many_of z 0 s ram rom) n1
            ∙ g.goes
            ∙ many_did k (0 + j) u v rom (past_of 2 t) m step
            ∙ ap (λ (z : ℕ). many_of k z (past_of 2 t) m rom) n2;
        counter = r.counter ∙ g.counter;
        from = r.from ∙ after_one f (get_register s Long f.from) (get_register u Long f.from) j g.from (register_lt s Long f.from);
        to = λ e. r.to e ∙ after_one f (get_register s Long f.to) (get_register u Long f.to) j (g.to e) (register_lt s Long f.to);
        bc = omega (arith, bc, left);
        same = λ e. left_compare e y.1 ∙ g.same e;
        equal = λ q. sym (zero_set f t q.0) ∙ equal f u v rom g.there t m x.2 (equal_at j (suc k) 0 f s ram rom u v g q);
        unequal = λ e q.
            sym (zero_set f t e)
            ∙ unequal f u v rom g.there t m x.2 (λ z. q (equal_back j (suc k) 0 f s ram rom u v g z));
      },
    )

-- ---- a round that is refused
pub repeat_refused :
    (n k : ℕ) (f : Form) (s : State) (ram rom : List ℕ) (t : State) (m : List ℕ) (w : Why) → At f s ram rom → n < count_of s →
    Clear n f s ram rom → NoneEqual n f s ram rom → rounds_of n f s ram rom ≡ did t m → round_of f t m rom ≡ no w →
    many_of (n + suc k) 0 s ram rom ≡ ends n t m (Err w)
repeat_refused n k f s ram rom t m w a lt c none e r =
    let x = repeat_on n (suc k) 0 f s ram rom a lt c none in
    let q = same_did (sym x.2.rounds ∙ e) in
    let g : Goes n (suc k) 0 f s ram rom t m = at_did x.0 x.1 x.2 q.0 q.1 in
    g.goes
    ∙ many_no k (0 + n) t m rom w (step_no f t m rom g.there w r)
    ∙ ap (λ (z : ℕ). ends z t m (Err w)) (zero-add n)
  where
    at_did : (u : State) (v : List ℕ) → Goes n (suc k) 0 f s ram rom u v → u ≡ t → v ≡ m → Goes n (suc k) 0 f s ram rom t m
    at_did u v g p q =
        subst (λ (l : List ℕ). Goes n (suc k) 0 f s ram rom t l) q (subst (λ (z : State). Goes n (suc k) 0 f s ram rom z v) p g)

-- a run's checks pass at a form
pub run_at : (n : ℕ) (f : Form) (s : State) (ram rom : List ℕ) → At f s ram rom → n ≤ 1000000 → run_of n s ram rom ≡ many_of n 0 s ram rom
run_at n f s ram rom a h = run_goes s ram rom n h (within f s ram rom a) a.valid
