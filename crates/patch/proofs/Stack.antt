-- PUSH R and then POP R (specs/Patches.antt), proved.
use Prim.Native.Nat.{ℕ, ◌+◌, ◌%◌, ◌^◌, ◌<◌, ◌≤◌}
use mathlib.Core.Path.{◌≡◌, refl, sym, ap, ◌∙◌}
use mathlib.Core.List.{List}
use mathlib.Core.Bool.{true}
use mathlib.Core.Logic.{⊎_elim}
use native.Mathlib.Omega.{arith}
use lib.ListN.{length}
use Rattle.little.specs.declared.Size.{Size}
use Rattle.little.specs.declared.Size.TheVariants.{Long}
use Rattle.little.specs.Width.{bytes_of}
use Rattle.memory.specs.Access.{store_to, ram_bytes}
use Rattle.memory.specs.declared.Place.{Place}
use Rattle.memory.proofs.Laws.{place_ram, bytes_le, bytes_length, bytes_below, bytes_above}
use Rattle.state.specs.declared.State.{State}
use Rattle.state.specs.State.{with_counter, with_long}
use Rattle.state.specs.Register.{set_slot, get_register, set_register}
use Rattle.state.specs.Named.{held_in, with_held}
use Rattle.state.specs.Sound.{Sound}
use Rattle.state.proofs.Laws.{register_lt, register_same}
use Rattle.state.proofs.Valid.{valid_says}
use Rattle.state.proofs.Naming.{plain_names}
use Rattle.code.specs.declared.Operand.TheVariants.{Register}
use Rattle.code.specs.declared.Op.TheVariants.{Stacks}
use Rattle.code.specs.declared.Stack.TheVariants.{Push, Pop}
use Rattle.code.specs.Rows.{no_byte}
use Rattle.code.specs.Written.{code_of}
use Rattle.code.proofs.Holds.{so_that}
use Rattle.operand.specs.Try.{did}
use Rattle.operand.specs.Operand.{stored_by}
use Rattle.operand.specs.Round.{less}
use Rattle.stack.specs.Stack.{with_stack, push_of, pop_of, stack_of}
use Rattle.exec.specs.Exec.{past_of, effect_of}
use Rattle.step.specs.Step.{try_of}
use Rattle.facts.specs.Statements.{Passed}
use Rattle.facts.proofs.Kept.{Whole, whole_kept}
use Rattle.run.proofs.Laws.{still_passes}
use Rattle.patch.specs.Piece.{CodeBegins}
use Rattle.patch.specs.Patches.{push_code, pop_code, RoomBelow, PopUndoesPush}
use Rattle.patch.proofs.Pieces.{same_counter, passes, try_code}
use Rattle.patch.proofs.Parts.{part, held_bank, held_counter, held_twice, held_same}
use Rattle.memory.proofs.Laws.{stored_loads}
use Rattle.operand.proofs.Laws.{up_again}
use Rattle.run.proofs.Bytes.{size_power}

-- ---- registers
module _ (s : State) (z : Size) (r : ℕ) (h : r < 8) (ok : Sound s) where
  held_is : get_register s z r ≡ held_in s.registers (part s z (Register r))
  held_is = (plain_names s.bank z r).0 s.registers

  -- a register may be written with what it holds, also after another value
  put_same : (c : ℕ) → set_register (with_counter s c) z r (get_register s z r) ≡ with_counter s c
  unfolding with_counter
  put_same c =
      let p = part s z (Register r) in
      (plain_names s.bank z r).1 (with_counter s c) (get_register s z r) refl
      ∙ held_counter s c p (get_register s z r)
      ∙ ap (λ (v : ℕ). with_counter (with_held s p v) c) held_is
      ∙ ap (λ (x : State). with_counter x c) (held_same s z (Register r) h ok)

  put_back : (c x : ℕ) → set_register (with_counter (set_register s z r x) c) z r (get_register s z r) ≡ with_counter s c
  unfolding with_counter
  put_back c x =
      let p = part s z (Register r) in
      let v = get_register s z r in
      ap (λ (y : State). set_register (with_counter y c) z r v) ((plain_names s.bank z r).1 s x refl)
      ∙ (plain_names s.bank z r).1 (with_counter (with_held s p x) c) v (held_bank s p x)
      ∙ held_counter (with_held s p x) c p v
      ∙ ap (λ (y : State). with_counter y c) (held_twice s z (Register r) h ok x v ∙ ap (with_held s p) held_is ∙ held_same s z (Register r) h ok)

-- ---- the push
-- where the stack's end goes, its address, and what is pushed; the state and RAM that are left
abbrev end : Size → State → ℕ
end z s = less 32 (get_register s Long 7) (bytes_of z)

abbrev place : Size → State → ℕ
place z s = end z s % 2 ^ 24

abbrev value : Size → ℕ → State → ℕ
value z r s = get_register s z r

abbrev left : Size → State → State
left z s = with_stack (past_of 1 s) (end z s)

abbrev after : Size → ℕ → State → List ℕ → List ℕ → List ℕ
after z r s ram rom = ram_bytes ram rom (place z s) (bytes_of z) (value z r s)

push_done : (z : Size) (r : ℕ) (s : State) (ram rom : List ℕ) → RoomBelow s (bytes_of z) ram → push_of (past_of 1 s) ram rom z (get_register (past_of 1 s) z r) ≡ did (left z s) (after z r s ram rom)
unfolding push_of past_of with_counter
push_done z r s ram rom room =
    ap (λ (p : Place). stored_by (store_to p (place z s)) (left z s) (after z r s ram rom)) (place_ram (length ram) (length rom) (place z s) (bytes_of z) room)

-- ---- the pop
past_set : (y : State) (x : ℕ) → past_of 1 (with_stack y x) ≡ with_counter (with_stack y x) (y.counter + 1)
unfolding past_of set_register set_slot with_long
past_set y x = refl

module _ (z : Size) (s : State) (w : Whole s) where
  past_whole : Whole (past_of 1 s)
  unfolding past_of
  past_whole = whole_kept.counters s (s.counter + 1) w

  end_is : get_register (past_of 1 (left z s)) Long 7 ≡ end z s
  unfolding past_of with_counter
  end_is = register_same (past_of 1 s) Long 7 (end z s) past_whole.1 ∙ omega arith

  stack_back : with_stack (past_of 1 (left z s)) (get_register s Long 7) ≡ with_counter s (s.counter + 2)
  unfolding past_of with_counter
  stack_back =
      let c = (s.counter + 1) % 2 ^ 24 in
      ap (λ (x : State). with_stack x (get_register s Long 7)) (past_set (past_of 1 s) (end z s))
      ∙ put_back (past_of 1 s) Long 7 (omega arith) past_whole.1 (c + 1) (end z s)
      ∙ same_counter s (c + 1) (s.counter + 2) (omega arith)

  pop_back :
      (r : ℕ) (ram rom : List ℕ) (at : ℕ) → r < 8 → RoomBelow s (bytes_of z) ram →
      effect_of (Stacks Pop) z (Register r) at (past_of 1 (left z s)) (after z r s ram rom) rom ≡ did (with_counter s (s.counter + 2)) (after z r s ram rom)
  unfolding effect_of stack_of pop_of
  pop_back r ram rom at h room =
      let v = value z r s in
      let fits : v < 256 ^ bytes_of z = rw (size_power z) (register_lt s z r) in
      let few : bytes_of z ≤ 2 ^ 32 = omega (arith, bytes_le z) in
      rw (end_is, stored_loads ram rom (place z s) (bytes_of z) v room fits)
      (ap (λ (x : State). did x (after z r s ram rom))
      (ap (λ (x : ℕ). set_register (with_stack (past_of 1 (left z s)) x) z r v) (up_again (get_register s Long 7) (bytes_of z) (register_lt s Long 7) few)
      ∙ ap (λ (x : State). set_register x z r v) stack_back
      ∙ put_same s z r h w.1 (s.counter + 2)))

-- ---- the statement
module _ (z : Size) (r : ℕ) (wide : no_byte z ≡ true) (h : r < 7) (s : State) (ram rom : List ℕ) (p : Passed s ram rom) where
  push_is : CodeBegins ram rom s.counter (push_code z r) → try_of s ram rom ≡ push_of (past_of 1 s) ram rom z (get_register (past_of 1 s) z r)
  unfolding code_of effect_of stack_of
  push_is stands = try_code (Stacks Push) z (Register r) s ram rom (so_that wide, h) p stands

  pop_is : CodeBegins ram rom s.counter (pop_code z r) → try_of s ram rom ≡ effect_of (Stacks Pop) z (Register r) s.counter (past_of 1 s) ram rom
  unfolding code_of
  pop_is stands = try_code (Stacks Pop) z (Register r) s ram rom (so_that wide, h) p stands

pub pop_undoes_push : PopUndoesPush
pop_undoes_push z r s ram rom wide h ok p stands room =
    let t = left z s in
    let m = after z r s ram rom in
    let w : Whole s = (valid_says s p.1, ok) in
    let a = place z s in
    let n = bytes_of z in
    let v = value z r s in
    let d = push_is z r wide h s ram rom p stands ∙ push_done z r s ram rom room in
    let k = still_passes s ram rom t m p.1 (sym (passes s ram rom p.0 p.1) ∙ d) in
    let q : Passed t m rom = ((rw k.1 p.0.0, p.0.1), k.0) in (
      t,
      m,
      d,
      (bytes_length ram rom a n v, λ i. ⊎_elim (λ b. bytes_below ram rom a n v i (omega arith)) (λ b. bytes_above ram rom a n v i (omega arith))),
      λ pops. pop_is z r wide h t m rom q pops ∙ pop_back z s w r ram rom t.counter (omega arith) room,
    )
