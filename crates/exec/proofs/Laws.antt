-- Laws that the functions' proofs cite: an instruction, and what a call leaves.
use Prim.Native.Nat.{ℕ, ◌+◌, ◌%◌, ◌^◌}
use mathlib.Core.Path.{◌≡◌, refl, ap, sym, ◌∙◌}
use mathlib.Core.List.{List}
use Rattle.state.specs.declared.State.{State}
use Rattle.state.specs.State.{with_counter}
use Rattle.state.specs.declared.Bank.{Bank}
use Rattle.state.specs.inner.Lent.{banked_with, banked_at_with, standing_at}
use Rattle.little.specs.declared.Size.{Size}
use Rattle.operand.specs.inner.Does.{Does}
use Rattle.code.specs.declared.Op.TheVariants.{Puts}
use Rattle.code.specs.declared.Use.{Use}
use Rattle.code.specs.declared.Operand.{Operand}
use Rattle.code.specs.Said.{whole_of}
use Rattle.compute.specs.Compute.{puts_of}
use Rattle.operand.specs.Try.{Try, did, no, Outcome, leaves, after}
use Rattle.exec.specs.Exec.{past_of, effect_of, executed_of, done}
use Rattle.exec.specs.inner.Counter.{back_of, on_of}
use Rattle.std.proofs.Common.{Ok, Err}
use Rattle.answer.specs.Number.{Answer}
use Rattle.code.specs.Unread.{Decoded}

-- ---- an instruction: the state past it, and back where it is refused
-- the state with the counter that it had, not cut
back_at : State → ℕ → State
back_at s at = standing_at s at

back_is : (n : ℕ) (s : State) → back_at (past_of n s) s.counter ≡ s
unfolding past_of with_counter back_at
back_is n s = refl

-- what was refused in a state that has only another counter is refused in this one
pub came_back :
    (s beyond : State) → standing_at beyond s.counter ≡ s → (ram : List ℕ) (a : Answer) (u : State) (m : List ℕ) (t : Try) →
    after a u m ≡ leaves beyond ram t → after a (standing_at u (back_of a s.counter u.counter)) m ≡ leaves s ram t
unfolding back_at
came_back s beyond same ram a u m (did v l) e =
    let b : a ≡ Ok tt = ap (λ (o : Outcome). o.answer) e in
    rw b (ap (λ (x : Answer). after x u m) (sym b) ∙ e)
came_back s beyond same ram a u m (no x) e =
    let b : a ≡ Err x = ap (λ (o : Outcome). o.answer) e in
    let k : back_at u s.counter ≡ s = ap (λ (o : Outcome). back_at o.state s.counter) e ∙ same in
    rw (b, ap (λ (o : Outcome). o.ram) e) (ap (λ (v : State). after (Err x) v ram) k)

module _ (s : State) (n : ℕ) (ram : List ℕ) (a : Answer) (u : State) (m : List ℕ) where
  -- what was refused past the instruction is refused at it
  pub returned : (t : Try) → after a u m ≡ leaves (past_of n s) ram t → after a (standing_at u (back_of a s.counter u.counter)) m ≡ leaves s ram t
  unfolding back_at
  returned t e = came_back s (past_of n s) (back_is n s) ram a u m t e

  -- the counter goes past the instruction where what was tried is done
  pub moved_on :
      (t : Try) → after a (standing_at u ((s.counter + n) % 2 ^ 24)) m ≡ leaves (past_of n s) ram t
      → after a (standing_at u (on_of a n s.counter)) m ≡ leaves s ram t
  unfolding back_at
  moved_on (did v l) e =
      let b : a ≡ Ok tt = ap (λ (o : Outcome). o.answer) e in
      rw b (ap (λ (x : Answer). after x (standing_at u ((s.counter + n) % 2 ^ 24)) m) (sym b) ∙ e)
  moved_on (no x) e =
      let b : a ≡ Err x = ap (λ (o : Outcome). o.answer) e in
      let k : back_at u s.counter ≡ s = ap (λ (o : Outcome). back_at o.state s.counter) e ∙ back_is n s in
      rw (b, ap (λ (o : Outcome). o.ram) e) (ap (λ (v : State). after (Err x) v ram) k)

-- what is judged to be the same leaves the same
pub judged : (s : State) (ram rom : List ℕ) (o : Outcome) (d e : Decoded) → d ≡ e → o ≡ leaves s ram (done d s ram rom) → o ≡ leaves s ram (done e s ram rom)
judged s ram rom o d e h k = rw (← h) k

-- ---- a register form: what is put is put past it
module _ (rest : State) (regs : List ℕ) (bank : Bank) (counter flags n : ℕ) (ram rom : List ℕ) where
  pub put_on :
      (how : Use) (z : Size) (o : Operand) (next : List ℕ) (g : ℕ) →
      Does (λ t m. puts_of how z o t m rom) (banked_with (standing_at rest ((counter + n) % 2 ^ 24)) regs bank flags) ram (Ok tt) (banked_with (standing_at rest ((counter + n) % 2 ^ 24)) next bank g) ram →
      Does (λ t m. done (whole_of (Puts how) z o n) t m rom) (banked_at_with rest regs bank counter flags) ram (Ok tt) (banked_at_with rest next bank (on_of (Ok tt) n counter) g) ram
  unfolding executed_of effect_of past_of with_counter
  put_on how z o next g h =
      moved_on (banked_at_with rest regs bank counter flags) n ram (Ok tt) (banked_at_with rest next bank counter g) ram
      (puts_of how z o (banked_with (standing_at rest ((counter + n) % 2 ^ 24)) regs bank flags) ram rom) h
