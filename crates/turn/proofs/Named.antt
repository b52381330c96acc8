-- A register form behind a code byte: what is read behind it is done past it.
use Prim.Native.Nat.{ℕ, ◌+◌, ◌%◌, ◌^◌}
use mathlib.Core.Path.{◌≡◌, refl, ap, sym, subst}
use mathlib.Core.Bool.{Bool, true, false, cond}
use mathlib.Core.List.{List}
use mathlib.Core.Logic.{◌⊎◌, inl, inr}
use native.Mathlib.Omega.{arith}
use lib.Dec.{eqb}
use borrow.Author.Tests.{eqb-true}
use Rattle.little.specs.declared.Size.{Size}
use Rattle.state.specs.declared.Bank.{Bank}
use Rattle.state.specs.declared.State.{State}
use Rattle.state.specs.State.{with_counter}
use Rattle.state.specs.inner.Lent.{banked_at_with, standing_at}
use Rattle.code.specs.declared.Use.{Use}
use Rattle.code.specs.declared.Use.TheVariants.{Number, From, Load, Compute, Changed}
use Rattle.code.specs.declared.Side.TheVariants.{First, With}
use Rattle.code.specs.declared.Operand.{Operand}
use Rattle.code.specs.declared.Op.TheVariants.{Puts}
use Rattle.code.specs.declared.OfRegister.{OfRegister}
use Rattle.code.specs.declared.OfRegister.TheVariants as register
use Rattle.code.specs.Said.{judge, whole_of}
use Rattle.code.specs.Rows.{by_rows}
use Rattle.code.specs.Registers.{feed_rows}
use Rattle.code.proofs.Alike.{feed_forms}
use Rattle.code.specs.inner.Parts.{register_as, longer}
use Rattle.operand.specs.Try.{leaves, after}
use Rattle.compute.specs.Compute.{puts_of}
use Rattle.exec.specs.Exec.{past_of, effect_of, executed_of, done}
use Rattle.exec.specs.inner.Counter.{back_of}
use Rattle.exec.proofs.Laws.{came_back}
use Rattle.turn.specs.inner.Times.{past_name}
use Rattle.answer.specs.Number.{Answer}
use Rattle.std.proofs.Common.{Err}
use Rattle.code.specs.Unread.{Decoded}
use Rattle.code.specs.declared.Unread.TheVariants.{Short, Unlisted}

past_twice : (n m counter : ℕ) → (counter + (n + m)) % 2 ^ 24 ≡ (past_name n counter + m) % 2 ^ 24
past_twice n m counter = go (eqb n 0) refl
  where
    go : (b : Bool) → eqb n 0 ≡ b → (counter + (n + m)) % 2 ^ 24 ≡ (cond b counter ((counter + n) % 2 ^ 24) + m) % 2 ^ 24
    go true e = omega (arith, eqb-true n 0 e)
    go false e = omega arith

module _ (rest : State) (regs : List ℕ) (bank : Bank) (counter flags : ℕ) (ram rom : List ℕ) (z : Size) (o : Operand) (n : ℕ) where
  use_later : (how : Use) (m : ℕ) → done (whole_of (Puts how) z o (n + m)) (banked_at_with rest regs bank counter flags) ram rom ≡ done (whole_of (Puts how) z o m) (banked_at_with rest regs bank (past_name n counter) flags) ram rom
  unfolding executed_of effect_of past_of with_counter
  use_later how m = ap (λ (c : ℕ). puts_of how z o (banked_at_with rest regs bank c flags) ram rom) (past_twice n m counter)

  -- the form at the counter, and what was read of it past its code byte
  abbrev Later : Decoded → Type 0
  Later d = done (longer n d) (banked_at_with rest regs bank counter flags) ram rom ≡ done d (banked_at_with rest regs bank (past_name n counter) flags) ram rom

  fed_later : (d : Decoded) → ((how : Use) × (m : ℕ) × (d ≡ whole_of (Puts how) z o m)) ⊎ ((d ≡ Err Short) ⊎ (d ≡ Err Unlisted)) → Later d
  fed_later d (inl (how, m, e)) = subst Later (sym e) (use_later how m)
  fed_later d (inr (inl e)) = subst Later (sym e) refl
  fed_later d (inr (inr e)) = subst Later (sym e) refl

  done_later : (read : OfRegister) (s : List ℕ) → Later (register_as read z o s)
  done_later (register.Number v m) s = use_later (Number v) m
  done_later (register.From r m) s = use_later (From r) m
  done_later (register.Load r m) s = use_later (Load r) m
  done_later (register.Compute op r m) s = use_later (Compute op (First r)) m
  done_later (register.With op v m) s = use_later (Compute op (With v)) m
  done_later (register.Changed how m) s = use_later (Changed how) m
  done_later register.Rest s = fed_later (judge (by_rows (feed_rows z o)) s 1) (feed_forms z o s)
  done_later register.Short s = refl
  done_later register.Unlisted s = refl

  -- what was done past the code byte is done at the instruction
  pub form_done :
      (read : OfRegister) (s : List ℕ) (d : Decoded) (a : Answer) (u : State) → d ≡ longer n (register_as read z o s) →
      after a u ram ≡ leaves (banked_at_with rest regs bank (past_name n counter) flags) ram (done (register_as read z o s) (banked_at_with rest regs bank (past_name n counter) flags) ram rom) →
      after a (standing_at u (back_of a counter u.counter)) ram ≡ leaves (banked_at_with rest regs bank counter flags) ram (done d (banked_at_with rest regs bank counter flags) ram rom)
  form_done read s d a u e h =
      rw (e, done_later read s)
      (came_back (banked_at_with rest regs bank counter flags) (banked_at_with rest regs bank (past_name n counter) flags) refl ram a u ram
      (done (register_as read z o s) (banked_at_with rest regs bank (past_name n counter) flags) ram rom) h)
