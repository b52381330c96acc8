use mathlib.Core.Path.{refl, sym, ◌∙◌}
use native.Mathlib.Omega.{arith}
use borrow.Author.Tests.{ne_eqb}
use Rattle.code.specs.Listed.{code_byte_rows}
use Rattle.code.specs.Said.{judge}
use Rattle.code.specs.inner.Parts.{register_begun}
use Rattle.code.proofs.Holds.{so_that}
use Rattle.code.proofs.Judge.{run_there, next_short}
use Rattle.registers.proofs.begin.Goals as goal

pub returns-then-b-eq1 : goal.returns-then-b-eq1
unfolding register_begun
returns-then-b-eq1 c = record { code_value = rw c.if-b-eq1.true refl; chooses = (omega arith, omega arith) }

pub returns-then-code-le1 : goal.returns-then-code-le1
unfolding register_begun
returns-then-code-le1 c = record { code_value = rw (ne_eqb _ _ c.if-b-eq1.false) (next_short _ _ _ (omega arith)); chooses = (tt, omega arith) }

pub returns-then-is_named : goal.returns-then-is_named
unfolding register_begun code_byte_rows
returns-then-is_named c =
    let named = sym c.is_named.ensures ∙ c.if-is_named.true in record {
      code_value = rw (ne_eqb _ _ c.if-b-eq1.false)
          (run_there _ _ c.args.code.now 1 (omega arith) _ (omega (arith, c.type_inv.code 1)) (rw named refl));
      chooses = ((omega (arith, c.type_inv.code 1), so_that named), omega arith);
    }

pub returns : goal.returns
unfolding register_begun code_byte_rows judge
returns c =
    let unnamed = sym c.is_named.ensures ∙ c.if-is_named.false in record {
      code_value = rw (ne_eqb _ _ c.if-b-eq1.false)
          (run_there _ _ c.args.code.now 1 (omega arith) _ (omega (arith, c.type_inv.code 1)) (rw unnamed refl));
      chooses = (tt, omega arith);
    }
