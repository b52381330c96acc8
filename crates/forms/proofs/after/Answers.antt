use mathlib.Core.Path.{refl}
use native.Mathlib.Omega.{arith}
use lib.ListN.{get_or}
use borrow.Author.Tests.{eqb-true, eq-eqb, ne_eqb}
use Rattle.code.specs.declared.Operand.TheVariants.{Memory}
use Rattle.code.specs.Said.{judge}
use Rattle.code.specs.Rows.{lookup}
use Rattle.code.specs.inner.Parts.{rows_begun}
use Rattle.code.proofs.Judge.{next_there, next_short}
use Rattle.code.proofs.Holds.{both_true}
use Rattle.forms.proofs.BlockRows.{begun_store, begun_pointer, begun_memory, begun_plain}
use Rattle.forms.proofs.MemoryRows.{load, compute, no_memory}
use Rattle.forms.proofs.after.Goals as goal

pub returns-then-code-at : goal.returns-then-code-at
returns-then-code-at c = λ m. next_short _ _ _ (omega arith)

pub returns-then-b-eq3 : goal.returns-then-b-eq3
returns-then-b-eq3 c = λ m. next_there _ _ _ _ (omega arith) (rw (begun_store _ _ c.if-b-eq3.true) (c.store_case.ensures m _))

pub returns-then-c-eq1 : goal.returns-then-c-eq1
unfolding judge
returns-then-c-eq1 c = λ m.
    let v = get_or c.args.code.now c.args.at 0 in
    let h = c.if-c-ge128.true in
    next_there (lookup (rows_begun c.args.b (Memory m))) c.args.code.now c.args.at _ (omega arith)
    (rw (begun_plain _ _ v c.if-b-eq3.false (λ e. omega (arith, e, h)), compute _ _ v h (omega (arith, c.type_inv.code c.args.at)), eq-eqb _ _ c.if-c-eq1.true, ← c.size_of-size.ensures, c.arith_of-op.ensures) refl)

pub returns-then-c-ge128 : goal.returns-then-c-ge128
unfolding judge
returns-then-c-ge128 c = λ m.
    let v = get_or c.args.code.now c.args.at 0 in
    let h = c.if-c-ge128.true in
    next_there (lookup (rows_begun c.args.b (Memory m))) c.args.code.now c.args.at _ (omega arith)
    (rw (begun_plain _ _ v c.if-b-eq3.false (λ e. omega (arith, e, h)), compute _ _ v h (omega (arith, c.type_inv.code c.args.at)), ne_eqb _ _ c.if-c-eq1.false, ← c.size_of-size.ensures, c.arith_of-op.ensures) refl)

pub returns-then-c-eq4 : goal.returns-then-c-eq4
unfolding judge
returns-then-c-eq4 c = λ m.
    let v = get_or c.args.code.now c.args.at 0 in
    let h = c.if-c-eq4.true in
    next_there (lookup (rows_begun c.args.b (Memory m))) c.args.code.now c.args.at _ (omega arith)
    (rw (begun_plain _ _ v c.if-b-eq3.false (λ e. omega (arith, e, h)), load _ _ v h, ← c.size_of-size.ensures) refl)

pub block_case-requires : goal.block_case-requires
block_case-requires c = eqb-true _ _ (both_true _ _ c.if-c-k.true).0

pub returns-then-c-k : goal.returns-then-c-k
returns-then-c-k c = λ m. next_there _ _ _ _ (omega arith) (rw (begun_pointer _ _ _ c.if-c-k.true, ← c.size_of-size.ensures) (c.block_case.ensures m _))

pub returns : goal.returns
unfolding judge
returns c = λ m.
    let v = get_or c.args.code.now c.args.at 0 in
    next_there (lookup (rows_begun c.args.b (Memory m))) c.args.code.now c.args.at _ (omega arith)
    (rw (begun_memory _ _ v c.if-b-eq3.false c.if-c-k.false, no_memory _ _ v (omega (arith, c.if-c-ge128.false)) c.if-c-eq4.false) refl)
