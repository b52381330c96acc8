use mathlib.Core.Path.{◌≡◌, refl, sym, ap, ◌∙◌}
use mathlib.Core.Bool.{true, false}
use native.Mathlib.Omega.{arith}
use Rattle.feed.specs.Cycle.{is_table}
use Rattle.code.specs.inner.Parts.{cycle_as}
use Rattle.code.proofs.FeedRows.{high_short, high_none, table_whole}
use Rattle.registers.proofs.rest.high.Goals as goal

pub returns-then-code-le3 : goal.returns-then-code-le3
returns-then-code-le3 c = λ z o.
    let a = c.args in
    let p = c.requires in
    high_short z o a.stride (cycle_as a.up a.stride) a.code.now p.0 a.low p.1 (omega arith) p.2 (omega arith)

pub returns-then-is_table : goal.returns-then-is_table
returns-then-is_table c = λ z o.
    let a = c.args in
    let p = c.requires in
    let f : is_table a.stride _ ≡ true = ap (is_table a.stride) (sym c.joined-last.ensures) ∙ (sym c.is_table.ensures ∙ c.if-is_table.true) in
    rw (c.cycle_of.ensures, c.joined-last.ensures)
    (table_whole z o a.stride (cycle_as a.up a.stride) a.code.now p.0 a.low p.1 (omega arith) p.2 (omega arith) _ refl (omega arith) f)

pub returns : goal.returns
returns c = λ z o.
    let a = c.args in
    let p = c.requires in
    let f : is_table a.stride _ ≡ false = ap (is_table a.stride) (sym c.joined-last.ensures) ∙ (sym c.is_table.ensures ∙ c.if-is_table.false) in
    high_none z o a.stride (cycle_as a.up a.stride) a.code.now p.0 a.low p.1 (omega arith) p.2 (omega arith) _ refl (omega arith) f
