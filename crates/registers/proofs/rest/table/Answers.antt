use mathlib.Core.Path.{◌≡◌, refl, sym, ap, ◌∙◌}
use mathlib.Core.Bool.{false}
use native.Mathlib.Omega.{arith}
use Rattle.feed.specs.Cycle.{is_table}
use Rattle.code.specs.inner.Parts.{cycle_as}
use Rattle.code.proofs.Judge.{next_short}
use Rattle.code.proofs.FeedRows.{low_none}
use Rattle.registers.proofs.rest.table.Goals as goal

pub returns-then-code-le2 : goal.returns-then-code-le2
returns-then-code-le2 c = λ z o. next_short _ _ _ (omega arith)

pub high-requires : goal.high-requires
high-requires c = (omega arith, refl, ap (is_table c.args.stride) (sym c.word.ensures.value) ∙ (sym c.is_table.ensures ∙ c.if-is_table.true))

pub returns : goal.returns
returns c = λ z o.
    let a = c.args in
    let e : is_table a.stride _ ≡ false = ap (is_table a.stride) (sym c.word.ensures.value) ∙ (sym c.is_table.ensures ∙ c.if-is_table.false) in
    low_none z o a.stride (cycle_as a.up a.stride) a.code.now (omega arith) _ refl (omega arith) e
