use mathlib.Core.Path.{sym, ◌∙◌}
use native.Mathlib.Omega.{arith}
use Rattle.code.specs.Listed.{decode_of}
use Rattle.code.proofs.FirstRows.{in_alone, in_registers, in_memory}
use Rattle.code.proofs.Judge.{next_there, next_short}
use Rattle.decode.proofs.decode.Goals as goal

pub returns-then-code-eq0 : goal.returns-then-code-eq0
unfolding decode_of
returns-then-code-eq0 c = next_short _ _ _ (omega arith)

pub returns-then-b-lt128 : goal.returns-then-b-lt128
unfolding decode_of
returns-then-b-lt128 c = next_there _ _ _ _ (omega arith) (rw (in_alone _ c.if-b-lt128.true) (c.whole_alone.ensures ∙ c.read.ensures))

pub returns-then-begins : goal.returns-then-begins
unfolding decode_of
returns-then-begins c =
    let begins = sym c.begins.ensures ∙ c.if-begins.true in
    next_there _ _ _ _ (omega arith) (rw (in_registers _ (omega (arith, c.type_inv.code 0)) begins) c.whole_chosen.ensures)

pub returns : goal.returns
unfolding decode_of
returns c =
    let begins_none = sym c.begins.ensures ∙ c.if-begins.false in
    next_there _ _ _ _ (omega arith) (rw (in_memory _ (omega (arith, c.type_inv.code 0)) c.if-b-lt128.false begins_none) c.whole_begun.ensures)
