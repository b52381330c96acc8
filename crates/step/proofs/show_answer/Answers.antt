use mathlib.Core.Path.{refl, sym, ◌∙◌}
use borrow.Author.Tests.{lt-ltb, le-ltb}
use Rattle.step.specs.Show.{show_answer_of}
use Rattle.step.proofs.show_answer.Goals as goal

pub returns-then-too_long : goal.returns-then-too_long
unfolding show_answer_of
returns-then-too_long c = rw (sym c.too_long.ensures ∙ c.if-too_long.true) refl

pub returns-then-at-lt-ADDRESSES : goal.returns-then-at-lt-ADDRESSES
unfolding show_answer_of
returns-then-at-lt-ADDRESSES c =
    c.judged.ensures
    ∙ rw (sym c.too_long.ensures ∙ c.if-too_long.false, lt-ltb _ _ c.if-at-lt-ADDRESSES.true, c.decode_at.ensures) refl

pub returns : goal.returns
unfolding show_answer_of
returns c = rw (sym c.too_long.ensures ∙ c.if-too_long.false, le-ltb _ _ c.if-at-lt-ADDRESSES.false) refl
