use mathlib.Core.Path.{refl, sym, ◌∙◌}
use Rattle.step.specs.Reset.{reset_of}
use Rattle.step.proofs.reset.Goals as goal

pub returns-then-too_long : goal.returns-then-too_long
unfolding reset_of
returns-then-too_long c = c.refuse.ensures ∙ rw (sym c.too_long.ensures ∙ c.if-too_long.true, c.zero.ensures) refl

pub returns-in-Ok : goal.returns-in-Ok
unfolding reset_of
returns-in-Ok c =
    c.done.ensures
    ∙ rw (sym c.too_long.ensures ∙ c.if-too_long.false, sym c.load_vector.ensures ∙ c.in-Ok.is, c.at_reset.ensures) refl

pub returns-in-Err : goal.returns-in-Err
unfolding reset_of
returns-in-Err c =
    c.refuse-in-Err.ensures
    ∙ rw (sym c.too_long.ensures ∙ c.if-too_long.false, sym c.load_vector.ensures ∙ c.in-Err.is, c.zero-in-Err.ensures, c.from.ensures) refl
