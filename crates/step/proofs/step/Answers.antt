use mathlib.Core.Path.{refl, sym, ◌∙◌}
use Rattle.step.specs.Step.{guarded, try_of, step_of}
use Rattle.step.proofs.step.Goals as goal

pub returns-then-too_long : goal.returns-then-too_long
unfolding guarded try_of step_of
returns-then-too_long c = rw (c.refuse.ensures, sym c.too_long.ensures ∙ c.if-too_long.true) refl

pub returns-then-valid : goal.returns-then-valid
unfolding guarded try_of step_of
returns-then-valid c =
    rw (sym c.too_long.ensures ∙ c.if-too_long.false, sym c.valid.ensures ∙ c.if-valid.true) c.whole_once.ensures

pub returns : goal.returns
unfolding guarded try_of step_of
returns c =
    rw (c.refuse-2.ensures, sym c.too_long.ensures ∙ c.if-too_long.false, sym c.valid.ensures ∙ c.if-valid.false) refl
