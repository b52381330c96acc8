use mathlib.Core.Path.{refl, sym, ◌∙◌}
use Rattle.code.specs.Said.{judge}
use Rattle.code.proofs.FeedRows.{by_register_lem}
use Rattle.registers.proofs.rest.case_40.Goals as goal

pub returns-then-low_register : goal.returns-then-low_register
unfolding judge
returns-then-low_register c = λ o s. rw (by_register_lem _ o _ c.requires.0 c.requires.1, sym c.low_register.ensures ∙ c.if-low_register.true, c.scale_of.ensures) refl

pub returns : goal.returns
unfolding judge
returns c = λ o s. rw (by_register_lem _ o _ c.requires.0 c.requires.1, sym c.low_register.ensures ∙ c.if-low_register.false) refl
