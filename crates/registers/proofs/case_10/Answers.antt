use Rattle.code.specs.Registers.{register_rows}
use Rattle.code.specs.Rows.{lookup}
use Rattle.code.specs.Said.{judge}
use Rattle.code.proofs.RegisterRows.{no_extension}
use Rattle.registers.proofs.case_10.Goals as goal

pub returns-in-18 : goal.returns-in-18
unfolding register_rows lookup
returns-in-18 c = λ o s. rw (c.in-18.is, ← c.no_byte.ensures) (c.only.ensures _ o s)

pub returns-in-19 : goal.returns-in-19
unfolding register_rows lookup
returns-in-19 c = λ o s. rw (c.in-19.is, ← c.no_byte-in-19.ensures) (c.only-in-19.ensures _ o s)

pub returns-in_default : goal.returns-in_default
unfolding judge
returns-in_default c = λ o s. rw (no_extension _ _ _ c.requires c.in_default.in_default-own.rest)
