use Rattle.std.proofs.Common.{sym, refl, ◌∙◌}
use Rattle.request.proofs.take.Goals as goal

pub returns-in-Ok : goal.returns-in-Ok
returns-in-Ok c = rw (sym c.load_vector.ensures ∙ c.in-Ok.is) c.enter.ensures

pub returns-in-Err : goal.returns-in-Err
returns-in-Err c = rw (c.untaken.ensures, sym c.load_vector.ensures ∙ c.in-Err.is, c.from.ensures) (refl, refl)
