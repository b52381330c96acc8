use native.Mathlib.Omega.{arith}
use Rattle.look.proofs.Laws.{shown_few, shows}
use Rattle.look.proofs.tlcs900h_show.Goals as goal

pub overflow_cast-size : goal.overflow_cast-size
overflow_cast-size c = omega (arith, shown_few _ _ _ _ c.show-code.ensures.0)

pub returns : goal.returns
returns c =
    let a = c.args in
    shows a.ram.now a.rom.now a.at c.show-code.ensures.0 c.show_answer.ensures c.number.ensures
