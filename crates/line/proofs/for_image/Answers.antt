use mathlib.Core.Path.{sym, ◌∙◌}
use Rattle.line.proofs.Laws.{for_ran, line_whole}
use Rattle.line.proofs.for_image.Goals as goal

pub returns : goal.returns
returns c =
    let image = c.args.image.now in
    line_whole image (c.ran.ensures
    ∙ sym (for_ran image c.if-image-gt32768.false c.reset-first.result c.reset-first.ensures c.run.result c.run.new.ram c.in_default.is c.run.ensures))
