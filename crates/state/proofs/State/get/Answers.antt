use mathlib.Core.Path.{ap, ◌∙◌}
use Rattle.state.specs.State.{long_of}
use Rattle.state.specs.Register.{slot_in, get_bits, start_of, width_of}
use Rattle.state.proofs.State.get.Goals as goal

pub returns : goal.returns
unfolding slot_in long_of
returns c =
    let p = c.args.t.part in
    c.bits_of.ensures ∙ ap (get_bits (start_of p) (width_of p)) c.long.ensures
