use mathlib.Core.Path.{◌∙◌}
use native.Mathlib.Omega.{arith}
use Rattle.little.specs.Width.{bits_of}
use Rattle.state.specs.inner.Field.{put_in}
use Rattle.state.proofs.Fields.{put_within, put_whole}
use Rattle.state.proofs.named.replaced.Goals as goal

pub returns : goal.returns
unfolding put_in
returns c =
    let a = c.args in (
      rw c.ones.ensures (put_within a.start (bits_of a.size) a.x a.v (omega arith)),
      λ w. rw c.ones.ensures (put_within a.start (bits_of a.size) a.x a.v (omega arith)) ∙ put_whole a.size a.start a.x a.v (omega arith) w,
    )
