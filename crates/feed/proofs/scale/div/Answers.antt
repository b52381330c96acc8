use mathlib.Core.Path.{◌∙◌}
use native.Mathlib.Omega.{arith}
use native.Mathlib.Nat.{mod-lt, pos_of_ne-zero}
use Rattle.feed.proofs.Results.{half_of, half_pos, low_lt, div_none, div_large, div_fit}
use Rattle.feed.proofs.scale.div.Goals as goal

pub returns-then-y-eq0 : goal.returns-then-y-eq0
returns-then-y-eq0 c =
    c.kept.ensures ∙ div_none c.args.size c.args.a c.args.b c.half_top-t.ensures.value c.low-x.ensures.value c.low_half-y.ensures.value c.if-y-eq0.true

pub returns-then-t-q : goal.returns-then-t-q
returns-then-t-q c =
    c.kept-then-t-q.ensures ∙ div_large c.args.size c.args.a c.args.b c.half_top-t.ensures.value c.low-x.ensures.value c.low_half-y.ensures.value c.if-t-q.true

pub halves-requires : goal.halves-requires
halves-requires c =
    let size = c.args.size in
    let l = low_lt (half_of size) c.args.b (half_pos size) c.half_top-t.ensures.value c.low_half-y.ensures.value in
    let r = mod-lt c.low-x.result (pos_of_ne-zero c.if-y-eq0.false) in
    (c.half_top-t.ensures.bounded.1, c.if-t-q.false, omega arith)

pub returns : goal.returns
returns c =
    let size = c.args.size in
    c.halves.ensures (half_of size) (half_pos size) c.half_top-t.ensures.value
    ∙ div_fit c.args.size c.args.a c.args.b c.half_top-t.ensures.value c.low-x.ensures.value c.low_half-y.ensures.value c.if-y-eq0.false c.if-t-q.false
