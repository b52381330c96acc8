use mathlib.Core.Path.{◌∙◌}
use native.Mathlib.Omega.{arith}
use Rattle.feed.proofs.Results.{half_of, half_pos, low_lt, product_lt, product_top, muls_made}
use Rattle.feed.proofs.scale.muls.Goals as goal

pub magnitude-requires : goal.magnitude-requires
magnitude-requires c =
    let size = c.args.size in
    low_lt (half_of size) c.args.a (half_pos size) c.half_top-t.ensures.value c.low_half-x.ensures.value

pub magnitude-requires-2 : goal.magnitude-requires-2
magnitude-requires-2 c =
    let size = c.args.size in
    low_lt (half_of size) c.args.b (half_pos size) c.half_top-t.ensures.value c.low_half-y.ensures.value

pub overflow_mul-m : goal.overflow_mul-m
overflow_mul-m c =
    let t = c.half_top-t.ensures.bounded.1 in
    let m = c.magnitude.ensures.1 in
    let n = c.magnitude-2.ensures.1 in
    record { fits = product_lt (omega arith) (omega arith) }

pub with_sign-requires : goal.with_sign-requires
with_sign-requires c =
    let h = product_top c.args.size c.half_top-t.ensures.value c.top.ensures.value c.magnitude.ensures.1 c.magnitude-2.ensures.1 in
    (h, c.top.ensures.bounded.1)

pub returns : goal.returns
returns c =
    c.with_sign.ensures.value
    ∙ muls_made c.args.size c.args.a c.args.b
    c.half_top-t.ensures.value c.low_half-x.ensures.value c.low_half-y.ensures.value c.magnitude.ensures.0 c.magnitude-2.ensures.0 c.top.ensures.value
