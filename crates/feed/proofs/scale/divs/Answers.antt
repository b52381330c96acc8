use mathlib.Core.Path.{◌∙◌}
use Prim.Native.Nat.{◌/◌, ◌≤◌}
use native.Mathlib.Omega.{arith}
use native.Mathlib.Nat.{mod-lt}
use Rattle.little.specs.Width.{bits_of}
use Rattle.flags.proofs.Widths.{bits_pos}
use Rattle.feed.proofs.Results.{half_of, half_pos, low_lt, divisor_pos, divs_none, divs_large, divs_fit}
use Rattle.feed.proofs.scale.divs.Goals as goal

pub returns-then-y-eq0 : goal.returns-then-y-eq0
returns-then-y-eq0 c =
    c.kept.ensures ∙ divs_none c.args.size c.args.a c.args.b c.half_top-t.ensures.value c.low-x.ensures.value c.low_half-y.ensures.value c.if-y-eq0.true

pub magnitude-m-requires : goal.magnitude-m-requires
magnitude-m-requires c =
    low_lt (bits_of c.args.size) c.args.a (bits_pos c.args.size) c.top-s.ensures.value c.low-x.ensures.value

pub magnitude-n-requires : goal.magnitude-n-requires
magnitude-n-requires c =
    let size = c.args.size in
    low_lt (half_of size) c.args.b (half_pos size) c.half_top-t.ensures.value c.low_half-y.ensures.value

pub nonzero_div-q : goal.nonzero_div-q
nonzero_div-q c =
    divisor_pos c.args.size c.args.b c.half_top-t.ensures.value c.low_half-y.ensures.value c.if-y-eq0.false c.magnitude-n.ensures.0

pub returns-then-largest-q : goal.returns-then-largest-q
returns-then-largest-q c =
    let h = rw c.largest.ensures.0 at c.if-largest-q.true in
    c.kept-then-largest-q.ensures
    ∙ divs_large c.args.size c.args.a c.args.b
    c.half_top-t.ensures.value c.top-s.ensures.value c.low-x.ensures.value c.low_half-y.ensures.value c.magnitude-m.ensures.0 c.magnitude-n.ensures.0 h

pub nonzero_rem-m : goal.nonzero_rem-m
nonzero_rem-m c =
    divisor_pos c.args.size c.args.b c.half_top-t.ensures.value c.low_half-y.ensures.value c.if-y-eq0.false c.magnitude-n.ensures.0

pub with_sign-requires-2 : goal.with_sign-requires-2
with_sign-requires-2 c =
    let t = c.half_top-t.ensures.bounded.1 in
    let n = c.magnitude-n.ensures.1 in
    let r = mod-lt c.magnitude-m.result (divisor_pos c.args.size c.args.b c.half_top-t.ensures.value c.low_half-y.ensures.value c.if-y-eq0.false c.magnitude-n.ensures.0) in
    (omega arith, omega arith)

pub halves-requires : goal.halves-requires
halves-requires c =
    let w = c.half_top-t in
    let q = c.magnitude-m.result / c.magnitude-n.result in
    let l : q ≤ w.result = omega (arith, c.if-largest-q.false, c.largest.ensures.1) in
    (w.ensures.bounded.1, c.with_sign.ensures.bounded w.ensures.bounded.0, c.with_sign-2.ensures.bounded w.ensures.bounded.0)

pub returns : goal.returns
returns c =
    let size = c.args.size in
    let h = rw c.largest.ensures.0 at c.if-largest-q.false in
    let t = c.half_top-t.ensures.bounded.1 in
    let n = c.magnitude-n.ensures.1 in
    let r = mod-lt c.magnitude-m.result (divisor_pos c.args.size c.args.b c.half_top-t.ensures.value c.low_half-y.ensures.value c.if-y-eq0.false c.magnitude-n.ensures.0) in
    let made = c.halves.ensures (half_of size) (half_pos size) c.half_top-t.ensures.value in
    made
    ∙ rw (c.with_sign.ensures.value, c.with_sign-2.ensures.value)
    (divs_fit c.args.size c.args.a c.args.b
    c.half_top-t.ensures.value c.top-s.ensures.value c.low-x.ensures.value c.low_half-y.ensures.value c.magnitude-m.ensures.0 c.magnitude-n.ensures.0
    c.if-y-eq0.false h (omega arith))
