use Rattle.std.proofs.Common.{◌≡◌, ◌+◌, ◌*◌, ◌≤◌, ◌<◌, ℕ, List, ◌++◌, length, get_or, take, refl, ap, sym, ◌∙◌, arith}
use Rattle.std.proofs.Math.Seq.{take_all}
use Rattle.state.proofs.Sound.{sound}
use Rattle.little.specs.Bytes.{bytes_from}
use Rattle.saved.specs.Record.{longs_bytes}
use Rattle.saved.proofs.Numbers.{longs_step}
use Rattle.saved.proofs.save_longs.Goals as goal

pub loop-i-init : goal.loop-i-init
unfolding longs_bytes
loop-i-init c = refl

pub loop-i-preserved : goal.loop-i-preserved
loop-i-preserved c =
    let s = c.args.s in
    let i = c.loop-i.i in
    let more : i < length s.registers = omega (arith, (sound s c.well_formed.0).twenty) in
    let e : 4 * (i + 1) ≡ 4 * i + 4 = omega arith in
    rw e c.write_at.ensures ∙ ap (λ (p : List ℕ). p ++ bytes_from 4 (get_or s.registers i 0)) c.loop-i.invariant ∙ sym (longs_step s.registers i more)

pub returns : goal.returns
returns c =
    let s = c.args.s in
    let e : c.loop-i.i ≡ 20 = omega arith in
    let all : length s.registers ≤ 20 = omega (arith, (sound s c.well_formed.0).twenty) in
    rw e at c.loop-i.invariant ∙ ap longs_bytes (take_all 20 s.registers all)
