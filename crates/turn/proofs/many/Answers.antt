use Prim.Native.Nat.{ℕ, ◌≤◌, ◌-◌, suc, ◌+◌}
use mathlib.Core.Path.{◌≡◌, refl, ap, sym, ◌∙◌}
use native.Mathlib.Omega.{arith}
use native.Mathlib.Nat.{sub_self}
use Rattle.state.specs.inner.Lent.{all_of}
use Rattle.state.specs.declared.State.{State}
use Rattle.turn.specs.Many.{ends, many_of}
use Rattle.turn.proofs.ManySteps.{turn_on, turn_off, turn_less, turn_same, turn_end}
use Rattle.turn.proofs.many.Goals as goal
use Rattle.std.proofs.Common.{Err}

pub loop-left-init : goal.loop-left-init
loop-left-init c = (omega arith, refl, ap (λ (d : ℕ). many_of c.args.steps d c.args.s c.args.ram.now c.args.rom.now) (sub_self c.args.steps))

pub overflow_sub-left : goal.overflow_sub-left
overflow_sub-left c = omega arith

pub overflow_sub-steps : goal.overflow_sub-steps
overflow_sub-steps c = let h = c.loop-left.invariant.0 in let k = c.loop-left-test.true in omega (arith, h, k)

pub overflow_sub-steps-in-Err : goal.overflow_sub-steps-in-Err
overflow_sub-steps-in-Err c =
    let l = c.loop-left in
    let o = c.once in
    let here : State = all_of l.regs l.counter l.bank l.level l.flags l.spare l.nesting in
    let next : State = all_of o.new.regs o.new.counter o.new.bank o.new.level o.new.flags o.new.spare o.new.nesting in
    let e : o.new.more ≡ l.left - 1 =
    turn_same here l.ram c.args.rom.now o.result next o.new.ram (l.left - 1) o.new.more o.ensures.fewer o.ensures.does c.in-Err.why c.in-Err.is in
    let h = l.invariant.0 in
    let k = c.loop-left-test.true in
    omega (arith, h, k, e)

pub shape_of-ram-in-Err : goal.shape_of-ram-in-Err
shape_of-ram-in-Err c = c.once.auto.ram ∙ c.loop-left.invariant.1

pub returns-in-Err : goal.returns-in-Err
returns-in-Err c =
    let a = c.args in
    let l = c.loop-left in
    let o = c.once in
    let h = l.invariant.0 in
    let t = c.loop-left-test.true in
    let here : State = all_of l.regs l.counter l.bank l.level l.flags l.spare l.nesting in
    let next : State = all_of o.new.regs o.new.counter o.new.bank o.new.level o.new.flags o.new.spare o.new.nesting in
    let e : o.new.more ≡ l.left - 1 =
    turn_same here l.ram c.args.rom.now o.result next o.new.ram (l.left - 1) o.new.more o.ensures.fewer o.ensures.does c.in-Err.why c.in-Err.is in
    let m = o.new.ram in
    let w = c.in-Err.why in
    let d : a.steps - 1 - o.new.more ≡ a.steps - l.left = omega (arith, h, t, e) in
    let k : suc (l.left - 1) ≡ l.left = omega (arith, t) in
    rw (c.stop.ensures, c.whole-t.ensures, c.current-b.ensures, c.mask-l.ensures)
    (ap (λ (n : ℕ). ends n next m (Err w)) d
    ∙ turn_off here l.ram a.rom.now o.result next m (l.left - 1) o.new.more o.ensures.fewer o.ensures.does (a.steps - l.left) w c.in-Err.is
    ∙ ap (λ (n : ℕ). many_of n (a.steps - l.left) here l.ram a.rom.now) k
    ∙ l.invariant.2)

pub loop-left-smaller : goal.loop-left-smaller
loop-left-smaller c =
    let l = c.loop-left in
    let o = c.once in
    let here : State = all_of l.regs l.counter l.bank l.level l.flags l.spare l.nesting in
    let next : State = all_of o.new.regs o.new.counter o.new.bank o.new.level o.new.flags o.new.spare o.new.nesting in
    let h : o.new.more ≤ l.left - 1 =
    turn_less here l.ram c.args.rom.now o.result next o.new.ram (l.left - 1) o.new.more o.ensures.fewer o.ensures.does c.in_default.is in
    let t = c.loop-left-test.true in
    omega (arith, h, t)

pub loop-left-preserved : goal.loop-left-preserved
loop-left-preserved c =
    let a = c.args in
    let l = c.loop-left in
    let o = c.once in
    let n = o.new.more in
    let m = o.new.ram in
    let here : State = all_of l.regs l.counter l.bank l.level l.flags l.spare l.nesting in
    let next : State = all_of o.new.regs o.new.counter o.new.bank o.new.level o.new.flags o.new.spare o.new.nesting in
    let h : o.new.more ≤ l.left - 1 =
    turn_less here l.ram c.args.rom.now o.result next o.new.ram (l.left - 1) o.new.more o.ensures.fewer o.ensures.does c.in_default.is in
    let i = l.invariant.0 in
    let t = c.loop-left-test.true in
    let d : a.steps - l.left + suc (l.left - 1 - n) ≡ a.steps - n = omega (arith, h, i, t) in
    let k : suc (l.left - 1) ≡ l.left = omega (arith, t) in (
      omega (arith, h, i),
      o.auto.ram ∙ l.invariant.1,
      ap (λ (x : ℕ). many_of n x next m a.rom.now) (sym d)
          ∙ sym (turn_on here l.ram a.rom.now o.result next m (l.left - 1) n o.ensures.fewer o.ensures.does (a.steps - l.left) c.in_default.is)
          ∙ ap (λ (x : ℕ). many_of x (a.steps - l.left) here l.ram a.rom.now) k
          ∙ l.invariant.2,
    )

pub returns : goal.returns
returns c =
    let a = c.args in
    let l = c.loop-left in
    let t = c.loop-left-test.false in
    let here : State = all_of l.regs l.counter l.bank l.level l.flags l.spare l.nesting in
    rw (c.stop-2.ensures, c.whole-t-2.ensures, c.current-b-2.ensures, c.mask-l-2.ensures) (turn_end a.steps here l.ram a.rom.now l.left (omega (arith, t)) ∙ l.invariant.2)
