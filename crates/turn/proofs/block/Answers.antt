use Prim.Native.Nat.{ℕ, suc, ◌≤◌, ◌<◌, ◌-◌, ◌+◌}
use mathlib.Core.Path.{◌≡◌, refl, ap, sym, ◌∙◌}
use mathlib.Core.Bool.{true}
use native.Mathlib.Omega.{arith}
use native.Mathlib.Nat.{sub_self}
use lib.ListN.{length}
use Rattle.state.specs.State.{zero_state}
use Rattle.state.specs.inner.Lent.{banked_with, banked_at_with, standing_at}
use Rattle.state.specs.declared.State.{State}
use Rattle.block.specs.Block.{goes_on, ends_at}
use Rattle.operand.specs.Try.{did, leaves, after}
use Rattle.turn.specs.inner.Times.{times_of}
use Rattle.turn.proofs.Times.{again_says, rounds_few, rounds_stay, rom_below, rom_same, round_done, round_again, first_not, later_not}
use Rattle.turn.proofs.block.Goals as goal
use Rattle.std.proofs.Common.{Ok, Err}

pub overflow_sub-apart : goal.overflow_sub-apart
overflow_sub-apart c =
    let few : c.rounds-most.result ≤ c.args.more.now = rw c.rounds-most.ensures (rounds_few c.in_rom.result c.args.more.now) in
    few

pub loop-why-init : goal.loop-why-init
unfolding times_of
loop-why-init c = (omega arith, refl, refl, refl, refl, λ rest. rw (sub_self c.rounds-most.result) refl)

pub shape_of-ram-then-left-most : goal.shape_of-ram-then-left-most
shape_of-ram-then-left-most c = c.round.auto.ram ∙ c.loop-why.invariant.3

pub returns-then-left-most : goal.returns-then-left-most
returns-then-left-most c = record {
  fewer = c.loop-why.invariant.1;
  does = λ rest.
      let a = c.args in
      let l = c.loop-why in
      let r = c.round in
      let m = c.rounds-most.result in
      let z : m - l.left ≡ 0 = let t = c.if-left-most.true in omega (arith, t) in
      let y : m - l.left ≡ a.more.now - l.more = let i = l.invariant.1 in omega (arith, z, i) in
      let s = banked_at_with rest a.regs.now a.bank a.counter.now a.flags.now in
      ap (λ (x : ℕ). after (Err c.in-Err.why) (banked_at_with rest r.new.regs a.bank x r.new.flags) r.new.ram) l.invariant.2
      ∙ first_not a.f a.at a.counter.now a.bank rest a.ram.now a.rom.now (banked_at_with rest a.regs.now a.bank a.at a.flags.now) c.requires (m - l.left) l.regs l.flags l.ram l.invariant.4 (l.invariant.5 rest) r.result r.new.regs r.new.flags r.new.ram (r.ensures (standing_at rest a.counter.now))
      c.in-Err.why c.in-Err.is a.regs.now a.flags.now refl z
      ∙ ap (λ (x : ℕ). leaves s a.ram.now (times_of (suc x) (banked_at_with rest a.regs.now a.bank a.at a.flags.now) a.ram.now a.rom.now)) y;
}

pub overflow_add-more : goal.overflow_add-more
overflow_add-more c =
    let few : c.rounds-most.result ≤ c.args.more.now = rw c.rounds-most.ensures (rounds_few c.in_rom.result c.args.more.now) in
    let h = c.loop-why.invariant.0 in let k = few in omega (arith, h, k)

pub overflow_add-more-in-Err : goal.overflow_add-more-in-Err
overflow_add-more-in-Err c =
    let few : c.rounds-most.result ≤ c.args.more.now = rw c.rounds-most.ensures (rounds_few c.in_rom.result c.args.more.now) in
    let h = c.loop-why.invariant.0 in let k = few in let n = c.if-left-most.false in omega (arith, h, k, n)

pub shape_of-ram-in-Err : goal.shape_of-ram-in-Err
shape_of-ram-in-Err c = c.round.auto.ram ∙ c.loop-why.invariant.3

pub returns-in-Err : goal.returns-in-Err
returns-in-Err c =
    let few : c.rounds-most.result ≤ c.args.more.now = rw c.rounds-most.ensures (rounds_few c.in_rom.result c.args.more.now) in
    let a = c.args in
    let l = c.loop-why in
    let r = c.round in
    let m = c.rounds-most.result in
    let h = l.invariant.0 in
    let i = few in
    let n = c.if-left-most.false in
    let k : m - l.left ≡ suc (a.more.now - (a.more.now - m + l.left + 1)) = omega (arith, h, i, n) in record {
      fewer = omega (arith, h, i, n);
      does = λ rest.
          let s = banked_at_with rest a.regs.now a.bank a.at a.flags.now in
          let p = banked_at_with rest a.regs.now a.bank a.counter.now a.flags.now in
          later_not a.f a.at a.counter.now a.bank rest a.ram.now a.rom.now s c.requires (m - l.left) l.regs l.flags l.ram l.invariant.4 (l.invariant.5 rest) r.result r.new.regs r.new.flags r.new.ram (r.ensures (standing_at rest a.counter.now))
          c.in-Err.why c.in-Err.is p
          ∙ ap (λ (x : ℕ). leaves p a.ram.now (times_of x s a.ram.now a.rom.now)) k;
    }

pub overflow_sub-left : goal.overflow_sub-left
overflow_sub-left c =
    let goes : (rest : State) → (0 < c.loop-why.left) × (goes_on c.args.f (banked_with rest c.round.new.regs c.args.bank c.round.new.flags) ≡ true) = λ rest. again_says c.args.f c.loop-why.left (banked_with rest c.round.new.regs c.args.bank c.round.new.flags)
    (sym (c.again.ensures rest) ∙ c.if-again.true) in
    (goes zero_state).0

pub loop-why-smaller : goal.loop-why-smaller
loop-why-smaller c =
    let goes : (rest : State) → (0 < c.loop-why.left) × (goes_on c.args.f (banked_with rest c.round.new.regs c.args.bank c.round.new.flags) ≡ true) = λ rest. again_says c.args.f c.loop-why.left (banked_with rest c.round.new.regs c.args.bank c.round.new.flags)
    (sym (c.again.ensures rest) ∙ c.if-again.true) in
    let h = (goes zero_state).0 in omega (arith, h)

pub loop-why-preserved : goal.loop-why-preserved
loop-why-preserved c =
    let goes : (rest : State) → (0 < c.loop-why.left) × (goes_on c.args.f (banked_with rest c.round.new.regs c.args.bank c.round.new.flags) ≡ true) = λ rest. again_says c.args.f c.loop-why.left (banked_with rest c.round.new.regs c.args.bank c.round.new.flags)
    (sym (c.again.ensures rest) ∙ c.if-again.true) in
    let stays : c.in_rom.result ≡ true = let h = (goes zero_state).0 in
    let i = c.loop-why.invariant.0 in
    let p : 0 < c.rounds-most.result = omega (arith, h, i) in
    rounds_stay c.in_rom.result c.args.more.now (rw (← c.rounds-most.ensures) p) in
    let a = c.args in
    let l = c.loop-why in
    let r = c.round in
    let m = c.rounds-most.result in
    let h = (goes zero_state).0 in
    let k-rom = sym c.in_rom.ensures ∙ stays in
    let n : length r.new.ram ≡ length a.ram.now = r.auto.ram ∙ l.invariant.3 in
    let k : m - (l.left - 1) ≡ suc (m - l.left) = let i = l.invariant.0 in omega (arith, h, i) in (
      omega arith,
      l.invariant.1,
      l.invariant.2,
      n,
      rom_same a.ram.now a.rom.now a.at r.new.ram k-rom n,
      λ rest.
          let s = banked_at_with rest a.regs.now a.bank a.at a.flags.now in
          ap (λ (x : ℕ). times_of x s a.ram.now a.rom.now) k
          ∙ round_again a.f a.at a.counter.now a.bank rest a.ram.now a.rom.now s c.requires (m - l.left) l.regs l.flags l.ram l.invariant.4 (l.invariant.5 rest) r.result r.new.regs r.new.flags r.new.ram (r.ensures (standing_at rest a.counter.now)) c.in_default.is
          (goes (standing_at rest a.counter.now)).1 (rom_below a.ram.now a.rom.now a.at k-rom),
    )

pub overflow_add-more-else-again : goal.overflow_add-more-else-again
overflow_add-more-else-again c =
    let few : c.rounds-most.result ≤ c.args.more.now = rw c.rounds-most.ensures (rounds_few c.in_rom.result c.args.more.now) in
    let h = c.loop-why.invariant.0 in let k = few in omega (arith, h, k)

pub shape_of-ram-else-again : goal.shape_of-ram-else-again
shape_of-ram-else-again c = c.round.auto.ram ∙ c.loop-why.invariant.3

pub returns-else-again : goal.returns-else-again
returns-else-again c =
    let few : c.rounds-most.result ≤ c.args.more.now = rw c.rounds-most.ensures (rounds_few c.in_rom.result c.args.more.now) in
    let done_of : (rest : State) → c.round.result ≡ Ok tt → times_of (suc (c.rounds-most.result - c.loop-why.left)) (banked_at_with rest c.args.regs.now c.args.bank c.args.at c.args.flags.now) c.args.ram.now c.args.rom.now ≡ did (ends_at c.args.f c.args.at (banked_at_with rest c.round.new.regs c.args.bank c.args.counter.now c.round.new.flags)) c.round.new.ram = λ rest d. let a = c.args in
    let l = c.loop-why in
    round_done a.f a.at a.counter.now a.bank rest a.ram.now a.rom.now (banked_at_with rest a.regs.now a.bank a.at a.flags.now) c.requires (c.rounds-most.result - l.left) l.regs l.flags l.ram l.invariant.4 (l.invariant.5 rest) c.round.result c.round.new.regs c.round.new.flags c.round.new.ram (c.round.ensures (standing_at rest a.counter.now)) d in
    let a = c.args in
    let l = c.loop-why in
    let r = c.round in
    let m = c.rounds-most.result in
    let h = l.invariant.0 in
    let i = few in
    let k : m - l.left ≡ a.more.now - (a.more.now - m + l.left) = omega (arith, h, i) in record {
      fewer = omega (arith, h, i);
      does = λ rest.
          let s = banked_at_with rest a.regs.now a.bank a.at a.flags.now in
          let p = banked_at_with rest a.regs.now a.bank a.counter.now a.flags.now in
          ap (λ (x : State). after (Ok tt) x r.new.ram) (c.ended.ensures rest ∙ ap (λ (x : ℕ). ends_at a.f a.at (banked_at_with rest r.new.regs a.bank x r.new.flags)) l.invariant.2)
          ∙ ap (leaves p a.ram.now) (sym (done_of rest c.in_default.is))
          ∙ ap (λ (x : ℕ). leaves p a.ram.now (times_of (suc x) s a.ram.now a.rom.now)) k;
    }
