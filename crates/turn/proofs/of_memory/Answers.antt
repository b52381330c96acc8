use Prim.Native.Nat.{suc, ◌+◌, ◌-◌, ◌%◌, ◌^◌}
use mathlib.Core.Path.{◌≡◌, refl, ap, ◌∙◌}
use Rattle.memory.specs.Access.{code_at}
use Rattle.code.specs.declared.OfMemory.{OfMemory}
use Rattle.code.specs.inner.Parts.{memory_as}
use Rattle.state.specs.State.{with_counter, with_flags, with_both_flags}
use Rattle.state.specs.inner.Lent.{banked_at_with, standing_at}
use Rattle.operand.specs.Try.{leaves}
use Rattle.operand.specs.Operand.{value_in}
use Rattle.operand.specs.Flag.{flagged}
use Rattle.compute.specs.Compute.{puts_of}
use Rattle.compute.specs.inner.Form.{loaded_from, stored_to, first_with, second_with}
use Rattle.exec.specs.Exec.{past_of, effect_of, executed_of, done}
use Rattle.turn.specs.inner.Times.{times_of}
use Rattle.exec.proofs.Laws.{returned, moved_on}
use Rattle.turn.proofs.Times.{fewer_same, stands_form}
use Rattle.turn.proofs.First.{once_by}
use Rattle.turn.proofs.of_memory.Goals as goal
use Rattle.std.proofs.Common.{Err}
use Rattle.code.specs.declared.Unread.TheVariants.{Short, Unlisted}

pub block-a-requires : goal.block-a-requires
block-a-requires c =
    let a = c.args in
    stands_form c.in-Blocks.f _ _ c.in-Blocks.n a.counter.now _ a.ram.now a.rom.now (c.requires.1 ∙ ap (λ (x : OfMemory). memory_as x c.requires.0) c.in-Blocks.is) c.past.ensures

pub returns-in-Load : goal.returns-in-Load
unfolding executed_of effect_of puts_of value_in past_of with_counter
returns-in-Load c = record {
  fewer = fewer_same c.on.result c.args.more.now;
  does = λ rest.
      let a = c.args in
      let n = c.in-Load.n in
      let s = banked_at_with rest a.regs.now a.bank a.counter.now a.flags.now in
      let u = banked_at_with rest c.load-a.new.regs a.bank a.counter.now a.flags.now in
      let p = standing_at rest ((a.counter.now + n) % 2 ^ 24) in
      let q = banked_at_with p a.regs.now a.bank ((a.counter.now + n) % 2 ^ 24) a.flags.now in
      let t = loaded_from c.in-Load.r a.at c.in-Load.size q a.ram.now a.rom.now in
      let e : t ≡ done (memory_as a.read c.requires.0) s a.ram.now a.rom.now = rw (c.in-Load.is, c.requires.2) refl in
      rw (c.on.ensures.0, c.on.ensures.1)
      (moved_on s n a.ram.now c.load-a.result u a.ram.now t (c.load-a.ensures q)
      ∙ ap (leaves s a.ram.now) (e ∙ once_by s a.ram.now a.rom.now (code_at a.ram.now a.rom.now a.counter.now) _ a.more.now refl c.requires.1));
}

pub returns-in-From : goal.returns-in-From
unfolding executed_of effect_of puts_of value_in past_of with_counter
returns-in-From c = record {
  fewer = fewer_same c.on-in-From.result c.args.more.now;
  does = λ rest.
      let a = c.args in
      let n = c.in-From.n in
      let s = banked_at_with rest a.regs.now a.bank a.counter.now a.flags.now in
      let u = banked_at_with rest a.regs.now a.bank a.counter.now a.flags.now in
      let p = standing_at rest ((a.counter.now + n) % 2 ^ 24) in
      let q = banked_at_with p a.regs.now a.bank ((a.counter.now + n) % 2 ^ 24) a.flags.now in
      let t = stored_to c.in-From.r a.at c.in-From.size q a.ram.now a.rom.now in
      let e : t ≡ done (memory_as a.read c.requires.0) s a.ram.now a.rom.now = rw (c.in-From.is, c.requires.2) refl in
      rw (c.on-in-From.ensures.0, c.on-in-From.ensures.1)
      (moved_on s n a.ram.now c.store-a.result u c.store-a.new.ram t (c.store-a.ensures q)
      ∙ ap (leaves s a.ram.now) (e ∙ once_by s a.ram.now a.rom.now (code_at a.ram.now a.rom.now a.counter.now) _ a.more.now refl c.requires.1));
}

pub returns-in-Compute : goal.returns-in-Compute
unfolding executed_of effect_of puts_of value_in past_of with_counter
returns-in-Compute c = record {
  fewer = fewer_same c.on-in-Compute.result c.args.more.now;
  does = λ rest.
      let a = c.args in
      let n = c.in-Compute.n in
      let s = banked_at_with rest a.regs.now a.bank a.counter.now a.flags.now in
      let u = banked_at_with rest c.first-a.new.regs a.bank a.counter.now c.first-a.new.flags in
      let p = standing_at rest ((a.counter.now + n) % 2 ^ 24) in
      let q = banked_at_with p a.regs.now a.bank ((a.counter.now + n) % 2 ^ 24) a.flags.now in
      let t = first_with c.in-Compute.op c.in-Compute.r a.at c.in-Compute.size q a.ram.now a.rom.now in
      let e : t ≡ done (memory_as a.read c.requires.0) s a.ram.now a.rom.now = rw (c.in-Compute.is, c.requires.2) refl in
      rw (c.on-in-Compute.ensures.0, c.on-in-Compute.ensures.1)
      (moved_on s n a.ram.now c.first-a.result u a.ram.now t (c.first-a.ensures p)
      ∙ ap (leaves s a.ram.now) (e ∙ once_by s a.ram.now a.rom.now (code_at a.ram.now a.rom.now a.counter.now) _ a.more.now refl c.requires.1));
}

pub returns-in-ComputeInto : goal.returns-in-ComputeInto
unfolding executed_of effect_of puts_of value_in past_of with_counter flagged with_flags with_both_flags
returns-in-ComputeInto c = record {
  fewer = fewer_same c.on-in-ComputeInto.result c.args.more.now;
  does = λ rest.
      let a = c.args in
      let n = c.in-ComputeInto.n in
      let s = banked_at_with rest a.regs.now a.bank a.counter.now a.flags.now in
      let u = banked_at_with rest a.regs.now a.bank a.counter.now c.second-a.new.flags in
      let p = standing_at rest ((a.counter.now + n) % 2 ^ 24) in
      let q = banked_at_with p a.regs.now a.bank ((a.counter.now + n) % 2 ^ 24) a.flags.now in
      let t = second_with c.in-ComputeInto.op c.in-ComputeInto.r a.at c.in-ComputeInto.size q a.ram.now a.rom.now in
      let e : t ≡ done (memory_as a.read c.requires.0) s a.ram.now a.rom.now = rw (c.in-ComputeInto.is, c.requires.2) refl in
      rw (c.on-in-ComputeInto.ensures.0, c.on-in-ComputeInto.ensures.1)
      (moved_on s n a.ram.now c.second-a.result u c.second-a.new.ram t (c.second-a.ensures p)
      ∙ ap (leaves s a.ram.now) (e ∙ once_by s a.ram.now a.rom.now (code_at a.ram.now a.rom.now a.counter.now) _ a.more.now refl c.requires.1));
}

pub returns-in-Blocks : goal.returns-in-Blocks
unfolding past_of with_counter
returns-in-Blocks c = record {
  fewer = rw c.back.ensures.0 c.block-a.ensures.fewer;
  does = λ rest.
      let a = c.args in
      let s = banked_at_with rest a.regs.now a.bank a.counter.now a.flags.now in
      rw (c.back.ensures.0, c.back.ensures.1)
      (returned s c.in-Blocks.n a.ram.now _ _ _ (times_of (suc (a.more.now - c.block-a.new.more)) s a.ram.now a.rom.now) (rw c.past.ensures at (c.block-a.ensures.does rest)));
}

pub returns-in-Short : goal.returns-in-Short
returns-in-Short c = record {
  fewer = refl;
  does = λ rest.
      let a = c.args in
      let s = banked_at_with rest a.regs.now a.bank a.counter.now a.flags.now in
      ap (leaves s a.ram.now) (once_by s a.ram.now a.rom.now (code_at a.ram.now a.rom.now a.counter.now) (Err Short) a.more.now refl (c.requires.1 ∙ ap (λ (x : OfMemory). memory_as x c.requires.0) c.in-Short.is));
}

pub returns-in-Unlisted : goal.returns-in-Unlisted
returns-in-Unlisted c = record {
  fewer = refl;
  does = λ rest.
      let a = c.args in
      let s = banked_at_with rest a.regs.now a.bank a.counter.now a.flags.now in
      ap (leaves s a.ram.now) (once_by s a.ram.now a.rom.now (code_at a.ram.now a.rom.now a.counter.now) (Err Unlisted) a.more.now refl (c.requires.1 ∙ ap (λ (x : OfMemory). memory_as x c.requires.0) c.in-Unlisted.is));
}
