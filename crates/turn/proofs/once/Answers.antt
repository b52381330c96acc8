use mathlib.Core.Path.{refl, ap, sym, ◌∙◌}
use native.Mathlib.Omega.{arith}
use lib.ListN.{get_or}
use Rattle.code.specs.declared.MemoryForm.{MemoryForm}
use Rattle.code.specs.declared.Begun.{Begun}
use Rattle.code.specs.Listed.{decode_of}
use Rattle.code.specs.inner.Parts.{begun_as}
use Rattle.state.specs.inner.Lent.{all_of}
use Rattle.operand.specs.Try.{leaves}
use Rattle.operand.specs.Operand.{address_in}
use Rattle.turn.proofs.Times.{fewer_same}
use Rattle.turn.proofs.First.{none_says, alone_says, register_says, memory_says, once_by}
use Rattle.turn.proofs.once.Goals as goal
use Rattle.std.proofs.Common.{Err}
use Rattle.code.specs.declared.Unread.TheVariants.{Short, Unlisted}

pub returns-then-code-eq0 : goal.returns-then-code-eq0
returns-then-code-eq0 c = record {
  fewer = refl;
  does = let a = c.args in
      let code = c.fetch-code.result.now in
      let s = all_of a.regs.now a.counter.now a.bank.now a.level.now a.flags.now a.spare.now a.nesting.now in
      ap (leaves s a.ram.now) (once_by s a.ram.now a.rom.now code (Err Short) a.more.now c.fetch-code.ensures.result_value (none_says code (omega (arith, c.if-code-eq0.true))));
}

pub returns-then-b-lt128 : goal.returns-then-b-lt128
returns-then-b-lt128 c = record {
  fewer = fewer_same c.alone.result c.args.more.now;
  does = let a = c.args in
      let code = c.fetch-code.result.now in
      let s = all_of a.regs.now a.counter.now a.bank.now a.level.now a.flags.now a.spare.now a.nesting.now in
      c.alone.ensures
      ∙ ap (leaves s a.ram.now) (once_by s a.ram.now a.rom.now code _ a.more.now c.fetch-code.ensures.result_value (alone_says code (omega (arith, c.if-code-eq0.false)) c.if-b-lt128.true ∙ sym c.read-read.ensures));
}

pub returns-then-begins : goal.returns-then-begins
returns-then-begins c = record {
  fewer = fewer_same c.of_registers.result c.args.more.now;
  does = let a = c.args in
      let code = c.fetch-code.result.now in
      let s = all_of a.regs.now a.counter.now a.bank.now a.level.now a.flags.now a.spare.now a.nesting.now in
      (rw c.current-bank.ensures at (c.of_registers.ensures s a.ram.now a.rom.now))
      ∙ ap (leaves s a.ram.now)
      (once_by s a.ram.now a.rom.now code _ a.more.now c.fetch-code.ensures.result_value
      (register_says code (omega (arith, c.if-code-eq0.false)) (omega arith) (sym c.begins.ensures ∙ c.if-begins.true)));
}

pub of_memory-requires : goal.of_memory-requires
unfolding address_in
of_memory-requires c =
    let code = c.fetch-code.result.now in
    let m : MemoryForm = record { base = c.in-Form.base; number = c.in-Form.v } in
    let d = memory_says code (omega (arith, c.if-code-eq0.false)) (omega (arith, c.if-b-lt128.false)) (omega arith) (sym c.begins.ensures ∙ c.if-begins.false) in
    (m, ap decode_of (sym c.fetch-code.ensures.result_value) ∙ (d ∙ (sym c.begin.ensures ∙ (ap (λ (x : Begun). begun_as x (get_or code 0 0) code) c.in-Form.is ∙ sym (c.after-read.ensures m)))), c.address-at.ensures)

pub returns-in-Form : goal.returns-in-Form
returns-in-Form c = record {
  fewer = c.of_memory.ensures.fewer;
  does = let a = c.args in
      let s = all_of a.regs.now a.counter.now a.bank.now a.level.now a.flags.now a.spare.now a.nesting.now in
      rw c.current-bank.ensures at (c.of_memory.ensures.does s);
}

pub returns-in-Short : goal.returns-in-Short
returns-in-Short c = record {
  fewer = refl;
  does = let a = c.args in
      let code = c.fetch-code.result.now in
      let s = all_of a.regs.now a.counter.now a.bank.now a.level.now a.flags.now a.spare.now a.nesting.now in
      let d = memory_says code (omega (arith, c.if-code-eq0.false)) (omega (arith, c.if-b-lt128.false)) (omega arith) (sym c.begins.ensures ∙ c.if-begins.false) in
      ap (leaves s a.ram.now)
      (once_by s a.ram.now a.rom.now code (Err Short) a.more.now c.fetch-code.ensures.result_value (d ∙ (sym c.begin.ensures ∙ ap (λ (x : Begun). begun_as x (get_or code 0 0) code) c.in-Short.is)));
}

pub returns-in-Unlisted : goal.returns-in-Unlisted
returns-in-Unlisted c = record {
  fewer = refl;
  does = let a = c.args in
      let code = c.fetch-code.result.now in
      let s = all_of a.regs.now a.counter.now a.bank.now a.level.now a.flags.now a.spare.now a.nesting.now in
      let d = memory_says code (omega (arith, c.if-code-eq0.false)) (omega (arith, c.if-b-lt128.false)) (omega arith) (sym c.begins.ensures ∙ c.if-begins.false) in
      ap (leaves s a.ram.now)
      (once_by s a.ram.now a.rom.now code (Err Unlisted) a.more.now c.fetch-code.ensures.result_value (d ∙ (sym c.begin.ensures ∙ ap (λ (x : Begun). begun_as x (get_or code 0 0) code) c.in-Unlisted.is)));
}
