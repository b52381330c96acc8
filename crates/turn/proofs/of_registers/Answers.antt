use Prim.Native.Nat.{◌≤◌}
use mathlib.Core.Path.{refl, sym, ap, ◌∙◌}
use lib.ListN.{length}
use Rattle.code.specs.Rows.{lookup}
use Rattle.code.specs.Registers.{register_rows}
use Rattle.code.specs.inner.Parts.{longer}
use Rattle.code.proofs.Later.{part_later}
use Rattle.operand.specs.inner.Placed.{BeginsAt}
use Rattle.operand.proofs.Placed.{chosen_at}
use Rattle.turn.proofs.Named.{form_done}
use Rattle.turn.proofs.of_registers.Goals as goal

pub slice_bounds-behind-count : goal.slice_bounds-behind-count
slice_bounds-behind-count c =
    let in_code : c.in-Register.n ≤ length c.args.code.now = rw c.in-Register.is at c.begin.ensures.chooses.1 in
    in_code

pub slice_bounds-behind-start : goal.slice_bounds-behind-start
slice_bounds-behind-start c =
    let in_code : c.in-Register.n ≤ length c.args.code.now = rw c.in-Register.is at c.begin.ensures.chooses.1 in
    in_code

pub returns-in-Register : goal.returns-in-Register
returns-in-Register c rest ram rom =
    let in_code : c.in-Register.n ≤ length c.args.code.now = rw c.in-Register.is at c.begin.ensures.chooses.1 in
    let there : BeginsAt c.args.bank c.size_by-size.result c.in-Register.operand c.field-r.result = let chosen = rw c.in-Register.is at c.begin.ensures.chooses.0 in
    rw c.field-r.ensures (chosen_at _ _ _ chosen) in
    let a = c.args in
    let o = c.in-Register.operand in
    let n = c.in-Register.n in
    let z = c.size_by-size.result in
    let read = c.read-read in
    let begun = rw c.in-Register.is at c.begin.ensures.code_value in
    let says = lookup (register_rows z o) in
    let work = c.of_register-a in
    rw (c.back.ensures.0, c.back.ensures.1, ← c.size_by-size.ensures)
    (form_done rest a.regs.now a.bank a.counter.now a.flags.now ram rom z o n read.result _ _ work.result _
    (sym begun ∙ (sym (part_later n a.code.now in_code says) ∙ ap (longer n) (sym (read.ensures o))))
    (rw c.past_name.ensures at (work.ensures o there rest ram rom)))

pub returns-in-Short : goal.returns-in-Short
returns-in-Short c rest ram rom = rw (← c.size_by-size.ensures, ← (rw c.in-Short.is at c.begin.ensures.code_value)) refl

pub returns-in-Unlisted : goal.returns-in-Unlisted
returns-in-Unlisted c rest ram rom = rw (← c.size_by-size.ensures, ← (rw c.in-Unlisted.is at c.begin.ensures.code_value)) refl
