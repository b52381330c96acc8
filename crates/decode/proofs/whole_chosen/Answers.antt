use Prim.Native.Nat.{◌≤◌}
use mathlib.Core.Path.{sym, ap, ◌∙◌}
use native.Mathlib.Omega.{arith}
use lib.ListN.{length}
use Rattle.code.specs.Rows.{lookup}
use Rattle.code.specs.Registers.{register_rows}
use Rattle.code.specs.inner.Parts.{longer}
use Rattle.code.proofs.Later.{part_later, part_within}
use Rattle.decode.proofs.whole_chosen.Goals as goal

pub slice_bounds-whole_behind-count : goal.slice_bounds-whole_behind-count
slice_bounds-whole_behind-count c =
    let in_code : c.in-Register.n ≤ length c.args.code.now = rw c.in-Register.is at c.begin.ensures.chooses.1 in
    in_code

pub slice_bounds-whole_behind-start : goal.slice_bounds-whole_behind-start
slice_bounds-whole_behind-start c =
    let in_code : c.in-Register.n ≤ length c.args.code.now = rw c.in-Register.is at c.begin.ensures.chooses.1 in
    in_code

pub behind-requires : goal.behind-requires
behind-requires c i e =
    let in_code : c.in-Register.n ≤ length c.args.code.now = rw c.in-Register.is at c.begin.ensures.chooses.1 in
    let s = c.args.code.now in
    omega (arith, part_within _ s in_code (lookup (register_rows c.size_by-size.result c.in-Register.operand)) i (sym c.whole_behind.ensures ∙ e))

pub returns-in-Register : goal.returns-in-Register
returns-in-Register c =
    let in_code : c.in-Register.n ≤ length c.args.code.now = rw c.in-Register.is at c.begin.ensures.chooses.1 in
    let s = c.args.code.now in
    let begun = rw c.in-Register.is at c.begin.ensures.code_value in
    rw (← c.size_by-size.ensures)
    (c.behind.ensures
    ∙ (ap (longer _) c.whole_behind.ensures
    ∙ (part_later _ s in_code (lookup (register_rows c.size_by-size.result c.in-Register.operand)) ∙ begun)))

pub returns-in-Short : goal.returns-in-Short
returns-in-Short c = rw (← c.size_by-size.ensures) (rw c.in-Short.is at c.begin.ensures.code_value)

pub returns-in-Unlisted : goal.returns-in-Unlisted
returns-in-Unlisted c = rw (← c.size_by-size.ensures) (rw c.in-Unlisted.is at c.begin.ensures.code_value)
