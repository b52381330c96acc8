use Rattle.std.proofs.Common.{◌≡◌, true, false, sym, refl, ap, ◌∙◌}
use Rattle.state.specs.State.{valid_of}
use Rattle.step.specs.Step.{guarded}
use Rattle.request.specs.Request.{bad_request, takes, offered_of, request_of, took_of}
use Rattle.request.proofs.Laws.{level_is, pushed_is, taken_by}
use Rattle.request.proofs.request.Goals as goal

pub returns-then-too_long : goal.returns-then-too_long
unfolding request_of took_of offered_of guarded
returns-then-too_long c = rw (c.untaken.ensures, sym c.too_long.ensures ∙ c.if-too_long.true) (refl, refl)

pub returns-then-not-valid : goal.returns-then-not-valid
unfolding request_of took_of offered_of guarded
returns-then-not-valid c = rw (c.untaken-then-not-valid.ensures, sym c.too_long.ensures ∙ c.if-too_long.false, (sym c.valid.ensures ∙ c.if-not-valid.true)) (refl, refl)

pub returns-then-bad : goal.returns-then-bad
unfolding request_of took_of offered_of guarded
returns-then-bad c = rw (c.untaken-then-bad.ensures, sym c.too_long.ensures ∙ c.if-too_long.false, (sym c.valid.ensures ∙ c.if-not-valid.false), sym c.bad.ensures ∙ c.if-bad.true) (refl, refl)

pub returns-then-admits : goal.returns-then-admits
returns-then-admits c =
    let a = c.args in
    let good : bad_request a.level a.vector ≡ false = sym c.bad.ensures ∙ c.if-bad.false in
    let n = level_is a.level a.vector good in
    let valid : valid_of a.s ≡ true = sym c.valid.ensures ∙ c.if-not-valid.false in
    let lets : takes a.s.level.0 a.level ≡ true = ap (takes a.s.level.0) (sym n) ∙ sym c.admits.ensures ∙ c.if-admits.true in
    taken_by a.level a.vector a.s a.ram.now a.rom.now c.take.result _
    (sym c.too_long.ensures ∙ c.if-too_long.false) valid good lets
    (rw (n, pushed_is a.s valid) at c.take.ensures)

pub returns : goal.returns
unfolding request_of took_of offered_of guarded
returns c =
    let a = c.args in
    let good : bad_request a.level a.vector ≡ false = sym c.bad.ensures ∙ c.if-bad.false in
    let out : takes a.s.level.0 a.level ≡ false = ap (takes a.s.level.0) (sym (level_is a.level a.vector good)) ∙ sym c.admits.ensures ∙ c.if-admits.false in
    rw (c.untaken-2.ensures, sym c.too_long.ensures ∙ c.if-too_long.false, (sym c.valid.ensures ∙ c.if-not-valid.false), good, out) (refl, refl)
