use Prim.Native.Nat.{ℕ}
use lib.Seq.{length-take-le}
use lib.ListN.{length, take}
use lib.Dec.{eqb}
use mathlib.Core.Path.{◌≡◌, refl, ap, sym, ◌∙◌}
use mathlib.Core.Bool.{false}
use mathlib.Core.List.{List}
use borrow.Author.Tests.{lt-ltb, le-ltb, ne_eqb}
use Rattle.code.specs.Listed.{decode_of}
use Rattle.step.specs.Show.{shown_of, shown_from, length_in}
use Rattle.step.proofs.Laws.{length_there}
use Rattle.step.proofs.show.Goals as goal

pub returns-then-too_long : goal.returns-then-too_long
unfolding shown_of shown_from
returns-then-too_long c = rw (sym c.too_long.ensures ∙ c.if-too_long.true) (refl, refl)

pub returns-then-n-eq0 : goal.returns-then-n-eq0
unfolding shown_of shown_from
returns-then-n-eq0 c =
    rw (sym c.too_long.ensures ∙ c.if-too_long.false, lt-ltb _ _ c.if-at-lt-ADDRESSES.true, ap (λ (l : List ℕ). length_in (decode_of l)) (sym c.fetch-code.ensures.result_value) ∙ sym c.length_in-n.ensures ∙ c.if-n-eq0.true) (refl, refl)

pub slice_bounds-result-end-then-at-lt-ADDRESSES : goal.slice_bounds-result-end-then-at-lt-ADDRESSES
slice_bounds-result-end-then-at-lt-ADDRESSES c =
    let l = c.fetch-code.result.now in
    sym (length-take-le c.length_in-n.result l (rw c.length_in-n.ensures (length_there l)))

pub returns-then-at-lt-ADDRESSES : goal.returns-then-at-lt-ADDRESSES
unfolding shown_of shown_from
returns-then-at-lt-ADDRESSES c =
    let l = c.fetch-code.result.now in
    let n = c.length_in-n.result in
    let e : length (take n l) ≡ n = length-take-le n l (rw c.length_in-n.ensures (length_there l)) in
    let f : eqb (length (take n l)) 0 ≡ false = ap (λ (x : ℕ). eqb x 0) e ∙ ne_eqb n 0 c.if-n-eq0.false in
    let t = sym c.too_long.ensures ∙ c.if-too_long.false in
    let u = lt-ltb _ _ c.if-at-lt-ADDRESSES.true in
    rw (t, u, ← c.fetch-code.ensures.result_value, ← c.length_in-n.ensures, f) (refl, c.fetch-code.ensures.ref_ptr_value)

pub returns : goal.returns
unfolding shown_of shown_from
returns c = rw (sym c.too_long.ensures ∙ c.if-too_long.false, le-ltb _ _ c.if-at-lt-ADDRESSES.false) (refl, refl)
