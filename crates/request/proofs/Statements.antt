-- What a user may hold an offer to, proved.
use Rattle.std.proofs.Common.{◌≡◌, ℕ, ◌≤◌, Bool, true, false, cond, eqb, leb, sym, refl, ap, ◌∙◌, arith, eqb-true, le-leb, leb-true}
use borrow.Author.Tests.{lt-leb, eqb-false}
use Rattle.state.proofs.Valid.{valid_says}
use Rattle.operand.specs.Try.{Outcome}
use Rattle.request.specs.Request.{takes}
use Rattle.request.specs.Statements.{Settled, SevenAlways, OnlySeven, TakenFrom}

-- the mask that counts: it is reached, or it is not
counts_below : (mask level : ℕ) → mask ≤ level → 1 ≤ level → takes mask level ≡ true
unfolding takes
counts_below mask level h k = go (eqb mask 0)
  where
    go : (b : Bool) → leb (cond b 1 mask) level ≡ true
    go true = le-leb 1 level k
    go false = le-leb mask level h

counts_from : (mask level : ℕ) → takes mask level ≡ true → (mask ≤ level) × (1 ≤ level)
unfolding takes
counts_from mask level e = go (eqb mask 0) refl e
  where
    go : (b : Bool) → eqb mask 0 ≡ b → leb (cond b 1 mask) level ≡ true → (mask ≤ level) × (1 ≤ level)
    go true f g = let h = leb-true 1 level g in let z = eqb-true mask 0 f in (omega arith, h)
    go false f g = let h = leb-true mask level g in let z = eqb-false mask 0 f in (h, omega arith)

pub taken_from : TakenFrom
taken_from mask level = (counts_from mask level, λ h. counts_below mask level h.0 h.1)

pub seven_always : SevenAlways
seven_always s v = counts_below s.level.0 7 (omega (arith, (valid_says s v).level)) (omega arith)

pub only_seven : OnlySeven
unfolding takes
only_seven level h = lt-leb 7 level h

pub settled : Settled
settled level address s ram rom r q m n e f =
    let o = e.0 ∙ sym f.0 in (
      (λ i. record { state = (o i).state; taken = (e.1 ∙ sym f.1) i; answer = (o i).answer }),
      ap (λ (x : Outcome). x.ram) o,
    )
