-- What is done is not refused.
use Rattle.std.proofs.Common.{◌≡◌, Ok, Err}
use Rattle.answer.specs.Number.{Answer}
use Rattle.answer.specs.declared.Why.{Why}

pub not_refused : {A : Type 0} {a : Answer} {w : Why} → a ≡ Ok tt → a ≡ Err w → A
not_refused e f = absurd cc
