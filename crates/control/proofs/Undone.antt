-- What undoes what (specs/Undone.antt), proved.
use Rattle.std.proofs.Common.{◌≡◌, ℕ, List, refl, ap, arith}
use Rattle.state.specs.declared.State.{State}
use Rattle.state.specs.State.{banked, with_bank, with_both_flags}
use Rattle.operand.specs.Try.{did}
use Rattle.control.specs.Control.{control_of}
use Rattle.control.specs.Undone.{BanksUndone, ExchangeUndone}

-- a bank that comes back
same_bank : (s : State) (ram : List ℕ) (b : ℕ) → b ≡ s.bank.0 → did (banked s s.registers (record { 0 = b })) ram ≡ did s ram
same_bank s ram b e = ap (λ (n : ℕ). did (banked s s.registers (record { 0 = n })) ram) e

pub banks_undone : BanksUndone
unfolding control_of with_bank
banks_undone s h = (
  λ n m ram. (_, refl, same_bank s ram _ (omega arith)),
  λ n m ram. (_, refl, same_bank s ram _ (omega arith)),
)

pub exchange_undone : ExchangeUndone
unfolding control_of with_both_flags
exchange_undone s n m ram = (_, refl, refl)
