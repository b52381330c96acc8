-- Laws of the return from an interrupt.
use Rattle.std.proofs.Common.{◌≡◌, ℕ, ◌/◌, ◌%◌, ◌^◌, ◌<◌, sym, ap, ◌∙◌, ap₂, arith}
use Rattle.memory.specs.inner.Six.{six_from}
use Rattle.state.specs.declared.State.{State}
use Rattle.state.specs.State.{lent, nested, with_counter, with_nesting}
use Rattle.state.specs.inner.Lent.{ruled}
use Rattle.operand.specs.Round.{less}
use Rattle.interrupt.specs.Interrupt.{with_sr, returned}

-- the two numbers of six bytes, told apart again
pub six_low : (low high : ℕ) → low < 2 ^ 16 → six_from low high % 2 ^ 16 ≡ low
six_low low high h = omega arith

pub six_high : (low high : ℕ) → low < 2 ^ 16 → six_from low high / 2 ^ 16 ≡ high
six_high low high h = omega arith

-- RETI, with what it pops told apart
returned_six :
    (s : State) (low high : ℕ) → low < 2 ^ 16 →
    with_counter (with_sr (with_nesting s (less 16 s.nesting 1)) low) high ≡ returned s (six_from low high)
unfolding returned
returned_six s low high fits =
    let made : ℕ → ℕ → State = λ l h. with_counter (with_sr (with_nesting s (less 16 s.nesting 1)) l) h in
    ap₂ made (sym (six_low low high fits)) (sym (six_high low high fits))

-- what RETI leaves, from what its parts leave
pub returned_by :
    (s : State) (low high bank level flags nesting : ℕ) → low < 2 ^ 16 →
    ((t : State) → ruled t bank level flags ≡ with_sr (ruled t s.bank.0 s.level.0 s.flags) low) → nesting ≡ less 16 s.nesting 1 →
    lent (nested s level nesting) s.registers (high % 2 ^ 24) bank flags s.spare ≡ returned s (six_from low high)
unfolding with_counter with_nesting
returned_by s low high bank level flags nesting fits e n =
    let m : less 16 s.nesting 1 % 2 ^ 16 ≡ less 16 s.nesting 1 = omega arith in
    ap (λ (c : ℕ). with_counter (ruled (nested s s.level.0 c) bank level flags) high) (n ∙ sym m)
    ∙ ap (λ (t : State). with_counter t high) (e (with_nesting s (less 16 s.nesting 1)))
    ∙ returned_six s low high fits
