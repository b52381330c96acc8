-- Banks, the interrupt level, flags and jumps: what changes these and the counter alone.
use Rattle.std.specs.Prelude.{ℕ, ◌+◌, cond, List}
use Rattle.flags.specs.{Condition.holds_of, Condition.reads_marked, Flag.rcf_of, Flag.scf_of, Flag.ccf_of, Flag.zcf_of}
use Rattle.answer.specs.declared.Why.TheVariants.{Undefined}
use Rattle.state.specs.{declared.State.State, State.with_bank, State.with_level, State.with_counter}
use Rattle.code.specs.declared.Control.{Control}
use Rattle.code.specs.declared.Control.TheVariants.{Nop, Incf, Decf, Ldf, Rcf, Scf, Ccf, Zcf, Exf, Jp16, Jp24, Jr, Jrl, Ei}
use Rattle.operand.specs.{Try.Try, Try.did, Try.no, Flag.flags_in, Flag.flagged, Flag.exchanged, Operand.displaced}

-- 8 where the condition cc reads a marked flag; else the counter is `to` where cc holds, and stays past the jump where it does not
unfoldable pub jump_of : State → List ℕ → ℕ → ℕ → Try
jump_of s ram cc to =
    cond (reads_marked (flags_in s) cc) (no Undefined) (did (cond (holds_of (flags_in s) cc) (with_counter s to) s) ram)

-- what each does, with the number n that is its operand; the state is past the instruction
unfoldable pub control_of : Control → ℕ → State → List ℕ → Try
control_of Nop n s ram = did s ram
control_of Incf n s ram = did (with_bank s (s.bank.0 + 1)) ram
control_of Decf n s ram = did (with_bank s (s.bank.0 + 3)) ram
control_of Ldf n s ram = did (with_bank s n) ram
control_of Rcf n s ram = did (flagged s (rcf_of (flags_in s))) ram
control_of Scf n s ram = did (flagged s (scf_of (flags_in s))) ram
control_of Ccf n s ram = did (flagged s (ccf_of (flags_in s))) ram
control_of Zcf n s ram = did (flagged s (zcf_of (flags_in s))) ram
control_of Exf n s ram = did (exchanged s) ram
control_of Jp16 n s ram = did (with_counter s n) ram
control_of Jp24 n s ram = did (with_counter s n) ram
control_of (Jr cc) n s ram = jump_of s ram cc (displaced 8 s.counter n)
control_of (Jrl cc) n s ram = jump_of s ram cc (displaced 16 s.counter n)
control_of Ei n s ram = did (with_level s n) ram
