-- What a step at LDF leaves, proved.
use Prim.Native.Nat.{ℕ, ◌<◌, ◌≤◌, ◌%◌, ◌^◌}
use mathlib.Core.Path.{◌≡◌, refl, sym, ap, ◌∙◌}
use mathlib.Core.List.{List, [], ◌∷◌}
use native.Mathlib.Omega.{arith}
use lib.ListN.{length}
use borrow.Author.Tests.{lt-ltb}
use Rattle.little.specs.declared.Size.TheVariants.{Byte}
use Rattle.state.specs.State.{with_bank, with_counter, banked}
use Rattle.code.specs.declared.Op.{Op}
use Rattle.code.specs.declared.Op.TheVariants.{Controls}
use Rattle.code.specs.declared.Control.TheVariants.{Ldf}
use Rattle.code.specs.declared.Operand.TheVariants.{Constant}
use Rattle.code.specs.declared.Instruction.{Instruction}
use Rattle.code.specs.Rows.{by_rows}
use Rattle.code.specs.Listed.{up_to_seven_rows, first_rows, decode_of}
use Rattle.code.specs.Written.{code_of}
use Rattle.code.proofs.Exact.{reads_back}
use Rattle.code.proofs.FirstRows.{first}
use Rattle.code.proofs.Judge.{run_unlisted}
use Rattle.code.proofs.Says.{Lists, byte}
use Rattle.control.specs.Control.{control_of}
use Rattle.exec.specs.Exec.{past_of, effect_of, executed_of}
use Rattle.step.specs.Show.{show_answer_of, shown_of}
use Rattle.facts.specs.Banks.{LdfSelects, LdfModuloFour, LdfShown}
use Rattle.facts.proofs.Statements.{not_long, step_judged, step_whole}
use Rattle.std.proofs.Common.{Ok, Err}
use Rattle.code.specs.declared.Unread.TheVariants.{Unlisted}

-- LDF n
abbrev ldf : ℕ → Instruction
ldf n = record { op = Controls Ldf; size = Byte; operand = Constant n; length = 2 }

-- its bytes are that instruction, whatever comes after them
is_ldf : (n : ℕ) (rest : List ℕ) → n < 8 → decode_of (0x17 ∷ n ∷ rest) ≡ Ok (ldf n)
unfolding code_of
is_ldf n rest h = reads_back (Controls Ldf) Byte (Constant n) rest (rw (lt-ltb n 8 h) refl)

-- an operation and a byte past 07 is not listed
pub past_seven : (op : Op) (b : ℕ) → Lists first_rows b (by_rows (up_to_seven_rows op)) → (n : ℕ) (rest : List ℕ) → 8 ≤ n → decode_of (b ∷ n ∷ rest) ≡ Err Unlisted
unfolding decode_of up_to_seven_rows
past_seven op b e n rest h = (byte first_rows b e).judged [] (n ∷ rest) ∙ sym (run_unlisted 7 _ (b ∷ n ∷ rest) 1 (omega arith) (omega arith))

no_ldf : (n : ℕ) (rest : List ℕ) → 8 ≤ n → decode_of (0x17 ∷ n ∷ rest) ≡ Err Unlisted
unfolding first
no_ldf = past_seven (Controls Ldf) 0x17 refl

pub ldf_selects : LdfSelects
unfolding past_of with_counter executed_of effect_of control_of with_bank
ldf_selects s ram rom rest n p e = (
  λ h. step_whole s ram rom (ldf n) p (ap decode_of e ∙ is_ldf n rest h),
  λ h. step_judged s ram rom (Err Unlisted) (not_long (length ram) (length rom) p.0.0 p.0.1) p.1 (ap decode_of e ∙ no_ldf n rest h),
)

pub ldf_modulo_four : LdfModuloFour
ldf_modulo_four s ram rom rest ram' rom' rest' n h p p' e e' =
    let twice : n % 4 % 4 ≡ n % 4 = omega arith in
    (banked (past_of 2 s) s.registers (record { 0 = n % 4 }), (ldf_selects s ram rom rest n p e).0 h, rw twice at ((ldf_selects s ram' rom' rest' (n % 4) p' e').0 (omega arith)))

pub ldf_shown : LdfShown
unfolding show_answer_of shown_of
ldf_shown ram rom rest at n w l e =
    let short = not_long (length ram) (length rom) w.0 w.1 in
    let there = lt-ltb at (2 ^ 24) l in
    (λ h. rw (short, there, e, is_ldf n rest h) (refl, refl), λ h. rw (short, there, e, no_ldf n rest h) refl)
