-- Flags that a shift does not read (specs/Patches.antt), proved.
use Prim.Native.Nat.{ℕ, zero, suc, ◌%◌}
use mathlib.Core.Path.{◌≡◌, refl, ap, ◌∙◌, subst}
use mathlib.Core.List.{[], ◌∷◌}
use native.Mathlib.Omega.{arith}
use Rattle.little.specs.declared.Size.{Size}
use Rattle.little.specs.Width.{bits_of}
use Rattle.flags.specs.declared.Flags.{Flags}
use Rattle.flags.specs.Flag.{rcf_of, scf_of, ccf_of, zcf_of}
use Rattle.flags.proofs.Fits.{Fits, carried_fits}
use Rattle.alu.specs.declared.Shift.{Shift}
use Rattle.alu.specs.declared.change.Change.TheVariants.{ShiftBy}
use Rattle.alu.specs.Change.{changed}
use Rattle.state.specs.declared.State.{State}
use Rattle.state.specs.State.{with_counter, with_flags, with_both_flags}
use Rattle.state.specs.Named.{with_held}
use Rattle.code.specs.declared.Operand.{Operand}
use Rattle.code.specs.declared.Control.{Control}
use Rattle.code.specs.declared.Control.TheVariants.{Rcf, Scf, Ccf, Zcf}
use Rattle.code.specs.Range.{InRegisters}
use Rattle.code.specs.Written.{code_of}
use Rattle.operand.specs.Flag.{flags_in, flagged}
use Rattle.control.specs.Control.{control_of}
use Rattle.exec.specs.Exec.{effect_of}
use Rattle.facts.proofs.Kept.{whole_kept}
use Rattle.patch.specs.Piece.{Makes, LeaveSame}
use Rattle.patch.specs.Patches.{shift_code, ShiftsReadNoFlag}
use Rattle.patch.proofs.Pieces.{one, two, whole}
use Rattle.patch.proofs.Parts.{part, held_flagged}
use Rattle.patch.proofs.Changes.{flagged_twice, held, changed_in, changed_makes}
use Rattle.patch.proofs.Turns.{turned, plain_code, Plain, plain_makes}

-- ---- the four that set flags alone
-- what one of them makes of the flags
record SetsFlags (what : Control) : Type 0 where
  plain : Plain what
  flags : Flags → Flags
  fits : (f : Flags) → Fits f → Fits (flags f)
  sets : (s : State) → turned what s ≡ flagged s (flags (flags_in s))

sets_four : SetsFlags Rcf × SetsFlags Scf × SetsFlags Ccf × SetsFlags Zcf
unfolding effect_of control_of flagged with_flags with_both_flags with_counter
sets_four = (
  record { plain = ((tt, omega arith), λ s at c ram rom. refl); flags = rcf_of; fits = λ f x. carried_fits f _ _ (omega arith) x; sets = λ s. refl },
  record { plain = ((tt, omega arith), λ s at c ram rom. refl); flags = scf_of; fits = λ f x. carried_fits f _ _ (omega arith) x; sets = λ s. refl },
  record { plain = ((tt, omega arith), λ s at c ram rom. refl); flags = ccf_of; fits = λ f x. carried_fits f _ _ (omega arith) x; sets = λ s. refl },
  record { plain = ((tt, omega arith), λ s at c ram rom. refl); flags = zcf_of; fits = λ f x. carried_fits f _ _ (omega arith) x; sets = λ s. refl },
)

-- ---- a shift after one of them
module _ (w : Shift) (z : Size) (o : Operand) (n : ℕ) (h : InRegisters z o) where
  forgotten : (s : State) (f : Flags) → changed_in z o h (ShiftBy w (n % 16)) (flagged s f) ≡ changed_in z o h (ShiftBy w (n % 16)) s
  unfolding flagged with_flags with_both_flags
  forgotten s f =
      let r = changed (ShiftBy w (n % 16)) (bits_of z) (held z o h s) (flags_in s) in
      ap (λ (x : State). flagged x r.flags) (held_flagged s f (part s z o) r.value) ∙ flagged_twice (with_held s (part s z o) r.value) f r.flags

  dropped : (what : Control) → SetsFlags what → LeaveSame (plain_code what ∷ shift_code w z o n ∷ []) (shift_code w z o n ∷ [])
  dropped what k s ok v =
      let g = whole s ok v in
      let f = k.flags (flags_in s) in
      let u = flagged s f in
      let t = changed_in z o h (ShiftBy w (n % 16)) s in
      let x = whole_kept.flags s f (k.fits (flags_in s) (whole_kept.fitting s g)) g in (
        t,
        two (plain_code what) (shift_code w z o n) s u t (subst (Makes (plain_code what) s) (k.sets s) (plain_makes what s k.plain g))
            (subst (Makes (shift_code w z o n) u) (forgotten s f) (changed_makes z o h (ShiftBy w (n % 16)) u (omega arith) x)),
        one (shift_code w z o n) s t (changed_makes z o h (ShiftBy w (n % 16)) s (omega arith) g),
      )

pub shifts_read_no_flag : ShiftsReadNoFlag
unfolding code_of
shifts_read_no_flag w z o n zero h l = dropped w z o n h Rcf sets_four.0
shifts_read_no_flag w z o n (suc zero) h l = dropped w z o n h Scf sets_four.1
shifts_read_no_flag w z o n (suc (suc zero)) h l = dropped w z o n h Ccf sets_four.2
shifts_read_no_flag w z o n (suc (suc (suc zero))) h l = dropped w z o n h Zcf sets_four.3
shifts_read_no_flag w z o n (suc (suc (suc (suc i)))) h l = absurd (omega arith)
