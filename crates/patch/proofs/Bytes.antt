-- INC of a byte does not merge (specs/Patches.antt), proved.
use Prim.Native.Nat.{ℕ, ◌^◌, ◌≤◌}
use mathlib.Core.Path.{◌≡◌, refl, sym, ap, ◌∙◌}
use mathlib.Core.List.{[], ◌∷◌}
use mathlib.Core.Bool.{true, false}
use native.Mathlib.Omega.{arith}
use lib.ListN.{length}
use Rattle.little.specs.declared.Size.TheVariants.{Byte}
use Rattle.flags.specs.declared.Flags.{Flags}
use Rattle.flags.specs.Width.{one as bit}
use Rattle.alu.specs.declared.change.Change.TheVariants.{Inc}
use Rattle.alu.specs.Change.{changed}
use Rattle.alu.specs.Twice.{changed_twice}
use Rattle.alu.proofs.Twice.{byte_counts_differ}
use Rattle.state.specs.declared.State.{State}
use Rattle.state.specs.State.{zero_state, with_counter}
use Rattle.state.specs.Named.{held_in, with_held}
use Rattle.state.specs.Sound.{Sound}
use Rattle.state.proofs.Valid.{valid_zero}
use Rattle.state.proofs.Sound.{fits, sound_by}
use Rattle.code.specs.declared.Operand.TheVariants.{Register}
use Rattle.code.specs.Range.{InRegisters}
use Rattle.code.specs.Written.{code_of}
use Rattle.operand.specs.Flag.{flags_in}
use Rattle.facts.proofs.Kept.{Whole, whole_kept}
use Rattle.patch.specs.Patches.{inc_code, BytesDoNotMerge}
use Rattle.patch.proofs.Pieces.{fit_one, fit_two, valid_of_lem, piece_settled}
use Rattle.patch.proofs.Parts.{code_in, part, part_stays, held_back}
use Rattle.patch.proofs.Changes.{resulting, left_flags, held, twice_in, changed_piece, twice_piece}

-- A holds 0FH, and all else is zero
fifteen : State
fifteen = with_held zero_state (part zero_state Byte (Register 1)) 0x0F

zero_sound : Sound zero_state
unfolding zero_state fits
zero_sound = sound_by zero_state tt

fifteen_whole : Whole fifteen
unfolding fifteen
fifteen_whole = whole_kept.parts zero_state Byte (code_in Byte (Register 1)) 0x0F (valid_zero, zero_sound)

a_register : InRegisters Byte (Register 1)
a_register = omega arith

fifteen_held : held Byte (Register 1) a_register fifteen ≡ 0x0F
unfolding fifteen
fifteen_held =
    ap (held_in fifteen.registers) (part_stays zero_state (part zero_state Byte (Register 1)) 0x0F Byte (Register 1))
    ∙ held_back zero_state Byte (Register 1) a_register zero_sound 0x0F (omega arith)

short : (n : ℕ) → length (inc_code Byte (Register 1) n) ≤ 2 ^ 16
unfolding code_of
short n = omega arith

-- H after 0FH by one and by one, and by two
bytes_differ : (x : ℕ) (old : Flags) → x ≡ 0x0F → (changed_twice (Inc 1) (Inc 1) 8 x old).flags ≡ (changed (Inc 2) 8 x old).flags → ⊥
bytes_differ x old e f =
    let g : (changed_twice (Inc 1) (Inc 1) 8 0x0F old).flags ≡ (changed (Inc 2) 8 0x0F old).flags = rw e at f in
    let d = (byte_counts_differ old).h in
    let b : false ≡ true = sym d.0 ∙ ap (λ (y : Flags). y.h) g ∙ d.1 in
    let n : ◌≡◌ {A = ℕ} 0 1 = ap bit b in
    omega arith

pub bytes_do_not_merge : BytesDoNotMerge
unfolding with_counter
bytes_do_not_merge same =
    let s = fifteen in
    let w = fifteen_whole in
    let inc = inc_code Byte (Register 1) in
    let (t, p, q) = same s w.1 (valid_of_lem s w) in
    let here = part s Byte (Register 1) in
    let x = held Byte (Register 1) a_register s in
    let r = changed_twice (Inc 1) (Inc 1) 8 x (flags_in s) in
    let u = changed (Inc 2) 8 x (flags_in s) in
    let e = piece_settled (inc 1 ∷ inc 1 ∷ []) s t (resulting s here r) (fit_two (inc 1) (inc 1) (short 1) (short 1)) p
    (twice_piece Byte (Register 1) a_register (Inc 1) (Inc 1) s (resulting s here r) (omega arith) (omega arith) w (twice_in Byte (Register 1) a_register (Inc 1) (Inc 1) s w.1)) in
    let f = piece_settled (inc 2 ∷ []) s t (resulting s here u) (fit_one (inc 2) (short 2)) q (changed_piece Byte (Register 1) a_register (Inc 2) s (resulting s here u) (omega arith) w refl) in
    bytes_differ x (flags_in s) fifteen_held (sym (left_flags s here r) ∙ ap flags_in (sym e ∙ f) ∙ left_flags s here u)
