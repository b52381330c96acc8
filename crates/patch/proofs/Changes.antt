-- Changes of a register, one after the other: shifts, INC and DEC (specs/Patches.antt), proved.
use Prim.Native.Nat.{ℕ, zero, suc, ◌+◌, ◌%◌, ◌^◌, ◌<◌, ◌≤◌}
use mathlib.Core.Path.{◌≡◌, refl, ap, ◌∙◌, subst}
use mathlib.Core.List.{List, [], ◌∷◌}
use mathlib.Core.Bool.{true}
use mathlib.Core.Logic.{◌≢◌}
use native.Mathlib.Omega.{arith}
use native.Mathlib.Nat.{mod-eq_of_lt}
use lib.ListN.{replicate}
use Rattle.little.specs.declared.Size.{Size}
use Rattle.little.specs.declared.Size.TheVariants.{Byte, Word, Long}
use Rattle.little.specs.Width.{bits_of}
use Rattle.flags.specs.declared.Computed.{Computed}
use Rattle.flags.specs.declared.Flags.{Flags}
use Rattle.flags.specs.Flag.{keeping}
use Rattle.flags.specs.Width.{low}
use Rattle.flags.proofs.Packed.{unpacked}
use Rattle.flags.proofs.Widths.{bits_pos}
use Rattle.alu.specs.declared.change.Change.{Change}
use Rattle.alu.specs.declared.change.Change.TheVariants.{Inc, Dec, ShiftBy}
use Rattle.alu.specs.Change.{changed}
use Rattle.alu.specs.Twice.{changed_twice}
use Rattle.alu.specs.declared.Shift.TheVariants.{Sla, Sll}
use Rattle.alu.specs.Shift.{places_of}
use Rattle.alu.proofs.Shifting.{left_shifts_agree}
use Rattle.alu.proofs.Twice.{shifts_join, counts_join, counts_undone}
use Rattle.alu.proofs.Ranges.{changed_lt}
use Rattle.alu.proofs.Fits.{changed_fits}
use Rattle.state.specs.declared.State.{State}
use Rattle.state.specs.State.{with_counter, with_flags, with_both_flags}
use Rattle.state.specs.Named.{Bits, held_in, with_held}
use Rattle.state.specs.Sound.{Sound}
use Rattle.state.proofs.Valid.{Valid}
use Rattle.code.specs.declared.Operand.{Operand}
use Rattle.code.specs.declared.Op.TheVariants.{Puts}
use Rattle.code.specs.declared.Use.TheVariants.{Changed}
use Rattle.code.specs.Rows.{no_byte}
use Rattle.code.specs.Range.{Holds, change_range, InRegisters}
use Rattle.code.specs.Written.{code_of}
use Rattle.operand.specs.Try.{did}
use Rattle.operand.specs.Flag.{flags_in, flagged}
use Rattle.operand.proofs.Flags.{valid_packed}
use Rattle.compute.specs.Compute.{puts_of}
use Rattle.exec.specs.Exec.{effect_of}
use Rattle.facts.proofs.Kept.{Whole, whole_kept}
use Rattle.patch.specs.Piece.{Makes, PieceMakes, LeaveSame}
use Rattle.patch.specs.Patches.{ShiftsMerge, SlaIsSll, CountsMerge, OnesAreMany, CountsReturn}
use Rattle.patch.proofs.Pieces.{makes, one, two, nothing, whole, valid_of_lem}
use Rattle.patch.proofs.Parts.{code_in, part, value_is, put_is, part_stays, held_counter, held_flagged, held_lt, held_back, held_twice, held_same}

-- ---- changes of a register
-- a result put into a part, and the flags set
abbrev pub resulting : State → Bits → Computed → State
resulting s p r = flagged (with_held s p r.value) r.flags

pub left_flags : (s : State) (p : Bits) (r : Computed) → flags_in (resulting s p r) ≡ r.flags
unfolding flagged with_flags with_both_flags
left_flags s p r = unpacked r.flags

flags_counter : (s : State) (c : ℕ) (f : Flags) → flagged (with_counter s c) f ≡ with_counter (flagged s f) c
unfolding flagged with_flags with_both_flags with_counter
flags_counter s c f = refl

result_counter : (s : State) (c : ℕ) (p : Bits) (r : Computed) → with_held (flagged (with_counter s c) r.flags) p r.value ≡ with_counter (resulting s p r) c
result_counter s c p r =
    held_flagged (with_counter s c) r.flags p r.value
    ∙ ap (λ (x : State). flagged x r.flags) (held_counter s c p r.value)
    ∙ flags_counter (with_held s p r.value) c r.flags

pub flagged_twice : (s : State) (f g : Flags) → flagged (flagged s f) g ≡ flagged s g
unfolding flagged with_flags with_both_flags
flagged_twice s f g = refl

-- flags that are packed again
same_flags : (s : State) → Valid s → flagged s (flags_in s) ≡ s
unfolding flagged with_flags with_both_flags
same_flags s v = ap (λ (f : ℕ). with_both_flags s f s.spare) (valid_packed s.flags v.flags)

module _ (z : Size) (o : Operand) (h : InRegisters z o) where
  abbrev pub held : State → ℕ
  held s = held_in s.registers (part s z o)

  -- what a change makes of a state
  abbrev pub changed_in : Change → State → State
  changed_in how s = resulting s (part s z o) (changed how (bits_of z) (held s) (flags_in s))

  changed_effect : (how : Change) (s : State) (at c : ℕ) (ram rom : List ℕ) → effect_of (Puts (Changed how)) z o at (with_counter s c) ram rom ≡ did (with_counter (changed_in how s) c) ram
  unfolding effect_of puts_of with_counter flagged with_flags with_both_flags
  changed_effect how s at c ram rom =
      let r = changed how (bits_of z) (held s) (flags_in s) in
      rw (value_is (with_counter s c) ram rom z o h)
      (put_is (flagged (with_counter s c) r.flags) ram rom z o r.value h ∙ ap (λ (x : State). did x ram) (result_counter s c (part s z o) r))

  pub changed_makes : (how : Change) (s : State) → Holds (change_range how z) → Whole s → Makes (code_of (Puts (Changed how)) z o) s (changed_in how s)
  changed_makes how s r w = makes (Puts (Changed how)) z o s (changed_in how s) (r, h) (valid_of_lem s w) (changed_effect how s)

  changed_whole : (how : Change) (s : State) → Whole s → Whole (changed_in how s)
  changed_whole how s w =
      let r = changed how (bits_of z) (held s) (flags_in s) in
      whole_kept.flags (with_held s (part s z o) r.value) r.flags (changed_fits how (bits_of z) (held s) (flags_in s) (whole_kept.fitting s w))
      (whole_kept.parts s z (code_in z o) r.value w)

  -- what a result leaves: the part, and what it holds
  left_part : (s : State) (r : Computed) → part (resulting s (part s z o) r) z o ≡ part s z o
  unfolding flagged with_flags with_both_flags
  left_part s r = part_stays s (part s z o) r.value z o

  left_held : (s : State) (r : Computed) → Sound s → r.value < 2 ^ bits_of z → held (resulting s (part s z o) r) ≡ r.value
  unfolding flagged with_flags with_both_flags
  left_held s r ok l =
      ap (held_in (with_held s (part s z o) r.value).registers) (left_part s r) ∙ held_back s z o h ok r.value l

  left_twice : (s : State) (r q : Computed) → Sound s → resulting (resulting s (part s z o) r) (part s z o) q ≡ resulting s (part s z o) q
  left_twice s r q ok =
      ap (λ (x : State). flagged x q.flags) (held_flagged (with_held s (part s z o) r.value) r.flags (part s z o) q.value)
      ∙ flagged_twice (with_held (with_held s (part s z o) r.value) (part s z o) q.value) r.flags q.flags
      ∙ ap (λ (x : State). flagged x q.flags) (held_twice s z o h ok r.value q.value)

  -- a change of what another one left
  pub twice_in : (first second : Change) (s : State) → Sound s → changed_in second (changed_in first s) ≡ resulting s (part s z o) (changed_twice first second (bits_of z) (held s) (flags_in s))
  twice_in first second s ok =
      let r = changed first (bits_of z) (held s) (flags_in s) in
      let l = changed_lt first z (held s) (flags_in s) in
      ap (λ (p : Bits). resulting (changed_in first s) p (changed second (bits_of z) (held (changed_in first s)) (flags_in (changed_in first s)))) (left_part s r)
      ∙ ap (λ (x : ℕ). resulting (changed_in first s) (part s z o) (changed second (bits_of z) x (flags_in (changed_in first s)))) (left_held s r ok l)
      ∙ ap (λ (f : Flags). resulting (changed_in first s) (part s z o) (changed second (bits_of z) r.value f)) (left_flags s (part s z o) r)
      ∙ left_twice s r (changed second (bits_of z) r.value r.flags) ok

  -- a change, and two of them, as pieces
  abbrev coded : Change → List ℕ
  coded how = code_of (Puts (Changed how)) z o

  pub changed_piece : (how : Change) (s t : State) → Holds (change_range how z) → Whole s → changed_in how s ≡ t → PieceMakes (coded how ∷ []) s t
  changed_piece how s t f w e = subst (PieceMakes (coded how ∷ []) s) e (one (coded how) s (changed_in how s) (changed_makes how s f w))

  pub twice_piece :
      (first second : Change) (s t : State) → Holds (change_range first z) → Holds (change_range second z) → Whole s →
      changed_in second (changed_in first s) ≡ t → PieceMakes (coded first ∷ coded second ∷ []) s t
  twice_piece first second s t f g w e =
      let u = changed_in first s in
      subst (PieceMakes (coded first ∷ coded second ∷ []) s) e
      (two (coded first) (coded second) s u (changed_in second u) (changed_makes first s f w) (changed_makes second u g (changed_whole first s w)))

  -- two changes that are a third one
  changes_merge :
      (first second both : Change) → Holds (change_range first z) → Holds (change_range second z) → Holds (change_range both z) →
      ((x : ℕ) (old : Flags) → changed_twice first second (bits_of z) x old ≡ changed both (bits_of z) x old) →
      LeaveSame (coded first ∷ coded second ∷ []) (coded both ∷ [])
  changes_merge first second both f g b e s ok v =
      let w = whole s ok v in
      let t = changed_in both s in (
        t,
        twice_piece first second s t f g w (twice_in first second s ok ∙ ap (resulting s (part s z o)) (e (held s) (flags_in s))),
        changed_piece both s t b w refl,
      )

  -- two changes that leave all as it was
  changes_return :
      (first second : Change) → Holds (change_range first z) → Holds (change_range second z) →
      ((x : ℕ) (old : Flags) → changed_twice first second (bits_of z) x old ≡ keeping old (low (bits_of z) x)) → LeaveSame (coded first ∷ coded second ∷ []) []
  changes_return first second f g e s ok v =
      let w = whole s ok v in
      let same : changed_in second (changed_in first s) ≡ s =
      twice_in first second s ok
      ∙ ap (resulting s (part s z o)) (e (held s) (flags_in s))
      ∙ ap (λ (x : ℕ). flagged (with_held s (part s z o) x) (flags_in s)) (mod-eq_of_lt (held_lt s z o h))
      ∙ ap (λ (x : State). flagged x (flags_in s)) (held_same s z o h ok)
      ∙ same_flags s w.0 in
      (s, twice_piece first second s s f g w same, nothing s)

-- ---- shifts
pub shifts_merge : ShiftsMerge
shifts_merge w z o a b h m =
    changes_merge z o h (ShiftBy w (a % 16)) (ShiftBy w (b % 16)) (ShiftBy w ((a + b) % 16)) (omega arith) (omega arith) (omega arith)
    (λ x old. shifts_join w (bits_of z) x a b old (bits_pos z) m)

pub sla_is_sll : SlaIsSll
sla_is_sll z o n h s ok v =
    let w = whole s ok v in
    let t = changed_in z o h (ShiftBy Sll (n % 16)) s in (
      t,
      changed_piece z o h (ShiftBy Sla (n % 16)) s t (omega arith) w (ap (resulting s (part s z o)) (left_shifts_agree (bits_of z) (held z o h s) (places_of (n % 16)))),
      changed_piece z o h (ShiftBy Sll (n % 16)) s t (omega arith) w refl,
    )

-- ---- INC and DEC
wide : (z : Size) → no_byte z ≡ true → bits_of z ≢ 8
wide Byte e = let y : ◌≡◌ {A = ℕ} 0 1 = cc in absurd (omega arith)
wide Word e = λ f. absurd (omega arith)
wide Long e = λ f. absurd (omega arith)

pub counts_merge : CountsMerge
counts_merge z o a b n h m = (
  changes_merge z o h (Inc (a % 8)) (Inc (b % 8)) (Inc ((a + b) % 8)) (omega arith) (omega arith) (omega arith) (λ x old. (counts_join (bits_of z) x a b old (wide z n) m).0),
  changes_merge z o h (Dec (a % 8)) (Dec (b % 8)) (Dec ((a + b) % 8)) (omega arith) (omega arith) (omega arith) (λ x old. (counts_join (bits_of z) x a b old (wide z n) m).1),
)

pub counts_return : CountsReturn
counts_return z o n w h = (
  changes_return z o h (Inc (n % 8)) (Dec (n % 8)) (omega arith) (omega arith) (λ x old. (counts_undone (bits_of z) x (n % 8) old (wide z w)).0),
  changes_return z o h (Dec (n % 8)) (Inc (n % 8)) (omega arith) (omega arith) (λ x old. (counts_undone (bits_of z) x (n % 8) old (wide z w)).1),
)

-- one at a time: a change by n is written `by n`, and one and then n is one more
module _ (z : Size) (o : Operand) (h : InRegisters z o) (by : ℕ → Change) (ranged : (n : ℕ) → Holds (change_range (by n) z))
    (joins : (x n : ℕ) (old : Flags) → 1 ≤ n → n ≤ 7 → changed_twice (by 1) (by n) (bits_of z) x old ≡ changed (by (suc n)) (bits_of z) x old) where
  one_by_one : (n : ℕ) (s : State) → n ≤ 7 → Whole s → PieceMakes (replicate (suc n) (coded z o h (by 1))) s (changed_in z o h (by (suc n)) s)
  unfolding PieceMakes
  one_by_one zero s l w = one (coded z o h (by 1)) s (changed_in z o h (by 1) s) (changed_makes z o h (by 1) s (ranged 1) w)
  one_by_one (suc n) s l w =
      let u = changed_in z o h (by 1) s in
      let e : changed_in z o h (by (suc n)) u ≡ changed_in z o h (by (suc (suc n))) s =
      twice_in z o h (by 1) (by (suc n)) s w.1 ∙ ap (resulting s (part s z o)) (joins (held z o h s) (suc n) (flags_in s) (omega arith) (omega arith)) in
      (u, changed_makes z o h (by 1) s (ranged 1) w, subst (PieceMakes (replicate (suc n) (coded z o h (by 1))) u) e (one_by_one n u (omega arith) (changed_whole z o h (by 1) s w)))

  ones_are : (n : ℕ) → n ≤ 7 → LeaveSame (replicate (suc n) (coded z o h (by 1))) (coded z o h (by (suc n)) ∷ [])
  ones_are n l s ok v =
      let w = whole s ok v in
      (changed_in z o h (by (suc n)) s, one_by_one n s l w, changed_piece z o h (by (suc n)) s _ (ranged (suc n)) w refl)

pub ones_are_many : OnesAreMany
ones_are_many z o zero n h f g = absurd (omega arith)
ones_are_many z o (suc m) n h f g = (
  ones_are z o h (λ k. Inc (k % 8)) (λ k. omega arith) (λ x k old p q. (ap_one x k old p q).0) m (omega arith),
  ones_are z o h (λ k. Dec (k % 8)) (λ k. omega arith) (λ x k old p q. (ap_one x k old p q).1) m (omega arith),
)
  where
    ap_one : (x k : ℕ) (old : Flags) → 1 ≤ k → k ≤ 7 →
        (changed_twice (Inc (1 % 8)) (Inc (k % 8)) (bits_of z) x old ≡ changed (Inc (suc k % 8)) (bits_of z) x old)
        × (changed_twice (Dec (1 % 8)) (Dec (k % 8)) (bits_of z) x old ≡ changed (Dec (suc k % 8)) (bits_of z) x old)
    ap_one x k old p q =
        let e : 1 + k ≡ suc k = omega arith in
        rw e at (counts_join (bits_of z) x 1 k old (wide z n) (omega arith, p, omega arith))
