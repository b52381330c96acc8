-- The range is exact, and an instruction within it is read back from its bytes.
use Prim.Native.Nat.{ℕ, ◌+◌}
use mathlib.Core.Path.{◌≡◌, refl, sym, ap, ◌∙◌}
use mathlib.Core.Bool.{true}
use mathlib.Core.List.{List, [], ◌∷◌, ◌++◌, append-nil}
use native.Mathlib.Omega.{arith}
use native.Mathlib.Nat.{zero-add}
use lib.ListN.{length, length-append}
use Rattle.little.specs.declared.Size.{Size}
use Rattle.code.specs.declared.Op.{Op}
use Rattle.code.specs.declared.Operand.{Operand}
use Rattle.code.specs.declared.Instruction.{Instruction}
use Rattle.code.specs.Said.{whole_of, judge}
use Rattle.code.specs.Listed.{decode_of}
use Rattle.code.specs.Range.{range_of, in_range}
use Rattle.code.specs.Written.{code_of}
use Rattle.code.specs.Laws.{RangeTest, RangeExact, ReadsBack, CodeFits, NoneBegins}
use Rattle.code.proofs.Holds.{holds_so, so_holds}
use Rattle.code.proofs.Walked.{ranges}
use Rattle.code.proofs.ReadsBack.{reads}
use Rattle.std.proofs.Common.{Ok, Err}
use Rattle.code.specs.Unread.{Decoded}
use Rattle.code.specs.declared.Unread.TheVariants.{Short, Unlisted}

pub range_test : RangeTest
range_test op z o = (holds_so (range_of op z o), so_holds (range_of op z o))

pub reads_back : ReadsBack
unfolding decode_of judge
reads_back op z o t h = (reads op z o ((range_test op z o).0 h)).judged [] t ∙ ap (whole_of op z o) (zero-add (length (code_of op z o)))

-- the bytes alone
read_alone : (op : Op) (z : Size) (o : Operand) → in_range op z o ≡ true → decode_of (code_of op z o) ≡ whole_of op z o (length (code_of op z o))
read_alone op z o h = rw append-nil at (reads_back op z o [] h)

pub code_fits : CodeFits
code_fits op z o h = (reads op z o ((range_test op z o).0 h)).bytes

pub range_exact : RangeExact
range_exact op z o = (
  λ h. (code_of op z o, length (code_of op z o), code_fits op z o h, read_alone op z o h),
  λ w. (range_test op z o).1 (ranges w.0 _ w.2 w.3),
)

abbrev parts_of : Decoded → Instruction → Instruction
parts_of (Ok i) d = i
parts_of (Err Short) d = d
parts_of (Err Unlisted) d = d

nothing_more : (s t : List ℕ) → length s ≡ length (s ++ t) → t ≡ []
nothing_more s [] e = refl
nothing_more s (b ∷ t) e = let l : length s ≡ length s + length (b ∷ t) = e ∙ length-append s (b ∷ t) in let z : ⊥ = omega arith in absurd z

pub none_begins : NoneBegins
none_begins op op' z z' o o' t h h' e =
    let i : Instruction = record { op = op; size = z; operand = o; length = length (code_of op z o) } in
    let j : Instruction = record { op = op'; size = z'; operand = o'; length = length (code_of op' z' o') } in
    let w : Ok i ≡ Ok j = sym (reads_back op z o t h) ∙ (ap decode_of e ∙ read_alone op' z' o' h') in
    let p : i ≡ j = ap (λ (d : Decoded). parts_of d i) w in
    (ap (λ (x : Instruction). x.op) p, ap (λ (x : Instruction). x.size) p, ap (λ (x : Instruction). x.operand) p, nothing_more (code_of op z o) t (ap (λ (x : Instruction). x.length) p ∙ ap length (sym e)))
