-- What a step can do with a marked flag.
use Prim.Native.Nat.{ℕ, ◌<◌}
use mathlib.Core.Path.{◌≡◌, refl, ap, ap₂, sym, ◌∙◌}
use mathlib.Core.List.{List}
use mathlib.Core.Bool.{Bool, true, false, not, ◌||◌}
use mathlib.Core.Logic.{inl, ⊎_elim}
use native.Mathlib.Omega.{arith}
use lib.Dec.{eqb}
use borrow.Author.Tests.{eqb-true, not-false}
use Rattle.answer.specs.Number.{number_of}
use Rattle.flags.specs.declared.Flags.{Flags}
use Rattle.flags.specs.Flag.{packed_of, flags_of}
use Rattle.flags.specs.Undefined.{marks_h, marks_v}
use Rattle.flags.specs.Known.{Alike}
use Rattle.flags.proofs.Fits.{Fits}
use Rattle.flags.proofs.Known.{known_decides}
use Rattle.memory.specs.Access.{code_at}
use Rattle.state.specs.State.{flags_valid, marks_of, with_both_flags}
use Rattle.state.specs.declared.State.{State}
use Rattle.state.proofs.Valid.{valid_says}
use Rattle.code.specs.declared.Op.{Op}
use Rattle.code.specs.declared.Op.TheVariants.{Stacks, Interrupts}
use Rattle.code.specs.declared.Stack.TheVariants.{PushF}
use Rattle.code.specs.declared.Interrupt.TheVariants.{PushSr}
use Rattle.code.specs.declared.Instruction.{Instruction}
use Rattle.code.specs.Listed.{decode_of}
use Rattle.operand.specs.Flag.{flags_in}
use Rattle.operand.proofs.Flags.{valid_packed, valid_fits}
use Rattle.facts.specs.Touched.{answer_by, uses_marked}
use Rattle.facts.specs.Statements.{Passed}
use Rattle.facts.specs.Marks.{OnlyHAndV, MarkedSayNothing, DoneAt, JumpReadsDefined, PushStoresDefined}
use Rattle.facts.proofs.Statements.{operated, refused_when}
use Rattle.std.proofs.Common.{Ok}
use Rattle.answer.specs.Number.{Answer}

few : (x : ℕ) → flags_valid x ≡ true → marks_of x < 4
unfolding flags_of
few x e = (valid_fits x e).few

pub only_h_and_v : OnlyHAndV
only_h_and_v s e = let v = valid_says s e in (few s.flags v.flags, few s.spare v.spare)

-- ---- the bit of a marked flag is 0
marked_bit : (m b c : Bool) → (not m || not b) ≡ true → (not m || not c) ≡ true → (m ≡ false → b ≡ c) → b ≡ c
marked_bit true true c e f g = let z : ◌≡◌ {A = ℕ} 0 1 = cc in absurd (omega arith)
marked_bit true false true e f g = let z : ◌≡◌ {A = ℕ} 0 1 = cc in absurd (omega arith)
marked_bit true false false e f g = refl
marked_bit false b c e f g = g refl

alike_same : (f g : Flags) → Fits f → Fits g → Alike f g → f ≡ g
alike_same f g x y a =
    let h = marked_bit (marks_h f.marks) f.h g.h x.h (ap (λ (m : ℕ). not (marks_h m) || not g.h) a.marks ∙ y.h) a.h in
    let v = marked_bit (marks_v f.marks) f.v g.v x.v (ap (λ (m : ℕ). not (marks_v m) || not g.v) a.marks ∙ y.v) a.v in
    λ i. record { s = a.s i; z = a.z i; h = h i; v = v i; n = a.n i; c = a.c i; marks = a.marks i }

set_same : (f g : ℕ) → flags_valid f ≡ true → flags_valid g ≡ true → Alike (flags_of f) (flags_of g) → f ≡ g
set_same f g x y a =
    sym (valid_packed f x) ∙ ap packed_of (alike_same (flags_of f) (flags_of g) (valid_fits f x) (valid_fits g y) a) ∙ valid_packed g y

pub marked_say_nothing : MarkedSayNothing
unfolding with_both_flags
marked_say_nothing s f f' g g' x y a b =
    let v = valid_says (with_both_flags s f f') x in
    let w = valid_says (with_both_flags s g g') y in
    ap₂ (with_both_flags s) (set_same f g v.flags w.flags a) (set_same f' g' v.spare w.spare b)

-- ---- a step that is done uses no marked flag
unused : (b : Bool) (a : Answer) → answer_by b a ≡ Ok tt → b ≡ false
unused true a e = absurd (omega (arith, ap number_of e))
unused false a e = refl

done_unused : (s : State) (ram rom : List ℕ) (i : Instruction) → DoneAt s ram rom i → uses_marked i.op s ≡ false
done_unused s ram rom i d = go (operated s ram rom (Ok tt) (inl refl) d.0)
  where
    go : (j : Instruction) × (Passed s ram rom × (decode_of (code_at ram rom s.counter) ≡ Ok j)) → uses_marked i.op s ≡ false
    go (j, (p, h)) = unused _ _ (sym ((refused_when s ram rom).operands i p d.1) ∙ d.0)

pub jump_reads_defined : JumpReadsDefined
unfolding uses_marked
jump_reads_defined s ram rom i what d e g a =
    known_decides (flags_in s) g _ (sym (ap (λ (op : Op). uses_marked op s) e) ∙ done_unused s ram rom i d) a

none_marked : (n : ℕ) → not (eqb n 0) ≡ false → n ≡ 0
none_marked n e = eqb-true n 0 (not-false (eqb n 0) e)

pub push_stores_defined : PushStoresDefined
unfolding uses_marked
push_stores_defined s ram rom i d e =
    let unused-by : (op : Op) → i.op ≡ op → uses_marked op s ≡ false = λ op h. sym (ap (λ (x : Op). uses_marked x s) h) ∙ done_unused s ram rom i d in
    none_marked (flags_in s).marks (⊎_elim (unused-by (Stacks PushF)) (unused-by (Interrupts PushSr)) e)
