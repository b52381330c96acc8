-- After a round of a copy or a compare no flag of F is marked.
use Prim.Native.Nat.{ℕ, zero, suc, ◌%◌, ◌<◌, ◌≤◌}
use mathlib.Core.Path.{◌≡◌, refl, ap, sym, ◌∙◌, subst}
use mathlib.Core.List.{List}
use mathlib.Core.Bool.{Bool, true, false}
use mathlib.Core.Logic.{◌⊎◌, inl, inr}
use native.Mathlib.Omega.{arith}
use Rattle.little.specs.declared.Size.{Size}
use Rattle.little.specs.declared.Size.TheVariants.{Byte, Word, Long}
use Rattle.little.specs.Width.{bits_of, bytes_of}
use Rattle.flags.specs.Flag.{copied_of, compared_of}
use Rattle.flags.specs.Sums.{result_of, difference_of}
use Rattle.flags.proofs.Packed.{packed_marks}
use Rattle.memory.specs.Access.{load_of, store_of, ram_after}
use Rattle.state.specs.State.{marks_of, with_flags, with_both_flags}
use Rattle.state.specs.declared.State.{State}
use Rattle.code.specs.declared.Form.{Form}
use Rattle.operand.specs.Try.{Try, did, no}
use Rattle.operand.specs.Operand.{pointer_of, storing, stored_by}
use Rattle.operand.specs.Flag.{flags_in, flagged}
use Rattle.block.specs.Block.{more_in, counted, moved, accumulator, copied, compared, round_of}
use Rattle.block.proofs.Rounds.{round_copies, round_compares, round_missing}
use Rattle.run.specs.Demand.{rounds_of, RoundsDefine}
use Rattle.run.proofs.Rounds.{refused_not, same_did}
use Rattle.run.proofs.Steps.{at_short}
use Rattle.run.proofs.Counts.{rounds_none, rounds_did, rounds_no}
use Rattle.std.proofs.Common.{Ok, Err}
use Rattle.answer.specs.Number.{Answer}
use Rattle.memory.specs.Access.{Loaded}

copied_known : (f : Form) (s : State) → marks_of (copied f s).flags ≡ 0
unfolding copied flagged with_flags with_both_flags
copied_known f s = let t = counted (moved f f.to (moved f f.from s)) in packed_marks (copied_of (flags_in s) (more_in t))

-- a comparison of a byte or a word marks nothing
short_marks : (z : Size) (a b : ℕ) → bytes_of z ≤ 2 → (difference_of (bits_of z) a b false).flags.marks ≡ 0
unfolding difference_of result_of
short_marks Byte a b h = refl
short_marks Word a b h = refl
short_marks Long a b h = absurd (omega arith)

compared_known : (f : Form) (v : ℕ) (s : State) → bytes_of f.size ≤ 2 → marks_of (compared f v s).flags ≡ 0
unfolding compared flagged with_flags with_both_flags
compared_known f v s h =
    let t = counted (moved f f.from s) in
    let d = difference_of (bits_of f.size) (accumulator s f.size) v false in
    packed_marks (compared_of (flags_in s) d.flags (more_in t)) ∙ ap (λ (n : ℕ). n % 2) (short_marks f.size (accumulator s f.size) v h)

module _ (f : Form) (h : bytes_of f.size ≤ 2) where
  abbrev Known : State → Type 0
  Known t = marks_of t.flags ≡ 0

  -- a copy's round, by the answer of its store
  stored_known : (s t : State) (m l : List ℕ) (r : Answer) → stored_by r (copied f s) l ≡ did t m → Known t
  stored_known s t m l (Ok _) k = subst Known (same_did k).0 (copied_known f s)
  stored_known s t m l (Err w) k = refused_not k

  round_known : (s : State) (ram rom : List ℕ) (t : State) (m : List ℕ) → round_of f s ram rom ≡ did t m → Known t
  unfolding storing store_of ram_after
  round_known s ram rom t m e = go (load_of ram rom (pointer_of s f.from) f.size) refl f.copies refl
    where
      go : (l : Loaded) → load_of ram rom (pointer_of s f.from) f.size ≡ l → (b : Bool) → f.copies ≡ b → Known t
      go (Err x) k b c = refused_not (sym (round_missing f s ram rom x k) ∙ e)
      go (Ok x) k true c =
          stored_known s t m (ram_after ram rom (pointer_of s f.to) f.size x) (store_of ram rom (pointer_of s f.to) f.size)
          (sym (round_copies f s ram rom x k c) ∙ e)
      go (Ok x) k false c = subst Known (same_did (sym (round_compares f s ram rom x k c) ∙ e)).0 (compared_known f x s h)

  rounds_known :
      (n : ℕ) (s : State) (ram rom : List ℕ) (t : State) (m : List ℕ) → (marks_of s.flags ≡ 0) ⊎ (0 < n) → rounds_of n f s ram rom ≡ did t m →
      marks_of t.flags ≡ 0
  rounds_known zero s ram rom t m (inl k) e =
      subst (λ (u : State). marks_of u.flags ≡ 0) (same_did (sym (rounds_none f s ram rom) ∙ e)).0 k
  rounds_known zero s ram rom t m (inr l) e = absurd (omega arith)
  rounds_known (suc n) s ram rom t m k e = go (λ x y. rounds_known n x y rom t m) (round_of f s ram rom) refl
    where
      go :
          ((x : State) (y : List ℕ) → (marks_of x.flags ≡ 0) ⊎ (0 < n) → rounds_of n f x y rom ≡ did t m → marks_of t.flags ≡ 0)
          → (r : Try) → round_of f s ram rom ≡ r → marks_of t.flags ≡ 0
      go ih (did x y) q = ih x y (inl (round_known s ram rom x y q)) (sym (rounds_did n f s ram rom x y q) ∙ e)
      go ih (no w) q = refused_not (sym (rounds_no n f s ram rom w q) ∙ e)

pub rounds_define : (f : Form) (s : State) (ram rom : List ℕ) → RoundsDefine f s ram rom
rounds_define f s ram rom n t m a k e = rounds_known f (at_short f s ram rom a) n s ram rom t m (inr k) e
