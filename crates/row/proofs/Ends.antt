-- How a writing ends, and both ends of a list's length.
use Prim.Native.Nat.{ℕ, zero, suc, ◌<◌, ◌≤◌}
use mathlib.Core.Path.{◌≡◌, refl, ap, sym, ◌∙◌}
use mathlib.Core.Bool.{Bool, true, false}
use mathlib.Core.List.{List, [], ◌∷◌, ◌++◌}
use native.Mathlib.Omega.{arith}
use lib.ListN.{length, get_or, replicate, length-replicate}
use lib.Dec.{leb}
use Rattle.std.specs.Prelude.{Ok}
use Rattle.std.proofs.Math.Bool.{and-false}
use Rattle.std.proofs.lemmas.List.Recursion.{and_fails_at}
use borrow.Author.Tests.{le-leb, lt-leb}
use Rattle.code.specs.declared.Instruction.{Instruction}
use Rattle.code.specs.Written.{code_of}
use Rattle.encode.specs.One.{is_listed, end_of}
use Rattle.row.specs.Row.{most, row_of, all_listed, can_write, blank}
use Rattle.row.specs.Statements.{WriteEnds, NotListed, Settled, Ends}
use Rattle.row.proofs.Through.{read_none}
use Rattle.row.proofs.Finds.{reads_again, read_refused}
use Rattle.row.proofs.Laws.{few_in_row}
use Rattle.little.specs.Bytes.{Bytes}

pub write_ends : WriteEnds
unfolding end_of can_write
write_ends l room = (
  λ h. rw (lt-leb (length l) most h) refl,
  λ h. rw (h, and-false (leb (length l) most)) refl,
  λ h k m. rw (le-leb (length l) most h, k, lt-leb (length (row_of l)) room m) refl,
  λ h k m. rw (le-leb (length l) most h, k, le-leb (length (row_of l)) room m) refl,
)

-- ---- one that is not listed
somewhere : (l : List Instruction) → all_listed l ≡ false → (k : ℕ) × (k < length l) × (is_listed (get_or l k blank) ≡ false)
unfolding all_listed
somewhere [] h = let z : ◌≡◌ {A = ℕ} 0 1 = cc in let y : ⊥ = omega arith in absurd y
somewhere (i ∷ l) h = go (λ (e : all_listed l ≡ false). somewhere l e) (is_listed i) refl
  where
    go :
        (all_listed l ≡ false → (k : ℕ) × (k < length l) × (is_listed (get_or l k blank) ≡ false)) →
        (b : Bool) → is_listed i ≡ b → (k : ℕ) × (k < length (i ∷ l)) × (is_listed (get_or (i ∷ l) k blank) ≡ false)
    go later false e = (0, omega arith, e)
    go later true e = let w = later (rw e at h) in (suc w.0, omega (arith, w.1), w.2)

there : (l : List Instruction) (k : ℕ) → k < length l → is_listed (get_or l k blank) ≡ false → all_listed l ≡ false
unfolding all_listed
there l k h e = and_fails_at all_listed is_listed refl (λ x xs. refl) l k blank h e

pub not_listed : NotListed
not_listed l = (somewhere l, λ w. there l w.0 w.1 w.2)

pub settled : Settled
settled good s room b c t u v w = (v.0 ∙ sym w.0, v.1 ∙ sym w.1)

-- ---- NOP, n times
nops_listed : (n : ℕ) → all_listed (replicate n blank) ≡ true
unfolding all_listed code_of
nops_listed zero = refl
nops_listed (suc n) = nops_listed n

nops_row : (n : ℕ) → row_of (replicate n blank) ≡ replicate n 0
unfolding row_of code_of
nops_row zero = refl
nops_row (suc n) = ap (λ (s : List ℕ). 0 ∷ s) (nops_row n)

nops_long : (n : ℕ) → length (row_of (replicate n blank)) ≡ n
nops_long n = ap length (nops_row n) ∙ length-replicate n 0

nops_can : can_write (replicate 64 blank) ≡ true
unfolding can_write
nops_can = rw (le-leb (length (replicate 64 blank)) most (omega (arith, length-replicate 64 blank)), nops_listed 64) refl

zeros_are_bytes : Bytes (replicate 65 0)
zeros_are_bytes = rw nops_row at (few_in_row (replicate 65 blank) (nops_listed 65)).2

none_listed : all_listed [] ≡ true
unfolding all_listed
none_listed = refl

none_row : row_of [] ≡ []
unfolding row_of
none_row = refl

pub ends : Ends
ends =
    let none = write_ends [] 0 in
    let full = write_ends (replicate 64 blank) in
    let over = write_ends (replicate 65 blank) in
    let can = nops_listed 64 in
    let long = nops_long 64 in
    let few : length (replicate 64 blank) ≤ most = omega (arith, length-replicate 64 blank) in
    let many : most < length (replicate 65 blank) = omega (arith, length-replicate 65 blank) in
    let behind : replicate 65 0 ≡ row_of (replicate 64 blank) ++ (0 ∷ []) = rw (nops_row 64) refl in (
      none.3 (omega arith) none_listed (rw none_row (omega arith)) ∙ ap (λ (s : List ℕ). Ok (length s)) none_row,
      read_none most [] refl,
      (full 64).3 few can (omega arith) ∙ ap (λ (n : ℕ). Ok n) long,
      (full 63).2 few can (omega arith),
      rw (← nops_row 64) (reads_again (replicate 64 blank) nops_can),
      (over 64).0 many,
      (over 65).0 many,
      (read_refused (replicate 65 0) zeros_are_bytes).2.1
          (replicate 64 blank, 0 ∷ [], (can, behind, omega arith), length-replicate 64 blank),
    )
