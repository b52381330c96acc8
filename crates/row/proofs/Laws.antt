-- The laws of one instruction and of lists, as they are stated.
use Prim.Native.Nat.{ℕ, ◌+◌}
use mathlib.Core.Path.{◌≡◌, refl, ap, ap₂, subst, sym, ◌∙◌}
use mathlib.Core.Bool.{true}
use mathlib.Core.List.{List, [], ◌∷◌, ◌++◌, append-nil}
use native.Mathlib.Omega.{arith}
use lib.ListN.{length, take, drop, length-append, take-append-drop}
use lib.Dec.{eqb}
use lib.Seq.{drop-append_seam}
use borrow.Author.Tests.{eqb-true, eq-eqb}
use Rattle.code.specs.declared.Instruction.{Instruction}
use Rattle.code.specs.Listed.{decode_of}
use Rattle.code.specs.Range.{in_range}
use Rattle.code.proofs.Holds.{both_true}
use Rattle.code.proofs.Walked.{ranges, length_fits, length_is, keeps_bytes, bytes_drop}
use Rattle.code.proofs.Says.{bytes_append}
use Rattle.code.proofs.Exact as exact
use Rattle.encode.specs.One.{bytes_in, is_listed}
use Rattle.encode.proofs.Writing.{listed_bytes}
use Rattle.row.specs.Row.{row_of, all_listed}
use Rattle.row.specs.Statements.{NoneBegins, ReadsBack, FewBytes, ReadIsListed, ReadsAs, WrittenReads, OneReading, OneList, ReadsWritten, FewInRow}
use Rattle.std.proofs.Common.{Ok}

-- ---- one instruction
listed_so : (i : Instruction) → is_listed i ≡ true → (in_range i.op i.size i.operand ≡ true) × (eqb i.length (length (bytes_in i)) ≡ true)
listed_so i h = both_true (in_range i.op i.size i.operand) (eqb i.length (length (bytes_in i))) h

pub as_long : (i : Instruction) → is_listed i ≡ true → i.length ≡ length (bytes_in i)
as_long i h = eqb-true i.length (length (bytes_in i)) (listed_so i h).1

pub reads_back : ReadsBack
reads_back i t h = exact.reads_back i.op i.size i.operand t (listed_so i h).0 ∙ ap (λ (n : ℕ). Ok (record { op = i.op; size = i.size; operand = i.operand; length = n })) (sym (as_long i h))

pub none_begins : NoneBegins
none_begins i j t h k e =
    let same : Ok i ≡ Ok j = sym (reads_back i t h) ∙ ap decode_of (e ∙ sym (append-nil (bytes_in j))) ∙ reads_back j [] k in
    let one : i ≡ j = cc in
    let long : length (bytes_in i) + length t ≡ length (bytes_in j) = sym (length-append (bytes_in i) t) ∙ ap length e in
    let like : length (bytes_in i) ≡ length (bytes_in j) = ap (λ (x : Instruction). length (bytes_in x)) one in
    (one, none t (omega arith))
  where
    none : (t : List ℕ) → length t ≡ 0 → t ≡ []
    none [] z = refl
    none (b ∷ t) z = let y : ⊥ = omega arith in absurd y

pub few_bytes : FewBytes
few_bytes i h =
    let f = length_fits (bytes_in i ++ []) i (reads_back i [] h) in
    let e = as_long i h in
    (omega arith, omega arith, listed_bytes i h)

pub read_is_listed : ReadIsListed
read_is_listed s i b e =
    let within = (exact.range_test i.op i.size i.operand).1 (ranges s i b e) in
    let long = length_is s i e in
    let front : take i.length s ≡ bytes_in i = keeps_bytes s i b e in
    (rw (within, eq-eqb i.length (length (bytes_in i)) long) refl, sym (take-append-drop i.length s) ∙ ap (λ (t : List ℕ). t ++ drop i.length s) front)

-- ---- lists
pub all_so : (i : Instruction) (l : List Instruction) → all_listed (i ∷ l) ≡ true → (is_listed i ≡ true) × (all_listed l ≡ true)
unfolding all_listed
all_so i l h = both_true (is_listed i) (all_listed l) h

pub all_of : (i : Instruction) (l : List Instruction) → is_listed i ≡ true → all_listed l ≡ true → all_listed (i ∷ l) ≡ true
unfolding all_listed
all_of i l h k = rw (h, k) refl

pub written_reads : WrittenReads
unfolding row_of
written_reads [] h = refl
written_reads (i ∷ l) h =
    let b = all_so i l h in
    (reads_back i (row_of l) b.0, rw (as_long i b.0, drop-append_seam (bytes_in i) (row_of l)) (written_reads l b.1))

not_empty : (s : List ℕ) (i : Instruction) → s ≡ [] → decode_of s ≡ Ok i → ⊥
not_empty s i e h = let f = length_fits s i h in let z : length s ≡ 0 = ap length e in omega arith

pub one_reading : OneReading
one_reading s [] [] a b = refl
one_reading s [] (j ∷ m) a b = absurd (not_empty s j a b.0)
one_reading s (i ∷ l) [] a b = absurd (not_empty s i b a.0)
one_reading s (i ∷ l) (j ∷ m) a b =
    let w : Ok i ≡ Ok j = sym a.0 ∙ b.0 in
    let e : i ≡ j = cc in
    let c : ReadsAs (drop j.length s) l = subst (λ (k : Instruction). ReadsAs (drop k.length s) l) e a.1 in
    ap₂ (λ (k : Instruction) (n : List Instruction). k ∷ n) e (one_reading (drop j.length s) l m c b.1)

pub one_list : OneList
one_list l m h k e = one_reading (row_of m) l m (subst (λ (s : List ℕ). ReadsAs s l) e (written_reads l h)) (written_reads m k)

pub reads_written : ReadsWritten
unfolding row_of all_listed
reads_written s [] b r = (refl, sym r)
reads_written s (i ∷ l) b r =
    let one = read_is_listed s i b r.0 in
    let rest = reads_written (drop i.length s) l (bytes_drop i.length s b) r.1 in
    (rw (one.0, rest.0) refl, rw rest.1 (sym one.1))

pub few_in_row : FewInRow
unfolding row_of
few_in_row [] h = (omega arith, omega arith, λ i. omega arith)
few_in_row (i ∷ l) h =
    let b = all_so i l h in
    let f = few_bytes i b.0 in
    let g = few_in_row l b.1 in
    let e : length (bytes_in i ++ row_of l) ≡ length (bytes_in i) + length (row_of l) = length-append (bytes_in i) (row_of l) in
    (omega arith, omega arith, bytes_append (bytes_in i) (row_of l) f.2 g.2)
