-- Laws of a list's bytes, and of whether each of it is listed: one instruction more, and each of them.
use Prim.Native.Nat.{ℕ, suc, ◌+◌, ◌<◌, ◌≤◌}
use mathlib.Core.Path.{◌≡◌, refl, ap, sym, ◌∙◌}
use mathlib.Core.Bool.{Bool, true, false}
use mathlib.Core.List.{List, [], ◌∷◌, ◌++◌, append_assoc, append-nil}
use native.Mathlib.Omega.{arith}
use native.Mathlib.Numerals.{add-one}
use lib.ListN.{length, get_or, take, drop, length-append, take-append-drop}
use lib.Seq.{take-suc}
use borrow.Author.Tests.{le-leb, leb-true}
use lib.Dec.{leb}
use Rattle.std.proofs.lemmas.List.Recursion.{and_at, and_is}
use Rattle.code.specs.declared.Instruction.{Instruction}
use Rattle.code.proofs.Holds.{both_true}
use Rattle.encode.specs.One.{bytes_in, is_listed}
use Rattle.row.specs.declared.Instructions.{Instructions}
use Rattle.row.specs.Row.{most, row_of, all_listed, list_in, is_list}

-- ---- the bytes of two lists
pub row_join : (l m : List Instruction) → row_of (l ++ m) ≡ row_of l ++ row_of m
unfolding row_of
row_join [] m = refl
row_join (i ∷ l) m = ap (λ (s : List ℕ). bytes_in i ++ s) (row_join l m) ∙ sym (append_assoc (bytes_in i) (row_of l) (row_of m))

-- one instruction more
pub row_more : (l : List Instruction) (k : ℕ) (d : Instruction) → k < length l → row_of (take (k + 1) l) ≡ row_of (take k l) ++ bytes_in (get_or l k d)
unfolding row_of
row_more l k d h =
    let i = get_or l k d in
    let e : row_of (take (suc k) l) ≡ row_of (take k l ++ (i ∷ [])) = ap row_of (take-suc l k d h) in
    rw (add-one k) (e ∙ row_join (take k l) (i ∷ []) ∙ ap (λ (s : List ℕ). row_of (take k l) ++ s) (append-nil (bytes_in i)))

-- the bytes of the first k, and of the next, are within those of all
pub row_within : (l : List Instruction) (k : ℕ) (d : Instruction) → k < length l → length (row_of (take k l)) + length (bytes_in (get_or l k d)) ≤ length (row_of l)
row_within l k d h =
    let a = take (k + 1) l in
    let b = drop (k + 1) l in
    let whole : row_of l ≡ row_of a ++ row_of b = ap row_of (sym (take-append-drop (k + 1) l)) ∙ row_join a b in
    let f : length (row_of l) ≡ length (row_of a) + length (row_of b) = ap length whole ∙ length-append (row_of a) (row_of b) in
    let g : length (row_of a) ≡ length (row_of (take k l)) + length (bytes_in (get_or l k d)) = ap length (row_more l k d h) ∙ length-append (row_of (take k l)) (bytes_in (get_or l k d)) in
    omega arith

-- ---- whether each is listed
pub all_at : (l : List Instruction) (k : ℕ) (d : Instruction) → k < length l → all_listed l ≡ true → is_listed (get_or l k d) ≡ true
unfolding all_listed
all_at = and_at all_listed is_listed refl (λ x xs. refl)

-- a test that tells whether each is
pub all_is :
    (l : List Instruction) (d : Instruction) (r : Bool) → (r ≡ true → (i : ℕ) → i < length l → is_listed (get_or l i d) ≡ true) →
    (r ≡ false → (i : ℕ) × (i < length l) × (is_listed (get_or l i d) ≡ false)) → r ≡ all_listed l
unfolding all_listed
all_is = and_is all_listed is_listed refl (λ x xs. refl)

-- ---- the loops over a list that is held
pub is_all : (t : Instructions) → t.count ≤ most → is_list t ≡ all_listed (list_in t)
unfolding is_list
is_all t h = rw (le-leb t.count most h) refl

pub size_more : (l : List Instruction) (k : ℕ) (d : Instruction) → k < length l → length (bytes_in (get_or l k d)) + length (row_of (take k l)) ≡ length (row_of (take (k + 1) l))
size_more l k d h =
    let g = ap length (row_more l k d h) in
    let j = length-append (row_of (take k l)) (bytes_in (get_or l k d)) in
    omega arith

-- a list that is good has at most 64, each of them listed
pub few_in : (t : Instructions) → is_list t ≡ true → t.count ≤ most
unfolding is_list
few_in t e = leb-true t.count most (both_true (leb t.count most) (all_listed (list_in t)) e).0

pub all_in : (t : Instructions) → is_list t ≡ true → all_listed (list_in t) ≡ true
unfolding is_list
all_in t e = (both_true (leb t.count most) (all_listed (list_in t)) e).1
