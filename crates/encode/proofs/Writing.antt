-- How a writing ends, and what it leaves.
use Prim.Native.Nat.{ℕ, ◌≤◌}
use mathlib.Core.Path.{◌≡◌, refl, ◌∙◌}
use mathlib.Core.Bool.{Bool, true, false, cond}
use mathlib.Core.List.{List, ◌++◌}
use native.Mathlib.Nat.{zero-add}
use lib.ListN.{length, drop}
use lib.Dec.{leb}
use borrow.Author.Tests.{le-leb, leb-true}
use Rattle.std.specs.Prelude.{Ok, Err}
use Rattle.little.specs.Bytes.{Bytes, replaced}
use Rattle.code.specs.declared.Instruction.{Instruction}
use Rattle.code.proofs.Holds.{both_true}
use Rattle.code.proofs.Exact.{code_fits}
use Rattle.encode.specs.declared.Refusal.TheVariants.{NoList, NoRoom}
use Rattle.encode.specs.One.{bytes_in, is_listed, end_of, Written, Writes}
use Rattle.encode.specs.inner.Spelt.{eights}
use Rattle.encode.proofs.Laid.{eights_same}

-- ---- it is done only where what is written is good, and the room is long enough
pub done_so : (good : Bool) (n m k : ℕ) → end_of good n m ≡ Ok k → (good ≡ true) × (n ≤ m) × (k ≡ n)
unfolding end_of
done_so good n m k e = go good (leb n m) refl e
  where
    go : (a b : Bool) → leb n m ≡ b → ◌≡◌ {A = Written} (cond a (cond b (Ok n) (Err NoRoom)) (Err NoList)) (Ok k) → (a ≡ true) × (n ≤ m) × (k ≡ n)
    go true true h e = (refl, leb-true n m h, cc)
    go true false h e = absurd (cc)
    go false b h e = absurd (cc)

front : (s l : List ℕ) → replaced 0 s l ≡ s ++ drop (length s) l
unfolding replaced
front s l = rw (zero-add (length s)) refl

-- ---- an instruction: a listed one's bytes are bytes, so that their low eight bits are all of them
pub listed_bytes : (i : Instruction) → is_listed i ≡ true → Bytes (bytes_in i)
listed_bytes i h = code_fits i.op i.size i.operand (both_true _ _ h).0

pub laid_bytes :
    (i : Instruction) (out : List ℕ) {s b : List ℕ} → is_listed i ≡ true → s ≡ bytes_in i → length (bytes_in i) ≤ length out →
    b ≡ cond (leb (length s) (length out)) (replaced 0 (eights s) out) out → b ≡ bytes_in i ++ drop (length (bytes_in i)) out
laid_bytes i out good is fits h =
    let same : eights (bytes_in i) ≡ bytes_in i = eights_same (bytes_in i) (listed_bytes i good) in
    h ∙ rw (is, le-leb (length (bytes_in i)) (length out) fits, same) (front (bytes_in i) out)

-- ---- what a caller learns of a writing that had to be done
pub writes_done :
    (good : Bool) (s room : List ℕ) {b : List ℕ} {told : Written} → good ≡ true → length s ≤ length room → Writes good s room told b →
    (told ≡ Ok (length s)) × (b ≡ s ++ drop (length s) room)
unfolding end_of
writes_done good s room p q w =
    let e : end_of good (length s) (length room) ≡ Ok (length s) = rw (p, le-leb (length s) (length room) q) refl in
    (w.0 ∙ e, w.1 ∙ rw e refl)
