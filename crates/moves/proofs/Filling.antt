-- A room that is filled byte by byte with a record and zeros; and what it holds then, where it is longer than the record.
use Prim.Native.Nat.{ℕ, zero, suc, ◌+◌, ◌<◌, ◌≤◌}
use mathlib.Core.Path.{◌≡◌, refl, ap, sym, ◌∙◌}
use mathlib.Core.List.{List, [], ◌∷◌, ◌++◌}
use native.Mathlib.Omega.{arith}
use native.Mathlib.Numerals.{add-one}
use lib.ListN.{length, get_or, take, set, replicate, length-append, length-replicate}
use lib.Seq.{take-suc, take-suc-set, take-append-add}
use Rattle.moves.specs.inner.Filled.{filled}

-- ---- zeros behind a record change no byte of it, where one that is not there counts as 0
zero_at_lem : (n i : ℕ) → get_or {A = ℕ} (replicate n 0) i 0 ≡ 0
zero_at_lem zero i = refl
zero_at_lem (suc n) zero = refl
zero_at_lem (suc n) (suc i) = zero_at_lem n i

padded : (l : List ℕ) (n i : ℕ) → get_or (l ++ replicate n 0) i 0 ≡ get_or l i 0
padded [] n i = zero_at_lem n i
padded (x ∷ l) n zero = refl
padded (x ∷ l) n (suc i) = padded l n i

-- ---- the loop, over the room l and the record m: one byte more
pub fill_more :
    (l m : List ℕ) (n i b : ℕ) → i < length l → length l ≡ n → b ≡ get_or m i 0 → take i l ≡ take i (m ++ replicate n 0) →
    take (i + 1) (set l i b) ≡ take (i + 1) (m ++ replicate n 0)
fill_more l m n i b h k e f =
    let long : i < length (m ++ replicate n 0) = simp (length-append, length-replicate) (omega arith) in
    let g : b ≡ get_or (m ++ replicate n 0) i 0 = e ∙ sym (padded m n i) in
    rw (add-one, take-suc-set l i b h, take-suc (m ++ replicate n 0) i 0 long, f, g) refl

-- ---- a room that is k bytes longer than the record
zeros : (k n : ℕ) → k ≤ n → take {A = ℕ} k (replicate n 0) ≡ replicate k 0
zeros zero n h = refl
zeros (suc k) zero h = absurd (omega arith)
zeros (suc k) (suc n) h = ap (λ (l : List ℕ). 0 ∷ l) (zeros k n (omega arith))

pub filled_long : (l : List ℕ) (k : ℕ) → filled (length l + k) l ≡ l ++ replicate k 0
filled_long l k =
    take-append-add l (replicate (length l + k) 0) k ∙ ap (λ (r : List ℕ). l ++ r) (zeros k (length l + k) (omega arith))
