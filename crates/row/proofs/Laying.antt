-- A list that is written instruction by instruction: what the room holds after each.
use Prim.Native.Nat.{ℕ, ◌+◌, ◌-◌, ◌<◌, ◌≤◌}
use mathlib.Core.Path.{◌≡◌, ap, ap₂, sym, ◌∙◌}
use mathlib.Core.Bool.{true}
use mathlib.Core.List.{List, [], ◌++◌, append_assoc, append-nil}
use native.Mathlib.Omega.{arith}
use lib.ListN.{length, get_or, take, drop, length-append, length-drop, drop_of_length-le}
use lib.Seq.{take_all, take_at, drop_at, drop-drop}
use Rattle.code.specs.declared.Instruction.{Instruction}
use Rattle.std.specs.Prelude.{Ok}
use Rattle.encode.specs.One.{bytes_in, is_listed, Written, Writes}
use Rattle.encode.proofs.Writing.{writes_done}
use Rattle.row.specs.Row.{row_of, all_listed}
use Rattle.row.proofs.Lists.{row_more, row_within, all_at}

-- over the room as it was: the list l, the room now, the next place in it, and how many are written
abbrev pub Laying : List ℕ → List Instruction → List ℕ → ℕ → ℕ → Type 0
Laying was l out at k =
    (length out ≡ length was) × ((at ≡ length (row_of (take k l))) × ((at ≤ length was) × (out ≡ row_of (take k l) ++ drop at was)))

whole_length : (was : List ℕ) (n at : ℕ) → at ≡ n → at ≤ length was → n + length (drop at was) ≡ length was
whole_length was n at e h = omega (arith, length-drop at was)

module _ (was out : List ℕ) (l : List Instruction) (k at : ℕ) (d : Instruction) (more : k < length l) (room : length (row_of l) ≤ length was) (all : all_listed l ≡ true) (laid : Laying was l out at k) where
  abbrev next : Instruction
  next = get_or l k d

  abbrev part : List ℕ
  part = take (length out - at) (drop at out)

  part_is : part ≡ drop at was
  part_is =
      take_all (length out - at) (drop at out) (omega (arith, length-drop at out))
      ∙ ap (drop at) laid.1.1.1 ∙ drop_at (row_of (take k l)) (drop at was) at (sym laid.1.0)

  fits : at + length (bytes_in next) ≤ length was
  fits = omega (arith, row_within l k d more)

  fits_part : length (bytes_in next) ≤ length part
  fits_part = omega (arith, ap length part_is, length-drop at was, fits)

  -- the next is written
  pub wrote_next :
      {told : Written} {ys : List ℕ} → Writes (is_listed next) (bytes_in next) part told ys → told ≡ Ok (length (bytes_in next))
  wrote_next w = (writes_done (is_listed next) (bytes_in next) part (all_at l k d more all) fits_part w).0

  pub laying_next :
      {told : Written} (m : ℕ) (ys : List ℕ) → Writes (is_listed next) (bytes_in next) part told ys → told ≡ Ok m →
      Laying was l (take at out ++ (ys ++ drop (length out - at) (drop at out))) (at + m) (k + 1)
  laying_next m ys w is =
      let told_of_it = writes_done (is_listed next) (bytes_in next) part (all_at l k d more all) fits_part w in
      let same_size : Ok m ≡ Ok (length (bytes_in next)) = sym is ∙ told_of_it.0 in
      let size_is : m ≡ length (bytes_in next) = cc in
      let row = row_of (take k l) in
      let code = bytes_in next in
      let step : row_of (take (k + 1) l) ≡ row ++ code = row_more l k d more in
      let front : take at out ≡ row = ap (take at) laid.1.1.1 ∙ take_at row (drop at was) at (sym laid.1.0) in
      let rest : ys ≡ code ++ drop (at + m) was =
      told_of_it.1 ∙ ap (λ (t : List ℕ). code ++ drop (length code) t) part_is ∙ ap (λ (t : List ℕ). code ++ t) (drop-drop (length code) at was ∙ ap (λ (x : ℕ). drop (at + x) was) (sym size_is)) in
      let none : drop (length out - at) (drop at out) ≡ [] = drop_of_length-le (drop at out) {i = length out - at} (omega (arith, length-drop at out)) in
      let whole : take at out ++ (ys ++ drop (length out - at) (drop at out)) ≡ row_of (take (k + 1) l) ++ drop (at + m) was =
      ap₂ (λ (x y : List ℕ). x ++ y) front (ap₂ (λ (x y : List ℕ). x ++ y) rest none ∙ append-nil (code ++ drop (at + m) was))
      ∙ sym (append_assoc row code (drop (at + m) was)) ∙ ap (λ (x : List ℕ). x ++ drop (at + m) was) (sym step) in
      let size : at + m ≡ length (row_of (take (k + 1) l)) = omega (arith, size_is, ap length step, length-append row code) in
      let end : at + m ≤ length was = omega (arith, fits, size_is) in
      let same : length (take at out ++ (ys ++ drop (length out - at) (drop at out))) ≡ length was =
      ap length whole ∙ length-append (row_of (take (k + 1) l)) (drop (at + m) was) ∙ whole_length was _ _ size end in
      (same, (size, (end, whole)))
