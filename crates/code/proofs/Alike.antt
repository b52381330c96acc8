-- The rows after a register say the same of two operands that are both the lower half of a wider register, or both not: both codes are
-- short, or both unlisted, or both are whole and differ in the operand alone.
use Prim.Native.Nat.{ℕ, ◌+◌, ◌*◌, ◌/◌, ◌%◌, ◌≤◌}
use mathlib.Core.Path.{◌≡◌, refl}
use mathlib.Core.Bool.{Bool, true, false, cond}
use mathlib.Core.List.{List, [], ◌∷◌}
use mathlib.Core.Logic.{◌⊎◌, inl, inr}
use lib.Dec.{ltb}
use lib.ListN.{length, get_or}
use Rattle.little.specs.declared.Size.{Size}
use Rattle.little.specs.Width.{bytes_of}
use Rattle.alu.specs.declared.Shift.{Shift}
use Rattle.feed.specs.declared.cycle.Stride.{Stride}
use Rattle.feed.specs.declared.cycle.Cycle.{Cycle}
use Rattle.feed.specs.declared.cycle.Cycle.TheVariants.{Minc, Mdec}
use Rattle.feed.specs.Cycle.{is_table}
use native.Mathlib.Omega.{arith}
use Rattle.code.specs.declared.Op.TheVariants.{Puts}
use Rattle.code.specs.declared.Use.{Use}
use Rattle.code.specs.declared.Use.TheVariants.{Scaled, ScaledWith, Cycled}
use Rattle.code.specs.declared.Operand.{Operand}
use Rattle.code.specs.declared.Operand.TheVariants.{Register}
use Rattle.code.specs.Said.{Said, whole, unlisted, next, number, judge, number_at, with_found, whole_of}
use Rattle.code.specs.Rows.{Bytes, run, Row, ◌⇒◌, has, lookup, by_rows, only, no_byte, only_word}
use Rattle.code.proofs.Prefix.{grows, after_next}
use Rattle.code.specs.Registers.{register_rows, places_rows, is_low, scale_kind, stride_kind, last_rows, table_rows, feed_rows}
use Rattle.std.proofs.Common.{Some, None, Option, Err}
use Rattle.code.specs.Unread.{Decoded}
use Rattle.code.specs.declared.Unread.TheVariants.{Short, Unlisted}

module _ (z : Size) (o p : Operand) where
  abbrev pub Alike : Decoded → Decoded → Type 0
  Alike d e =
      ((how : Use) × (n : ℕ) × (d ≡ whole_of (Puts how) z o n) × (e ≡ whole_of (Puts how) z p n))
      ⊎ (((d ≡ Err Short) × (e ≡ Err Short)) ⊎ ((d ≡ Err Unlisted) × (e ≡ Err Unlisted)))

  -- of what is said, wherever it is judged
  abbrev Same : Said → Said → Type 0
  Same x y = (s : List ℕ) (i : ℕ) → Alike (judge x s i) (judge y s i)

  same_use : (how : Use) → Same (whole (Puts how) z o) (whole (Puts how) z p)
  unfolding judge
  same_use how s i = inl (how, i, refl, refl)

  same_none : Same unlisted unlisted
  unfolding judge
  same_none s i = inr (inr (refl, refl))

  same_only : (b c : Bool) (x y : Said) → b ≡ c → Same x y → Same (only b x) (only c y)
  same_only true true x y e h = h
  same_only false false x y e h = same_none
  same_only true false x y e h = let z : ◌≡◌ {A = ℕ} 0 1 = cc in let w : ⊥ = omega arith in absurd w
  same_only false true x y e h = let z : ◌≡◌ {A = ℕ} 0 1 = cc in let w : ⊥ = omega arith in absurd w

  same_number : (n : ℕ) (f g : ℕ → Said) → ((v : ℕ) → Same (f v) (g v)) → Same (number n f) (number n g)
  unfolding judge
  same_number n f g h s i = go (number_at s i n)
    where
      go : (w : Option ℕ) → Alike (with_found w (λ v. judge (f v) s (i + n))) (with_found w (λ v. judge (g v) s (i + n)))
      go (Some v) = h v s (i + n)
      go None = inr (inl (refl, refl))

  same_next : (f g : ℕ → Said) → ((b : ℕ) → Same (f b) (g b)) → Same (next f) (next g)
  unfolding judge
  same_next f g h s i = go (ltb i (length s))
    where
      go : (b : Bool) → Alike (cond b (judge (f (get_or s i 0)) s (i + 1)) (Err Short)) (cond b (judge (g (get_or s i 0)) s (i + 1)) (Err Short))
      go true = h (get_or s i 0) s (i + 1)
      go false = inr (inl (refl, refl))

  -- row by row
  abbrev SameRows : List Row → List Row → Type 0
  SameRows xs ys = (b : ℕ) → Same (lookup xs b) (lookup ys b)

  no_rows : SameRows [] []
  unfolding lookup
  no_rows b = same_none

  and_row : (bytes : Bytes) (f g : ℕ → Said) (xs ys : List Row) → ((b : ℕ) → Same (f b) (g b)) → SameRows xs ys → SameRows ((bytes ⇒ f) ∷ xs) ((bytes ⇒ g) ∷ ys)
  unfolding lookup
  and_row bytes f g xs ys h t b = go (has bytes b)
    where
      go : (x : Bool) → Same (cond x (f b) (lookup xs b)) (cond x (g b) (lookup ys b))
      go true = h b
      go false = t b

  places : (shift : Shift) → SameRows (places_rows z o shift) (places_rows z p shift)
  unfolding places_rows
  places shift = and_row _ _ _ [] [] (λ n. same_use _) no_rows

  lasts : (s : Stride) (how : ℕ → Cycle) (lo : ℕ) → SameRows (last_rows z o s how lo) (last_rows z p s how lo)
  unfolding last_rows
  lasts s how lo = and_row _ _ _ [] [] (λ hi. same_only (is_table s (lo + 256 * hi)) (is_table s (lo + 256 * hi)) _ _ refl (same_use (Cycled (how (lo + 256 * hi))))) no_rows

  tables : (s : Stride) (how : ℕ → Cycle) → SameRows (table_rows z o s how) (table_rows z p s how)
  unfolding table_rows
  tables s how = and_row _ _ _ [] [] (λ lo. same_only (is_table s lo) (is_table s lo) _ _ refl (same_next _ _ (lasts s how lo))) no_rows

  same_feed : is_low z o ≡ is_low z p → SameRows (feed_rows z o) (feed_rows z p)
  unfolding feed_rows
  same_feed e =
      and_row (run 0x08 0x0B) _ _ _ _ (λ b. same_only (is_low z o) (is_low z p) _ _ e (same_number (bytes_of z) _ _ (λ n. same_use (ScaledWith (scale_kind (b % 4)) n))))
      (and_row (run 0x40 0x5F) _ _ _ _ (λ b. same_only (is_low z (Register (b % 8))) (is_low z (Register (b % 8))) _ _ refl (same_use (Scaled (scale_kind (b / 8 % 4)) (b % 8))))
      (and_row (run 0x38 0x3A) _ _ _ _ (λ b. same_only (only_word z) (only_word z) _ _ refl (same_next _ _ (tables (stride_kind (b % 4)) (Minc (stride_kind (b % 4))))))
      (and_row (run 0x3C 0x3E) _ _ _ _ (λ b. same_only (only_word z) (only_word z) _ _ refl (same_next _ _ (tables (stride_kind (b % 4)) (Mdec (stride_kind (b % 4)))))) no_rows)))

  same_registers : is_low z o ≡ is_low z p → SameRows (register_rows z o) (register_rows z p)
  unfolding register_rows
  same_registers e =
      and_row _ _ _ _ _ (λ b. same_number (bytes_of z) _ _ (λ n. same_use _))
      (and_row _ _ _ _ _ (λ b. same_use _)
      (and_row _ _ _ _ _ (λ b. same_use _)
      (and_row _ _ _ _ _ (λ b. same_use _)
      (and_row _ _ _ _ _ (λ b. same_number (bytes_of z) _ _ (λ n. same_use _))
      (and_row _ _ _ _ _ (λ b. same_use _)
      (and_row _ _ _ _ _ (λ b. same_use _)
      (and_row _ _ _ _ _ (λ b. same_next _ _ (places _))
      (and_row _ _ _ _ _ (λ b. same_only (no_byte z) (no_byte z) _ _ refl (same_use _))
      (and_row _ _ _ _ _ (λ b. same_only (no_byte z) (no_byte z) _ _ refl (same_use _)) (same_feed e))))))))))

  pub alike : is_low z o ≡ is_low z p → (s : List ℕ) (i : ℕ) → Alike (judge (by_rows (register_rows z o)) s i) (judge (by_rows (register_rows z p)) s i)
  alike e = same_next _ _ (same_registers e)

-- of the feed calculation's rows alone: what they say is a use of the operand, or nothing
pub feed_forms : (z : Size) (o : Operand) (s : List ℕ) → ((how : Use) × (n : ℕ) × (judge (by_rows (feed_rows z o)) s 1 ≡ whole_of (Puts how) z o n)) ⊎ ((judge (by_rows (feed_rows z o)) s 1 ≡ Err Short) ⊎ (judge (by_rows (feed_rows z o)) s 1 ≡ Err Unlisted))
feed_forms z o s = elim (same_next z o o _ _ (same_feed z o o refl) s 1) [
  | inl w ↦ inl (w.0, w.1, w.2)
  | inr w ↦ elim w [ inl x ↦ inr (inl x.0) | inr x ↦ inr (inr x.0) ]
]

-- it has two bytes or more
pub feed_bytes : (z : Size) (o : Operand) (s : List ℕ) (how : Use) (n : ℕ) → judge (by_rows (feed_rows z o)) s 1 ≡ whole_of (Puts how) z o n → 2 ≤ n
feed_bytes z o s how n e = grows (lookup (feed_rows z o) (get_or s 1 0)) s 2 _ (after_next (lookup (feed_rows z o)) s 1 _ tt e).1
