-- The walk over the rows of the feed calculation, and what a number less its step is.
use Prim.Native.Nat.{ℕ, zero, suc, ◌+◌, ◌-◌, ◌*◌, ◌/◌, ◌%◌, ◌^◌, ◌≤◌, ◌<◌}
use mathlib.Core.Path.{◌≡◌, refl, sym, ap, ap₂, subst, ◌∙◌}
use mathlib.Core.Bool.{Bool, true, false, cond}
use mathlib.Core.List.{List, [], ◌∷◌, ◌++◌, append_assoc}
use mathlib.Core.Logic.{inl, inr}
use native.Mathlib.Omega.{arith}
use native.Mathlib.Nat.{mod-lt}
use lib.Dec.{leb, ltb, eqb}
use lib.ListN.{length, get_or}
use borrow.Author.Tests.{eqb-true, ltb-true, le-leb}
use Rattle.little.specs.Bytes.{bytes_from}
use Rattle.little.specs.Width.{bytes_of}
use Rattle.little.specs.declared.Size.{Size}
use Rattle.feed.specs.declared.cycle.Stride.{Stride}
use Rattle.feed.specs.declared.cycle.Stride.TheVariants.{One, Two, Four}
use Rattle.feed.specs.declared.cycle.Cycle.{Cycle}
use Rattle.feed.specs.declared.cycle.Cycle.TheVariants.{Minc, Mdec}
use Rattle.feed.specs.Cycle.{stride_step, is_power, is_table}
use Rattle.code.specs.declared.Op.TheVariants.{Puts}
use Rattle.code.specs.declared.Use.TheVariants.{Scaled, ScaledWith, Cycled}
use Rattle.code.specs.declared.Operand.{Operand}
use Rattle.code.specs.declared.Operand.TheVariants.{Register}
use Rattle.code.specs.Said.{Said, whole, unlisted, number, judge, whole_of}
use Rattle.code.specs.Rows.{lookup, by_rows, only, only_word}
use Rattle.code.specs.Registers.{is_low, scale_kind, stride_kind, last_rows, table_rows, feed_rows}
use Rattle.code.specs.Range.{Holds, that, register_range, cycle_range}
use Rattle.code.specs.Written.{code_of, place_code, size_step, scale_number, stride_number, cycle_code}
use Rattle.code.proofs.Holds.{both_true, either_true}
use Rattle.code.proofs.Tables.{table, in_run, in_no_arm}
use Rattle.code.specs.inner.Parts.{cycle_as}
use Rattle.code.proofs.Groups.{in_group, Missed}
use Rattle.code.proofs.Judge.{bytes_bounds, run_there, next_short}
use Rattle.code.proofs.RowBytes.{run_in}
use Rattle.code.proofs.Walk.{Can, Walk, Rows, by_rows_lem}
use Rattle.std.proofs.Common.{Err}
use Rattle.code.specs.declared.Unread.TheVariants.{Short, Unlisted}

-- ---- a number that 000 allows, less the step: a power of two less the step
power_is : (n num : ℕ) → is_power n num ≡ true → (j : ℕ) × (j ≤ n) × (num ≡ 2 ^ j)
unfolding is_power
power_is zero num e = let z : ◌≡◌ {A = ℕ} 0 1 = cc in let y : ⊥ = omega arith in absurd y
power_is (suc n) num e = elim (either_true (eqb num (2 ^ suc n)) (is_power n num) e) [
  | inl h ↦ (suc n, omega arith, eqb-true num (2 ^ suc n) h)
  | inr h ↦ let p = power_is n num h in (p.0, (let l = p.1 in omega (arith, l)), p.2)
]

-- what is computed of each of them
lasts : (s : Stride) (j : ℕ) → j < 16 → cond (leb (2 * stride_step s) (2 ^ j)) (is_table s ((2 ^ j - stride_step s) % 256)) true ≡ true
unfolding is_table is_power
lasts One = table _ _ 16 refl
lasts Two = table _ _ 16 refl
lasts Four = table _ _ 16 refl

below : (s : Stride) (j : ℕ) → j < 16 → ltb (2 ^ j - stride_step s) 0x8000 ≡ true
below One = table _ _ 16 refl
below Two = table _ _ 16 refl
below Four = table _ _ 16 refl

-- it is below 8000H, and its low byte is one too
pub table_last : (s : Stride) (last : ℕ) → is_table s last ≡ true → (last < 0x8000) × (is_table s (last % 256) ≡ true)
unfolding is_table
table_last s last e =
    let t = both_true (is_power 15 (last + stride_step s)) (leb (2 * stride_step s) (last + stride_step s)) e in
    let p = power_is 15 (last + stride_step s) t.0 in
    let l : p.0 < 16 = let h = p.1 in omega (arith, h) in
    let w : 2 ^ p.0 - stride_step s ≡ last = let h = p.2 in omega (arith, h) in
    let g : leb (2 * stride_step s) (2 ^ p.0) ≡ true = subst (λ (x : ℕ). leb (2 * stride_step s) x ≡ true) p.2 t.1 in
    let f : is_table s ((2 ^ p.0 - stride_step s) % 256) ≡ true = rw g at (lasts s p.0 l) in
    let b : ltb (2 ^ p.0 - stride_step s) 0x8000 ≡ true = below s p.0 l in
    (ltb-true last 0x8000 (subst (λ (x : ℕ). ltb x 0x8000 ≡ true) w b), subst (λ (x : ℕ). is_table s (x % 256) ≡ true) w f)

-- the least number of each step
least : (s : Stride) → is_table s (stride_step s) ≡ true
unfolding is_table is_power
least One = refl
least Two = refl
least Four = refl

-- ---- the numbers of the operations and the steps
pub scale_back : (n : ℕ) → n < 4 → scale_number (scale_kind n) ≡ n
scale_back zero h = refl
scale_back (suc zero) h = refl
scale_back (suc (suc zero)) h = refl
scale_back (suc (suc (suc zero))) h = refl
scale_back (suc (suc (suc (suc n)))) h = let z : ⊥ = omega arith in absurd z

pub stride_back : (n : ℕ) → n < 3 → stride_number (stride_kind n) ≡ n
stride_back zero h = refl
stride_back (suc zero) h = refl
stride_back (suc (suc zero)) h = refl
stride_back (suc (suc (suc n))) h = let z : ⊥ = omega arith in absurd z

-- ---- some bytes make it whole
can_only : (b : Bool) (j : Said) → b ≡ true → Can j → Can (only b j)
can_only true j e c = c
can_only false j e c = let z : ◌≡◌ {A = ℕ} 0 1 = cc in let y : ⊥ = omega arith in absurd y

module _ (z : Size) (o : Operand) (s : Stride) (how : ℕ → Cycle) where
  can_last : (lo : ℕ) → is_table s lo ≡ true → Can (by_rows (last_rows z o s how lo))
  unfolding last_rows lookup
  can_last lo e = (0, omega arith, can_only (is_table s (lo + 256 * 0)) _ (subst (λ (x : ℕ). is_table s x ≡ true) (omega arith) e) tt)

  can_low : (lo : ℕ) → lo ≤ 0xFF → is_table s lo ≡ true → Can (by_rows (table_rows z o s how))
  unfolding table_rows lookup
  can_low lo l e = (lo, omega arith, rw (le-leb lo 0xFF l, le-leb 0 lo (omega arith)) (can_only (is_table s lo) _ e (can_last lo e)))

  can_table : Can (by_rows (table_rows z o s how))
  can_table = can_low (stride_step s) (small s) (least s)
    where
      small : (s : Stride) → stride_step s ≤ 0xFF
      small One = omega arith
      small Two = omega arith
      small Four = omega arith

-- ---- the walk: the operand o stands in the bytes p, which with the next one are i
module _ (Y : Type 0) (z : Size) (o : Operand) (i : ℕ) (p : List ℕ) (l : i ≤ 3) (e : p ≡ place_code (size_step z) o) (q : Y → Holds (register_range z o)) where
  only_walk : (j : Said) (k : ℕ) (c : List ℕ) (b : Bool) → (Holds (that b) → Walk Y j k c) → Walk Y (only b j) k c
  only_walk j k c true f = f tt
  only_walk j k c false f = tt

  two : (x y : ℕ) → x ≡ y → p ++ (x ∷ []) ≡ place_code (size_step z) o ++ (y ∷ [])
  two x y g = ap₂ (λ (c : List ℕ) (b : ℕ). c ++ (b ∷ [])) e g

  more : (x y : ℕ) (t : List ℕ) → x ≡ y → (p ++ (x ∷ [])) ++ t ≡ place_code (size_step z) o ++ (y ∷ t)
  more x y t g = append_assoc p (x ∷ []) t ∙ ap₂ (λ (c : List ℕ) (b : ℕ). c ++ (b ∷ t)) e g

  -- the byte c of a MINC or MDEC, then its number's two
  module _
      (s : Stride) (how : ℕ → Cycle) (b c : ℕ) (g : b ≡ c) (w : Holds (that (only_word z)))
      (k : (last : ℕ) → cycle_code (how last) ≡ c ∷ bytes_from 2 last)
      (m : (last : ℕ) → Holds (that (is_table s last)) → Holds (cycle_range (how last) z))
    where
      two_bytes : (lo hi : ℕ) → lo ≤ 0xFF → hi ≤ 0xFF → bytes_from 2 (lo + 256 * hi) ≡ lo ∷ hi ∷ []
      unfolding bytes_from
      two_bytes lo hi a b =
          let x : (lo + 256 * hi) % 256 ≡ lo = omega arith in
          let y : (lo + 256 * hi) / 256 % 256 ≡ hi = let v : (lo + 256 * hi) / 256 ≡ hi = omega arith in rw v (omega arith) in
          ap₂ (λ (x y : ℕ). x ∷ y ∷ []) x y

      last_rows_lem : (lo : ℕ) → lo ≤ 0xFF → Rows Y (last_rows z o s how lo) (i + 1 + 1) ((p ++ (b ∷ [])) ++ (lo ∷ []))
      unfolding last_rows code_of
      last_rows_lem lo a = (
        λ hi h.
            let x = run_in _ _ hi h in
            only_walk _ _ _ (is_table s (lo + 256 * hi)) (λ t. (
              omega arith,
              append_assoc (p ++ (b ∷ [])) (lo ∷ []) (hi ∷ []) ∙ (more b c (lo ∷ hi ∷ []) g
                  ∙ ap (λ (x : List ℕ). place_code (size_step z) o ++ x) (sym (k (lo + 256 * hi) ∙ ap (λ (x : List ℕ). c ∷ x) (two_bytes lo hi a x.1)))),
              λ y. (m (lo + 256 * hi) t, q y),
            )),
        tt,
      )

      table_rows_lem : Rows Y (table_rows z o s how) (i + 1) (p ++ (b ∷ []))
      unfolding table_rows
      table_rows_lem = (
        λ lo h.
            let x = run_in _ _ lo h in
            only_walk _ _ _ (is_table s lo)
            (λ t. by_rows_lem Y (last_rows z o s how lo) (i + 1) ((p ++ (b ∷ [])) ++ (lo ∷ [])) (can_last z o s how lo (that_so (is_table s lo) t)) (last_rows_lem lo x.1)),
        tt,
      )
        where
          that_so : (b : Bool) → Holds (that b) → b ≡ true
          that_so true h = refl
          that_so false h = absurd h

      table_walk : Walk Y (by_rows (table_rows z o s how)) i (p ++ (b ∷ []))
      table_walk = by_rows_lem Y (table_rows z o s how) i (p ++ (b ∷ [])) (can_table z o s how) table_rows_lem

  pub feed_rows_lem : Rows Y (feed_rows z o) i p
  unfolding feed_rows code_of
  feed_rows_lem =
      let n : bytes_of z ≤ 4 = bytes_bounds z (bytes_of z) refl in
      let m : i ≤ 7 = omega arith in (
        λ b h. only_walk _ _ _ (is_low z o) (λ t. (λ v. tt, λ v g. (omega arith, more b _ _ (let x = run_in _ _ b h in rw (scale_back (b % 4) (mod-lt b (omega arith))) (omega arith)), λ y. (g y, (t, q y))))),
        (
          λ b h. only_walk _ _ _ (is_low z (Register (b % 8))) (λ t. (m, two b _ (let x = run_in _ _ b h in let u : b / 8 % 4 + 8 ≡ b / 8 = omega arith in rw (scale_back (b / 8 % 4) (mod-lt (b / 8) (omega arith))) (omega arith)), λ y. (mod-lt b (omega arith), (t, q y)))),
          (
            λ b h. only_walk _ _ _ (only_word z) (λ t. table_walk (stride_kind (b % 4)) (Minc (stride_kind (b % 4))) b _ (let x = run_in _ _ b h in rw (stride_back (b % 4) (omega arith)) (omega arith)) t (λ last. refl) (λ last w. (t, w))),
            (
              λ b h. only_walk _ _ _ (only_word z) (λ t. table_walk (stride_kind (b % 4)) (Mdec (stride_kind (b % 4))) b _ (let x = run_in _ _ b h in rw (stride_back (b % 4) (omega arith)) (omega arith)) t (λ last. refl) (λ last w. (t, w))),
              tt,
            ),
          ),
        ),
      )

-- ---- group by group, as the source asks
module _ (z : Size) (o : Operand) where
  pub with_constant_lem : (b : ℕ) → b / 8 ≡ 1 → b ≤ 0x0B → lookup (feed_rows z o) b ≡ only (is_low z o) (number (bytes_of z) (λ n. whole (Puts (ScaledWith (scale_kind (b % 4)) n)) z o))
  unfolding feed_rows lookup
  with_constant_lem = in_group _ 1 (λ h. refl, λ h. refl, λ h. refl, λ h. refl, λ h. let x : ⊥ = omega arith in absurd x, λ h. let x : ⊥ = omega arith in absurd x, λ h. let x : ⊥ = omega arith in absurd x, λ h. let x : ⊥ = omega arith in absurd x)

  pub no_constant : (b : ℕ) → b / 8 ≡ 1 → 0x0B < b → lookup (feed_rows z o) b ≡ unlisted
  unfolding feed_rows lookup
  no_constant = in_group _ 1 (λ h. let x : ⊥ = omega arith in absurd x, λ h. let x : ⊥ = omega arith in absurd x, λ h. let x : ⊥ = omega arith in absurd x, λ h. let x : ⊥ = omega arith in absurd x, λ h. refl, λ h. refl, λ h. refl, λ h. refl)

  pub by_register_lem : (b : ℕ) → 0x40 ≤ b → b < 0x40 + 0x20 → lookup (feed_rows z o) b ≡ only (is_low z (Register (b % 8))) (whole (Puts (Scaled (scale_kind (b / 8 % 4)) (b % 8))) z o)
  unfolding feed_rows lookup
  by_register_lem = in_run _ _ 0x40 0x20 refl

  pub by_table : (b : ℕ) → b / 8 ≡ 7 → (b % 4 ≡ 3 → ⊥) → lookup (feed_rows z o) b ≡ only (only_word z) (by_rows (table_rows z o (stride_kind (b % 4)) (cycle_as (ltb b 0x3C) (stride_kind (b % 4)))))
  unfolding feed_rows lookup
  by_table = in_group _ 7 (λ h. refl, λ h. refl, λ h. refl, λ h. absurd (h refl), λ h. refl, λ h. refl, λ h. refl, λ h. absurd (h refl))

  pub no_table : (b : ℕ) → b / 8 ≡ 7 → b % 4 ≡ 3 → lookup (feed_rows z o) b ≡ unlisted
  unfolding feed_rows lookup
  no_table = in_group _ 7 (λ h. let x : ⊥ = omega arith in absurd x, λ h. let x : ⊥ = omega arith in absurd x, λ h. let x : ⊥ = omega arith in absurd x, λ h. refl, λ h. let x : ⊥ = omega arith in absurd x, λ h. let x : ⊥ = omega arith in absurd x, λ h. let x : ⊥ = omega arith in absurd x, λ h. refl)

  -- the other groups, below and above
  pub no_feed_below : (b : ℕ) → b < 0x40 → Missed ((7 ∷ []) ∷ (1 ∷ []) ∷ []) (b / 8) → lookup (feed_rows z o) b ≡ unlisted
  unfolding feed_rows lookup
  no_feed_below = in_no_arm _ (λ b. unlisted) ((7 ∷ []) ∷ (1 ∷ []) ∷ []) 0x40 refl

  pub no_feed_above : (b : ℕ) → 0x60 ≤ b → b < 0x60 + 0xA0 → lookup (feed_rows z o) b ≡ unlisted
  unfolding feed_rows lookup
  no_feed_above = in_run _ (λ b. unlisted) 0x60 0xA0 refl

  -- a number less its step, judged byte by byte
  module _ (s : Stride) (how : ℕ → Cycle) (t : List ℕ) (l : 2 < length t) (lo : ℕ) (b : lo ≡ get_or t 2 0) (w : lo ≤ 0xFF) where
    pub low_none : is_table s lo ≡ false → (Err Unlisted) ≡ judge (by_rows (table_rows z o s how)) t 2
    unfolding table_rows judge
    low_none e = run_there 0xFF _ t 2 l (Err Unlisted) (rw (← b) w) (rw (← b, e) refl)

    pub high_short : is_table s lo ≡ true → length t ≤ 3 → (Err Short) ≡ judge (by_rows (table_rows z o s how)) t 2
    unfolding table_rows judge
    high_short e k = run_there 0xFF _ t 2 l (Err Short) (rw (← b) w) (rw (← b, e) (next_short (lookup (last_rows z o s how lo)) t 3 k))

    module _ (e : is_table s lo ≡ true) (m : 3 < length t) (hi : ℕ) (c : hi ≡ get_or t 3 0) (v : hi ≤ 0xFF) where
      pub high_none : is_table s (lo + 256 * hi) ≡ false → (Err Unlisted) ≡ judge (by_rows (table_rows z o s how)) t 2
      unfolding table_rows last_rows judge
      high_none f = run_there 0xFF _ t 2 l (Err Unlisted) (rw (← b) w) (rw (← b, e) (run_there 0xFF _ t 3 m (Err Unlisted) (rw (← c) v) (rw (← c, f) refl)))

      pub table_whole : is_table s (lo + 256 * hi) ≡ true → whole_of (Puts (Cycled (how (lo + 256 * hi)))) z o 4 ≡ judge (by_rows (table_rows z o s how)) t 2
      unfolding table_rows last_rows judge
      table_whole f = run_there 0xFF _ t 2 l _ (rw (← b) w) (rw (← b, e) (run_there 0xFF _ t 3 m _ (rw (← c) v) (rw (← c, f) refl)))
