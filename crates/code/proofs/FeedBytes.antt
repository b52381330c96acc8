-- What the bytes of the feed calculation's instructions say, after the register's.
use Prim.Native.Nat.{ℕ, ◌+◌, ◌*◌, ◌/◌, ◌%◌, ◌<◌}
use mathlib.Core.Path.{◌≡◌, refl}
use mathlib.Core.Bool.{true}
use mathlib.Core.List.{[], ◌∷◌}
use native.Mathlib.Omega.{arith}
use native.Mathlib.Nat.{mod-lt}
use lib.Dec.{leb-zero}
use borrow.Author.Tests.{le-leb, lt-ltb}
use Rattle.little.specs.Bytes.{bytes_from}
use Rattle.little.specs.Width.{bytes_of}
use Rattle.little.specs.declared.Size.{Size}
use Rattle.feed.specs.declared.scale.Scale.{Scale}
use Rattle.feed.specs.declared.scale.Scale.TheVariants.{Mul, Muls, Div, Divs}
use Rattle.feed.specs.declared.cycle.Stride.{Stride}
use Rattle.feed.specs.declared.cycle.Stride.TheVariants.{One, Two, Four}
use Rattle.feed.specs.declared.cycle.Cycle.{Cycle}
use Rattle.feed.specs.declared.cycle.Cycle.TheVariants.{Minc, Mdec}
use Rattle.feed.specs.Cycle.{is_table}
use Rattle.code.specs.declared.Op.TheVariants.{Puts}
use Rattle.code.specs.declared.Use.TheVariants.{Scaled, ScaledWith, Cycled}
use Rattle.code.specs.declared.Operand.{Operand}
use Rattle.code.specs.declared.Operand.TheVariants.{Register}
use Rattle.code.specs.Said.{whole, number}
use Rattle.code.specs.Rows.{lookup, by_rows, only, only_word}
use Rattle.code.specs.Registers.{register_rows, is_low, last_rows, table_rows, feed_rows}
use Rattle.code.specs.Range.{Holds, that, cycle_range}
use Rattle.code.specs.Written.{scale_number, stride_number, cycle_code}
use Rattle.code.proofs.Holds.{so_that, that_so}
use Rattle.code.proofs.Tables.{table}
use Rattle.code.proofs.FeedRows.{table_last}
use Rattle.code.proofs.RegisterRows.{so_listed}
use Rattle.code.proofs.Says.{Says, Lists, byte, next}

module _ (z : Size) (o : Operand) where
  -- ---- MUL to DIVS
  scaled_row : (how : Scale) (r : ℕ) → r < 8 → Lists (register_rows z o) (0x40 + 8 * scale_number how + r) (only (is_low z (Register r)) (whole (Puts (Scaled how r)) z o))
  unfolding register_rows feed_rows lookup
  scaled_row Mul = table _ _ 8 refl
  scaled_row Muls = table _ _ 8 refl
  scaled_row Div = table _ _ 8 refl
  scaled_row Divs = table _ _ 8 refl

  pub scaled_byte : (how : Scale) (r : ℕ) → r < 8 → Holds (that (is_low z (Register r))) → Lists (register_rows z o) (0x40 + 8 * scale_number how + r) (whole (Puts (Scaled how r)) z o)
  scaled_byte how r l h = so_listed (register_rows z o) _ (is_low z (Register r)) _ (scaled_row how r l) h

  with_row : (how : Scale) → Lists (register_rows z o) (0x08 + scale_number how) (only (is_low z o) (number (bytes_of z) (λ n. whole (Puts (ScaledWith how n)) z o)))
  unfolding register_rows feed_rows lookup
  with_row Mul = refl
  with_row Muls = refl
  with_row Div = refl
  with_row Divs = refl

  pub scaled_with_byte : (how : Scale) → Holds (that (is_low z o)) → Lists (register_rows z o) (0x08 + scale_number how) (number (bytes_of z) (λ n. whole (Puts (ScaledWith how n)) z o))
  scaled_with_byte how h = so_listed (register_rows z o) _ (is_low z o) _ (with_row how) h

  -- ---- MINC and MDEC
  minc_row : (s : Stride) → Lists (register_rows z o) (0x38 + stride_number s) (only (only_word z) (by_rows (table_rows z o s (Minc s))))
  unfolding register_rows feed_rows lookup
  minc_row One = refl
  minc_row Two = refl
  minc_row Four = refl

  mdec_row : (s : Stride) → Lists (register_rows z o) (0x3C + stride_number s) (only (only_word z) (by_rows (table_rows z o s (Mdec s))))
  unfolding register_rows feed_rows lookup
  mdec_row One = refl
  mdec_row Two = refl
  mdec_row Four = refl

  module _ (s : Stride) (how : ℕ → Cycle) where
    low_row : (lo : ℕ) → lo < 256 → Lists (table_rows z o s how) lo (only (is_table s lo) (by_rows (last_rows z o s how lo)))
    unfolding table_rows lookup
    low_row lo l = rw (leb-zero, le-leb lo 0xFF (omega arith), lt-ltb lo 256 l) refl

    high_row : (lo hi : ℕ) → hi < 256 → Lists (last_rows z o s how lo) hi (only (is_table s (lo + 256 * hi)) (whole (Puts (Cycled (how (lo + 256 * hi)))) z o))
    unfolding last_rows lookup
    high_row lo hi l = rw (leb-zero, le-leb hi 0xFF (omega arith), lt-ltb hi 256 l) refl

    number_says : (lo hi : ℕ) → lo < 256 → hi < 256 → is_table s lo ≡ true → is_table s (lo + 256 * hi) ≡ true → Says (by_rows (table_rows z o s how)) (lo ∷ hi ∷ []) (whole (Puts (Cycled (how (lo + 256 * hi)))) z o)
    number_says lo hi a b e f =
        next (byte (table_rows z o s how) lo (so_listed _ lo (is_table s lo) _ (low_row lo a) (so_that e)))
        (byte (last_rows z o s how lo) hi (so_listed _ hi (is_table s (lo + 256 * hi)) _ (high_row lo hi b) (so_that f)))

    pub table_says : (last : ℕ) → is_table s last ≡ true → Says (by_rows (table_rows z o s how)) (bytes_from 2 last) (whole (Puts (Cycled (how last))) z o)
    unfolding bytes_from
    table_says last e =
        let t = table_last s last e in
        let b : last < 0x8000 = t.0 in
        let m : last / 256 % 256 ≡ last / 256 = let u : last / 256 < 256 = omega arith in omega arith in
        let w : last % 256 + 256 * (last / 256 % 256) ≡ last = rw m (omega arith) in
        rw w at (number_says (last % 256) (last / 256 % 256) (mod-lt last (omega arith)) (mod-lt (last / 256) (omega arith)) t.1 (rw w e))

  pub of_cycle : (how : Cycle) → Holds (cycle_range how z) → Says (by_rows (register_rows z o)) (cycle_code how) (whole (Puts (Cycled how)) z o)
  of_cycle (Minc s last) h =
      next (byte (register_rows z o) (0x38 + stride_number s) (so_listed _ _ (only_word z) _ (minc_row s) h.0))
      (table_says s (Minc s) last (that_so (is_table s last) h.1))
  of_cycle (Mdec s last) h =
      next (byte (register_rows z o) (0x3C + stride_number s) (so_listed _ _ (only_word z) _ (mdec_row s) h.0))
      (table_says s (Mdec s) last (that_so (is_table s last) h.1))
