-- What the rows say of each byte of an instruction's code: each law is one table that is computed.
use Prim.Native.Nat.{ℕ, ◌+◌, ◌-◌, ◌*◌, ◌<◌}
use mathlib.Core.Path.{◌≡◌, refl}
use mathlib.Core.Bool.{Bool, true, false}
use mathlib.Core.List.{List, [], ◌++◌}
use mathlib.Core.Logic.{inl, inr}
use native.Mathlib.Omega.{arith}
use lib.Dec.{leb-zero}
use borrow.Author.Tests.{le-leb, lt-ltb}
use Rattle.little.specs.Width.{bytes_of}
use Rattle.state.specs.Named.{is_named}
use Rattle.little.specs.declared.Size.{Size}
use Rattle.little.specs.declared.Size.TheVariants.{Byte, Word, Long}
use Rattle.alu.specs.declared.Arith.{Arith}
use Rattle.code.specs.declared.Op.{Op}
use Rattle.code.specs.declared.Op.TheVariants.{Controls, Stacks, Puts, Sets}
use Rattle.code.specs.declared.Control.TheVariants.{Jr, Jrl}
use Rattle.code.specs.declared.Stack.TheVariants.{Push, Pop}
use Rattle.code.specs.declared.Use.TheVariants.{Number, From, Load, Compute}
use Rattle.code.specs.declared.Side.TheVariants.{First, Second, With}
use Rattle.code.specs.declared.Base.{Base}
use Rattle.code.specs.declared.Base.TheVariants.{Indirect, Displaced, Absolute8, Absolute16, Absolute24}
use Rattle.code.specs.declared.Operand.{Operand}
use Rattle.code.specs.declared.Operand.TheVariants.{Register, Named, Constant}
use Rattle.code.specs.Said.{whole, number}
use Rattle.code.specs.Rows.{Row, lookup, by_rows, only, no_long, no_byte}
use Rattle.code.specs.Registers.{register_rows}
use Rattle.code.specs.Memory.{form, memory_rows, store_rows, copies, compares, block, copy, compare, blocks, block_rows, indirect_rows}
use Rattle.code.specs.Listed.{with_constant, up_to_seven_rows, code_byte_rows, first_rows}
use Rattle.code.specs.Range.{Holds, that, pointer_range}
use Rattle.code.specs.Written.{size_step, arith_number, block_code}
use Rattle.code.proofs.FirstRows.{first}
use Rattle.code.proofs.Tables.{table, by_size, by_arith, each_size, each_arith, each_test, by_test}
use Rattle.code.proofs.RegisterRows.{so_listed}
use Rattle.code.proofs.Says.{Lists}

-- ---- the first byte
pub set : (z : Size) (r : ℕ) → r < 8 → Lists first_rows (0x20 + size_step z + r) (with_constant (Sets r) z (bytes_of z))
unfolding first
set = by_size _ _ 8 refl

pub push : (z : Size) → Holds (that (no_byte z)) → (r : ℕ) → r < 7 → Lists first_rows (0x18 + size_step z + r) (whole (Stacks Push) z (Register r))
unfolding first
push Byte h = absurd h
push Word h = table _ _ 7 refl
push Long h = table _ _ 7 refl

pub pop : (z : Size) → Holds (that (no_byte z)) → (r : ℕ) → r < 7 → Lists first_rows (0x38 + size_step z + r) (whole (Stacks Pop) z (Register r))
unfolding first
pop Byte h = absurd h
pop Word h = table _ _ 7 refl
pop Long h = table _ _ 7 refl

pub short_jump : (cc : ℕ) → cc < 16 → Lists first_rows (0x60 + cc) (with_constant (Controls (Jr cc)) Byte 1)
unfolding first
short_jump = table _ _ 16 refl

pub long_jump : (cc : ℕ) → cc < 16 → Lists first_rows (0x70 + cc) (with_constant (Controls (Jrl cc)) Byte 2)
unfolding first
long_jump = table _ _ 16 refl

pub up_to_seven : (op : Op) (n : ℕ) → n < 8 → Lists (up_to_seven_rows op) n (whole op Byte (Constant n))
unfolding up_to_seven_rows lookup
up_to_seven op = table _ _ 8 refl

-- ---- register forms
pub register_form : (z : Size) (r : ℕ) → r < 8 → Lists first_rows (0xC8 + size_step z + r) (by_rows (register_rows z (Register r)))
unfolding first
register_form = by_size _ _ 8 refl

pub named_form : (z : Size) → Lists first_rows (0xC7 + size_step z) (by_rows (code_byte_rows z))
unfolding first
named_form Byte = refl
named_form Word = refl
named_form Long = refl

any_code_byte : (z : Size) (c : ℕ) → c < 256 → Lists (code_byte_rows z) c (only (is_named (bytes_of z) c) (by_rows (register_rows z (Named c))))
unfolding code_byte_rows lookup
any_code_byte z c l = rw (leb-zero, le-leb c 0xFF (omega arith), lt-ltb c 256 l) refl

pub code_byte : (z : Size) (c : ℕ) → c < 256 → Holds (that (is_named (bytes_of z) c)) → Lists (code_byte_rows z) c (by_rows (register_rows z (Named c)))
code_byte z c l h = so_listed (code_byte_rows z) c (is_named (bytes_of z) c) _ (any_code_byte z c l) h

module _ (z : Size) (o : Operand) where
  pub load_constant : Lists (register_rows z o) 0x03 (number (bytes_of z) (λ n. whole (Puts (Number n)) z o))
  unfolding register_rows lookup
  load_constant = refl

  pub load : (r : ℕ) → r < 8 → Lists (register_rows z o) (0x88 + r) (whole (Puts (Load r)) z o)
  unfolding register_rows lookup
  load = table _ _ 8 refl

  pub into : (r : ℕ) → r < 8 → Lists (register_rows z o) (0x98 + r) (whole (Puts (From r)) z o)
  unfolding register_rows lookup
  into = table _ _ 8 refl

  pub compute : (a : Arith) (r : ℕ) → r < 8 → Lists (register_rows z o) (0x80 + 16 * arith_number a + r) (whole (Puts (Compute a (First r))) z o)
  unfolding register_rows lookup
  compute = by_arith _ _ 8 refl

  pub compute_constant : (a : Arith) → Lists (register_rows z o) (0xC8 + arith_number a) (number (bytes_of z) (λ n. whole (Puts (Compute a (With n))) z o))
  unfolding register_rows lookup
  compute_constant = each_arith _ _ refl

-- ---- memory forms: the rows after one, of a size
abbrev pub more_rows : Size → Base → List Row
more_rows z (Indirect r) = block_rows z r
more_rows z (Displaced r) = []
more_rows z Absolute8 = []
more_rows z Absolute16 = []
more_rows z Absolute24 = []

abbrev pub rows_of : Size → Base → ℕ → List Row
rows_of z base v = memory_rows z (form base v) ++ more_rows z base

pub indirect : (z : Size) (r : ℕ) → r < 8 → Lists first_rows (0x80 + size_step z + r) (by_rows (rows_of z (Indirect r) 0))
unfolding first indirect_rows
indirect = by_size _ _ 8 refl

pub displaced : (z : Size) (r : ℕ) → r < 8 → Lists first_rows (0x88 + size_step z + r) (number 1 (λ v. by_rows (rows_of z (Displaced r) v)))
unfolding first memory_rows
displaced = by_size _ _ 8 refl

pub absolute_8 : (z : Size) → Lists first_rows (0xC0 + size_step z) (number 1 (λ v. by_rows (rows_of z Absolute8 v)))
unfolding first memory_rows
absolute_8 = each_size _ _ refl

pub absolute_16 : (z : Size) → Lists first_rows (0xC1 + size_step z) (number 2 (λ v. by_rows (rows_of z Absolute16 v)))
unfolding first memory_rows
absolute_16 = each_size _ _ refl

pub absolute_24 : (z : Size) → Lists first_rows (0xC2 + size_step z) (number 3 (λ v. by_rows (rows_of z Absolute24 v)))
unfolding first memory_rows
absolute_24 = each_size _ _ refl

module _ (z : Size) (o : Operand) (more : List Row) where
  pub load_memory : (r : ℕ) → r < 8 → Lists (memory_rows z o ++ more) (0x20 + r) (whole (Puts (Load r)) z o)
  unfolding memory_rows lookup
  load_memory = table _ _ 8 refl

  pub compute_memory : (a : Arith) (r : ℕ) → r < 8 → Lists (memory_rows z o ++ more) (0x80 + 16 * arith_number a + r) (whole (Puts (Compute a (First r))) z o)
  unfolding memory_rows lookup
  compute_memory = by_arith _ _ 8 refl

  pub compute_into : (a : Arith) (r : ℕ) → r < 8 → Lists (memory_rows z o ++ more) (0x88 + 16 * arith_number a + r) (whole (Puts (Compute a (Second r))) z o)
  unfolding memory_rows lookup
  compute_into = by_arith _ _ 8 refl

-- ---- stores
pub indirect_store : (r : ℕ) → r < 8 → Lists first_rows (0x80 + 48 + r) (by_rows (store_rows (form (Indirect r) 0)))
unfolding first
indirect_store = table _ _ 8 refl

pub displaced_store : (r : ℕ) → r < 8 → Lists first_rows (0x88 + 48 + r) (number 1 (λ v. by_rows (store_rows (form (Displaced r) v))))
unfolding first
displaced_store = table _ _ 8 refl

pub absolute_store :
    Lists first_rows 0xF0 (number 1 (λ v. by_rows (store_rows (form Absolute8 v))))
    × Lists first_rows 0xF1 (number 2 (λ v. by_rows (store_rows (form Absolute16 v))))
    × Lists first_rows 0xF2 (number 3 (λ v. by_rows (store_rows (form Absolute24 v))))
unfolding first
absolute_store = (refl, refl, refl)

pub store : (o : Operand) (z : Size) (r : ℕ) → r < 8 → Lists (store_rows o) (0x40 + size_step z + r) (whole (Puts (From r)) z o)
unfolding store_rows lookup
store o = by_size _ _ 8 refl

-- ---- copies and compares
copy_hl : (z : Size) → Holds (that (no_long z)) → (up again : Bool) → Lists (rows_of z (Indirect 3) 0) (block_code true up again) (copy z up again 2 3)
unfolding memory_rows blocks copies lookup
copy_hl Byte h = each_test _ _ refl
copy_hl Word h = each_test _ _ refl
copy_hl Long h = absurd h

copy_iy : (z : Size) → Holds (that (no_long z)) → (up again : Bool) → Lists (rows_of z (Indirect 5) 0) (block_code true up again) (copy z up again 4 5)
unfolding memory_rows blocks copies lookup
copy_iy Byte h = each_test _ _ refl
copy_iy Word h = each_test _ _ refl
copy_iy Long h = absurd h

-- from XDE (2) on
compare_from : (z : Size) → Holds (that (no_long z)) → (k : ℕ) → k < 6 → (up again : Bool) → Lists (rows_of z (Indirect (2 + k)) 0) (block_code false up again) (compare z up again (2 + k))
unfolding memory_rows blocks copies compares lookup
compare_from Byte h = by_test _ _ 6 refl
compare_from Word h = by_test _ _ 6 refl
compare_from Long h = absurd h

pub block_byte :
    (c up again : Bool) (z : Size) (to from : ℕ) → Holds (that (no_long z)) → Holds (pointer_range c to from) →
    Lists (rows_of z (Indirect from) 0) (block_code c up again) (block (record { copies = c; size = z; up = up; again = again; to = to; from = from }))
block_byte true up again z to from h (inl p) = rw (p.0, p.1) (copy_hl z h up again)
block_byte true up again z to from h (inr p) = rw (p.0, p.1) (copy_iy z h up again)
block_byte false up again z to from h p =
    let e : 2 + (from - 2) ≡ from = omega arith in
    rw p.0 (rw e at (compare_from z h (from - 2) (omega arith) up again))
