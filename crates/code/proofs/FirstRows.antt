-- Laws of the first byte's rows, group by group.
use Prim.Native.Nat.{ℕ, ◌+◌, ◌/◌, ◌%◌, ◌≤◌, ◌<◌}
use mathlib.Core.Path.{◌≡◌, refl, sym}
use mathlib.Core.Bool.{true, false, cond, ◌&&◌}
use mathlib.Core.Logic.{inl, inr}
use mathlib.Core.List.{List, [], ◌∷◌}
use native.Mathlib.Omega.{arith}
use lib.Dec.{ltb, leb, eqb}
use borrow.Author.Tests.{ne_eqb}
use types.Run.{OneOf}
use Rattle.little.specs.declared.Size.TheVariants.{Byte, Word, Long}
use Rattle.code.specs.declared.Op.TheVariants.{Controls, Stacks, Sets}
use Rattle.code.specs.declared.Control.TheVariants.{Jr, Jrl}
use Rattle.code.specs.declared.Stack.TheVariants.{Push, Pop}
use Rattle.code.specs.declared.Base.TheVariants.{Indirect, Displaced}
use Rattle.code.specs.declared.Operand.{Operand}
use Rattle.code.specs.declared.Operand.TheVariants.{Register}
use Rattle.code.specs.Said.{Said, whole, unlisted}
use Rattle.code.specs.Rows.{Row, lookup, by_rows}
use Rattle.code.specs.Memory.{form, memory_rows, indirect_rows}
use Rattle.code.specs.Listed.{with_constant, form_with, absolute_rows, bank_rows, flag_rows, constant_rows, stack_rows, jump_rows, relative_rows, interrupt_rows, register_form_rows, memory_form_rows, memory_at_rows, store_form_rows, named_form_rows, alone_rows, memory_first_rows, first_rows}
use Rattle.code.specs.inner.Parts.{size_of, rows_begun, begins_register, register_size, register_begun}
use Rattle.code.proofs.Groups.{Missed, Below, all_above}
use Rattle.code.proofs.Tables.{table, besides, no_arm, in_run, in_arm, in_no_arm}

-- all lists, opened
unfoldable pub first : ℕ → Said
unfolding first_rows alone_rows memory_first_rows bank_rows flag_rows constant_rows stack_rows jump_rows relative_rows interrupt_rows register_form_rows memory_form_rows memory_at_rows store_form_rows named_form_rows absolute_rows lookup
first b = lookup first_rows b

-- ---- which list a first byte stands in
pub in_alone : (b : ℕ) → b < 0x80 → lookup first_rows b ≡ lookup alone_rows b
unfolding first
in_alone = table _ _ 0x80 refl

registers_there : (b : ℕ) → b < 256 → cond (begins_register b) (lookup first_rows b) unlisted ≡ cond (begins_register b) (register_begun (register_size b) b) unlisted
unfolding first begins_register register_size register_begun
registers_there = table _ _ 256 refl

pub in_registers : (b : ℕ) → b < 256 → begins_register b ≡ true → lookup first_rows b ≡ register_begun (register_size b) b
in_registers b h e = rw e at (registers_there b h)

memory_there : (b : ℕ) → 0x80 ≤ b → b < 0x80 + 0x80 → cond (begins_register b) unlisted (lookup first_rows b) ≡ cond (begins_register b) unlisted (lookup memory_first_rows b)
unfolding first begins_register
memory_there = in_run _ _ 0x80 0x80 refl

pub in_memory : (b : ℕ) → b < 256 → 0x80 ≤ b → begins_register b ≡ false → lookup first_rows b ≡ lookup memory_first_rows b
in_memory b h k e = rw e at (memory_there b k h)

-- ---- which first bytes begin a register form: C8 to EF in the odd groups, and C7, D7, E7 in the even ones
odd_there : (b : ℕ) → b < 256 → cond (eqb (b / 8 % 2) 1) (leb 0xC8 b && ltb b 0xF0) true ≡ cond (eqb (b / 8 % 2) 1) (begins_register b) true
unfolding begins_register
odd_there = table _ _ 256 refl

pub begins_odd : (b : ℕ) → b < 256 → b / 8 % 2 ≡ 1 → leb 0xC8 b && ltb b 0xF0 ≡ begins_register b
begins_odd b h e = rw e at (odd_there b h)

pub begins_named : (b : ℕ) → OneOf (0xC7 ∷ 0xD7 ∷ 0xE7 ∷ []) b → true ≡ begins_register b
unfolding begins_register
begins_named b (inl e) = rw e refl
begins_named b (inr (inl e)) = rw e refl
begins_named b (inr (inr e)) = rw e refl

abbrev named_arms : List (List ℕ)
named_arms = (0xC7 ∷ 0xD7 ∷ 0xE7 ∷ []) ∷ []

even_left : (b : ℕ) → b < 256 → besides named_arms b (cond (eqb (b / 8 % 2) 1) false (begins_register b)) false ≡ false
unfolding begins_register
even_left = table _ (λ b. false) 256 refl

pub begins_none : (b : ℕ) → b < 256 → (b / 8 % 2 ≡ 1 → ⊥) → Missed named_arms b → false ≡ begins_register b
begins_none b h e m = sym (rw (ne_eqb (b / 8 % 2) 1 e) at (no_arm named_arms b _ _ (even_left b h) m))

-- ---- 00 to 7F
pub set_byte : (b : ℕ) → b / 8 ≡ 4 → lookup alone_rows b ≡ with_constant (Sets (b % 8)) Byte 1
unfolding first
set_byte = in_arm _ _ (4 ∷ []) refl

pub set_word : (b : ℕ) → b / 8 ≡ 6 → lookup alone_rows b ≡ with_constant (Sets (b % 8)) Word 2
unfolding first
set_word = in_arm _ _ (6 ∷ []) refl

pub set_long : (b : ℕ) → b / 8 ≡ 8 → lookup alone_rows b ≡ with_constant (Sets (b % 8)) Long 4
unfolding first
set_long = in_arm _ _ (8 ∷ []) refl

pub push_word : (b : ℕ) → b / 8 ≡ 5 → lookup alone_rows b ≡ cond (ltb (b % 8) 7) (whole (Stacks Push) Word (Register (b % 8))) unlisted
unfolding first
push_word = in_arm _ _ (5 ∷ []) refl

pub push_long : (b : ℕ) → b / 8 ≡ 7 → lookup alone_rows b ≡ cond (ltb (b % 8) 7) (whole (Stacks Push) Long (Register (b % 8))) unlisted
unfolding first
push_long = in_arm _ _ (7 ∷ []) refl

pub pop_word : (b : ℕ) → b / 8 ≡ 9 → lookup alone_rows b ≡ cond (ltb (b % 8) 7) (whole (Stacks Pop) Word (Register (b % 8))) unlisted
unfolding first
pop_word = in_arm _ _ (9 ∷ []) refl

pub pop_long : (b : ℕ) → b / 8 ≡ 11 → lookup alone_rows b ≡ cond (ltb (b % 8) 7) (whole (Stacks Pop) Long (Register (b % 8))) unlisted
unfolding first
pop_long = in_arm _ _ (11 ∷ []) refl

jump_60 : (b : ℕ) → 0x60 ≤ b → b < 0x70 → lookup alone_rows b ≡ with_constant (Controls (Jr (b % 16))) Byte 1
unfolding first
jump_60 = in_run _ _ 0x60 0x10 refl

pub jump_short : (b : ℕ) → 11 ≤ b / 8 → (b / 8 ≡ 11 → ⊥) → b / 8 < 14 → lookup alone_rows b ≡ with_constant (Controls (Jr (b % 16))) Byte 1
jump_short b h m k = jump_60 b (omega arith) (omega arith)

pub jump_long : (b : ℕ) → 0x70 ≤ b → b < 0x80 → lookup alone_rows b ≡ with_constant (Controls (Jrl (b % 16))) Byte 2
unfolding first
jump_long = in_run _ _ 0x70 0x10 refl

-- the arms below 12 after 0 and 1, last first
abbrev alone_arms : List (List ℕ)
alone_arms = (11 ∷ []) ∷ (9 ∷ []) ∷ (8 ∷ []) ∷ (7 ∷ []) ∷ (6 ∷ []) ∷ (5 ∷ []) ∷ (4 ∷ []) ∷ (3 ∷ []) ∷ (2 ∷ []) ∷ []

low_arms : (b : ℕ) → b < 0x58 → Missed ((1 ∷ []) ∷ (0 ∷ []) ∷ alone_arms) (b / 8) → lookup alone_rows b ≡ unlisted
unfolding first
low_arms = in_no_arm _ (λ b. unlisted) ((1 ∷ []) ∷ (0 ∷ []) ∷ alone_arms) 0x58 refl

below_58 : (b : ℕ) → b / 8 < 11 → b < 0x58
below_58 b h = omega arith

pub no_low : (b : ℕ) → 2 ≤ b / 8 → b / 8 < 11 → Missed alone_arms (b / 8) → lookup alone_rows b ≡ unlisted
no_low b l h m = let a = all_above 2 (b / 8) l in low_arms b (below_58 b h) ((m, a.0.1), a.1)

pub no_high : (b : ℕ) → 0x80 ≤ b → b < 0x100 → lookup alone_rows b ≡ unlisted
unfolding first
no_high = in_run _ (λ b. unlisted) 0x80 0x80 refl

-- the groups whose bytes differ
abbrev arms_00 : List (List ℕ)
arms_00 = (0x0E ∷ []) ∷ (0x0D ∷ []) ∷ (0x0C ∷ []) ∷ (0x07 ∷ []) ∷ (0x06 ∷ []) ∷ (0x03 ∷ []) ∷ (0x02 ∷ []) ∷ (0x00 ∷ []) ∷ []

abbrev arms_10 : List (List ℕ)
arms_10 = (0x17 ∷ []) ∷ (0x16 ∷ []) ∷ (0x13 ∷ []) ∷ (0x12 ∷ []) ∷ (0x11 ∷ []) ∷ (0x10 ∷ []) ∷ []

abbrev arms_18 : List (List ℕ)
arms_18 = (0x1E ∷ []) ∷ (0x1D ∷ []) ∷ (0x1C ∷ []) ∷ (0x1B ∷ []) ∷ (0x1A ∷ []) ∷ (0x19 ∷ []) ∷ (0x18 ∷ []) ∷ []

-- what no arm has, and unlisted for what an arm has
abbrev left : List (List ℕ) → ℕ → Said
left kss b = besides kss b (lookup alone_rows b) unlisted

pub no_00 : (b : ℕ) → b < 16 → Missed arms_00 b → lookup alone_rows b ≡ unlisted
unfolding first
no_00 b h = no_arm arms_00 b _ _ (table (left arms_00) (λ b. unlisted) 16 refl b h)

pub no_10 : (b : ℕ) → b / 8 ≡ 2 → Missed arms_10 b → lookup alone_rows b ≡ unlisted
unfolding first
no_10 b h = no_arm arms_10 b _ _ (in_arm (left arms_10) (λ b. unlisted) (2 ∷ []) refl b h)

pub no_18 : (b : ℕ) → b / 8 ≡ 3 → Missed arms_18 b → lookup alone_rows b ≡ unlisted
unfolding first
no_18 b h = no_arm arms_18 b _ _ (in_arm (left arms_18) (λ b. unlisted) (3 ∷ []) refl b h)

-- ---- memory forms, and the rows of the byte after each
pub indirect_form : (b : ℕ) → OneOf (16 ∷ 18 ∷ 20 ∷ 22 ∷ []) (b / 8) → lookup memory_first_rows b ≡ by_rows (rows_begun b (form (Indirect (b % 8)) 0))
unfolding first size_of rows_begun indirect_rows
indirect_form = in_arm _ _ (16 ∷ 18 ∷ 20 ∷ 22 ∷ []) refl

pub displaced_form : (b : ℕ) → OneOf (17 ∷ 19 ∷ 21 ∷ 23 ∷ []) (b / 8) → lookup memory_first_rows b ≡ form_with (Displaced (b % 8)) 1 (rows_begun b)
unfolding first size_of rows_begun memory_rows
displaced_form = in_arm _ _ (17 ∷ 19 ∷ 21 ∷ 23 ∷ []) refl

pub absolute_form : (b : ℕ) → OneOf (24 ∷ 26 ∷ 28 ∷ 30 ∷ []) (b / 8) → lookup memory_first_rows b ≡ lookup (absolute_rows 0 (rows_begun b)) (b % 8)
unfolding first size_of rows_begun memory_rows
absolute_form = in_arm _ _ (24 ∷ 26 ∷ 28 ∷ 30 ∷ []) refl

-- an address of one, two or three bytes only
pub no_absolute : (rows : Operand → List Row) (k : ℕ) → Missed (Below 3) k → lookup (absolute_rows 0 rows) k ≡ unlisted
unfolding absolute_rows lookup
no_absolute rows k m = rw (ne_eqb k 0 m.0.0.1, ne_eqb k 1 m.0.1, ne_eqb k 2 m.1)

-- the arms, last first
abbrev pub memory_arms : List (List ℕ)
memory_arms = (24 ∷ 26 ∷ 28 ∷ 30 ∷ []) ∷ (17 ∷ 19 ∷ 21 ∷ 23 ∷ []) ∷ (16 ∷ 18 ∷ 20 ∷ 22 ∷ []) ∷ []

pub no_memory : (b : ℕ) → b < 256 → Missed memory_arms (b / 8) → lookup memory_first_rows b ≡ unlisted
unfolding first
no_memory = in_no_arm _ (λ b. unlisted) memory_arms 256 refl
