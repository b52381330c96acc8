-- The listed codes, bullet by bullet, and the decoder.
use Rattle.std.specs.Prelude.{ℕ, ◌+◌, ◌%◌, List, [], ◌∷◌, ◌++◌}
use Rattle.little.specs.{declared.Size.Size, Width.bytes_of}
use Rattle.state.specs.Named.{is_named}
use Rattle.little.specs.declared.Size.TheVariants.{Byte, Word, Long}
use Rattle.code.specs.{declared.Op.Op, declared.Base.Base, declared.Operand.Operand, declared.Operand.TheVariants.Register, declared.Operand.TheVariants.Named}
use Rattle.code.specs.{declared.Operand.TheVariants.Constant, Said.Said, Said.whole, Said.number, Said.judge}
use Rattle.code.specs.{Rows.one, Rows.run, Rows.Row, Rows.◌⇒◌, Rows.only, Rows.by_rows, Registers.register_rows, Memory.form, Memory.memory_rows}
use Rattle.code.specs.{Memory.store_rows, Memory.indirect_rows}
use Rattle.code.specs.declared.Op.TheVariants.{Controls, Stacks, Sets, Interrupts}
use Rattle.code.specs.declared.Control.TheVariants.{Nop, Incf, Decf, Ldf, Rcf, Scf, Ccf, Zcf, Exf, Jp16, Jp24, Jr, Jrl, Ei}
use Rattle.code.specs.declared.Stack.TheVariants.{PushF, PopF, Push, Pop, Call16, Call24, Calr, Ret}
use Rattle.code.specs.declared.Interrupt.TheVariants.{PushSr, PopSr, Reti}
use Rattle.code.specs.declared.Base.TheVariants.{Indirect, Displaced, Absolute8, Absolute16, Absolute24}
use Rattle.code.specs.Unread.{Decoded}

-- an operation that is said by one byte alone
abbrev pub alone : Op → Said
alone op = whole op Byte (Constant 0)

-- an operation and a constant of n bytes
abbrev pub with_constant : Op → Size → ℕ → Said
with_constant op z n = number n (λ v. whole op z (Constant v))

-- an operation and a byte 00 to 07
unfoldable pub up_to_seven_rows : Op → List Row
up_to_seven_rows op = (run 0x00 0x07 ⇒ λ n. whole op Byte (Constant n)) ∷ []

-- 00 NOP. 0C INCF, 0D DECF. 17 n LDF, n 00 to 07 (request K2)
unfoldable pub bank_rows : List Row
bank_rows =
    (one 0x00 ⇒ λ b. alone (Controls Nop))
    ∷ (one 0x0C ⇒ λ b. alone (Controls Incf))
    ∷ (one 0x0D ⇒ λ b. alone (Controls Decf))
    ∷ (one 0x17 ⇒ λ b. by_rows (up_to_seven_rows (Controls Ldf)))
    ∷ []

-- 10 RCF, 11 SCF, 12 CCF, 13 ZCF. 16 EX F,F'. 18 PUSH F, 19 POP F
unfoldable pub flag_rows : List Row
flag_rows =
    (one 0x10 ⇒ λ b. alone (Controls Rcf))
    ∷ (one 0x11 ⇒ λ b. alone (Controls Scf))
    ∷ (one 0x12 ⇒ λ b. alone (Controls Ccf))
    ∷ (one 0x13 ⇒ λ b. alone (Controls Zcf))
    ∷ (one 0x16 ⇒ λ b. alone (Controls Exf))
    ∷ (one 0x18 ⇒ λ b. alone (Stacks PushF))
    ∷ (one 0x19 ⇒ λ b. alone (Stacks PopF))
    ∷ []

-- 20+R n8, 30+R n16, 40+R n32: load a constant
unfoldable pub constant_rows : List Row
constant_rows =
    (run 0x20 0x27 ⇒ λ b. with_constant (Sets (b % 8)) Byte 1)
    ∷ (run 0x30 0x37 ⇒ λ b. with_constant (Sets (b % 8)) Word 2)
    ∷ (run 0x40 0x47 ⇒ λ b. with_constant (Sets (b % 8)) Long 4)
    ∷ []

-- 28+R, 38+R push word, long; 48+R, 58+R pop. R = 7 is not listed
unfoldable pub stack_rows : List Row
stack_rows =
    (run 0x28 0x2E ⇒ λ b. whole (Stacks Push) Word (Register (b % 8)))
    ∷ (run 0x38 0x3E ⇒ λ b. whole (Stacks Push) Long (Register (b % 8)))
    ∷ (run 0x48 0x4E ⇒ λ b. whole (Stacks Pop) Word (Register (b % 8)))
    ∷ (run 0x58 0x5E ⇒ λ b. whole (Stacks Pop) Long (Register (b % 8)))
    ∷ []

-- 1A n16, 1B n24 JP; 1C n16, 1D n24 CALL; 1E d16 CALR; 0E RET
unfoldable pub jump_rows : List Row
jump_rows =
    (one 0x1A ⇒ λ b. with_constant (Controls Jp16) Byte 2)
    ∷ (one 0x1B ⇒ λ b. with_constant (Controls Jp24) Byte 3)
    ∷ (one 0x1C ⇒ λ b. with_constant (Stacks Call16) Byte 2)
    ∷ (one 0x1D ⇒ λ b. with_constant (Stacks Call24) Byte 3)
    ∷ (one 0x1E ⇒ λ b. with_constant (Stacks Calr) Byte 2)
    ∷ (one 0x0E ⇒ λ b. alone (Stacks Ret))
    ∷ []

-- 60+cc d8 JR, 70+cc d16 JRL
unfoldable pub relative_rows : List Row
relative_rows =
    (run 0x60 0x6F ⇒ λ b. with_constant (Controls (Jr (b % 16))) Byte 1)
    ∷ (run 0x70 0x7F ⇒ λ b. with_constant (Controls (Jrl (b % 16))) Byte 2)
    ∷ []

-- 02 PUSH SR, 03 POP SR. 06 n EI, n 00 to 07. 07 RETI (request K8)
unfoldable pub interrupt_rows : List Row
interrupt_rows =
    (one 0x02 ⇒ λ b. alone (Interrupts PushSr))
    ∷ (one 0x03 ⇒ λ b. alone (Interrupts PopSr))
    ∷ (one 0x06 ⇒ λ b. by_rows (up_to_seven_rows (Controls Ei)))
    ∷ (one 0x07 ⇒ λ b. alone (Interrupts Reti))
    ∷ []

-- C8+r byte, D8+r word, E8+r long, then the byte of a register form
unfoldable pub register_form_rows : List Row
register_form_rows =
    (run 0xC8 0xCF ⇒ λ b. by_rows (register_rows Byte (Register (b % 8))))
    ∷ (run 0xD8 0xDF ⇒ λ b. by_rows (register_rows Word (Register (b % 8))))
    ∷ (run 0xE8 0xEF ⇒ λ b. by_rows (register_rows Long (Register (b % 8))))
    ∷ []

-- a code byte that names a register of a size, then the byte of a register form
unfoldable pub code_byte_rows : Size → List Row
code_byte_rows z = (run 0x00 0xFF ⇒ λ c. only (is_named (bytes_of z) c) (by_rows (register_rows z (Named c)))) ∷ []

-- C7 byte, D7 word, E7 long, in place of C8+r, D8+r, E8+r (request K1)
unfoldable pub named_form_rows : List Row
named_form_rows =
    (one 0xC7 ⇒ λ b. by_rows (code_byte_rows Byte))
    ∷ (one 0xD7 ⇒ λ b. by_rows (code_byte_rows Word))
    ∷ (one 0xE7 ⇒ λ b. by_rows (code_byte_rows Long))
    ∷ []

-- a memory form with a number of n bytes; what the byte after it says hangs on it
abbrev pub form_with : Base → ℕ → (Operand → List Row) → Said
form_with base n rows = number n (λ v. by_rows (rows (form base v)))

-- n8, n16, n24, at a first byte and the two after it
unfoldable pub absolute_rows : ℕ → (Operand → List Row) → List Row
absolute_rows a rows =
    (one a ⇒ λ b. form_with Absolute8 1 rows)
    ∷ (one (a + 1) ⇒ λ b. form_with Absolute16 2 rows)
    ∷ (one (a + 2) ⇒ λ b. form_with Absolute24 3 rows)
    ∷ []

-- 80+R (R), 88+R d8 (R+d8) byte, with 90, 98 word and A0, A8 long
unfoldable pub memory_form_rows : List Row
memory_form_rows =
    (run 0x80 0x87 ⇒ λ b. by_rows (indirect_rows Byte (b % 8)))
    ∷ (run 0x88 0x8F ⇒ λ b. form_with (Displaced (b % 8)) 1 (memory_rows Byte))
    ∷ (run 0x90 0x97 ⇒ λ b. by_rows (indirect_rows Word (b % 8)))
    ∷ (run 0x98 0x9F ⇒ λ b. form_with (Displaced (b % 8)) 1 (memory_rows Word))
    ∷ (run 0xA0 0xA7 ⇒ λ b. by_rows (indirect_rows Long (b % 8)))
    ∷ (run 0xA8 0xAF ⇒ λ b. form_with (Displaced (b % 8)) 1 (memory_rows Long))
    ∷ []

-- C0 n8, C1 n16, C2 n24 byte, D0.. word, E0.. long
unfoldable pub memory_at_rows : List Row
memory_at_rows = absolute_rows 0xC0 (memory_rows Byte) ++ (absolute_rows 0xD0 (memory_rows Word) ++ absolute_rows 0xE0 (memory_rows Long))

-- B0+R, B8+R d8, F0 n8, F1 n16, F2 n24, then the byte of a store
unfoldable pub store_form_rows : List Row
store_form_rows =
    (run 0xB0 0xB7 ⇒ λ b. by_rows (store_rows (form (Indirect (b % 8)) 0)))
    ∷ (run 0xB8 0xBF ⇒ λ b. form_with (Displaced (b % 8)) 1 store_rows)
    ∷ absolute_rows 0xF0 store_rows

-- the first byte: 00 to 7F, which no operand's form begins with
unfoldable pub alone_rows : List Row
alone_rows = bank_rows ++ (flag_rows ++ (constant_rows ++ (stack_rows ++ (jump_rows ++ (relative_rows ++ interrupt_rows)))))

-- a memory form's
unfoldable pub memory_first_rows : List Row
memory_first_rows = memory_form_rows ++ (memory_at_rows ++ store_form_rows)

-- all bullets
unfoldable pub first_rows : List Row
first_rows = alone_rows ++ (register_form_rows ++ (memory_first_rows ++ named_form_rows))

-- the instruction that the code begins with
unfoldable pub decode_of : List ℕ → Decoded
decode_of s = judge (by_rows first_rows) s 0
