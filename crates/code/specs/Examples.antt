-- Codes and what they are: some of each bullet in its order, some that are short, and some that are not listed.
use Rattle.std.specs.Prelude.{ℕ, ◌≡◌, refl, true, false, List, [], ◌∷◌, map, Err}
use Rattle.little.specs.Bytes.{value_of}
use Rattle.little.specs.declared.Size.TheVariants.{Byte, Word, Long}
use Rattle.alu.specs.declared.Shift.TheVariants.{Sla, Sra, Srl}
use Rattle.alu.specs.declared.Arith.TheVariants.{Add, Adc, Sub, And, Xor, Or, Cp}
use Rattle.alu.specs.declared.change.Change.TheVariants.{Inc, Dec, ShiftBy, Extz, Exts}
use Rattle.feed.specs.declared.scale.Scale.TheVariants.{Mul, Muls, Div, Divs}
use Rattle.feed.specs.declared.cycle.Stride.TheVariants.{One, Two, Four}
use Rattle.feed.specs.declared.cycle.Cycle.TheVariants.{Minc, Mdec}
use Rattle.feed.specs.Cycle.{is_power, is_table}
use Rattle.code.specs.{declared.Operand.TheVariants.Register, declared.Operand.TheVariants.Named, declared.Operand.TheVariants.Constant}
use Rattle.code.specs.{Said.judge, Said.number_at, Said.whole_of}
use Rattle.code.specs.{Rows.lookup, Registers.register_rows, Registers.feed_rows, Registers.table_rows, Registers.last_rows, Registers.places_rows, Memory.form, Memory.memory_rows, Memory.store_rows}
use Rattle.code.specs.{Memory.copies, Memory.compares, Memory.blocks, Memory.indirect_rows, Listed.absolute_rows, Listed.up_to_seven_rows}
use Rattle.code.specs.{Listed.bank_rows, Listed.flag_rows, Listed.constant_rows, Listed.stack_rows, Listed.jump_rows, Listed.relative_rows}
use Rattle.code.specs.{Listed.interrupt_rows, Listed.register_form_rows, Listed.memory_form_rows, Listed.memory_at_rows, Listed.store_form_rows, Listed.alone_rows}
use Rattle.code.specs.{Listed.memory_first_rows, Listed.named_form_rows, Listed.code_byte_rows, Listed.first_rows, Listed.decode_of}
use Rattle.code.specs.declared.Op.TheVariants.{Controls, Stacks, Puts, Sets, Blocks, Interrupts}
use Rattle.code.specs.declared.Control.TheVariants.{Nop, Incf, Decf, Ldf, Zcf, Exf, Jp24, Jr, Jrl, Ei}
use Rattle.code.specs.declared.Stack.TheVariants.{PopF, Push, Pop, Call16, Calr, Ret}
use Rattle.code.specs.declared.Interrupt.TheVariants.{PushSr, PopSr, Reti}
use Rattle.code.specs.declared.Use.TheVariants.{Number, From, Load, Compute, Changed, Scaled, ScaledWith, Cycled}
use Rattle.code.specs.declared.Side.TheVariants.{First, Second, With}
use Rattle.code.specs.declared.Base.TheVariants.{Indirect, Displaced, Absolute8, Absolute16, Absolute24}
use Rattle.code.specs.Unread.{Decoded}
use Rattle.code.specs.declared.Unread.TheVariants.{Short, Unlisted}

-- bytes, and what they are
pub record Example : Type 0 where
  pub code : List ℕ
  pub means : Decoded

infix 20 ◌is◌
abbrev pub ◌is◌ : List ℕ → Decoded → Example
s is d = record { code = s; means = d }

-- codes of every bullet of the list, and some that are not listed
abbrev pub examples : List Example
examples =
    -- NOP, INCF, DECF, LDF
    ((0x00 ∷ []) is whole_of (Controls Nop) Byte (Constant 0) 1) ∷ ((0x0C ∷ []) is whole_of (Controls Incf) Byte (Constant 0) 1) ∷
    ((0x0D ∷ []) is whole_of (Controls Decf) Byte (Constant 0) 1) ∷ ((0x17 ∷ 0x03 ∷ []) is whole_of (Controls Ldf) Byte (Constant 3) 2) ∷
    ((0x17 ∷ 0x05 ∷ []) is whole_of (Controls Ldf) Byte (Constant 5) 2) ∷ ((0x17 ∷ 0x07 ∷ []) is whole_of (Controls Ldf) Byte (Constant 7) 2) ∷
    -- flags
    ((0x13 ∷ []) is whole_of (Controls Zcf) Byte (Constant 0) 1) ∷ ((0x16 ∷ []) is whole_of (Controls Exf) Byte (Constant 0) 1) ∷
    ((0x19 ∷ []) is whole_of (Stacks PopF) Byte (Constant 0) 1) ∷
    -- constants
    ((0x21 ∷ 0x05 ∷ []) is whole_of (Sets 1) Byte (Constant 5) 2) ∷ ((0x34 ∷ 0x34 ∷ 0x12 ∷ []) is whole_of (Sets 4) Word (Constant 0x1234) 3) ∷
    ((0x47 ∷ 0x78 ∷ 0x56 ∷ 0x34 ∷ 0x12 ∷ []) is whole_of (Sets 7) Long (Constant 0x12345678) 5) ∷
    -- stack
    ((0x2E ∷ []) is whole_of (Stacks Push) Word (Register 6) 1) ∷ ((0x38 ∷ []) is whole_of (Stacks Push) Long (Register 0) 1) ∷
    ((0x5E ∷ []) is whole_of (Stacks Pop) Long (Register 6) 1) ∷
    -- jumps and calls
    ((0x1B ∷ 0x56 ∷ 0x34 ∷ 0x12 ∷ []) is whole_of (Controls Jp24) Byte (Constant 0x123456) 4) ∷
    ((0x1C ∷ 0x34 ∷ 0x12 ∷ []) is whole_of (Stacks Call16) Byte (Constant 0x1234) 3) ∷
    ((0x1E ∷ 0xFE ∷ 0xFF ∷ []) is whole_of (Stacks Calr) Byte (Constant 0xFFFE) 3) ∷ ((0x0E ∷ []) is whole_of (Stacks Ret) Byte (Constant 0) 1) ∷
    -- relative jumps
    ((0x68 ∷ 0x32 ∷ []) is whole_of (Controls (Jr 8)) Byte (Constant 0x32) 2) ∷
    ((0x7E ∷ 0x00 ∷ 0x80 ∷ []) is whole_of (Controls (Jrl 14)) Byte (Constant 0x8000) 3) ∷
    -- PUSH SR, POP SR, EI, RETI
    ((0x02 ∷ []) is whole_of (Interrupts PushSr) Byte (Constant 0) 1) ∷ ((0x03 ∷ []) is whole_of (Interrupts PopSr) Byte (Constant 0) 1) ∷
    ((0x06 ∷ 0x00 ∷ []) is whole_of (Controls Ei) Byte (Constant 0) 2) ∷ ((0x06 ∷ 0x07 ∷ []) is whole_of (Controls Ei) Byte (Constant 7) 2) ∷
    ((0x07 ∷ []) is whole_of (Interrupts Reti) Byte (Constant 0) 1) ∷
    -- register forms
    ((0xC9 ∷ 0x03 ∷ 0x05 ∷ []) is whole_of (Puts (Number 5)) Byte (Register 1) 3) ∷
    ((0xEF ∷ 0x03 ∷ 0x04 ∷ 0x03 ∷ 0x02 ∷ 0x01 ∷ []) is whole_of (Puts (Number 0x01020304)) Long (Register 7) 6) ∷
    ((0xDB ∷ 0x8C ∷ []) is whole_of (Puts (Load 4)) Word (Register 3) 2) ∷ ((0xDB ∷ 0x9C ∷ []) is whole_of (Puts (From 4)) Word (Register 3) 2) ∷
    ((0xDC ∷ 0xC3 ∷ []) is whole_of (Puts (Compute And (First 3))) Word (Register 4) 2) ∷
    ((0xDC ∷ 0xE3 ∷ []) is whole_of (Puts (Compute Or (First 3))) Word (Register 4) 2) ∷
    ((0xDC ∷ 0xD3 ∷ []) is whole_of (Puts (Compute Xor (First 3))) Word (Register 4) 2) ∷
    ((0xC9 ∷ 0xC8 ∷ 0x01 ∷ []) is whole_of (Puts (Compute Add (With 1))) Byte (Register 1) 3) ∷
    ((0xC9 ∷ 0xCA ∷ 0x01 ∷ []) is whole_of (Puts (Compute Sub (With 1))) Byte (Register 1) 3) ∷
    ((0xD8 ∷ 0x61 ∷ []) is whole_of (Puts (Changed (Inc 1))) Word (Register 0) 2) ∷
    ((0xD8 ∷ 0x68 ∷ []) is whole_of (Puts (Changed (Dec 0))) Word (Register 0) 2) ∷
    ((0xDB ∷ 0xEC ∷ 0x04 ∷ []) is whole_of (Puts (Changed (ShiftBy Sla 4))) Word (Register 3) 3) ∷
    ((0xDB ∷ 0xED ∷ 0x04 ∷ []) is whole_of (Puts (Changed (ShiftBy Sra 4))) Word (Register 3) 3) ∷
    ((0xC9 ∷ 0xEC ∷ 0x00 ∷ []) is whole_of (Puts (Changed (ShiftBy Sla 0))) Byte (Register 1) 3) ∷
    ((0xE9 ∷ 0x12 ∷ []) is whole_of (Puts (Changed Extz)) Long (Register 1) 2) ∷
    ((0xD9 ∷ 0x13 ∷ []) is whole_of (Puts (Changed Exts)) Word (Register 1) 2) ∷
    -- register forms behind C7, D7 and E7: INC 1,RA2; ADD QWA2,3; SUB XBC,XBC'; SUB XBC3,12345678H; LD IXL,A; LD W,IXH; SRL 16,WA
    ((0xC7 ∷ 0x20 ∷ 0x61 ∷ []) is whole_of (Puts (Changed (Inc 1))) Byte (Named 0x20) 3) ∷
    ((0xD7 ∷ 0x22 ∷ 0xC8 ∷ 0x03 ∷ 0x00 ∷ []) is whole_of (Puts (Compute Add (With 3))) Word (Named 0x22) 5) ∷
    ((0xE7 ∷ 0xD4 ∷ 0xA1 ∷ []) is whole_of (Puts (Compute Sub (First 1))) Long (Named 0xD4) 3) ∷
    ((0xE7 ∷ 0x34 ∷ 0xCA ∷ 0x78 ∷ 0x56 ∷ 0x34 ∷ 0x12 ∷ []) is whole_of (Puts (Compute Sub (With 0x12345678))) Long (Named 0x34) 7) ∷
    ((0xC7 ∷ 0xF0 ∷ 0x99 ∷ []) is whole_of (Puts (From 1)) Byte (Named 0xF0) 3) ∷ ((0xC7 ∷ 0xF1 ∷ 0x88 ∷ []) is whole_of (Puts (Load 0)) Byte (Named 0xF1) 3) ∷
    ((0xD7 ∷ 0xE0 ∷ 0xEF ∷ 0x00 ∷ []) is whole_of (Puts (Changed (ShiftBy Srl 0))) Word (Named 0xE0) 4) ∷
    -- MUL XWA,BC; MULS BC,W; DIV XSP,BC; DIVS DE,RW2; MUL WA,5; DIVS XWA,1234H; MULS IX,5; DIV XBC2,1
    ((0xD9 ∷ 0x40 ∷ []) is whole_of (Puts (Scaled Mul 0)) Word (Register 1) 2) ∷
    ((0xC8 ∷ 0x4B ∷ []) is whole_of (Puts (Scaled Muls 3)) Byte (Register 0) 2) ∷
    ((0xD9 ∷ 0x57 ∷ []) is whole_of (Puts (Scaled Div 7)) Word (Register 1) 2) ∷
    ((0xC7 ∷ 0x21 ∷ 0x5D ∷ []) is whole_of (Puts (Scaled Divs 5)) Byte (Named 0x21) 3) ∷
    ((0xC9 ∷ 0x08 ∷ 0x05 ∷ []) is whole_of (Puts (ScaledWith Mul 5)) Byte (Register 1) 3) ∷
    ((0xD8 ∷ 0x0B ∷ 0x34 ∷ 0x12 ∷ []) is whole_of (Puts (ScaledWith Divs 0x1234)) Word (Register 0) 4) ∷
    ((0xC7 ∷ 0xF0 ∷ 0x09 ∷ 0x05 ∷ []) is whole_of (Puts (ScaledWith Muls 5)) Byte (Named 0xF0) 4) ∷
    ((0xD7 ∷ 0x24 ∷ 0x0A ∷ 0x01 ∷ 0x00 ∷ []) is whole_of (Puts (ScaledWith Div 1)) Word (Named 0x24) 5) ∷
    -- MINC1 8,IX; MINC2 8000H,QWA2; MDEC4 80H,IX
    ((0xDC ∷ 0x38 ∷ 0x07 ∷ 0x00 ∷ []) is whole_of (Puts (Cycled (Minc One 7))) Word (Register 4) 4) ∷
    ((0xD7 ∷ 0x22 ∷ 0x39 ∷ 0xFE ∷ 0x7F ∷ []) is whole_of (Puts (Cycled (Minc Two 0x7FFE))) Word (Named 0x22) 5) ∷
    ((0xDC ∷ 0x3E ∷ 0x7C ∷ 0x00 ∷ []) is whole_of (Puts (Cycled (Mdec Four 0x7C))) Word (Register 4) 4) ∷
    -- memory forms
    ((0x84 ∷ 0x25 ∷ []) is whole_of (Puts (Load 5)) Byte (form (Indirect 4) 0) 2) ∷
    ((0x9D ∷ 0xFF ∷ 0x25 ∷ []) is whole_of (Puts (Load 5)) Word (form (Displaced 5) 0xFF) 3) ∷
    ((0xE0 ∷ 0x80 ∷ 0x21 ∷ []) is whole_of (Puts (Load 1)) Long (form Absolute8 0x80) 3) ∷
    ((0xC1 ∷ 0x34 ∷ 0x12 ∷ 0x91 ∷ []) is whole_of (Puts (Compute Adc (First 1))) Byte (form Absolute16 0x1234) 4) ∷
    ((0xD2 ∷ 0x56 ∷ 0x34 ∷ 0x12 ∷ 0xF9 ∷ []) is whole_of (Puts (Compute Cp (Second 1))) Word (form Absolute24 0x123456) 5) ∷
    -- stores
    ((0xB3 ∷ 0x41 ∷ []) is whole_of (Puts (From 1)) Byte (form (Indirect 3) 0) 2) ∷
    ((0xBB ∷ 0x02 ∷ 0x51 ∷ []) is whole_of (Puts (From 1)) Word (form (Displaced 3) 2) 3) ∷
    ((0xF2 ∷ 0x56 ∷ 0x34 ∷ 0x12 ∷ 0x61 ∷ []) is whole_of (Puts (From 1)) Long (form Absolute24 0x123456) 5) ∷
    -- copies and compares
    ((0x83 ∷ 0x10 ∷ []) is whole_of (Blocks (record { copies = true; size = Byte; up = true; again = false; to = 2; from = 3 })) Byte (form (Indirect 3) 0) 2) ∷
    ((0x95 ∷ 0x13 ∷ []) is whole_of (Blocks (record { copies = true; size = Word; up = false; again = true; to = 4; from = 5 })) Word (form (Indirect 5) 0) 2) ∷
    ((0x84 ∷ 0x15 ∷ []) is whole_of (Blocks (record { copies = false; size = Byte; up = true; again = true; to = 4; from = 4 })) Byte (form (Indirect 4) 0) 2) ∷
    ((0x97 ∷ 0x16 ∷ []) is whole_of (Blocks (record { copies = false; size = Word; up = false; again = false; to = 7; from = 7 })) Word (form (Indirect 7) 0) 2) ∷
    -- short
    (([]) is Err Short) ∷ ((0x17 ∷ []) is Err Short) ∷ ((0x42 ∷ 0x01 ∷ 0x02 ∷ 0x03 ∷ []) is Err Short) ∷ ((0xDB ∷ 0xEC ∷ []) is Err Short) ∷
    ((0xC9 ∷ 0xC8 ∷ []) is Err Short) ∷ ((0xC1 ∷ 0x34 ∷ []) is Err Short) ∷ ((0xC1 ∷ 0x34 ∷ 0x12 ∷ []) is Err Short) ∷ ((0x83 ∷ []) is Err Short) ∷
    ((0xF2 ∷ []) is Err Short) ∷ ((0x06 ∷ []) is Err Short) ∷ ((0xC7 ∷ []) is Err Short) ∷ ((0xD7 ∷ 0x22 ∷ []) is Err Short) ∷
    ((0xE7 ∷ 0x34 ∷ 0xCA ∷ 0x78 ∷ 0x56 ∷ 0x34 ∷ []) is Err Short) ∷ ((0xC9 ∷ 0x08 ∷ []) is Err Short) ∷ ((0xD8 ∷ 0x38 ∷ []) is Err Short) ∷
    ((0xD8 ∷ 0x38 ∷ 0xFF ∷ []) is Err Short) ∷
    -- unlisted
    ((0x2F ∷ []) is Err Unlisted) ∷ ((0x3F ∷ []) is Err Unlisted) ∷ ((0x4F ∷ []) is Err Unlisted) ∷ ((0x5F ∷ []) is Err Unlisted) ∷ ((0x01 ∷ []) is Err Unlisted) ∷
    ((0x17 ∷ 0x08 ∷ []) is Err Unlisted) ∷ ((0xDB ∷ 0xEC ∷ 0x10 ∷ []) is Err Unlisted) ∷ ((0xC8 ∷ 0x12 ∷ []) is Err Unlisted) ∷ ((0x84 ∷ 0x10 ∷ []) is Err Unlisted) ∷
    ((0x80 ∷ 0x14 ∷ []) is Err Unlisted) ∷ ((0x93 ∷ 0x18 ∷ []) is Err Unlisted) ∷ ((0xA3 ∷ 0x11 ∷ []) is Err Unlisted) ∷ ((0xFF ∷ []) is Err Unlisted) ∷
    ((0xB3 ∷ 0x20 ∷ []) is Err Unlisted) ∷ ((0xC3 ∷ []) is Err Unlisted) ∷ ((0x06 ∷ 0x08 ∷ []) is Err Unlisted) ∷ ((0x04 ∷ []) is Err Unlisted) ∷
    ((0x05 ∷ []) is Err Unlisted) ∷ ((0x08 ∷ []) is Err Unlisted) ∷ ((0xC7 ∷ 0x40 ∷ []) is Err Unlisted) ∷ ((0xC7 ∷ 0xCF ∷ []) is Err Unlisted) ∷
    ((0xD7 ∷ 0x21 ∷ []) is Err Unlisted) ∷ ((0xE7 ∷ 0x22 ∷ []) is Err Unlisted) ∷ ((0xC7 ∷ 0x20 ∷ 0x12 ∷ []) is Err Unlisted) ∷ ((0xF7 ∷ []) is Err Unlisted) ∷
    ((0xC9 ∷ 0x40 ∷ []) is Err Unlisted) ∷ ((0xC8 ∷ 0x08 ∷ []) is Err Unlisted) ∷ ((0xC7 ∷ 0x21 ∷ 0x08 ∷ []) is Err Unlisted) ∷
    ((0xD7 ∷ 0x22 ∷ 0x08 ∷ []) is Err Unlisted) ∷ ((0xE8 ∷ 0x41 ∷ []) is Err Unlisted) ∷ ((0xC9 ∷ 0x38 ∷ []) is Err Unlisted) ∷
    ((0xD8 ∷ 0x3B ∷ []) is Err Unlisted) ∷ ((0xD8 ∷ 0x38 ∷ 0x02 ∷ []) is Err Unlisted) ∷ ((0xD8 ∷ 0x38 ∷ 0xFF ∷ 0xFF ∷ []) is Err Unlisted) ∷ []

-- all of them are so, by computation
pub decoded : map (λ e. decode_of e.code) examples ≡ map (λ e. e.means) examples
unfolding decode_of is_table is_power feed_rows table_rows last_rows first_rows alone_rows memory_first_rows named_form_rows code_byte_rows bank_rows up_to_seven_rows flag_rows constant_rows stack_rows jump_rows relative_rows interrupt_rows register_form_rows memory_form_rows memory_at_rows store_form_rows absolute_rows register_rows places_rows memory_rows store_rows copies compares blocks indirect_rows judge number_at lookup value_of
decoded = refl
