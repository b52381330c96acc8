-- What each of the readers gives, as a decoded instruction, and what they read it by.
use Rattle.std.specs.Prelude.{ℕ, ◌+◌, ◌/◌, ◌%◌, Bool, true, false, cond, ◌&&◌, ◌||◌, List, [], ◌++◌, eqb, ltb, leb, Ok, Err}
use Rattle.little.specs.declared.Size.{Size}
use Rattle.little.specs.declared.Size.TheVariants.{Byte, Word, Long}
use Rattle.feed.specs.declared.cycle.{Cycle.Cycle, Stride.Stride}
use Rattle.feed.specs.declared.cycle.Cycle.TheVariants.{Minc, Mdec}
use Rattle.code.specs.{declared.MemoryForm.MemoryForm, declared.Base.TheVariants.Indirect, declared.Operand.Operand}
use Rattle.code.specs.{declared.Operand.TheVariants.Register, declared.Operand.TheVariants.Constant, declared.Operand.TheVariants.Memory}
use Rattle.code.specs.{Said.Said, Said.whole_of, Said.judge, Rows.Row}
use Rattle.code.specs.{Rows.by_rows, Registers.register_rows, Registers.feed_rows, Listed.code_byte_rows, Range.InRegisters, Memory.form, Memory.memory_rows, Memory.store_rows, Memory.block_rows}
use Rattle.code.specs.declared.Op.TheVariants.{Controls, Stacks, Puts, Sets, Blocks, Interrupts}
use Rattle.code.specs.declared.Use.TheVariants.{Number, From, Load, Compute, Changed, Scaled, ScaledWith, Cycled}
use Rattle.code.specs.declared.Side.TheVariants.{First, Second, With}
use Rattle.code.specs.declared.Alone.{Alone}
use Rattle.code.specs.declared.Alone.TheVariants as alone
use Rattle.code.specs.declared.Chosen.{Chosen}
use Rattle.code.specs.declared.Chosen.TheVariants as chosen
use Rattle.code.specs.declared.OfRegister.{OfRegister}
use Rattle.code.specs.declared.OfRegister.TheVariants as register
use Rattle.code.specs.declared.OfFeed.{OfFeed}
use Rattle.code.specs.declared.OfFeed.TheVariants as feed
use Rattle.code.specs.declared.Begun.{Begun}
use Rattle.code.specs.declared.Begun.TheVariants as begun
use Rattle.code.specs.declared.OfMemory.{OfMemory}
use Rattle.code.specs.declared.OfMemory.TheVariants as memory
use Rattle.code.specs.Unread.{Decoded}
use Rattle.code.specs.declared.Unread.TheVariants.{Short, Unlisted}

-- how many bytes of a number are read: no code has one of more than four
abbrev pub up_to_four : ℕ → ℕ
up_to_four n = cond (ltb n 4) n 4

-- the size of an operand, by the high digit of the first byte: word for 9 and D, long for A and E, and byte for any other
unfoldable pub size_of : ℕ → Size
size_of d = cond (eqb d 0x9 || eqb d 0xD) Word (cond (eqb d 0xA || eqb d 0xE) Long Byte)

-- the byte after the form that the first byte b begins: a store's after B and F, or any other's with the copies and compares after (R)
unfoldable pub rows_begun : ℕ → Operand → List Row
rows_begun b o =
    let k = b / 8 in
    let z = size_of (8 + b / 16 % 4) in
    cond (eqb (b / 16 % 4) 3) (store_rows o)
    (memory_rows z o ++ cond (eqb k 16 || eqb k 18 || eqb k 20) (block_rows z (b % 8)) [])

-- of a first byte 00 to 7F
abbrev pub alone_as : Alone → Decoded
alone_as (alone.Controls what v n) = whole_of (Controls what) Byte (Constant v) n
alone_as (alone.Stacks what z o n) = whole_of (Stacks what) z o n
alone_as (alone.Sets r z v n) = whole_of (Sets r) z (Constant v) n
alone_as (alone.Interrupts what n) = whole_of (Interrupts what) Byte (Constant 0) n
alone_as alone.Short = Err Short
alone_as alone.Unlisted = Err Unlisted

-- whether a first byte begins a register form: C7 to CF, D7 to DF, E7 to EF; and of which size
unfoldable pub begins_register : ℕ → Bool
begins_register b = leb 0xC0 b && (ltb b 0xF0 && leb 7 (b % 16))

unfoldable pub register_size : ℕ → Size
register_size b = cond (ltb b 0xD0) Byte (cond (ltb b 0xE0) Word Long)

-- what such a first byte says: its register, or that a code byte names it
unfoldable pub register_begun : Size → ℕ → Said
register_begun z b = cond (eqb (b / 8 % 2) 1) (by_rows (register_rows z (Register (b % 8)))) (by_rows (code_byte_rows z))

-- of a register that is known: the rest is judged by the rows after it
abbrev pub chosen_as : Chosen → Size → List ℕ → Decoded
chosen_as (chosen.Register o n) z s = judge (by_rows (register_rows z o)) s (1 + n)
chosen_as chosen.Short z s = Err Short
chosen_as chosen.Unlisted z s = Err Unlisted

-- it is a register of the size
abbrev pub Chooses : Chosen → Size → Type 0
Chooses (chosen.Register o n) z = InRegisters z o
Chooses chosen.Short z = Unit {0}
Chooses chosen.Unlisted z = Unit {0}

-- how many code bytes named it
abbrev pub behind_of : Chosen → ℕ
behind_of (chosen.Register o n) = n
behind_of chosen.Short = 0
behind_of chosen.Unlisted = 0

-- what was read of a code without its first n bytes, of the whole code: an instruction has n bytes more
abbrev pub longer : ℕ → Decoded → Decoded
longer n (Ok i) = whole_of i.op i.size i.operand (n + i.length)
longer n (Err Short) = Err Short
longer n (Err Unlisted) = Err Unlisted

-- of a register form, of a size and with its operand, in the code s: the rest is judged by rows of its own
abbrev pub register_as : OfRegister → Size → Operand → List ℕ → Decoded
register_as (register.Number v n) z o s = whole_of (Puts (Number v)) z o n
register_as (register.From r n) z o s = whole_of (Puts (From r)) z o n
register_as (register.Load r n) z o s = whole_of (Puts (Load r)) z o n
register_as (register.Compute op r n) z o s = whole_of (Puts (Compute op (First r))) z o n
register_as (register.With op v n) z o s = whole_of (Puts (Compute op (With v))) z o n
register_as (register.Changed how n) z o s = whole_of (Puts (Changed how)) z o n
register_as register.Rest z o s = judge (by_rows (feed_rows z o)) s 1
register_as register.Short z o s = Err Short
register_as register.Unlisted z o s = Err Unlisted

-- MINC, or MDEC
abbrev pub cycle_as : Bool → Stride → ℕ → Cycle
cycle_as true s last = Minc s last
cycle_as false s last = Mdec s last

-- of a form of the feed calculation
abbrev pub feed_as : OfFeed → Size → Operand → Decoded
feed_as (feed.Scaled how r n) z o = whole_of (Puts (Scaled how r)) z o n
feed_as (feed.ScaledWith how v n) z o = whole_of (Puts (ScaledWith how v)) z o n
feed_as (feed.Cycled how n) z o = whole_of (Puts (Cycled how)) z o n
feed_as feed.Short z o = Err Short
feed_as feed.Unlisted z o = Err Unlisted

-- of the byte after a memory form m
abbrev pub memory_as : OfMemory → MemoryForm → Decoded
memory_as (memory.Load r z n) m = whole_of (Puts (Load r)) z (Memory m) n
memory_as (memory.From r z n) m = whole_of (Puts (From r)) z (Memory m) n
memory_as (memory.Compute op r z n) m = whole_of (Puts (Compute op (First r))) z (Memory m) n
memory_as (memory.ComputeInto op r z n) m = whole_of (Puts (Compute op (Second r))) z (Memory m) n
memory_as (memory.Blocks f n) m = whole_of (Blocks f) f.size (form (Indirect f.from) 0) n
memory_as memory.Short m = Err Short
memory_as memory.Unlisted m = Err Unlisted

-- of a memory form that the first byte b begins: the rest is judged by the rows after it
abbrev pub begun_as : Begun → ℕ → List ℕ → Decoded
begun_as (begun.Form base v n) b s = judge (by_rows (rows_begun b (form base v))) s n
begun_as begun.Short b s = Err Short
begun_as begun.Unlisted b s = Err Unlisted
