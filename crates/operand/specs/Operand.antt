-- The operand of an instruction: its address, its value, a value put there, and the register twice as wide.
use Rattle.std.specs.Prelude.{ℕ, ◌+◌, ◌-◌, ◌*◌, ◌/◌, ◌%◌, ◌^◌, List, cond, Ok, Err}
use Rattle.little.specs.{declared.Size.Size, Width.bytes_of}
use Rattle.little.specs.declared.Size.TheVariants.{Byte, Word, Long}
use Rattle.flags.specs.Width.{negative}
use Rattle.memory.specs.{Access.load_of, Access.store_bytes, Access.ram_bytes}
use Rattle.state.specs.{declared.Bank.Bank, declared.State.State, Register.register_at, Register.set_register, Named.named, Named.held_in, Named.with_held}
use Rattle.code.specs.declared.{Base.Base, MemoryForm.MemoryForm, Operand.Operand}
use Rattle.code.specs.declared.Base.TheVariants.{Indirect, Displaced, Absolute8, Absolute16, Absolute24}
use Rattle.code.specs.declared.Operand.TheVariants.{Register, Named, Constant, Memory}
use Rattle.operand.specs.Try.{Try, did, no}
use Rattle.answer.specs.Number.{Answer}
use Rattle.memory.specs.Access.{Loaded}

-- x plus a number d of k bits with a sign, modulo 2^24: where its top bit is one, d stands for d less 2^k
abbrev pub displaced : ℕ → ℕ → ℕ → ℕ
displaced k x d = (x + d + cond (negative k d) (2 ^ 24 - 2 ^ k) 0) % 2 ^ 24

-- the address that a long register holds, by the registers and the bank alone, and of a state
abbrev pub pointer_in : List ℕ → Bank → ℕ → ℕ
pointer_in registers bank r = register_at registers bank Long r % 2 ^ 24

abbrev pub pointer_of : State → ℕ → ℕ
pointer_of s r = pointer_in s.registers s.bank r

-- (R), (R+d8), and n8, n16, n24, whose missing high bits are 0
abbrev pub address_from : List ℕ → Bank → Base → ℕ → ℕ
address_from registers bank (Indirect r) n = pointer_in registers bank r
address_from registers bank (Displaced r) d = displaced 8 (register_at registers bank Long r) d
address_from registers bank Absolute8 n = n % 2 ^ 24
address_from registers bank Absolute16 n = n % 2 ^ 24
address_from registers bank Absolute24 n = n % 2 ^ 24

-- the address of a memory form
unfoldable pub address_in : List ℕ → Bank → MemoryForm → ℕ
address_in registers bank m = address_from registers bank m.base m.number

abbrev pub address_of : State → MemoryForm → ℕ
address_of s m = address_in s.registers s.bank m

-- the operand's value
unfoldable pub value_in : List ℕ → Bank → List ℕ → List ℕ → Size → Operand → Loaded
value_in registers bank ram rom z (Register r) = Ok (register_at registers bank z r)
value_in registers bank ram rom z (Named c) = Ok (held_in registers (named (bank.0 % 4) (bytes_of z) c))
value_in registers bank ram rom z (Constant n) = Ok n
value_in registers bank ram rom z (Memory m) = load_of ram rom (address_in registers bank m) z

abbrev pub value_at : State → List ℕ → List ℕ → Size → Operand → Loaded
value_at s ram rom z o = value_in s.registers s.bank ram rom z o

-- the register of twice as many bytes that a register of a size is half of: by 000's tables WA for W and for A, XWA for WA; what a code byte
-- names begins at the multiple of those bytes. There is none above a long
abbrev pub wide_of : Size → Operand → Operand
wide_of Byte (Register r) = Register (r % 8 / 2)
wide_of Word (Register r) = Register r
wide_of Long (Register r) = Register r
wide_of Byte (Named c) = Named (c / 2 * 2)
wide_of Word (Named c) = Named (c / 4 * 4)
wide_of Long (Named c) = Named c
wide_of z (Constant n) = Constant n
wide_of z (Memory m) = Memory m

-- a store at an address, and the state t where it is done
abbrev pub stored_by : Answer → State → List ℕ → Try
stored_by (Ok _) t ram = did t ram
stored_by (Err w) t ram = no w

-- a value of n bytes stored at an address a, and one of a size
abbrev pub storing_bytes : State → List ℕ → List ℕ → ℕ → ℕ → ℕ → Try
storing_bytes t ram rom a n v = stored_by (store_bytes ram rom a n) t (ram_bytes ram rom a n v)

unfoldable pub storing : State → List ℕ → List ℕ → ℕ → Size → ℕ → Try
storing t ram rom a z v = storing_bytes t ram rom a (bytes_of z) v

-- a value put where the operand is
abbrev pub put_at : State → List ℕ → List ℕ → Size → Operand → ℕ → Try
put_at s ram rom z (Register r) v = did (set_register s z r v) ram
put_at s ram rom z (Named c) v = did (with_held s (named (s.bank.0 % 4) (bytes_of z) c) v) ram
put_at s ram rom z (Constant n) v = did s ram
put_at s ram rom z (Memory m) v = storing s ram rom (address_of s m) z v
