-- Loads, stores and fetches.
use Rattle.std.specs.Prelude.{ℕ, ◌+◌, List, [], length, take, drop, Result, Ok, Err}
use Rattle.little.specs.{declared.Size.Size, Width.bytes_of, Bytes.value_of, Bytes.bytes_from, Bytes.replaced}
use Rattle.memory.specs.{declared.Place.Place, Place.place_of}
use Rattle.memory.specs.declared.Place.TheVariants.{Ram, Rom, Missing}
use Rattle.answer.specs.declared.Why.TheVariants as why
use Rattle.answer.specs.Number.{Answer}
use Rattle.answer.specs.declared.MissingByte.{MissingByte}

-- the place of an operand of n bytes, in two memories
abbrev pub bytes_at : List ℕ → List ℕ → ℕ → ℕ → Place
bytes_at ram rom a n = place_of (length ram) (length rom) a n

-- and of one of a size
abbrev pub operand_at : List ℕ → List ℕ → ℕ → Size → Place
operand_at ram rom a size = bytes_at ram rom a (bytes_of size)

-- what a load gives: the value, or the address of its missing byte
abbrev pub Loaded : Type 0
Loaded = Result ℕ MissingByte

-- the value of n bytes at a place, low byte first
abbrev pub load_from : Place → List ℕ → List ℕ → ℕ → Loaded
load_from (Ram o) ram rom n = Ok (value_of (take n (drop o ram)))
load_from (Rom o) ram rom n = Ok (value_of (take n (drop o rom)))
load_from (Missing x) ram rom n = Err (record { 0 = x })

-- a load from two memories: an operand of n bytes at address a, or the address of its missing byte
abbrev pub load_bytes : List ℕ → List ℕ → ℕ → ℕ → Loaded
load_bytes ram rom a n = load_from (bytes_at ram rom a n) ram rom n

-- the same of a size
unfoldable pub load_of : List ℕ → List ℕ → ℕ → Size → Loaded
load_of ram rom a size = load_bytes ram rom a (bytes_of size)

-- whether a store at a place is done; a is the address of its first byte
abbrev pub store_to : Place → ℕ → Answer
store_to (Ram o) a = Ok tt
store_to (Rom o) a = Err (why.ToRom a)
store_to (Missing x) a = Err (why.Missing x)

-- a store to two memories: done in RAM, 6 and the first byte's address in ROM, 5 and the missing byte's elsewhere
abbrev pub store_bytes : List ℕ → List ℕ → ℕ → ℕ → Answer
store_bytes ram rom a n = store_to (bytes_at ram rom a n) a

-- the same of a size
unfoldable pub store_of : List ℕ → List ℕ → ℕ → Size → Answer
store_of ram rom a size = store_bytes ram rom a (bytes_of size)

-- RAM after a store of n bytes of v at a place: those bytes are v's, low byte first, and nothing else changes
abbrev pub ram_with : Place → List ℕ → ℕ → ℕ → List ℕ
ram_with (Ram o) ram n v = replaced o (bytes_from n v) ram
ram_with (Rom o) ram n v = ram
ram_with (Missing x) ram n v = ram

-- the same by address, and by address and size
abbrev pub ram_bytes : List ℕ → List ℕ → ℕ → ℕ → ℕ → List ℕ
ram_bytes ram rom a n v = ram_with (bytes_at ram rom a n) ram n v

unfoldable pub ram_after : List ℕ → List ℕ → ℕ → Size → ℕ → List ℕ
ram_after ram rom a size v = ram_bytes ram rom a (bytes_of size) v

-- what stands from a place to the end of the memory that holds it
abbrev pub code_from : Place → List ℕ → List ℕ → List ℕ
code_from (Ram o) ram rom = drop o ram
code_from (Rom o) ram rom = drop o rom
code_from (Missing x) ram rom = []

-- the same by address; empty where there is no memory
unfoldable pub code_at : List ℕ → List ℕ → ℕ → List ℕ
code_at ram rom a = code_from (place_of (length ram) (length rom) a 1) ram rom

-- where code stands: in the memory that holds it, at its offset; with no memory, where ROM begins
abbrev pub stands_at : Place → ℕ × ℕ → ℕ × ℕ → ℕ × ℕ
stands_at (Ram o) ram rom = (ram.0, o + ram.1)
stands_at (Rom o) ram rom = (rom.0, o + rom.1)
stands_at (Missing x) ram rom = rom
