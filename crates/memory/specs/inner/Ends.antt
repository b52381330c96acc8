-- The missing byte by the ends of the memories, as the code finds it.
use Rattle.std.specs.Prelude.{ℕ, ◌%◌, ◌^◌, cond}
use Rattle.memory.specs.Place.{ram_holds, rom_holds}

-- the address past the end of the memory that holds a; where none does, a itself; either modulo 2^24
unfoldable pub past_end : ℕ → ℕ → ℕ → ℕ
past_end ram_len rom_len a = cond (ram_holds ram_len a) ram_len (cond (rom_holds rom_len a) (2 ^ 24) a) % 2 ^ 24
