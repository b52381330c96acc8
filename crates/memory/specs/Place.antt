-- Where an operand lies, and which of its bytes is missing.
use Rattle.std.specs.Prelude.{ℕ, zero, suc, ◌+◌, ◌-◌, ◌%◌, ◌^◌, ◌≢◌, Bool, cond, ◌&&◌, leb, ltb}
use Rattle.memory.specs.declared.Place.{Place}
use Rattle.memory.specs.declared.Place.TheVariants.{Ram, Rom, Missing}

-- RAM holds the addresses 0 to its length less one; ROM holds the top addresses, ending at FFFFFFH
abbrev pub ram_holds : ℕ → ℕ → Bool
ram_holds ram_len x = ltb x ram_len

abbrev pub rom_holds : ℕ → ℕ → Bool
rom_holds rom_len x = leb (2 ^ 24) (x + rom_len) && ltb x (2 ^ 24)

-- the first of n bytes from x on that a memory does not hold; the one after them where it holds all
unfoldable pub first_without : (ℕ → Bool) → ℕ → ℕ → ℕ
first_without holds x zero = x
first_without holds x (suc n) = cond (holds x) (first_without holds (suc x) n) x

-- the missing byte of n at address a, which is told with 5: the first byte if it lies in neither memory,
-- otherwise the first of them that is not in the same memory as the first byte, though the other memory may hold it.
-- After FFFFFFH comes 000000H
unfoldable pub missing_of : ℕ → ℕ → ℕ → ℕ → ℕ
missing_of ram_len rom_len a n =
    (cond (ram_holds ram_len a) (first_without (ram_holds ram_len) a n)
    (cond (rom_holds rom_len a) (first_without (rom_holds rom_len) a n) a))
    % 2 ^ 24

-- n bytes at address a lie wholly in RAM, or wholly in ROM, or they are missing
unfoldable pub place_of : ℕ → ℕ → ℕ → ℕ → Place
place_of ram_len rom_len a n =
    cond (leb (a + n) ram_len) (Ram a)
    (cond (leb (2 ^ 24) (a + rom_len) && leb (a + n) (2 ^ 24)) (Rom (a + rom_len - 2 ^ 24)) (Missing (missing_of ram_len rom_len a n)))

-- they are whole in one memory
abbrev pub Present : Place → Type 0
Present p = (x : ℕ) → p ≢ Missing x
