-- A part of the registers by where it begins, as the functions of state::named promise it.
use Rattle.std.specs.Prelude.{ℕ, ◌+◌, ◌*◌, ◌/◌, ◌%◌, ◌^◌, ◌<◌, ◌≤◌, ◌≡◌, List, cond, get_or, set, ltb}
use Rattle.little.specs.{declared.Size.Size, Width.bits_of}
use Rattle.state.specs.{declared.named.Field.Field, Register.get_bits, Register.set_bits}

-- where byte i of the eighty is
abbrev pub field_at : ℕ → Field
field_at i = record { index = i / 4; start = 8 * (i % 4) }

-- where what is twice as wide begins, with this in it
abbrev pub wide_at : Size → Field → Field
wide_at z f = record { index = f.index; start = f.start / (2 * bits_of z) * (2 * bits_of z) }

-- the bits of a size that begin there; 0 past the twenty
unfoldable pub field_in : List ℕ → Size → Field → ℕ
field_in registers z f = cond (ltb f.index 20) (get_bits (f.start % 32) (bits_of z) (get_or registers f.index 0)) 0

-- a long with the bits of a size replaced, in 32 bits
unfoldable pub put_in : Size → ℕ → ℕ → ℕ → ℕ
put_in z start x v = set_bits start (bits_of z) x v % 2 ^ 32

-- and the twenty longs; past them nothing is written
unfoldable pub field_put : List ℕ → Size → Field → ℕ → List ℕ
field_put registers z f v = cond (ltb f.index 20) (set registers f.index (put_in z (f.start % 32) (get_or registers f.index 0) v)) registers

-- what lies within one of the twenty is not cut: they are then as they were, with those bits replaced
abbrev pub PutWithin : List ℕ → List ℕ → Size → Field → ℕ → Type 0
PutWithin registers after z f v =
    f.index < 20 → f.start + bits_of z ≤ 32 → after ≡ set registers f.index (set_bits f.start (bits_of z) (get_or registers f.index 0) v)
