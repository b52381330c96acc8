-- INC and DEC by n.
use Rattle.std.specs.Prelude.{ℕ, ◌%◌, false, cond, eqb}
use Rattle.flags.specs.{declared.Computed.Computed, declared.Flags.Flags, Flag.keeping_c, Sums.sum_of, Sums.difference_of}

-- by how many a code counts: 0 means 8
abbrev pub steps_of : ℕ → ℕ
steps_of n = cond (eqb (n % 8) 0) 8 (n % 8)

-- of a byte the flags as ADD and SUB have them, but C kept; of a word or a long all kept
abbrev pub counted_of : Flags → ℕ → Computed → Computed
counted_of old k r = record { value = r.value; flags = cond (eqb k 8) (keeping_c old r.flags) old }

-- a plus n, and a less n, by the sums of ADD and SUB without a carry; `old` are the flags before
unfoldable pub inc_of : Flags → ℕ → ℕ → ℕ → Computed
inc_of old k a n = counted_of old k (sum_of k a n false)

unfoldable pub dec_of : Flags → ℕ → ℕ → ℕ → Computed
dec_of old k a n = counted_of old k (difference_of k a n false)
