-- One change and then another of what it left (request K10), once over the width. Each statement is proved in proofs/Twice.antt.
use Rattle.std.specs.Prelude.{ℕ, ◌+◌, ◌%◌, ◌<◌, ◌≤◌, ◌≡◌, ◌≢◌, true, false}
use Rattle.flags.specs.{declared.Computed.Computed, declared.Flags.Flags, Width.low, Flag.keeping}
use Rattle.alu.specs.{declared.Shift.Shift, declared.change.Change.Change, Change.changed}
use Rattle.alu.specs.declared.change.Change.TheVariants.{Inc, Dec, ShiftBy}

-- the second change, of the value and the flags that the first one left
abbrev pub changed_twice : Change → Change → ℕ → ℕ → Flags → Computed
changed_twice first second k x old = let r = changed first k x old in changed second k r.value r.flags

-- numbers from 1 on whose sum is at most so much: what two shifts, or two INC, can be merged from
abbrev pub Mergeable : ℕ → ℕ → ℕ → Type 0
Mergeable most a b = (1 ≤ a) × (1 ≤ b) × (a + b ≤ most)

-- a places and then b places leave the value, the flags and the marks that a plus b places leave; a code byte has 16 places as 0
abbrev pub ShiftsJoin : Type 0
ShiftsJoin =
    (w : Shift) (k x a b : ℕ) (old : Flags) → 0 < k → Mergeable 16 a b →
    changed_twice (ShiftBy w (a % 16)) (ShiftBy w (b % 16)) k x old ≡ changed (ShiftBy w ((a + b) % 16)) k x old

-- INC by a and then by b is INC by a plus b, and so is DEC, for words and longs, which keep all flags; a code has 8 as 0
abbrev pub CountsJoin : Type 0
CountsJoin =
    (k x a b : ℕ) (old : Flags) → k ≢ 8 → Mergeable 8 a b →
    (changed_twice (Inc (a % 8)) (Inc (b % 8)) k x old ≡ changed (Inc ((a + b) % 8)) k x old)
    × (changed_twice (Dec (a % 8)) (Dec (b % 8)) k x old ≡ changed (Dec ((a + b) % 8)) k x old)

-- INC by n and then DEC by n leave a word or a long as it was, and so they do the other way round
abbrev pub CountsUndone : Type 0
CountsUndone =
    (k x n : ℕ) (old : Flags) → k ≢ 8 → (changed_twice (Inc n) (Dec n) k x old ≡ keeping old (low k x)) × (changed_twice (Dec n) (Inc n) k x old ≡ keeping old (low k x))

-- two results that differ in H and V at most
pub record ButHAndV (r q : Computed) : Type 0 where
  pub value : r.value ≡ q.value
  pub s : r.flags.s ≡ q.flags.s
  pub z : r.flags.z ≡ q.flags.z
  pub n : r.flags.n ≡ q.flags.n
  pub c : r.flags.c ≡ q.flags.c
  pub marks : r.flags.marks ≡ q.flags.marks

-- of bytes that is so but for H and V, which two INC have from the last one alone
abbrev pub ByteCountsJoin : Type 0
ByteCountsJoin =
    (x a b : ℕ) (old : Flags) → Mergeable 8 a b →
    ButHAndV (changed_twice (Inc (a % 8)) (Inc (b % 8)) 8 x old) (changed (Inc ((a + b) % 8)) 8 x old)
    × ButHAndV (changed_twice (Dec (a % 8)) (Dec (b % 8)) 8 x old) (changed (Dec ((a + b) % 8)) 8 x old)

-- and both can differ, whatever the flags were: by 1 and 1 H of 0FH and V of 7FH; with DEC H of 10H and V of 80H
pub record ByteCountsDiffer (old : Flags) : Type 0 where
  pub h : ((changed_twice (Inc 1) (Inc 1) 8 0x0F old).flags.h ≡ false) × ((changed (Inc 2) 8 0x0F old).flags.h ≡ true)
  pub v : ((changed_twice (Inc 1) (Inc 1) 8 0x7F old).flags.v ≡ false) × ((changed (Inc 2) 8 0x7F old).flags.v ≡ true)
  pub h_down : ((changed_twice (Dec 1) (Dec 1) 8 0x10 old).flags.h ≡ false) × ((changed (Dec 2) 8 0x10 old).flags.h ≡ true)
  pub v_down : ((changed_twice (Dec 1) (Dec 1) 8 0x80 old).flags.v ≡ false) × ((changed (Dec 2) 8 0x80 old).flags.v ≡ true)
