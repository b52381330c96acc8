-- What can depend on a marked flag, and what cannot. Each statement is proved in proofs/Known.antt.
use Rattle.std.specs.Prelude.{ℕ, ◌≡◌, Bool, true, false}
use Rattle.flags.specs.{declared.Flags.Flags, Undefined.nothing, Undefined.marks_h, Undefined.marks_v}
use Rattle.flags.specs.{Condition.holds_of, Condition.reads_v, Condition.reads_marked, Sums.computed_of}

-- two sets of flags that differ at most in the bits of marked ones; S, Z, N and C have no mark, and are the same
pub record Alike (f g : Flags) : Type 0 where
  pub marks : f.marks ≡ g.marks
  pub s : f.s ≡ g.s
  pub z : f.z ≡ g.z
  pub h : marks_h f.marks ≡ false → f.h ≡ g.h
  pub v : marks_v f.marks ≡ false → f.v ≡ g.v
  pub n : f.n ≡ g.n
  pub c : f.c ≡ g.c

-- a condition that reads no marked flag is the same whatever the bits of marked flags are
abbrev pub KnownDecides : Type 0
KnownDecides = (f g : Flags) (cc : ℕ) → reads_marked f cc ≡ false → Alike f g → holds_of f cc ≡ holds_of g cc

-- a condition that is said to read V does: there are flags with V marked that are alike, and it holds of one and not of the other
abbrev pub ReadersDepend : Type 0
ReadersDepend =
    (cc : ℕ) → reads_v cc ≡ true →
    (f : Flags) × (g : Flags) × Alike f g × (marks_v f.marks ≡ true) × (holds_of f cc ≡ true) × (holds_of g cc ≡ false)

-- S, Z, N and C are always defined: whatever is undefined of a result of ADD to CP or of a shift, these and its value are as where
-- nothing is. That no other flag than H and V is ever marked is OnlyHAndV (facts/Marks)
abbrev pub OthersDefined : Type 0
OthersDefined =
    (k undefined r : ℕ) (h v n c : Bool) →
    let a = computed_of k undefined r h v n c in
    let b = computed_of k nothing r h v n c in
    (a.value ≡ b.value) × (a.flags.s ≡ b.flags.s) × (a.flags.z ≡ b.flags.z) × (a.flags.n ≡ b.flags.n) × (a.flags.c ≡ b.flags.c)
