-- The flags apart, and as the byte F: S 7, Z 6, H 4, V 2, N 1, C 0, with their marks above it. What some instructions keep of them.
use Rattle.std.specs.Prelude.{ℕ, ◌+◌, ◌*◌, ◌/◌, ◌%◌, Bool, true, false, not, eqb}
use Rattle.flags.specs.{declared.Flags.Flags, declared.Computed.Computed, Width.one}
use Rattle.flags.specs.Undefined.{nothing, by_rcf_scf, by_ccf_zcf, undefined_of}

-- F, whose bits 5 and 3 are 0
unfoldable pub byte_of : Flags → ℕ
byte_of f = one f.s * 128 + one f.z * 64 + one f.h * 16 + one f.v * 4 + one f.n * 2 + one f.c * 1

-- F in the low byte and the marks above it: bit 8 is H's, bit 9 is V's
unfoldable pub packed_of : Flags → ℕ
packed_of f = byte_of f + 256 * f.marks

-- the flags of such a number, whatever bits 5 and 3 of F are; of a byte no flag is marked
unfoldable pub flags_of : ℕ → Flags
flags_of x =
    let odd : ℕ → Bool = λ n. eqb (n % 2) 1 in
    record { s = odd (x / 128); z = odd (x / 64); h = odd (x / 16); v = odd (x / 4); n = odd (x / 2); c = odd x; marks = x / 256 }

-- a flag of them is marked
abbrev pub any_marked : Flags → Bool
any_marked f = not (eqb f.marks 0)

-- all flags are new but C
abbrev pub keeping_c : Flags → Flags → Flags
keeping_c old f = record { s = f.s; z = f.z; h = f.h; v = f.v; n = f.n; c = old.c; marks = f.marks }

-- S, Z and V kept, V with its mark, which is bit 1 of the marks; H and N 0, H with this mark or none, which is bit 0; and a carry
abbrev pub carried : Flags → ℕ → Bool → Flags
carried f mark c = record { s = f.s; z = f.z; h = false; v = f.v; n = false; c = c; marks = f.marks / 2 * 2 + mark }

-- RCF, SCF, CCF, ZCF
abbrev pub rcf_of : Flags → Flags
rcf_of f = carried f (undefined_of by_rcf_scf) false

abbrev pub scf_of : Flags → Flags
scf_of f = carried f (undefined_of by_rcf_scf) true

abbrev pub ccf_of : Flags → Flags
ccf_of f = carried f (undefined_of by_ccf_zcf) (not f.c)

abbrev pub zcf_of : Flags → Flags
zcf_of f = carried f (undefined_of by_ccf_zcf) (not f.z)

-- LDI and LDD: S, Z and C kept, H and N 0, and V says whether there is more to do; both have a value, and no mark
abbrev pub copied_of : Flags → Bool → Flags
copied_of old more = record { s = old.s; z = old.z; h = false; v = more; n = false; c = old.c; marks = nothing }

-- CPI and CPD: S, Z and H of the comparison, with H's mark alone; V says whether there is more to do, N 1, C kept
abbrev pub compared_of : Flags → Flags → Bool → Flags
compared_of old f more = record { s = f.s; z = f.z; h = f.h; v = more; n = true; c = old.c; marks = f.marks % 2 }

-- DIV and DIVS: V says whether there was no quotient, and has a value; the other flags are kept, H with its mark
abbrev pub dividing : Flags → Bool → Flags
dividing old over = record { s = old.s; z = old.z; h = old.h; v = over; n = old.n; c = old.c; marks = old.marks % 2 }

-- a value, and the flags as they were
abbrev pub keeping : Flags → ℕ → Computed
keeping old value = record { value = value; flags = old }
