-- The byte after a memory form's address.
use Rattle.std.specs.Prelude.{ℕ, ◌/◌, ◌%◌, List, [], ◌∷◌, ◌++◌, Bool, true, false, cond, leb, eqb}
use Rattle.little.specs.declared.Size.{Size}
use Rattle.little.specs.declared.Size.TheVariants.{Byte, Word, Long}
use Rattle.code.specs.{declared.Form.Form, declared.Op.TheVariants.Puts, declared.Op.TheVariants.Blocks, declared.Side.TheVariants.First}
use Rattle.code.specs.{declared.Side.TheVariants.Second, declared.Base.Base, declared.Base.TheVariants.Indirect, declared.Operand.Operand}
use Rattle.code.specs.{declared.Operand.TheVariants.Memory, Said.Said, Said.whole, Rows.one, Rows.run, Rows.columns, Rows.Row, Rows.◌⇒◌}
use Rattle.code.specs.Registers.{arith_of}
use Rattle.code.specs.declared.Use.TheVariants.{From, Load, Compute}

-- 20+R load; 80, 90 .. F0 +R: ADD .. CP of R with memory; 88, 98 .. F8 +R the same, memory with R
unfoldable pub memory_rows : Size → Operand → List Row
memory_rows z o =
    (run 0x20 0x27 ⇒ λ b. whole (Puts (Load (b % 8))) z o)
    ∷ (columns 0x80 ⇒ λ b. whole (Puts (Compute (arith_of (b / 16 % 8)) (First (b % 8)))) z o)
    ∷ (columns 0x88 ⇒ λ b. whole (Puts (Compute (arith_of (b / 16 % 8)) (Second (b % 8)))) z o)
    ∷ []

-- 40+R byte, 50+R word, 60+R long
unfoldable pub store_rows : Operand → List Row
store_rows o =
    (run 0x40 0x47 ⇒ λ b. whole (Puts (From (b % 8))) Byte o)
    ∷ (run 0x50 0x57 ⇒ λ b. whole (Puts (From (b % 8))) Word o)
    ∷ (run 0x60 0x67 ⇒ λ b. whole (Puts (From (b % 8))) Long o)
    ∷ []

-- a memory form: where the address comes from, and the number in the code
abbrev pub form : Base → ℕ → Operand
form base v = Memory (record { base = base; number = v })

-- a copy or a compare stands after the form (R) of the pointer that is read
abbrev pub block : Form → Said
block f = whole (Blocks f) f.size (form (Indirect f.from) 0)

-- LDI, LDIR, LDD, LDDR: to where `to` points, from where `from` points
abbrev pub copy : Size → Bool → Bool → ℕ → ℕ → Said
copy z up again to from = block (record { copies = true; size = z; up = up; again = again; to = to; from = from })

-- CPI, CPIR, CPD, CPDR: with where r points
abbrev pub compare : Size → Bool → Bool → ℕ → Said
compare z up again r = block (record { copies = false; size = z; up = up; again = again; to = r; from = r })

-- 10 LDI, 11 LDIR, 12 LDD, 13 LDDR
unfoldable pub copies : Size → ℕ → ℕ → List Row
copies z to from =
    (one 0x10 ⇒ λ b. copy z true false to from)
    ∷ (one 0x11 ⇒ λ b. copy z true true to from)
    ∷ (one 0x12 ⇒ λ b. copy z false false to from)
    ∷ (one 0x13 ⇒ λ b. copy z false true to from)
    ∷ []

-- 14 CPI, 15 CPIR, 16 CPD, 17 CPDR
unfoldable pub compares : Size → ℕ → List Row
compares z r =
    (one 0x14 ⇒ λ b. compare z true false r)
    ∷ (one 0x15 ⇒ λ b. compare z true true r)
    ∷ (one 0x16 ⇒ λ b. compare z false false r)
    ∷ (one 0x17 ⇒ λ b. compare z false true r)
    ∷ []

-- Copies: XDE (2) from XHL (3), XIX (4) from XIY (5). Compares: XDE (2) to XSP (7)
unfoldable pub blocks : Size → ℕ → List Row
blocks z r =
    cond (eqb r 3) (copies z 2 3) (cond (eqb r 5) (copies z 4 5) [])
    ++ cond (leb 2 r) (compares z r) []

-- of bytes and words
abbrev pub block_rows : Size → ℕ → List Row
block_rows Byte r = blocks Byte r
block_rows Word r = blocks Word r
block_rows Long r = []

-- the byte after the form (R)
unfoldable pub indirect_rows : Size → ℕ → List Row
indirect_rows z r = memory_rows z (form (Indirect r) 0) ++ block_rows z r
