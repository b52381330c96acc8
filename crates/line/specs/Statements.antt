-- What is proved of the line, beside what the call promises. Each statement is proved in proofs/Settled.antt.
use Rattle.std.specs.Prelude.{ℕ, ◌≡◌, List, [], ◌∷◌, ◌++◌, replicate}
use Rattle.little.specs.Words.{code}
use Rattle.line.specs.Lines.{line_for, LineMeets}
use Prim.Native.String as string
use Rattle.text.specs.declared.Line.{Line}

-- any two lines that meet what the call promises are the same
abbrev pub Settled : Type 0
Settled = (image : List ℕ) (r r' : Line) → LineMeets image r → LineMeets image r' → r ≡ r'

-- a text as the codes of its signs
abbrev pub codes : string.String → List ℕ
codes string.[] = []
codes (string.◌∷◌ c t) = code c ∷ codes t

-- document 01's example, and the line that it gives: 256 bytes, 10 FF FF 00 at 0, 21 05 C9 C8 03 01 at 16, the rest zero
abbrev pub ExampleLine : Type 0
ExampleLine =
    line_for (0x10 ∷ 0xFF ∷ 0xFF ∷ 0x00 ∷ replicate 12 0 ++ (0x21 ∷ 0x05 ∷ 0xC9 ∷ 0xC8 ∷ 0x03 ∷ 0x01 ∷ replicate 234 0))
    ≡ codes "2 4 FFFF15 F800 00000008 00000000 00000000 00000000 00000000 00000000 00000000 00000100\n"
