-- Worked cases of MINC and MDEC at width 16, as one table: what is computed, and the pointer that it must be. All numbers are in hex.
use Rattle.std.specs.Prelude.{Bool, not, List, [], ◌∷◌, ℕ, eqb}
use Rattle.feed.specs.declared.cycle.Stride.TheVariants.{One, Two, Four}
use Rattle.feed.specs.declared.cycle.Cycle.{Cycle, TheVariants.Minc, TheVariants.Mdec}
use Rattle.feed.specs.Cycle.{cycled, is_table}

-- a row of the table: a step from one pointer leads to the other
abbrev leads : Cycle → ℕ → ℕ → Bool
leads how from to = eqb (cycled how 0x10 from) to

-- the table, in which every row must come out true; a code has the table's number less the step
unfoldable pub table_cases : List Bool
table_cases =
    -- the book's worked examples: MINC1 8, MINC2 8, MINC4 40, MDEC1 8, MDEC2 8, MDEC4 80
    leads (Minc One 0x7) 0x1206 0x1207 ∷ leads (Minc One 0x7) 0x1207 0x1200 ∷
    leads (Minc Two 0x6) 0x1234 0x1236 ∷ leads (Minc Two 0x6) 0x1236 0x1230 ∷
    leads (Minc Four 0x3C) 0x1278 0x127C ∷ leads (Minc Four 0x3C) 0x127C 0x1240 ∷
    leads (Mdec One 0x7) 0x1231 0x1230 ∷ leads (Mdec One 0x7) 0x1230 0x1237 ∷
    leads (Mdec Two 0x6) 0x123A 0x1238 ∷ leads (Mdec Two 0x6) 0x1238 0x123E ∷
    leads (Mdec Four 0x7C) 0x1284 0x1280 ∷ leads (Mdec Four 0x7C) 0x1280 0x12FC ∷
    -- ends: of the largest table, and of the words
    leads (Minc One 0x7FFF) 0xFFFF 0x8000 ∷ leads (Minc One 0x7FFF) 0x7FFF 0x0000 ∷
    leads (Minc Four 0x4) 0xFFFC 0xFFF8 ∷
    -- between entries the book's line lets a pointer leave the table
    leads (Minc Two 0x6) 0x1237 0x1239 ∷ leads (Mdec Two 0x6) 0x0001 0xFFFF ∷
    -- numbers that the book allows: 2, 4 and 8 at the least, 8000 at the most
    is_table One 0x0001 ∷ is_table Two 0x0002 ∷ is_table Four 0x0004 ∷ is_table Two 0x0006 ∷ is_table One 0x7FFF ∷
    -- and that it does not: a table of one entry, no power of two, and 10000
    not (is_table One 0x0000) ∷ not (is_table Two 0x0000) ∷ not (is_table Four 0x0000) ∷
    not (is_table Two 0x0001) ∷ not (is_table Four 0x0002) ∷ not (is_table One 0xFFFF) ∷ []
