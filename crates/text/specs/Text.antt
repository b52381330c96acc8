-- Numbers as text, in ASCII, and fields with one space between.
use Rattle.std.specs.Prelude.{ℕ, zero, suc, ◌+◌, ◌/◌, ◌%◌, List, [], ◌∷◌, ◌++◌, cond, ltb}

-- 0 to 9, then A to F
abbrev pub digit_of : ℕ → ℕ
digit_of d = cond (ltb d 10) (48 + d) (55 + d)

-- the last k hex digits of n, the highest first
unfoldable pub hex_of : ℕ → ℕ → List ℕ
hex_of zero n = []
hex_of (suc k) n = hex_of k (n / 16) ++ (digit_of (n % 16) ∷ [])

-- decimal without leading zeros, in up to k places
unfoldable pub decimal_in : ℕ → ℕ → List ℕ
decimal_in zero n = []
decimal_in (suc k) n = cond (ltb n 10) (digit_of n ∷ []) (decimal_in k (n / 10) ++ (digit_of (n % 10) ∷ []))

-- ten places hold every number below 10^10, and so every count of 32 bits
abbrev pub decimal_of : ℕ → List ℕ
decimal_of n = decimal_in 10 n

-- fields that follow another one: a space before each
abbrev pub following : List (List ℕ) → List ℕ
following [] = []
following (f ∷ fs) = (32 ∷ f) ++ following fs

-- fields with one space between, and a line feed at the end
abbrev pub line_of : List ℕ → List (List ℕ) → List ℕ
line_of first others = first ++ (following others ++ (10 ∷ []))
