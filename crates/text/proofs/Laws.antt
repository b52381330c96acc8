-- How the parts of a line come together, and how long they are.
use Prim.Native.Nat.{ℕ, zero, suc, ◌+◌, ◌-◌, ◌/◌, ◌%◌, ◌<◌, ◌≤◌, ◌^◌}
use mathlib.Core.Path.{◌≡◌, refl, ap, ap₂, sym, ◌∙◌}
use mathlib.Core.List.{List, [], ◌∷◌, ◌++◌, append_assoc, append-nil}
use mathlib.Core.Bool.{Bool, true, false, cond}
use native.Mathlib.Omega.{arith}
use native.Mathlib.Nat.{pow-suc}
use lib.ListN.{length, length-append}
use lib.Dec.{ltb}
use borrow.Author.Tests.{lt-ltb, le-ltb}
use Rattle.text.specs.Text.{digit_of, hex_of, decimal_in, decimal_of, following, line_of}
use Rattle.text.specs.Grown.{with_byte, grown}

-- ---- none added, and two additions as one
pub grown_none : (l : List ℕ) → grown l [] ≡ l
unfolding grown
grown_none l = refl

pub grown_joins : (l a b : List ℕ) → grown (grown l a) b ≡ grown l (a ++ b)
unfolding grown
grown_joins l [] b = refl
grown_joins l (x ∷ a) b = grown_joins (with_byte l x) a b

-- where there is room, what was added stands behind what there was
pub grown_whole : (l a : List ℕ) → length l + length a ≤ 128 → grown l a ≡ l ++ a
unfolding grown
grown_whole l [] h = sym (append-nil l)
grown_whole l (b ∷ a) h =
    let k : length l < 128 = omega arith in
    rw (lt-ltb (length l) 128 k) (grown_whole (l ++ b ∷ []) a (simp length-append (omega arith)) ∙ append_assoc l (b ∷ []) a)

-- ---- fields
after_joins : (fs gs : List (List ℕ)) → following fs ++ following gs ≡ following (fs ++ gs)
after_joins [] gs = refl
after_joins (f ∷ fs) gs = append_assoc (32 ∷ f) (following fs) (following gs) ∙ ap (λ (l : List ℕ). (32 ∷ f) ++ l) (after_joins fs gs)

-- a field behind another one: a space, and its bytes
pub field_made : (l f : List ℕ) → grown (grown l (32 ∷ [])) f ≡ grown l (following (f ∷ []))
field_made l f = grown_joins l (32 ∷ []) f ∙ ap (grown l) (sym (append-nil (32 ∷ f)))

-- some fields, and some more; `first` is what stands before them
pub more : (l first : List ℕ) (fs gs : List (List ℕ)) → grown (grown l (first ++ following fs)) (following gs) ≡ grown l (first ++ following (fs ++ gs))
more l first fs gs =
    grown_joins l (first ++ following fs) (following gs)
    ∙ ap (grown l) (append_assoc first (following fs) (following gs) ∙ ap (λ (x : List ℕ). first ++ x) (after_joins fs gs))

pub two_fields : (l f g : List ℕ) → grown (grown l (following (f ∷ []))) (following (g ∷ [])) ≡ grown l (following (f ∷ g ∷ []))
two_fields l f g = more l [] (f ∷ []) (g ∷ [])

-- a whole line
pub line_made : (l first : List ℕ) (others : List (List ℕ)) → grown (grown l (first ++ following others)) (10 ∷ []) ≡ grown l (line_of first others)
line_made l first others = grown_joins l (first ++ following others) (10 ∷ []) ∙ ap (grown l) (append_assoc first (following others) (10 ∷ []))

-- ---- decimals
pub decimal_last : (k n : ℕ) → n < 10 → decimal_in (suc k) n ≡ digit_of (n % 16) ∷ []
unfolding decimal_in
decimal_last k n h =
    let e : n % 16 ≡ n = omega arith in
    rw (e, lt-ltb n 10 h) refl

pub decimal_more : (k n : ℕ) → 10 ≤ n → decimal_in (suc k) n ≡ decimal_in k (n / 10) ++ (digit_of (n % 10 % 16) ∷ [])
unfolding decimal_in
decimal_more k n h =
    let e : n % 10 % 16 ≡ n % 10 = omega arith in
    rw (e, le-ltb n 10 h) refl

-- a place more changes nothing where there are enough
enough : (k n : ℕ) → n < 10 ^ suc k → decimal_in (suc (suc k)) n ≡ decimal_in (suc k) n
unfolding decimal_in
enough zero n h = let g : n < 10 = omega arith in rw (lt-ltb n 10 g) refl
enough (suc k) n h =
    let g : n / 10 < 10 ^ suc k = omega (arith, rw pow-suc at h) in
    ap (λ (l : List ℕ). cond (ltb n 10) (digit_of n ∷ []) (l ++ (digit_of (n % 10) ∷ []))) (enough k (n / 10) g)

-- what the method writes: the last digit, alone or behind the others
pub digit_alone : (n : ℕ) → n < 10 → decimal_of n ≡ digit_of (n % 10) ∷ []
digit_alone n h =
    let e : n % 16 ≡ n % 10 = omega arith in
    decimal_last 9 n h ∙ ap (λ (d : ℕ). digit_of d ∷ []) e

pub digit_behind : (n : ℕ) → 10 ≤ n → n < 2 ^ 32 → decimal_of n ≡ decimal_of (n / 10) ++ (digit_of (n % 10) ∷ [])
digit_behind n h f =
    let g : n / 10 < 10 ^ 9 = omega arith in
    let e : n % 10 % 16 ≡ n % 10 = omega arith in
    decimal_more 9 n h ∙ ap₂ (λ (l : List ℕ) (d : ℕ). l ++ (digit_of d ∷ [])) (sym (enough 8 (n / 10) g)) e

-- ---- hex digits
pub hex_none : (k n : ℕ) → k ≤ 0 → hex_of k n ≡ []
unfolding hex_of
hex_none zero n h = refl
hex_none (suc k) n h = absurd (omega arith)

pub hex_last : (k n : ℕ) → 0 < k → hex_of k n ≡ hex_of (k - 1) (n / 16) ++ (digit_of (n % 16) ∷ [])
unfolding hex_of
hex_last zero n h = absurd (omega arith)
hex_last (suc k) n h = let e : suc k - 1 ≡ k = omega arith in rw e refl

-- ---- how long they are
pub hex_length : (k n : ℕ) → length (hex_of k n) ≡ k
unfolding hex_of
hex_length zero n = refl
hex_length (suc k) n = length-append (hex_of k (n / 16)) _ ∙ omega (arith, hex_length k (n / 16))

pub decimal_length : (k n : ℕ) → length (decimal_in k n) ≤ k
unfolding decimal_in
decimal_length zero n = omega arith
decimal_length (suc k) n = go (ltb n 10) (decimal_length k (n / 10))
  where
    go : (b : Bool) → length (decimal_in k (n / 10)) ≤ k →
        length (cond b (digit_of n ∷ []) (decimal_in k (n / 10) ++ (digit_of (n % 10) ∷ []))) ≤ suc k
    go true h = omega arith
    go false h = omega (arith, h, length-append (decimal_in k (n / 10)) (digit_of (n % 10) ∷ []))
