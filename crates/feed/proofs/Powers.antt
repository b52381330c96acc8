-- The numbers that a table may have, as a list, and as the powers that the definition asks for.
use mathlib.Core.Path.{◌≡◌, refl, sym, ap, ◌∙◌}
use mathlib.Core.Bool.{Bool, true, false, ◌||◌, ◌&&◌}
use mathlib.Core.List.{List, [], ◌∷◌, map}
use mathlib.Core.Logic.{◌⊎◌, inl, inr}
use Prim.Native.Nat.{ℕ, zero, suc, ◌+◌, ◌*◌, ◌^◌, ◌≤◌}
use native.Mathlib.Omega.{arith}
use borrow.Author.Tests.{eqb-true}
use lib.Dec.{T, ltb, leb, eqb}
use mir.Val.{has_key}
use types.Run.{OneOf, hit}
use Rattle.feed.specs.declared.cycle.Stride.{Stride}
use Rattle.feed.specs.declared.cycle.Stride.TheVariants.{One, Two, Four}
use Rattle.feed.specs.Cycle.{stride_step, is_power, is_table}

-- ---- the exponent of a power
pub record Power (n num : ℕ) : Type 0 where
  pub exponent : ℕ
  pub most : exponent ≤ n
  pub is : num ≡ 2 ^ exponent

either : (a b : Bool) → a || b ≡ true → (a ≡ true) ⊎ (b ≡ true)
either true b e = inl refl
either false b e = inr e

pub both : (a b : Bool) → a && b ≡ true → (a ≡ true) × (b ≡ true)
both true b e = (refl, e)
both false b e = let z : ◌≡◌ {A = ℕ} 0 1 = cc in absurd (omega arith)

more : {n num : ℕ} → Power n num → Power (suc n) num
more p = record { exponent = p.exponent; most = omega arith; is = p.is }

pub power : (n num : ℕ) → is_power n num ≡ true → Power n num
unfolding is_power
power zero num e = let z : ◌≡◌ {A = ℕ} 0 1 = cc in absurd (omega arith)
power (suc n) num e =
    elim (either (eqb num (2 ^ suc n)) (is_power n num) e) [
      | inl q ↦ record { exponent = suc n; most = omega arith; is = eqb-true _ _ q }
      | inr f ↦ more (power n num f)
    ]

-- ---- the same numbers as the keys of a `match`
abbrev pub keys : List ℕ
keys = 2 ∷ 4 ∷ 8 ∷ 16 ∷ 32 ∷ 64 ∷ 128 ∷ 256 ∷ 512 ∷ 1024 ∷ 2048 ∷ 4096 ∷ 8192 ∷ 16384 ∷ 32768 ∷ []

-- a test that holds at each power holds at any of them
abbrev at_powers : (ℕ → Bool) → ℕ → Bool
at_powers f zero = true
at_powers f (suc n) = f (2 ^ suc n) && at_powers f n

any_power : (f : ℕ → Bool) (n num : ℕ) → at_powers f n ≡ true → is_power n num ≡ true → f num ≡ true
unfolding is_power
any_power f zero num a e = let z : ◌≡◌ {A = ℕ} 0 1 = cc in absurd (omega arith)
any_power f (suc n) num a e =
    let b = both (f (2 ^ suc n)) (at_powers f n) a in
    elim (either (eqb num (2 ^ suc n)) (is_power n num) e) [
      | inl q ↦ ap f (eqb-true _ _ q) ∙ b.0
      | inr g ↦ any_power f n num b.1 g
    ]

told : {b : Bool} → b ≡ true → T b
told e = rw e tt

is_key : (num : ℕ) → is_power 15 num ≡ true → OneOf keys num
is_key num e = hit keys num (told (any_power (has_key keys) 15 num refl e))

-- two tests that agree at each key agree at any of them
agree : (f g : ℕ → Bool) (ks : List ℕ) → map f ks ≡ map g ks → (x : ℕ) → OneOf ks x → f x ≡ g x
agree f g [] e x h = absurd h
agree f g (k ∷ []) e x h = let q : f k ≡ g k = cc in ap f h ∙ (q ∙ sym (ap g h))
agree f g (k ∷ k' ∷ ks) e x (inl h) = let q : f k ≡ g k = cc in ap f h ∙ (q ∙ sym (ap g h))
agree f g (k ∷ k' ∷ ks) e x (inr h) = let t : map f (k' ∷ ks) ≡ map g (k' ∷ ks) = cc in agree f g (k' ∷ ks) t x h

-- what the definition says of a number, by its stride
allows : Stride → ℕ → Bool
allows s num = is_power 15 num && leb (2 * stride_step s) num

rows : (s : Stride) → map (ltb (stride_step s)) keys ≡ map (allows s) keys
unfolding allows is_power
rows One = refl
rows Two = refl
rows Four = refl

pub in_table : (s : Stride) (last step : ℕ) → step ≡ stride_step s → OneOf keys (last + step) → ltb step (last + step) ≡ is_table s last
unfolding is_table allows
in_table s last step e h = rw e (agree (ltb (stride_step s)) (allows s) keys (rows s) (last + stride_step s) (rw e at h))

none : (num : ℕ) (a b : Bool) → is_power 15 num ≡ a → (OneOf keys num → ⊥) → false ≡ a && b
none num true b e d = absurd (d (is_key num e))
none num false b e d = refl

pub no_table : (s : Stride) (last step : ℕ) → step ≡ stride_step s → (OneOf keys (last + step) → ⊥) → false ≡ is_table s last
unfolding is_table
no_table s last step e d = none (last + stride_step s) _ _ refl (rw e at d)
