-- Two functions that compute to the same at each element of a list are the same there.
use Prim.Native.Nat.{ℕ, zero, suc, ◌+◌, ◌-◌, ◌*◌, ◌/◌, ◌≤◌, ◌<◌}
use mathlib.Core.Path.{◌≡◌, refl, sym, ◌∙◌, ap}
use mathlib.Core.Bool.{Bool, true, false, cond}
use mathlib.Core.List.{List, [], ◌∷◌, map}
use mathlib.Core.Logic.{◌⊎◌, inl, inr}
use native.Mathlib.Omega.{arith}
use types.Run.{OneOf}
use Rattle.little.specs.declared.Size.{Size}
use Rattle.little.specs.declared.Size.TheVariants.{Byte, Word, Long}
use Rattle.alu.specs.declared.Arith.{Arith}
use Rattle.alu.specs.declared.Arith.TheVariants.{Add, Adc, Sub, Sbc, And, Xor, Or, Cp}
use Rattle.alu.specs.declared.Shift.{Shift}
use Rattle.alu.specs.declared.Shift.TheVariants.{Sla, Sra, Sll, Srl}
use Rattle.code.proofs.Groups.{in_group, same_or_not, Missed, matched, not_both}

abbrev pub Among : {A : Type 0} → List A → A → Type 0
Among [] a = ⊥
Among (x ∷ xs) a = (a ≡ x) ⊎ Among xs a

pub at : {A B : Type 0} (f g : A → B) (xs : List A) → map f xs ≡ map g xs → (a : A) → Among xs a → f a ≡ g a
at f g [] e a m = absurd m
at f g (x ∷ xs) e a (inl q) = let h : f x ≡ g x = cc in ap f q ∙ (h ∙ sym (ap g q))
at f g (x ∷ xs) e a (inr m) = let t : map f xs ≡ map g xs = cc in at f g xs t a m

-- ---- the numbers below n, the sizes, the operations, the shifts
abbrev pub under : ℕ → List ℕ
under zero = []
under (suc n) = n ∷ under n

pub is_under : (n r : ℕ) → r < n → Among (under n) r
is_under zero r h = omega arith
is_under (suc n) r h = elim (same_or_not r n) [ inl e ↦ inl e | inr d ↦ inr (is_under n r (omega arith)) ]

abbrev pub sizes : List Size
sizes = Byte ∷ Word ∷ Long ∷ []

pub is_size : (z : Size) → Among sizes z
is_size Byte = inl refl
is_size Word = inr (inl refl)
is_size Long = inr (inr (inl refl))

abbrev pub ariths : List Arith
ariths = Add ∷ Adc ∷ Sub ∷ Sbc ∷ And ∷ Xor ∷ Or ∷ Cp ∷ []

pub is_arith : (a : Arith) → Among ariths a
is_arith Add = inl refl
is_arith Adc = inr (inl refl)
is_arith Sub = inr (inr (inl refl))
is_arith Sbc = inr (inr (inr (inl refl)))
is_arith And = inr (inr (inr (inr (inl refl))))
is_arith Xor = inr (inr (inr (inr (inr (inl refl)))))
is_arith Or = inr (inr (inr (inr (inr (inr (inl refl))))))
is_arith Cp = inr (inr (inr (inr (inr (inr (inr (inl refl)))))))

abbrev pub shifts : List Shift
shifts = Sla ∷ Sra ∷ Sll ∷ Srl ∷ []

pub is_shift : (t : Shift) → Among shifts t
is_shift Sla = inl refl
is_shift Sra = inr (inl refl)
is_shift Sll = inr (inr (inl refl))
is_shift Srl = inr (inr (inr (inl refl)))

-- ---- tables: by number; by size, or operation, and number; by shift
pub table : {B : Type 0} (f g : ℕ → B) (n : ℕ) → map f (under n) ≡ map g (under n) → (r : ℕ) → r < n → f r ≡ g r
table f g n e r h = at f g (under n) e r (is_under n r h)

module _ {B : Type 0} where
  abbrev Grid : {A : Type 0} → (A → ℕ → B) → List A → ℕ → List (List B)
  Grid f xs n = map (λ a. map (f a) (under n)) xs

  grid :
      {A : Type 0} (f g : A → ℕ → B) (xs : List A) (n : ℕ) → Grid f xs n ≡ Grid g xs n →
      (a : A) → Among xs a → (r : ℕ) → r < n → f a r ≡ g a r
  grid f g xs n e a m = table (f a) (g a) n (at (λ a. map (f a) (under n)) (λ a. map (g a) (under n)) xs e a m)

  pub by_size : (f g : Size → ℕ → B) (n : ℕ) → Grid f sizes n ≡ Grid g sizes n → (z : Size) (r : ℕ) → r < n → f z r ≡ g z r
  by_size f g n e z = grid f g sizes n e z (is_size z)

  pub by_arith : (f g : Arith → ℕ → B) (n : ℕ) → Grid f ariths n ≡ Grid g ariths n → (a : Arith) (r : ℕ) → r < n → f a r ≡ g a r
  by_arith f g n e a = grid f g ariths n e a (is_arith a)

  pub each_size : (f g : Size → B) → map f sizes ≡ map g sizes → (z : Size) → f z ≡ g z
  each_size f g e z = at f g sizes e z (is_size z)

  pub each_arith : (f g : Arith → B) → map f ariths ≡ map g ariths → (a : Arith) → f a ≡ g a
  each_arith f g e a = at f g ariths e a (is_arith a)

  pub each_shift : (f g : Shift → B) → map f shifts ≡ map g shifts → (t : Shift) → f t ≡ g t
  each_shift f g e t = at f g shifts e t (is_shift t)

  -- two tests
  abbrev Four : (Bool → Bool → B) → List B
  Four f = f true true ∷ f true false ∷ f false true ∷ f false false ∷ []

  pub each_test : (f g : Bool → Bool → B) → Four f ≡ Four g → (t u : Bool) → f t u ≡ g t u
  each_test f g e true true = cc
  each_test f g e true false = cc
  each_test f g e false true = cc
  each_test f g e false false = cc

  pub by_test :
      (f g : ℕ → Bool → Bool → B) (n : ℕ) → map (λ r. Four (f r)) (under n) ≡ map (λ r. Four (g r)) (under n) →
      (r : ℕ) → r < n → (t u : Bool) → f r t u ≡ g r t u
  by_test f g n e r h = each_test (f r) (g r) (table (λ r. Four (f r)) (λ r. Four (g r)) n e r h)

-- ---- bytes in groups of eight, as the arms of a `match` on b / 8 have them
abbrev pub eights : List ℕ → List ℕ
eights [] = []
eights (k ∷ ks) = (8 * k + 0) ∷ (8 * k + 1) ∷ (8 * k + 2) ∷ (8 * k + 3) ∷ (8 * k + 4) ∷ (8 * k + 5) ∷ (8 * k + 6) ∷ (8 * k + 7) ∷ eights ks

in_eight : (k : ℕ) (ks : List ℕ) (b : ℕ) → b / 8 ≡ k → Among (eights (k ∷ ks)) b
in_eight k ks = in_group (Among (eights (k ∷ ks))) k (inl refl, inr (inl refl), inr (inr (inl refl)), inr (inr (inr (inl refl))), inr (inr (inr (inr (inl refl)))), inr (inr (inr (inr (inr (inl refl))))), inr (inr (inr (inr (inr (inr (inl refl)))))), inr (inr (inr (inr (inr (inr (inr (inl refl))))))))

in_eights : (ks : List ℕ) (b : ℕ) → OneOf ks (b / 8) → Among (eights ks) b
in_eights [] b h = absurd h
in_eights (k ∷ []) b h = in_eight k [] b h
in_eights (k ∷ k' ∷ ks) b (inl h) = in_eight k (k' ∷ ks) b h
in_eights (k ∷ k' ∷ ks) b (inr h) = inr (inr (inr (inr (inr (inr (inr (inr (in_eights (k' ∷ ks) b h))))))))

module _ {B : Type 0} where
  -- the first where no arm has the number, and the second where one has
  abbrev pub besides : List (List ℕ) → ℕ → B → B → B
  besides kss k x y = cond (matched kss k) y x

  pub no_arm : (kss : List (List ℕ)) (k : ℕ) (x y : B) → besides kss k x y ≡ y → Missed kss k → x ≡ y
  no_arm kss k x y e m = go (matched kss k) refl e
    where
      go : (t : Bool) → matched kss k ≡ t → cond t y x ≡ y → x ≡ y
      go true q d = absurd (not_both kss k m q)
      go false q d = d

module _ {B : Type 0} (f g : ℕ → B) where
  -- in the groups of an arm
  pub in_arm : (ks : List ℕ) → map f (eights ks) ≡ map g (eights ks) → (b : ℕ) → OneOf ks (b / 8) → f b ≡ g b
  in_arm ks e b h = at f g (eights ks) e b (in_eights ks b h)

  -- from lo on, n bytes
  pub in_run : (lo n : ℕ) → map (λ k. f (lo + k)) (under n) ≡ map (λ k. g (lo + k)) (under n) → (b : ℕ) → lo ≤ b → b < lo + n → f b ≡ g b
  in_run lo n e b h k =
      let q : lo + (b - lo) ≡ b = omega arith in
      rw q at (table (λ k. f (lo + k)) (λ k. g (lo + k)) n e (b - lo) (omega arith))

  -- in the groups of no arm
  pub in_no_arm :
      (kss : List (List ℕ)) (n : ℕ) → map (λ b. besides kss (b / 8) (f b) (g b)) (under n) ≡ map g (under n) →
      (b : ℕ) → b < n → Missed kss (b / 8) → f b ≡ g b
  in_no_arm kss n e b h = no_arm kss (b / 8) (f b) (g b) (table (λ b. besides kss (b / 8) (f b) (g b)) g n e b h)
