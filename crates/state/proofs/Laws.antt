-- Laws of the twenty registers and of what a slot and a code name in them.
use Prim.Native.Nat.{ℕ, zero, suc, ◌+◌, ◌-◌, ◌*◌, ◌%◌, ◌^◌, ◌<◌, ◌≤◌}
use mathlib.Core.Path.{◌≡◌, refl, ap, ◌∙◌}
use mathlib.Core.Logic.{◌⊎◌, inl, inr}
use mathlib.Core.Bool.{Bool, true, false, cond}
use mathlib.Core.List.{List, [], ◌∷◌}
use native.Mathlib.Omega.{arith}
use lib.ListN.{get_or, set, length-set}
use lib.Seq.{set_out, get_or-set_same, get_or-set_other}
use lib.Dec.{ltb, eqb}
use borrow.Author.Tests.{ltb-true, ltb-false, eqb-true, eqb-false}
use Rattle.little.specs.declared.Size.{Size}
use Rattle.little.specs.declared.Size.TheVariants.{Byte, Word, Long}
use Rattle.little.specs.Width.{bits_of}
use Rattle.state.specs.State.{banked, long_of, with_long}
use Rattle.state.specs.Register.{get_bits, set_bits, start_of, width_of, slot_in, get_slot, set_slot, index_of, slot_of, named_in, register_at, get_register, set_register}
use Rattle.state.specs.declared.Slot.{Slot}
use Rattle.state.specs.declared.State.{State}
use Rattle.state.specs.declared.Part.TheVariants.{Byte0, Byte1}
use Rattle.state.specs.Sound.{Sound}
use Rattle.state.proofs.Sound.{sound_lent}
use Rattle.state.proofs.Bits.{get_lt, get_set, get_below, get_above, set_part_lt}

-- ---- one long of the twenty
pub long_same : (s : State) (i v : ℕ) → Sound s → i < 20 → long_of (with_long s i v) i ≡ v
unfolding long_of with_long
long_same s i v ok h = get_or-set_same s.registers i v 0 (omega (arith, ok.twenty))

pub long_other : (s : State) (i j v : ℕ) → (j ≡ i → ⊥) → long_of (with_long s i v) j ≡ long_of s j
unfolding long_of with_long
long_other s i j v ne = get_or-set_other s.registers i j v 0 ne

-- past the twenty nothing is written
pub long_none : (s : State) (i v : ℕ) → Sound s → 20 ≤ i → with_long s i v ≡ s
unfolding with_long
long_none s i v ok h =
    ap (λ (l : List ℕ). banked s l s.bank)
    (set_out s.registers i v (omega (arith, ok.twenty)))

pub sound_with : (s : State) (i v : ℕ) → Sound s → v < 2 ^ 32 → Sound (with_long s i v)
unfolding with_long
sound_with s i v ok h =
    sound_lent s (set s.registers i v) s.counter s.bank.0 s.flags s.spare ok (simp length-set ok.twenty) (fits s.registers i ok.fit)
    ok.counter_fit ok.bank_fit ok.flags_fit ok.spare_fit
  where
    fits : (l : List ℕ) (j : ℕ) → ((k : ℕ) → get_or l k 0 < 2 ^ 32) → (k : ℕ) → get_or (set l j v) k 0 < 2 ^ 32
    fits [] j q k = q k
    fits (x ∷ l) zero q zero = h
    fits (x ∷ l) zero q (suc k) = q (suc k)
    fits (x ∷ l) (suc j) q zero = q 0
    fits (x ∷ l) (suc j) q (suc k) = fits l j (λ n. q (suc n)) k

-- ---- slots
pub slot_lt : (s : State) (t : Slot) → get_slot s t < 2 ^ width_of t.part
unfolding slot_in long_of
slot_lt s t = get_lt (start_of t.part) (width_of t.part) (long_of s t.index)

pub sound_set : (s : State) (t : Slot) (v : ℕ) → Sound s → Sound (set_slot s t v)
unfolding set_slot long_of
sound_set s t v ok = sound_with s t.index _ ok (set_part_lt t.part (get_or s.registers t.index 0) v (ok.fit t.index))

-- what is written reads back
pub slot_same : (s : State) (t : Slot) (v : ℕ) → Sound s → t.index < 20 → get_slot (set_slot s t v) t ≡ v % 2 ^ width_of t.part
unfolding slot_in set_slot long_of
slot_same s t v ok h =
    let o = start_of t.part in
    let k = width_of t.part in
    let x = long_of s t.index in
    ap (get_bits o k) (long_same s t.index (set_bits o k x v) ok h) ∙ get_set o k x v

-- two slots of different registers, or of parts that share no bit
pub data Apart (t u : Slot) : Type 0 where
  registers : (u.index ≡ t.index → ⊥) → Apart t u
  below : start_of u.part + width_of u.part ≤ start_of t.part → Apart t u
  above : start_of t.part + width_of t.part ≤ start_of u.part → Apart t u

pub part_apart :
    (o k p q x v : ℕ) → (p + q ≤ o) ⊎ (o + k ≤ p) → get_bits p q (set_bits o k x v) ≡ get_bits p q x
part_apart o k p q x v (inl h) = get_below (o - (p + q)) o k p q x v (omega arith)
part_apart o k p q x v (inr h) = get_above (p - (o + k)) o k p q x v (omega arith)

other_register : (s : State) (t u : Slot) (v : ℕ) → (u.index ≡ t.index → ⊥) → get_slot (set_slot s t v) u ≡ get_slot s u
unfolding slot_in set_slot long_of
other_register s t u v ne = ap (get_bits (start_of u.part) (width_of u.part)) (long_other s t.index u.index _ ne)

other_part :
    (s : State) (t u : Slot) (v : ℕ) → Sound s → t.index < 20 → u.index ≡ t.index
    → (start_of u.part + width_of u.part ≤ start_of t.part) ⊎ (start_of t.part + width_of t.part ≤ start_of u.part)
    → get_slot (set_slot s t v) u ≡ get_slot s u
unfolding slot_in set_slot long_of
other_part s t u v ok h e ends =
    let o = start_of t.part in
    let k = width_of t.part in
    let x = long_of s t.index in
    rw (e, long_same s t.index (set_bits o k x v) ok h)
    (part_apart o k (start_of u.part) (width_of u.part) x v ends)

past_twenty : (s : State) (t : Slot) (v : ℕ) → Sound s → 20 ≤ t.index → set_slot s t v ≡ s
unfolding set_slot
past_twenty s t v ok h = long_none s t.index _ ok h

parts_apart :
    (s : State) (t u : Slot) (v : ℕ) → Sound s
    → (start_of u.part + width_of u.part ≤ start_of t.part) ⊎ (start_of t.part + width_of t.part ≤ start_of u.part)
    → get_slot (set_slot s t v) u ≡ get_slot s u
parts_apart s t u v ok ends = go (eqb u.index t.index) (ltb t.index 20) refl refl
  where
    go : (same known : Bool) → eqb u.index t.index ≡ same → ltb t.index 20 ≡ known → get_slot (set_slot s t v) u ≡ get_slot s u
    go false known e f = other_register s t u v (eqb-false _ _ e)
    go true true e f = other_part s t u v ok (ltb-true _ _ f) (eqb-true _ _ e) ends
    go true false e f = ap (λ (r : State). get_slot r u) (past_twenty s t v ok (ltb-false _ _ f))

-- every other part and register is untouched
pub slot_apart : (s : State) (t u : Slot) (v : ℕ) → Sound s → Apart t u → get_slot (set_slot s t v) u ≡ get_slot s u
slot_apart s t u v ok (registers ne) = other_register s t u v ne
slot_apart s t u v ok (below h) = parts_apart s t u v ok (inl h)
slot_apart s t u v ok (above h) = parts_apart s t u v ok (inr h)

-- ---- what a code names
pub width_of_lem : (b : ℕ) (z : Size) (c : ℕ) → width_of (slot_of b z c).part ≡ bits_of z
unfolding slot_of
width_of_lem b Byte c = go (eqb (c % 2) 0)
  where
    go : (x : Bool) → width_of (cond x Byte1 Byte0) ≡ 8
    go true = refl
    go false = refl
width_of_lem b Word c = refl
width_of_lem b Long c = refl

index_lt : (b c : ℕ) → b < 4 → c < 8 → index_of b c < 20
index_lt b c h k = go (ltb c 4) refl
  where
    go : (x : Bool) → ltb c 4 ≡ x → cond x (4 * b + c) (12 + c) < 20
    go true e = omega (arith, ltb-true c 4 e)
    go false e = omega arith

pub slot_known : (b : ℕ) (z : Size) (c : ℕ) → b < 4 → c < 8 → (slot_of b z c).index < 20
unfolding slot_of
slot_known b Byte c h k = omega arith
slot_known b Word c h k = index_lt b c h k
slot_known b Long c h k = index_lt b c h k

named_known : (s : State) (z : Size) (c : ℕ) → (named_in s z c).index < 20
named_known s z c = slot_known (s.bank.0 % 4) z (c % 8) (omega arith) (omega arith)

-- a write moves no name: the bank is kept
named_kept : (s : State) (t : Slot) (v : ℕ) (z : Size) (c : ℕ) → named_in (set_slot s t v) z c ≡ named_in s z c
unfolding set_slot with_long
named_kept s t v z c = refl

-- the slot of a register is one of the twenty, whatever the numbers are
pub slot_held : (b : ℕ) (z : Size) (c : ℕ) (t : Slot) → t ≡ slot_of (b % 4) z (c % 8) → t.index < 20
slot_held b z c t e = rw e (slot_known (b % 4) z (c % 8) (omega arith) (omega arith))

pub register_lt : (s : State) (z : Size) (c : ℕ) → get_register s z c < 2 ^ bits_of z
unfolding register_at
register_lt s z c = rw (← width_of_lem (s.bank.0 % 4) z (c % 8)) (slot_lt s (named_in s z c))

pub sound_register : (s : State) (z : Size) (c v : ℕ) → Sound s → Sound (set_register s z c v)
unfolding set_register
sound_register s z c v ok = sound_set s (named_in s z c) v ok

pub register_same : (s : State) (z : Size) (c v : ℕ) → Sound s → get_register (set_register s z c v) z c ≡ v % 2 ^ bits_of z
unfolding register_at set_register
register_same s z c v ok =
    rw named_kept
    (slot_same s (named_in s z c) v ok (named_known s z c) ∙ ap (λ (k : ℕ). v % 2 ^ k) (width_of_lem (s.bank.0 % 4) z (c % 8)))

pub register_apart :
    (s : State) (z : Size) (c : ℕ) (y : Size) (d v : ℕ) → Sound s → Apart (named_in s z c) (named_in s y d)
    → get_register (set_register s z c v) y d ≡ get_register s y d
unfolding register_at set_register
register_apart s z c y d v ok far = rw named_kept (slot_apart s (named_in s z c) (named_in s y d) v ok far)
