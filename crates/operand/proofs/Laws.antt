-- Laws that proofs of functions cite: sums that wrap, stores, and what a call leaves.
use Rattle.std.proofs.Common.{◌≡◌, ℕ, ◌+◌, ◌-◌, ◌%◌, ◌^◌, ◌<◌, ◌≤◌, Bool, true, false, ltb, List, sym, refl, ap, ◌∙◌, add-zero, mod-eq_of_lt, arith, ltb-false, ltb-true, le-leb, Ok, Err}
use native.Mathlib.Nat.{add-mod_right}
use lib.Pow.{mod-mod-pow}
use borrow.Author.Tests.{lt-leb}
use Rattle.answer.specs.declared.Why.{Why}
use Rattle.little.specs.declared.Size.{Size}
use Rattle.little.specs.declared.Size.TheVariants.{Byte, Word, Long}
use Rattle.little.specs.Width.{bits_of, bytes_of}
use Rattle.memory.specs.Access.{store_bytes, store_of, ram_bytes, ram_after}
use Rattle.memory.proofs.Laws.{refused_bytes}
use Rattle.state.specs.declared.State.{State}
use Rattle.operand.specs.Try.{Try, did, no, Outcome, leaves, and_then, after}
use Rattle.operand.specs.Operand.{displaced, storing, storing_bytes}
use Rattle.operand.specs.Round.{less, plus}
use Rattle.answer.specs.Number.{Answer}

-- ---- sums that wrap
-- a sum of 32 bits as an address
as_address : (x y : ℕ) → (x + y % 2 ^ 32) % 2 ^ 32 % 2 ^ 24 ≡ (x + y) % 2 ^ 24
as_address x y = mod-mod-pow (x + y % 2 ^ 32) 8 24 ∙ omega arith

pub displaced_plus : (z : Size) (x d h r : ℕ) → h ≡ 2 ^ (bits_of z - 1) → d < h → r ≡ (x + d) % 2 ^ 32 → r % 2 ^ 24 ≡ displaced (bits_of z) x d
displaced_plus z x d h r e l f =
    let k : d < 2 ^ (bits_of z - 1) = rw (← e) l in
    rw (f, lt-leb (2 ^ (bits_of z - 1)) d k) (mod-mod-pow (x + d) 8 24 ∙ ap (λ (n : ℕ). n % 2 ^ 24) (sym (add-zero (x + d))))

wraps : (p x n r : ℕ) → x < p → n < p → r < p → (r + n) % p ≡ x → (b : Bool) → ltb (r + n) p ≡ b → r ≡ (x + (p - n)) % p
wraps p x n r a b c f true e =
    let h : r + n < p = ltb-true _ _ e in
    let z : r + n ≡ x = sym (mod-eq_of_lt h) ∙ f in
    let y : x + (p - n) ≡ r + p = omega arith in
    rw y (sym (add-mod_right r p ∙ mod-eq_of_lt c))
wraps p x n r a b c f false e =
    let h : p ≤ r + n = ltb-false _ _ e in
    let k : r + n - p < p = omega arith in
    let q : r + n ≡ (r + n - p) + p = omega arith in
    let z : r + n - p ≡ x = sym (mod-eq_of_lt k) ∙ sym (add-mod_right (r + n - p) p) ∙ ap (λ (m : ℕ). m % p) (sym q) ∙ f in
    let y : x + (p - n) ≡ r = omega arith in
    rw y (sym (mod-eq_of_lt c))

-- what a difference that wraps is, from what is told of it
pub less_is : (k : ℕ) (x n r : ℕ) → x < 2 ^ k → n < 2 ^ k → r < 2 ^ k → (r + n) % 2 ^ k ≡ x → r ≡ less k x n
less_is k x n r hx hn hr e = go (2 ^ k) hx hn hr e
  where
    go : (p : ℕ) → x < p → n < p → r < p → (r + n) % p ≡ x → r ≡ (x + (p - n)) % p
    go p a b c f = wraps p x n r a b c f (ltb (r + n) p) refl

-- n off and n on
pub up_again : (x n : ℕ) → x < 2 ^ 32 → n ≤ 2 ^ 32 → plus 32 (less 32 x n) n ≡ x
up_again x n h k = omega arith

-- twice the sign's weight below: what d stands for where it has its sign
turned : (z : Size) (x d h : ℕ) → h ≡ 2 ^ (bits_of z - 1) → h ≤ d → (x + (d - h + (2 ^ 32 - h))) % 2 ^ 24 ≡ (x + d + (2 ^ 24 - 2 ^ bits_of z)) % 2 ^ 24
turned Byte x d h e l = omega arith
turned Word x d h e l = omega arith
turned Long x d h e l = omega arith

pub displaced_less :
    (z : Size) (x d h m r : ℕ) → h ≡ 2 ^ (bits_of z - 1) → h ≤ d → d < 2 ^ 32 → m < 2 ^ 32 → (m + h) % 2 ^ 32 ≡ d - h → r ≡ (x + m) % 2 ^ 32
    → r % 2 ^ 24 ≡ displaced (bits_of z) x d
displaced_less z x d h m r e l b c f g =
    let k : 2 ^ (bits_of z - 1) ≤ d = rw (← e) l in
    let i : m ≡ less 32 (d - h) h = less_is 32 (d - h) h m (omega arith) (omega arith) c f in
    rw (g, i, le-leb (2 ^ (bits_of z - 1)) d k) (as_address x (d - h + (2 ^ 32 - h)) ∙ turned z x d h e l)

-- ---- stores
module _ (s t : State) (ram rom : List ℕ) (a n v : ℕ) (m : List ℕ) (after : m ≡ ram_bytes ram rom a n v) where
  pub stored_bytes : store_bytes ram rom a n ≡ Ok tt → ◌≡◌ {A = Outcome} (record { state = t; ram = m; answer = Ok tt }) (leaves s ram (storing_bytes t ram rom a n v))
  stored_bytes e = rw (e, after) refl

  pub not_stored_bytes : (w : Why) → store_bytes ram rom a n ≡ Err w → ◌≡◌ {A = Outcome} (record { state = s; ram = m; answer = Err w }) (leaves s ram (storing_bytes t ram rom a n v))
  not_stored_bytes w e = rw (e, after ∙ refused_bytes ram rom a n v w e) refl

-- the same of a size
module _ (s t : State) (ram rom : List ℕ) (a : ℕ) (z : Size) (v : ℕ) (m : List ℕ) (after : m ≡ ram_after ram rom a z v) where
  pub stored : store_of ram rom a z ≡ Ok tt → ◌≡◌ {A = Outcome} (record { state = t; ram = m; answer = Ok tt }) (leaves s ram (storing t ram rom a z v))
  unfolding storing store_of ram_after
  stored = stored_bytes s t ram rom a (bytes_of z) v m after

  pub not_stored : (w : Why) → store_of ram rom a z ≡ Err w → ◌≡◌ {A = Outcome} (record { state = s; ram = m; answer = Err w }) (leaves s ram (storing t ram rom a z v))
  unfolding storing store_of ram_after
  not_stored = not_stored_bytes s t ram rom a (bytes_of z) v m after

-- ---- a call, and then a change of the state where it was done
module _ (s : State) (ram : List ℕ) (a : Answer) (u : State) (m : List ℕ) (f : State → State) where
  pub then_done : (t : Try) → after a u m ≡ leaves s ram t → a ≡ Ok tt → after (Ok tt) (f u) m ≡ leaves s ram (and_then t f)
  then_done (did v n) e d = rw (ap (λ (o : Outcome). o.state) e, ap (λ (o : Outcome). o.ram) e) refl
  then_done (no w) e d =
      let b : a ≡ Err w = ap (λ (o : Outcome). o.answer) e in
      let z : ◌≡◌ {A = ℕ} 0 1 = cc in
      absurd (omega arith)

  pub then_refused : (w : Why) (t : Try) → after a u m ≡ leaves s ram t → a ≡ Err w → after (Err w) u m ≡ leaves s ram (and_then t f)
  then_refused w (did v n) e d =
      let b : a ≡ Ok tt = ap (λ (o : Outcome). o.answer) e in
      let z : ◌≡◌ {A = ℕ} 0 1 = cc in
      absurd (omega arith)
  then_refused w (no x) e d = rw (← d) e
