-- Laws of repeated shifts, over the width.
use mathlib.Core.Path.{◌≡◌, refl, sym, ap, ◌∙◌}
use mathlib.Core.Bool.{Bool, true, false, cond}
use Prim.Native.Nat.{ℕ, zero, suc, ◌+◌, ◌-◌, ◌*◌, ◌/◌, ◌%◌, ◌^◌, ◌≤◌, ◌<◌, zero-le}
use native.Mathlib.Nat.{zero-add, suc-add, le_refl, mod-lt, mod-eq_of_lt, not-suc-le-zero}
use native.Mathlib.Omega.{arith}
use lib.Pow.{pow_pos}
use Rattle.flags.proofs.Widths.{twice, size_le, bits_pos}
use Rattle.alu.specs.declared.Shift.TheVariants.{Sla, Sra, Sll, Srl}
use Rattle.flags.specs.Width.{low, negative, weighed, one}
use Rattle.little.specs.declared.Size.{Size}
use Rattle.little.specs.Width.{bits_of}
use lib.Dec.{leb}
use borrow.Author.Tests.{le-leb, lt-leb, leb-false}
use Rattle.alu.specs.Logic.{plain}
use Rattle.flags.specs.Sums.{result_of}
use native.Mathlib.Numerals.{sub-one}
use Rattle.alu.specs.declared.Shift.{Shift}
use Rattle.alu.specs.declared.shifter.Shifted.{Shifted}
use Rattle.alu.specs.Shift.{shifted, joined, left_of, right_of, one_place, shift_by, shift_of}
use Rattle.alu.specs.inner.Place.{leftward, comes_in, Goes}

-- a places and then b places are a + b places
pub shift_add : (w : Shift) (k a b : ℕ) (s : Shifted) → shift_by w k (a + b) s ≡ shift_by w k b (shift_by w k a s)
unfolding shift_by
shift_add w k zero b s = ap (λ (n : ℕ). shift_by w k n s) (zero-add b)
shift_add w k (suc a) b s =
    ap (λ (n : ℕ). shift_by w k n s) (suc-add a b) ∙ shift_add w k a b (one_place w k s.value)

-- ---- the recursion of the code
pub shift_none : (w : Shift) (k n v : ℕ) (o : Bool) (i : ℕ) → n ≡ 0 → i ≡ one o → v + i * 2 ^ 32 ≡ joined (shift_by w k n (shifted v o))
unfolding shift_by
shift_none w k n v o i e f = rw (e, f)

less_one : (w : Shift) (k n : ℕ) (s : Shifted) → (n ≡ 0 → ⊥) → shift_by w k (n - 1) (one_place w k s.value) ≡ shift_by w k n s
unfolding shift_by
less_one w k zero s f = absurd (f refl)
less_one w k (suc n) s f = ap (λ (m : ℕ). shift_by w k m (one_place w k s.value)) (sub-one (suc n))

shift_more :
    (w : Shift) (k n v : ℕ) (o : Bool) (p : Shifted) (r : ℕ) → (n ≡ 0 → ⊥) → p ≡ one_place w k v →
    r ≡ joined (shift_by w k (n - 1) (shifted p.value p.out)) → r ≡ joined (shift_by w k n (shifted v o))
shift_more w k n v o p r f e g =
    g ∙ ap (λ (s : Shifted). joined (shift_by w k (n - 1) s)) e ∙ ap joined (less_one w k n (shifted v o) f)

-- ---- what stays the same from place to place
-- the sign that SRA brings in is the sign that was
sign_stays : (k x : ℕ) → weighed k (x / 2 + weighed k x) ≡ weighed k x
sign_stays k x = go (negative k x) refl
  where
    weight : Bool → ℕ
    weight b = cond b (2 ^ (k - 1)) 0

    go : (b : Bool) → negative k x ≡ b → weighed k (x / 2 + weight b) ≡ weight b
    go true e = ap weight (le-leb (2 ^ (k - 1)) (x / 2 + 2 ^ (k - 1)) (omega arith))
    go false e = ap weight (lt-leb (2 ^ (k - 1)) (x / 2 + 0) (omega (arith, leb-false (2 ^ (k - 1)) x e)))

stays : (w : Shift) (k x : ℕ) → comes_in w k x ≡ comes_in w k (one_place w k x).value
stays Sla k x = refl
stays Sra k x = sym (sign_stays k x)
stays Sll k x = refl
stays Srl k x = refl

goes_on_lem : (w : Shift) (k x : ℕ) (l : Bool) (t a : ℕ) → Goes w k x l t a → Goes w k (one_place w k x).value l t a
goes_on_lem w k x l t a g = record { wide = g.wide; way = g.way; weight = g.weight; comes = g.comes ∙ stays w k x }

-- one place is to the left or to the right, as the shift goes
false_true : {P : Type 0} → false ≡ true → P
false_true e = let z : ◌≡◌ {A = ℕ} 0 1 = ap one e in absurd (omega arith)

pub place_left :
    (w : Shift) (k x : ℕ) (l : Bool) (t a : ℕ) (r : Shifted) → l ≡ true →
    ((j : ℕ) → 0 < j → t ≡ 2 ^ (j - 1) → r ≡ left_of j x) → Goes w k x l t a → r ≡ one_place w k x
place_left Sla k x l t a r e f g = f k g.wide g.weight
place_left Sra k x l t a r e f g = false_true (sym g.way ∙ e)
place_left Sll k x l t a r e f g = f k g.wide g.weight
place_left Srl k x l t a r e f g = false_true (sym g.way ∙ e)

pub place_right : (w : Shift) (k x : ℕ) (l : Bool) (t a : ℕ) (r : Shifted) → l ≡ false → r ≡ right_of x a → Goes w k x l t a → r ≡ one_place w k x
place_right Sla k x l t a r e f g = false_true (sym e ∙ g.way)
place_right Sra k x l t a r e f g = f ∙ ap (right_of x) g.comes
place_right Sll k x l t a r e f g = false_true (sym e ∙ g.way)
place_right Srl k x l t a r e f g = f ∙ ap (right_of x) g.comes

pub goes_more :
    (n v : ℕ) (o l : Bool) (t a : ℕ) (p : Shifted) (r : ℕ) → (n ≡ 0 → ⊥) →
    ((w : Shift) (k : ℕ) → Goes w k v l t a → p ≡ one_place w k v) →
    ((w : Shift) (k : ℕ) → Goes w k p.value l t a → r ≡ joined (shift_by w k (n - 1) (shifted p.value p.out))) →
    (w : Shift) (k : ℕ) → Goes w k v l t a → r ≡ joined (shift_by w k n (shifted v o))
goes_more n v o l t a p r f q h w k g =
    let e = q w k g in
    let on : Goes w k p.value l t a = rw e (goes_on_lem w k v l t a g) in
    shift_more w k n v o p r f e (h w k on)

-- ---- merged shifts, once over the width

cond_le : (b : Bool) (n : ℕ) → cond b n 0 ≤ n
cond_le true n = le_refl n
cond_le false n = zero-le

-- a place keeps a number within k bits
pub place_lt : (w : Shift) (k x : ℕ) → 0 < k → x < 2 ^ k → (one_place w k x).value < 2 ^ k
place_lt Sla k x p h = mod-lt (x * 2) (pow_pos k)
place_lt Sra k x p h = omega (arith, twice k p, cond_le (negative k x) (2 ^ (k - 1)))
place_lt Sll k x p h = mod-lt (x * 2) (pow_pos k)
place_lt Srl k x p h = omega arith

pub shift_lt : (w : Shift) (k n : ℕ) (s : Shifted) → 0 < k → s.value < 2 ^ k → (shift_by w k n s).value < 2 ^ k
unfolding shift_by
shift_lt w k zero s p h = h
shift_lt w k (suc n) s p h = shift_lt w k n (one_place w k s.value) p (place_lt w k s.value p h)

-- the bit that went out before a place makes no difference
pub out_forgotten : (w : Shift) (k n : ℕ) (s t : Shifted) → 0 < n → s.value ≡ t.value → shift_by w k n s ≡ shift_by w k n t
unfolding shift_by
out_forgotten w k zero s t h e = absurd (not-suc-le-zero h)
out_forgotten w k (suc n) s t h e = ap (λ (x : ℕ). shift_by w k n (one_place w k x)) e

-- a places and then b places leave the same value and flags as a + b places
pub shift_merge : (w : Shift) (k x a b : ℕ) → 0 < k → 0 < b → shift_of w k (shift_of w k x a).value b ≡ shift_of w k x (a + b)
unfolding shift_of result_of
shift_merge w k x a b p h =
    ap (λ (t : Shifted). plain k t.value false t.out)
    (out_forgotten w k b (shifted (low k (shift_by w k a (shifted (low k x) false)).value) false) (shift_by w k a (shifted (low k x) false)) h
    (mod-eq_of_lt (shift_lt w k a (shifted (low k x) false) p (mod-lt x (pow_pos k))))
    ∙ sym (shift_add w k a b (shifted (low k x) false)))

-- ---- the value and the bit out of the number that joins them
split_value : (v : ℕ) (b : Bool) → v < 2 ^ 32 → (v + one b * 2 ^ 32) % 2 ^ 32 ≡ v
split_value v true h = omega arith
split_value v false h = omega arith

split_out : (v : ℕ) (b : Bool) → v < 2 ^ 32 → leb (2 ^ 32) (v + one b * 2 ^ 32) ≡ b
split_out v true h = le-leb (2 ^ 32) (v + 2 ^ 32) (omega arith)
split_out v false h = lt-leb (2 ^ 32) (v + 0) (omega arith)

shift_split :
    (w : Shift) (s : Size) (a n t : ℕ) → t ≡ joined (shift_by w (bits_of s) n (shifted (low (bits_of s) a) false)) →
    plain (bits_of s) (t % 2 ^ 32) false (leb (2 ^ 32) t) ≡ shift_of w (bits_of s) a n
unfolding shift_of
shift_split w s a n t e =
    let k = bits_of s in
    let q = shift_by w k n (shifted (low k a) false) in
    let h : q.value < 2 ^ 32 = omega (arith, size_le s, shift_lt w k n (shifted (low k a) false) (bits_pos s) (mod-lt a (pow_pos k))) in
    rw (e, split_value q.value q.out h, split_out q.value q.out h)

-- the parts that the code hands on make the shift
pub shift_made :
    (w : Shift) (s : Size) (a n x top above t : ℕ) (l : Bool) → x ≡ low (bits_of s) a → top ≡ 2 ^ (bits_of s - 1) →
    ((k : ℕ) → top ≡ 2 ^ (k - 1) → above ≡ comes_in w k x) → l ≡ leftward w →
    ((v : Shift) (k : ℕ) → Goes v k x l top above → t ≡ joined (shift_by v k n (shifted x false))) →
    plain (bits_of s) (t % 2 ^ 32) false (leb (2 ^ 32) t) ≡ shift_of w (bits_of s) a n
shift_made w s a n x top above t l ex et ea el h =
    let k = bits_of s in
    let g : Goes w k x l top above = record { wide = bits_pos s; way = el; weight = et; comes = ea k et } in
    shift_split w s a n t (h w k g ∙ ap (λ (y : ℕ). joined (shift_by w k n (shifted y false))) ex)
