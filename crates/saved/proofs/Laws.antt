-- What saving leaves, and what loading comes to.
use Prim.Native.Nat.{ℕ, ◌+◌, ◌*◌, ◌/◌, ◌%◌, ◌^◌, ◌<◌}
use mathlib.Core.Path.{◌≡◌, refl, ap, sym, ◌∙◌}
use mathlib.Core.List.{List, [], ◌∷◌, ◌++◌, append_assoc}
use mathlib.Core.Bool.{Bool, true, false}
use native.Mathlib.Omega.{arith}
use lib.ListN.{length, get_or, take, drop}
use lib.Seq.{take_all, get_or-drop}
use Rattle.answer.specs.declared.Why.{Why}
use Rattle.answer.specs.declared.Why.TheVariants.{Invalid}
use Rattle.answer.proofs.Laws.{not_refused}
use Rattle.little.specs.Bytes.{value_of, bytes_from}
use Rattle.state.specs.State.{flags_valid, marks_of}
use Rattle.state.specs.declared.State.{State}
use Rattle.state.specs.Sr.{sr_of, f_in, bank_in, level_in}
use Rattle.state.proofs.Valid.{Valid, flags_say}
use Rattle.saved.specs.Record.{record_length, old_length, longs_bytes, old_record_of, marks_byte, record_of}
use Rattle.saved.specs.Record.{longs_at, sr_at, nesting_at, marks_at, state_at, is_record_of, restored_from}
use Rattle.saved.specs.declared.Restored.{Restored}
use Rattle.saved.proofs.Numbers.{two}
use Rattle.saved.proofs.Refusals.{bad_records}
use Rattle.std.proofs.Common.{Ok, Err}
use Rattle.answer.specs.Number.{Answer}

-- ---- saving
-- valid flags have two marks at most
pub marks_lt : (f : ℕ) → flags_valid f ≡ true → marks_of f < 4
marks_lt f e = omega (arith, (flags_say f e).0)

-- what each write of `save_front` leaves, one after the other, is the old record
pub front_filled :
    (s : State) (l0 l1 l2 l3 l4 : List ℕ) {sr : ℕ} → sr ≡ sr_of s →
    take 80 l0 ≡ longs_bytes s.registers →
    take 84 l1 ≡ take 80 l0 ++ bytes_from 4 s.counter →
    take 86 l2 ≡ take 84 l1 ++ bytes_from 2 sr →
    take 87 l3 ≡ take 86 l2 ++ bytes_from 1 s.spare →
    take 88 l4 ≡ take 87 l3 ++ bytes_from 1 0 →
    take old_length l4 ≡ old_record_of s
unfolding old_record_of bytes_from
front_filled s l0 l1 l2 l3 l4 is e0 e1 e2 e3 e4 = e4 ∙ rw (e3, e2, e1, e0, is) (simp append_assoc)

-- it is the whole of a buffer that has room for no more
pub front_whole : (s : State) (l : List ℕ) → length l ≡ old_length → take old_length l ≡ old_record_of s → l ≡ old_record_of s
front_whole s l n e = sym (take_all old_length l (omega arith)) ∙ e

-- and with what each later write of `save` leaves, of a valid state, it is the record
pub record_filled :
    (s : State) (l0 l1 l2 l3 : List ℕ) {m : ℕ} → Valid s → m ≡ marks_byte s → length l3 ≡ record_length →
    take old_length l0 ≡ old_record_of s →
    take 90 l1 ≡ take old_length l0 ++ bytes_from 2 s.nesting →
    take 91 l2 ≡ take 90 l1 ++ bytes_from 1 m →
    take 92 l3 ≡ take 91 l2 ++ bytes_from 1 0 →
    l3 ≡ record_of s
unfolding record_of bytes_from
record_filled s l0 l1 l2 l3 v is n e0 e1 e2 e3 =
    let k : marks_byte s % 256 ≡ marks_byte s = omega (arith, marks_lt s.flags v.flags, marks_lt s.spare v.spare) in
    sym (take_all record_length l3 (omega arith))
    ∙ e3
    ∙ rw (e2, e1, e0, is)
    (append_assoc (old_record_of s ++ bytes_from 2 s.nesting) (bytes_from 1 (marks_byte s)) (bytes_from 1 0)
    ∙ append_assoc (old_record_of s) (bytes_from 2 s.nesting) (bytes_from 1 (marks_byte s) ++ bytes_from 1 0))
    ∙ ap (λ (m : ℕ). old_record_of s ++ (bytes_from 2 s.nesting ++ (m ∷ 0 ∷ []))) k

-- ---- loading
pub nesting_made : (l : List ℕ) {a b : ℕ} → a ≡ get_or l 88 0 → b ≡ get_or l 89 0 → a + 256 * b ≡ nesting_at l
nesting_made l e f = rw (e, f, ← get_or-drop 88 l 0 0, ← get_or-drop 88 l 1 0) (sym (two (drop 88 l)))

pub state_made :
    (l : List ℕ) {rs : List ℕ} {c sr b m n : ℕ} → rs ≡ longs_at 20 l → c ≡ value_of (take 4 (drop 80 l)) → sr ≡ sr_at l →
    b ≡ get_or l 86 0 → m ≡ marks_at l → n ≡ nesting_at l →
    ◌≡◌ {A = State}
    (record {
      registers = rs;
      counter = c;
      bank = bank_in sr;
      level = level_in sr;
      flags = f_in sr + 2 ^ 8 * (m % 4);
      spare = b + 2 ^ 8 * (m / 4);
      nesting = n;
    })
    (state_at l)
unfolding state_at
state_made l e f g i j k = rw (e, f, g, i, j, k)

pub load_good : (n : ℕ) (l : List ℕ) → is_record_of n l ≡ true → restored_from n l ≡ record { answer = Ok tt; state = state_at l }
unfolding restored_from
load_good n l e = rw e refl

-- a load that is done is of a good record, and gives the state in it
pub load_done :
    (n : ℕ) (l : List ℕ) {o : Restored} → o ≡ restored_from n l → o.answer ≡ Ok tt → (is_record_of n l ≡ true) × (o.state ≡ state_at l)
load_done n l {o = o} e r = go (is_record_of n l) refl
  where
    go : (b : Bool) → is_record_of n l ≡ b → (is_record_of n l ≡ true) × (o.state ≡ state_at l)
    go true g = (g, ap (λ (o : Restored). o.state) (e ∙ load_good n l g))
    go false g = not_refused r (ap (λ (o : Restored). o.answer) (e ∙ bad_records n l g))

-- a load that is refused is of a bad record, and says 2
pub load_refused :
    (n : ℕ) (l : List ℕ) {o : Restored} → o ≡ restored_from n l → (w : Why) → o.answer ≡ Err w →
    (is_record_of n l ≡ false) × (◌≡◌ {A = Answer} (Err w) (Err Invalid))
load_refused n l e w r = go (is_record_of n l) refl
  where
    go : (b : Bool) → is_record_of n l ≡ b → (is_record_of n l ≡ false) × (◌≡◌ {A = Answer} (Err w) (Err Invalid))
    go true g = not_refused (ap (λ (o : Restored). o.answer) (e ∙ load_good n l g)) r
    go false g = (g, sym r ∙ ap (λ (o : Restored). o.answer) (e ∙ bad_records n l g))
