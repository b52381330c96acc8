-- What a copy upwards leaves in memory, as specs/Search.antt states it.
use Prim.Native.Nat.{ℕ, zero, suc, ◌+◌, ◌-◌, ◌*◌, ◌%◌, ◌^◌, ◌<◌, ◌≤◌}
use mathlib.Core.Path.{◌≡◌, refl, ap, sym, ◌∙◌, subst}
use mathlib.Core.Logic.{◌⊎◌, inl, inr, ⊎_elim}
use mathlib.Core.List.{List, [], ◌∷◌, ◌++◌, append_assoc}
use mathlib.Core.Bool.{Bool, true, cond}
use native.Mathlib.Omega.{arith}
use native.Mathlib.Nat.{mod-eq_of_lt, mod-add-mod, suc-mul, zero-mul, add-zero, add_comm, mul-le-mul_right}
use lib.Pow.{mod-mod-pow}
use lib.ListN.{length, get_or, take, drop, replicate, length-append, length-drop, take-append-drop}
use lib.Seq.{take-add, take-take, take-append-le, drop-drop, drop_at, length-take-le, drop-cons}
use Rattle.little.specs.declared.Size.{Size}
use Rattle.little.specs.declared.Size.TheVariants.{Long}
use Rattle.little.specs.Width.{bytes_of}
use Rattle.little.specs.Bytes.{Bytes, value_of, bytes_from, replaced}
use Rattle.little.proofs.Laws.{bytes_value, replaced_length, replaced_take, replaced_drop, replaced_part}
use Rattle.memory.specs.Access.{load_of, store_of, ram_after}
use Rattle.memory.specs.declared.Place.{Place}
use Rattle.memory.specs.Place.{Present}
use Rattle.memory.specs.declared.Place.TheVariants.{Ram}
use Rattle.memory.proofs.Laws.{place_ram}
use Rattle.state.specs.Register.{get_register}
use Rattle.state.specs.Sound.{Sound}
use Rattle.state.specs.declared.State.{State}
use Rattle.state.proofs.Valid.{Valid}
use Rattle.code.specs.declared.Form.{Form}
use Rattle.operand.specs.Try.{did}
use Rattle.operand.specs.Operand.{pointer_of, storing}
use Rattle.operand.specs.Round.{less, plus}
use Rattle.block.specs.Block.{copied, round_of}
use Rattle.block.proofs.Rounds.{round_copies}
use Rattle.turn.specs.Many.{Result}
use Rattle.run.specs.Run.{run_of}
use Rattle.run.specs.Demand.{At, rounds_of, count_of, passed, element_of, target_of}
use Rattle.run.specs.Search.{Target, bytes_moved, CopyMoves, CopySpreads}
use Rattle.run.proofs.Bytes.{bytes_append, bytes_take, bytes_drop}
use Rattle.run.proofs.Registers.{once}
use Rattle.run.proofs.Rounds.{Pointers, Rounded, copied_rounded, same_did}
use Rattle.run.proofs.Counts.{rounds_none, rounds_did}
use Rattle.run.proofs.Steps.{at_pointers, at_valid}
use Rattle.run.proofs.Demand.{copy_none, to_the_end}
use Rattle.run.proofs.Search.{up_passed}
use Rattle.std.proofs.Common.{Ok}

-- ---- a list with parts replaced
-- a part is what is left of the elements up to its end
part_is : (o c : ℕ) (l : List ℕ) → o ≤ length l → take c (drop o l) ≡ drop o (take (o + c) l)
part_is o c l h = sym (ap (drop o) (take-add o c l) ∙ drop_at (take o l) (take c (drop o l)) o (length-take-le o l h))

front : (t : ℕ) (new l : List ℕ) (n : ℕ) → n ≤ t → t ≤ length l → take n (replaced t new l) ≡ take n l
unfolding replaced
front t new l n h k =
    let e : length (take t l) ≡ t = length-take-le t l k in
    take-append-le n (take t l) (new ++ drop (t + length new) l) (omega arith) ∙ take-take n t l h

joined :
    (t : ℕ) (new l more r : List ℕ) → take (t + length new) r ≡ take t l ++ new → drop (t + length new + length more) r ≡ drop (t + length new + length more) l →
    replaced (t + length new) more r ≡ replaced t (new ++ more) l
unfolding replaced
joined t new l more r e f =
    let n : t + length (new ++ more) ≡ t + length new + length more = simp length-append (omega arith) in
    rw (e, f, n) (simp append_assoc)

module _ (t : ℕ) (new l : List ℕ) (fits : t + length new ≤ length l) where
  behind : (n : ℕ) → t + length new ≤ n → drop n (replaced t new l) ≡ drop n l
  behind n h =
      let e : t + length new + (n - (t + length new)) ≡ n = omega arith in
      ap (λ (k : ℕ). drop k (replaced t new l)) (sym e)
      ∙ sym (drop-drop (n - (t + length new)) (t + length new) (replaced t new l))
      ∙ ap (drop (n - (t + length new))) (replaced_drop t new l fits)
      ∙ drop-drop (n - (t + length new)) (t + length new) l
      ∙ ap (λ (k : ℕ). drop k l) e

  part_below : (o c : ℕ) → o + c ≤ t → take c (drop o (replaced t new l)) ≡ take c (drop o l)
  part_below o c h =
      let n = replaced_length t new l fits in
      part_is o c (replaced t new l) (omega arith) ∙ ap (drop o) (front t new l (o + c) h (omega arith)) ∙ sym (part_is o c l (omega arith))

  part_above : (o c : ℕ) → t + length new ≤ o → take c (drop o (replaced t new l)) ≡ take c (drop o l)
  part_above o c h = ap (take c) (behind o h)

  -- two parts, one behind the other
  replaced_join : (more : List ℕ) → replaced (t + length new) more (replaced t new l) ≡ replaced t (new ++ more) l
  replaced_join more =
      joined t new l more (replaced t new l) (replaced_take t new l fits) (behind (t + length new + length more) (omega arith))

replaced_none : (t : ℕ) (l : List ℕ) → replaced t [] l ≡ l
unfolding replaced
replaced_none t l = rw (add-zero t) (take-append-drop t l)

bytes_replaced : (t : ℕ) (new l : List ℕ) → Bytes new → Bytes l → Bytes (replaced t new l)
unfolding replaced
bytes_replaced t new l h k =
    bytes_append (take t l) (new ++ drop (t + length new) l) (bytes_take t l k)
    (bytes_append new (drop (t + length new) l) h (bytes_drop (t + length new) l k))

-- ---- addresses that do not go round
address_on : (x n : ℕ) → x % 2 ^ 24 + n < 2 ^ 24 → (x + n) % 2 ^ 24 ≡ x % 2 ^ 24 + n
address_on x n h = sym (mod-add-mod x (2 ^ 24) n) ∙ mod-eq_of_lt h

up_once : (f : Form) (x : ℕ) → f.up ≡ true → once f x ≡ (x + bytes_of f.size) % 2 ^ 32
unfolding once
up_once f x e = ap (λ (b : Bool). cond b (plus 32 x (bytes_of f.size)) (less 32 x (bytes_of f.size))) e

up_address : (f : Form) (x : ℕ) → f.up ≡ true → x % 2 ^ 24 + bytes_of f.size < 2 ^ 24 → once f x % 2 ^ 24 ≡ x % 2 ^ 24 + bytes_of f.size
up_address f x e h =
    ap (λ (y : ℕ). y % 2 ^ 24) (up_once f x e) ∙ mod-mod-pow (x + bytes_of f.size) 8 24 ∙ address_on x (bytes_of f.size) h

-- ---- one round upwards, from RAM to RAM
record Moving (f : Form) (s : State) (ram : List ℕ) : Type 0 where
  pub pointers : Pointers f
  pub sound : Sound s
  pub valid : Valid s
  pub bytes : Bytes ram
  pub copies : f.copies ≡ true
  pub up : f.up ≡ true
  pub within : length ram ≤ 2 ^ 16

abbrev element_in : Form → State → List ℕ → List ℕ
element_in f s ram = take (bytes_of f.size) (drop (pointer_of s f.from) ram)

loaded_is : (ram rom : List ℕ) (a : ℕ) (z : Size) → a + bytes_of z ≤ length ram → load_of ram rom a z ≡ Ok (value_of (take (bytes_of z) (drop a ram)))
unfolding load_of
loaded_is ram rom a z h = rw (place_ram (length ram) (length rom) a (bytes_of z) h) refl

stored_is :
    (t : State) (ram rom : List ℕ) (a : ℕ) (z : Size) (v : ℕ) → a + bytes_of z ≤ length ram →
    storing t ram rom a z v ≡ did t (replaced a (bytes_from (bytes_of z) v) ram)
unfolding storing store_of ram_after
stored_is t ram rom a z v h = rw (place_ram (length ram) (length rom) a (bytes_of z) h) refl

module _ (f : Form) (s : State) (ram rom : List ℕ) (w : Moving f s ram)
    (source : pointer_of s f.from + bytes_of f.size ≤ length ram) (target : pointer_of s f.to + bytes_of f.size ≤ length ram) where
  element_length : length (element_in f s ram) ≡ bytes_of f.size
  element_length = length-take-le (bytes_of f.size) (drop (pointer_of s f.from) ram) (simp length-drop (omega arith))

  element_again : bytes_from (bytes_of f.size) (value_of (element_in f s ram)) ≡ element_in f s ram
  element_again =
      ap (λ (n : ℕ). bytes_from n (value_of (element_in f s ram))) (sym element_length)
      ∙ bytes_value (element_in f s ram) (bytes_take (bytes_of f.size) _ (bytes_drop (pointer_of s f.from) ram w.bytes))

  round_moves : round_of f s ram rom ≡ did (copied f s) (replaced (pointer_of s f.to) (element_in f s ram) ram)
  round_moves =
      round_copies f s ram rom _ (loaded_is ram rom (pointer_of s f.from) f.size source) w.copies
      ∙ stored_is (copied f s) ram rom (pointer_of s f.to) f.size _ target
      ∙ ap (λ (l : List ℕ). did (copied f s) (replaced (pointer_of s f.to) l ram)) element_again

  rounded : Rounded f s (copied f s)
  rounded = copied_rounded f w.pointers s w.sound w.valid w.copies

  from_on : pointer_of (copied f s) f.from ≡ pointer_of s f.from + bytes_of f.size
  from_on =
      let l = w.within in
      ap (λ (x : ℕ). x % 2 ^ 24) rounded.from ∙ up_address f (get_register s Long f.from) w.up (omega (arith, l))

  to_on : pointer_of (copied f s) f.to ≡ pointer_of s f.to + bytes_of f.size
  to_on =
      let l = w.within in
      ap (λ (x : ℕ). x % 2 ^ 24) (rounded.to w.copies) ∙ up_address f (get_register s Long f.to) w.up (omega (arith, l))

  room : pointer_of s f.to + length (element_in f s ram) ≤ length ram
  room = let n = element_length in omega (arith, n)

  moving_on : Moving f (copied f s) (replaced (pointer_of s f.to) (element_in f s ram) ram)
  moving_on =
      record {
        pointers = w.pointers;
        sound = rounded.sound;
        valid = rounded.valid;
        bytes = bytes_replaced (pointer_of s f.to) (element_in f s ram) ram
            (bytes_take (bytes_of f.size) _ (bytes_drop (pointer_of s f.from) ram w.bytes)) w.bytes;
        copies = w.copies;
        up = w.up;
        within = subst (λ (n : ℕ). n ≤ 65536) (sym (replaced_length (pointer_of s f.to) (element_in f s ram) ram room)) w.within;
      }

-- ---- many rounds
-- the rounds after the first, and where they read and write
module _ (f : Form) (s : State) (ram rom : List ℕ) (w : Moving f s ram) (k : ℕ)
    (source : pointer_of s f.from + suc k * bytes_of f.size ≤ length ram)
    (target : pointer_of s f.to + suc k * bytes_of f.size ≤ length ram) where
  abbrev n : ℕ
  n = bytes_of f.size

  split : suc k * bytes_of f.size ≡ bytes_of f.size + k * bytes_of f.size
  split = suc-mul k (bytes_of f.size) ∙ add_comm (k * bytes_of f.size) (bytes_of f.size)

  source_one : pointer_of s f.from + bytes_of f.size ≤ length ram
  source_one = let e = split in omega (arith, e, source)

  target_one : pointer_of s f.to + bytes_of f.size ≤ length ram
  target_one = let e = split in omega (arith, e, target)

  abbrev after : List ℕ
  after = replaced (pointer_of s f.to) (element_in f s ram) ram

  after_size : length after ≡ length ram
  after_size = replaced_length (pointer_of s f.to) (element_in f s ram) ram (room f s ram rom w source_one target_one)

  rest_rounds : (t : State) (m : List ℕ) → rounds_of (suc k) f s ram rom ≡ did t m → rounds_of k f (copied f s) after rom ≡ did t m
  rest_rounds t m e = sym (rounds_did k f s ram rom (copied f s) after (round_moves f s ram rom w source_one target_one)) ∙ e

  source_rest : pointer_of (copied f s) f.from + k * bytes_of f.size ≤ length after
  source_rest =
      let e = split in
      let p = from_on f s ram rom w source_one target_one in
      let z = after_size in
      omega (arith, e, p, z, source)

  target_rest : pointer_of (copied f s) f.to + k * bytes_of f.size ≤ length after
  target_rest =
      let e = split in
      let p = to_on f s ram rom w source_one target_one in
      let z = after_size in
      omega (arith, e, p, z, target)

  next : Moving f (copied f s) after
  next = moving_on f s ram rom w source_one target_one

  -- what the rest writes goes behind what the first round wrote
  joins : (more m : List ℕ) → m ≡ replaced (pointer_of (copied f s) f.to) more after → m ≡ replaced (pointer_of s f.to) (element_in f s ram ++ more) ram
  joins more m e =
      let l = element_length f s ram rom w source_one target_one in
      e
      ∙ ap (λ (x : ℕ). replaced x more after) (to_on f s ram rom w source_one target_one ∙ ap (λ (x : ℕ). pointer_of s f.to + x) (sym l))
      ∙ replaced_join (pointer_of s f.to) (element_in f s ram) ram (room f s ram rom w source_one target_one) more

nothing_moved :
    (f : Form) (s : State) (ram rom : List ℕ) (t : State) (m l : List ℕ) (a : ℕ) → rounds_of 0 f s ram rom ≡ did t m → m ≡ replaced a [] ram
nothing_moved f s ram rom t m l a e =
    let q = same_did (sym (rounds_none f s ram rom) ∙ e) in
    sym q.1 ∙ sym (replaced_none a ram)

-- source and target share no byte
moves :
    (k : ℕ) (f : Form) (s : State) (ram rom : List ℕ) (t : State) (m : List ℕ) → Moving f s ram →
    pointer_of s f.from + k * bytes_of f.size ≤ length ram → pointer_of s f.to + k * bytes_of f.size ≤ length ram →
    (pointer_of s f.from + k * bytes_of f.size ≤ pointer_of s f.to) ⊎ (pointer_of s f.to + k * bytes_of f.size ≤ pointer_of s f.from) →
    rounds_of k f s ram rom ≡ did t m →
    m ≡ replaced (pointer_of s f.to) (take (k * bytes_of f.size) (drop (pointer_of s f.from) ram)) ram
moves zero f s ram rom t m w source target apart e =
    nothing_moved f s ram rom t m ram (pointer_of s f.to) e
    ∙ ap (λ (x : ℕ). replaced (pointer_of s f.to) (take x (drop (pointer_of s f.from) ram)) ram) (sym (zero-mul (bytes_of f.size)))
moves (suc k) f s ram rom t m w source target apart e =
    let s1 = source_one f s ram rom w k source target in
    let t1 = target_one f s ram rom w k source target in
    let from = from_on f s ram rom w s1 t1 in
    let to = to_on f s ram rom w s1 t1 in
    let cut = split f s ram rom w k source target in
    let len = element_length f s ram rom w s1 t1 in
    let r = room f s ram rom w s1 t1 in
    let far :
    (pointer_of (copied f s) f.from + k * bytes_of f.size ≤ pointer_of (copied f s) f.to)
    ⊎ (pointer_of (copied f s) f.to + k * bytes_of f.size ≤ pointer_of (copied f s) f.from) =
    ⊎_elim (λ (x : pointer_of s f.from + suc k * bytes_of f.size ≤ pointer_of s f.to). inl (omega (arith, from, to, cut, x)))
    (λ (x : pointer_of s f.to + suc k * bytes_of f.size ≤ pointer_of s f.from). inr (omega (arith, from, to, cut, x))) apart in
    let ih =
    moves k f (copied f s) (replaced (pointer_of s f.to) (element_in f s ram) ram) rom t m (next f s ram rom w k source target)
    (source_rest f s ram rom w k source target) (target_rest f s ram rom w k source target) far
    (rest_rounds f s ram rom w k source target t m e) in
    let kept :
    take (k * bytes_of f.size) (drop (pointer_of s f.from + bytes_of f.size) (replaced (pointer_of s f.to) (element_in f s ram) ram))
    ≡ take (k * bytes_of f.size) (drop (pointer_of s f.from + bytes_of f.size) ram) =
    ⊎_elim
    (λ (x : pointer_of s f.from + suc k * bytes_of f.size ≤ pointer_of s f.to).
    part_below (pointer_of s f.to) (element_in f s ram) ram r (pointer_of s f.from + bytes_of f.size) (k * bytes_of f.size) (omega (arith, cut, x)))
    (λ (x : pointer_of s f.to + suc k * bytes_of f.size ≤ pointer_of s f.from).
    part_above (pointer_of s f.to) (element_in f s ram) ram r (pointer_of s f.from + bytes_of f.size) (k * bytes_of f.size) (omega (arith, cut, len, x)))
    apart in
    joins f s ram rom w k source target (take (k * bytes_of f.size) (drop (pointer_of s f.from + bytes_of f.size) ram)) m
    (ih ∙ ap (λ (l : List ℕ). replaced (pointer_of (copied f s) f.to) l (replaced (pointer_of s f.to) (element_in f s ram) ram))
    (ap (λ (x : ℕ). take (k * bytes_of f.size) (drop x (replaced (pointer_of s f.to) (element_in f s ram) ram))) from ∙ kept))
    ∙ ap (λ (l : List ℕ). replaced (pointer_of s f.to) l ram)
    (ap (λ (l : List ℕ). element_in f s ram ++ take (k * bytes_of f.size) l) (sym (drop-drop (bytes_of f.size) (pointer_of s f.from) ram))
    ∙ sym (take-add (bytes_of f.size) (k * bytes_of f.size) (drop (pointer_of s f.from) ram))
    ∙ ap (λ (x : ℕ). take x (drop (pointer_of s f.from) ram)) (sym cut))

-- the target of bytes is one above the source
one_byte : (o : ℕ) (l : List ℕ) → o < length l → take 1 (drop o l) ≡ get_or l o 0 ∷ []
one_byte o l h = ap (take 1) (drop-cons l o 0 h)

first_of : (o b : ℕ) (l : List ℕ) → o < length l → take 1 (drop o l) ≡ b ∷ [] → get_or l o 0 ≡ b
first_of o b l h e = ap (λ (x : List ℕ). get_or x 0 0) (sym (one_byte o l h) ∙ e)

spreads :
    (k : ℕ) (f : Form) (s : State) (ram rom : List ℕ) (t : State) (m : List ℕ) → Moving f s ram → bytes_of f.size ≡ 1 →
    pointer_of s f.to ≡ pointer_of s f.from + 1 → pointer_of s f.to + k * bytes_of f.size ≤ length ram →
    rounds_of k f s ram rom ≡ did t m → m ≡ replaced (pointer_of s f.to) (replicate k (get_or ram (pointer_of s f.from) 0)) ram
spreads zero f s ram rom t m w one next-to target e = nothing_moved f s ram rom t m ram (pointer_of s f.to) e
spreads (suc k) f s ram rom t m w one next-to target e =
    let source : pointer_of s f.from + suc k * bytes_of f.size ≤ length ram = omega arith in
    let cut = split f s ram rom w k source target in
    let s1 = source_one f s ram rom w k source target in
    let t1 = target_one f s ram rom w k source target in
    let from = from_on f s ram rom w s1 t1 in
    let to = to_on f s ram rom w s1 t1 in
    let r = room f s ram rom w s1 t1 in
    let b = get_or ram (pointer_of s f.from) 0 in
    let byte : element_in f s ram ≡ b ∷ [] =
    ap (λ (x : ℕ). take x (drop (pointer_of s f.from) ram)) one ∙ one_byte (pointer_of s f.from) ram (omega (arith, s1, one)) in
    let after = replaced (pointer_of s f.to) (element_in f s ram) ram in
    let size = after_size f s ram rom w k source target in
    let again : get_or after (pointer_of (copied f s) f.from) 0 ≡ b =
    ap (λ (x : ℕ). get_or after x 0) (from ∙ ap (λ (x : ℕ). pointer_of s f.from + x) one ∙ sym next-to)
    ∙ first_of (pointer_of s f.to) b after (omega (arith, size, t1, one))
    (ap (λ (l : List ℕ). take (length l) (drop (pointer_of s f.to) after)) (sym byte)
    ∙ replaced_part (pointer_of s f.to) (element_in f s ram) ram r ∙ byte) in
    let ih =
    spreads k f (copied f s) after rom t m (next f s ram rom w k source target) one (omega (arith, from, to, next-to))
    (target_rest f s ram rom w k source target) (rest_rounds f s ram rom w k source target t m e) in
    joins f s ram rom w k source target (replicate k b) m
    (ih ∙ ap (λ (x : ℕ). replaced (pointer_of (copied f s) f.to) (replicate k x) after) again)
    ∙ ap (λ (l : List ℕ). replaced (pointer_of s f.to) (l ++ replicate k b) ram) byte

-- ---- the statements
-- the address after i elements, where it does not go round
up_at : (f : Form) (x i : ℕ) → f.up ≡ true → x % 2 ^ 24 + i * bytes_of f.size < 2 ^ 24 → passed f x i % 2 ^ 24 ≡ x % 2 ^ 24 + i * bytes_of f.size
up_at f x i e h =
    ap (λ (y : ℕ). y % 2 ^ 24) (up_passed f x i e) ∙ mod-mod-pow (x + i * bytes_of f.size) 8 24 ∙ address_on x (i * bytes_of f.size) h

-- element i of k ends where they all end, or before
ends_within : (i k n : ℕ) → i < k → i * n + n ≤ k * n
ends_within i k n h = let m : suc i * n ≤ k * n = mul-le-mul_right n h in let e = suc-mul i n in omega (arith, m, e)

module _ (f : Form) (s : State) (ram rom : List ℕ) (a : At f s ram rom) (copies : f.copies ≡ true) (up : f.up ≡ true) (to : Target f s ram rom)
    (source : pointer_of s f.from + bytes_moved f s ≤ length ram) where
  source_at : (i : ℕ) → i < count_of s → element_of f s i ≡ pointer_of s f.from + i * bytes_of f.size
  source_at i h =
      let e = ends_within i (count_of s) (bytes_of f.size) h in
      let l = a.ram_fits in
      up_at f (get_register s Long f.from) i up (omega (arith, e, l, source))

  target_at : (i : ℕ) → i < count_of s → target_of f s i ≡ pointer_of s f.to + i * bytes_of f.size
  target_at i h =
      let e = ends_within i (count_of s) (bytes_of f.size) h in
      let l = a.ram_fits in
      let t = to.in_ram in
      up_at f (get_register s Long f.to) i up (omega (arith, e, l, t))

  not_missing : {p : Place} {o : ℕ} → p ≡ Ram o → Present p
  not_missing e x h = let z : ◌≡◌ {A = ℕ} 0 1 = cc in omega arith

  all_done : (t : State) × (m : List ℕ) × (rounds_of (count_of s) f s ram rom ≡ did t m) × ((run_of (count_of s) s ram rom).ram ≡ m)
  all_done =
      let x =
      to_the_end f s ram rom a
      (record {
        there = λ i h.
            let e = ends_within i (count_of s) (bytes_of f.size) h in
            let p = source_at i h in
            not_missing (place_ram (length ram) (length rom) (element_of f s i) (bytes_of f.size) (omega (arith, e, p, source)));
        writable = λ c i h.
            let e = ends_within i (count_of s) (bytes_of f.size) h in
            let p = target_at i h in
            let t = to.in_ram in
            omega (arith, e, p, t);
        spared = λ c i h.
            let e = ends_within i (count_of s) (bytes_of f.size) h in
            let p = target_at i h in
            ⊎_elim (λ (y : pointer_of s f.to + bytes_moved f s ≤ s.counter). inl (omega (arith, e, p, y)))
            (λ (y : s.counter + 2 ≤ pointer_of s f.to). inr (omega (arith, e, p, y))) to.spares;
      })
      (copy_none (count_of s) f s ram rom copies) in
      (x.0, x.1, x.2, ap (λ (r : Result). r.ram) x.3)

  moving : Moving f s ram
  moving =
      record {
        pointers = at_pointers f s ram rom a;
        sound = a.sound;
        valid = at_valid f s ram rom a;
        bytes = a.ram_bytes;
        copies = copies;
        up = up;
        within = a.ram_fits;
      }

pub copy_moves : (f : Form) (s : State) (ram rom : List ℕ) → CopyMoves f s ram rom
copy_moves f s ram rom a copies up to source apart =
    let x = all_done f s ram rom a copies up to source in
    x.3 ∙ moves (count_of s) f s ram rom x.0 x.1 (moving f s ram rom a copies up to source) source to.in_ram apart x.2

pub copy_spreads : (f : Form) (s : State) (ram rom : List ℕ) → CopySpreads f s ram rom
copy_spreads f s ram rom a copies up byte to next-to =
    let one : bytes_of f.size ≡ 1 = ap bytes_of byte in
    let t = to.in_ram in
    let source : pointer_of s f.from + bytes_moved f s ≤ length ram = omega (arith, t, next-to) in
    let x = all_done f s ram rom a copies up to source in
    x.3 ∙ spreads (count_of s) f s ram rom x.0 x.1 (moving f s ram rom a copies up to source) one next-to to.in_ram x.2
