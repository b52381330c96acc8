-- One round of a listed form, and many.
use Prim.Native.Nat.{ℕ, ◌+◌, ◌^◌, ◌<◌, ◌≤◌}
use mathlib.Core.Path.{◌≡◌, refl, ap, sym, ◌∙◌, subst}
use mathlib.Core.Logic.{inl, inr, ◌≢◌}
use mathlib.Core.List.{List}
use mathlib.Core.Bool.{Bool, true, false, not, ◌&&◌}
use native.Mathlib.Omega.{arith}
use native.Mathlib.Nat.{mod-eq_of_lt}
use lib.Dec.{eqb}
use lib.ListN.{length}
use Rattle.answer.specs.declared.Why.{Why}
use Rattle.answer.specs.declared.Why.TheVariants as why
use Rattle.little.specs.declared.Size.{Size}
use Rattle.little.specs.declared.Size.TheVariants.{Byte, Word, Long}
use Rattle.little.specs.Width.{bits_of, bytes_of}
use Rattle.flags.specs.Flag.{compared_of}
use Rattle.flags.specs.Sums.{difference_of}
use Rattle.alu.specs.Operation.{operated}
use Rattle.flags.specs.declared.Flags.{Flags}
use Rattle.flags.proofs.Packed.{unpacked}
use Rattle.alu.proofs.Results.{compared_same}
use Rattle.memory.specs.Place.{place_of, Present}
use Rattle.memory.specs.Access.{load_of, load_from, store_of, store_to, ram_after, operand_at}
use Rattle.memory.specs.declared.Place.{Place}
use Rattle.memory.specs.declared.Place.TheVariants.{Ram, Rom, Missing}
use Rattle.memory.proofs.Laws.{place_ram, after_length}
use Rattle.state.specs.State.{with_long, with_flags, with_both_flags}
use Rattle.state.specs.Sound.{Sound}
use Rattle.state.specs.Register.{set_slot, get_register, set_register}
use Rattle.state.specs.declared.State.{State}
use Rattle.state.proofs.Valid.{Valid}
use Rattle.state.proofs.Laws.{register_lt}
use Rattle.code.specs.declared.Form.{Form}
use Rattle.code.specs.Range.{Holds, pointer_range}
use Rattle.operand.specs.Try.{did, no}
use Rattle.operand.specs.Operand.{pointer_of, storing, stored_by}
use Rattle.operand.specs.Round.{less}
use Rattle.operand.specs.Flag.{flags_in, flagged}
use Rattle.block.specs.Block.{count_in, more_in, counted, moved, copied, accumulator, compared, round_of, equal_in}
use Rattle.block.proofs.Rounds.{round_copies, round_compares, round_missing}
use Rattle.facts.proofs.Kept.{copied_valid, compared_valid, sound_flagged}
use Rattle.little.specs.Bytes.{Bytes}
use Rattle.run.proofs.Bytes.{bytes_after}
use Rattle.run.proofs.Registers.{once, moved_sound, moved_self, moved_long, moved_bc, moved_acc, counted_sound, counted_bc, counted_long, counted_acc, flagged_register, flagged_acc}
use Rattle.std.proofs.Common.{Ok, Err}
use Rattle.answer.specs.Number.{Answer}
use Rattle.memory.specs.Access.{Loaded}

-- ---- what is known of a listed form's pointers
pub record Pointers (f : Form) : Type 0 where
  pub from_low : 2 ≤ f.from
  pub from_high : f.from < 8
  pub to_low : 2 ≤ f.to
  pub to_high : f.to < 8
  pub differ : f.copies ≡ true → f.to ≢ f.from

pub pointers : (f : Form) → Holds (pointer_range f.copies f.to f.from) → Pointers f
pointers f p = go f.copies refl p
  where
    go : (b : Bool) → f.copies ≡ b → Holds (pointer_range b f.to f.from) → Pointers f
    go true e (inl q) =
        record {
          from_low = omega arith;
          from_high = omega arith;
          to_low = omega arith;
          to_high = omega arith;
          differ = λ c z. omega arith;
        }
    go true e (inr q) =
        record {
          from_low = omega arith;
          from_high = omega arith;
          to_low = omega arith;
          to_high = omega arith;
          differ = λ c z. omega arith;
        }
    go false e q =
        record {
          from_low = q.1.0;
          from_high = q.1.1;
          to_low = omega arith;
          to_high = omega arith;
          differ = λ c z. let k : ◌≡◌ {A = ℕ} 0 1 = cc in omega arith;
        }

-- ---- what a round leaves of the state
pub record Rounded (f : Form) (s t : State) : Type 0 where
  pub sound : Sound t
  pub valid : Valid t
  pub counter : t.counter ≡ s.counter
  pub from : get_register t Long f.from ≡ once f (get_register s Long f.from)
  pub to : f.copies ≡ true → get_register t Long f.to ≡ once f (get_register s Long f.to)
  pub bc : count_in t ≡ less 16 (count_in s) 1
  pub acc : accumulator t f.size ≡ accumulator s f.size

compared_counter : (f : Form) (x : ℕ) (s : State) → (compared f x s).counter ≡ s.counter
unfolding compared flagged with_flags with_both_flags counted moved set_register set_slot with_long
compared_counter f x s = refl

copied_counter : (f : Form) (s : State) → (copied f s).counter ≡ s.counter
unfolding copied flagged with_flags with_both_flags counted moved set_register set_slot with_long
copied_counter f s = refl

module _ (f : Form) (p : Pointers f) (s : State) (ok : Sound s) (v : Valid s) where
  abbrev one : State
  one = moved f f.from s

  one_sound : Sound one
  one_sound = moved_sound f f.from s ok p.from_low p.from_high

  pub compared_rounded : (x : ℕ) → f.copies ≡ false → Rounded f s (compared f x s)
  unfolding compared
  compared_rounded x c =
      record {
        sound = sound_flagged (counted one) _ (omega arith) (counted_sound one one_sound);
        valid = compared_valid f x s v;
        counter = compared_counter f x s;
        from =
            flagged_register (counted one) _ Long f.from
            ∙ counted_long one one_sound f.from p.from_low p.from_high
            ∙ moved_self f f.from s ok p.from_low p.from_high;
        to = λ e. let z : ◌≡◌ {A = ℕ} 0 1 = cc in absurd (omega arith);
        bc =
            flagged_register (counted one) _ Word 1
            ∙ counted_bc one one_sound
            ∙ ap (λ (n : ℕ). less 16 n 1) (moved_bc f f.from s ok p.from_low p.from_high);
        acc =
            flagged_acc (counted one) _ f.size
            ∙ counted_acc one one_sound f.size
            ∙ moved_acc f f.from s ok p.from_low p.from_high f.size;
      }

  abbrev two : State
  two = moved f f.to one

  two_sound : Sound two
  two_sound = moved_sound f f.to one one_sound p.to_low p.to_high

  pub copied_rounded : f.copies ≡ true → Rounded f s (copied f s)
  unfolding copied
  copied_rounded c =
      let apart = p.differ c in
      record {
        sound = sound_flagged (counted two) _ (omega arith) (counted_sound two two_sound);
        valid = copied_valid f s v;
        counter = copied_counter f s;
        from =
            flagged_register (counted two) _ Long f.from
            ∙ counted_long two two_sound f.from p.from_low p.from_high
            ∙ moved_long f f.to one one_sound p.to_low p.to_high f.from p.from_high (λ (e : f.from ≡ f.to). apart (sym e))
            ∙ moved_self f f.from s ok p.from_low p.from_high;
        to = λ e.
            flagged_register (counted two) _ Long f.to
            ∙ counted_long two two_sound f.to p.to_low p.to_high
            ∙ moved_self f f.to one one_sound p.to_low p.to_high
            ∙ ap (once f) (moved_long f f.from s ok p.from_low p.from_high f.to p.to_high apart);
        bc =
            flagged_register (counted two) _ Word 1
            ∙ counted_bc two two_sound
            ∙ ap (λ (n : ℕ). less 16 n 1)
            (moved_bc f f.to one one_sound p.to_low p.to_high ∙ moved_bc f f.from s ok p.from_low p.from_high);
        acc =
            flagged_acc (counted two) _ f.size
            ∙ counted_acc two two_sound f.size
            ∙ moved_acc f f.to one one_sound p.to_low p.to_high f.size
            ∙ moved_acc f f.from s ok p.from_low p.from_high f.size;
      }

-- ---- what a round leaves of RAM
pub data Left (f : Form) (s : State) (ram rom : List ℕ) : List ℕ → Type 0 where
  unchanged : Left f s ram rom ram
  wrote : f.copies ≡ true → (v : ℕ) → Left f s ram rom (ram_after ram rom (pointer_of s f.to) f.size v)

-- a try that was refused is none that was done
pub refused_not : {A : Type 0} {w : Why} {t : State} {m : List ℕ} → no w ≡ did t m → A
refused_not e = let z : ◌≡◌ {A = ℕ} 0 1 = cc in absurd (omega arith)

pub same_did : {s t : State} {l m : List ℕ} → did s l ≡ did t m → (s ≡ t) × (l ≡ m)
same_did e = (cc, cc)

module _ (f : Form) (p : Pointers f) (s : State) (ok : Sound s) (v : Valid s) (ram rom : List ℕ) where
  abbrev element : Loaded
  element = load_of ram rom (pointer_of s f.from) f.size

  Leaves : State → List ℕ → Type 0
  Leaves t m = Rounded f s t × Left f s ram rom m

  stored_leaves :
      (x : ℕ) (t : State) (m : List ℕ) → f.copies ≡ true → storing (copied f s) ram rom (pointer_of s f.to) f.size x ≡ did t m → Leaves t m
  unfolding storing store_of ram_after Leaves
  stored_leaves x t m c e = go (store_of ram rom (pointer_of s f.to) f.size) e
    where
      go : (r : Answer) → stored_by r (copied f s) (ram_after ram rom (pointer_of s f.to) f.size x) ≡ did t m → Leaves t m
      go (Ok _) h =
          let q = same_did h in
          subst (λ (u : State). Rounded f s u × Left f s ram rom m) q.0
          (copied_rounded f p s ok v c, subst (λ (l : List ℕ). Left f s ram rom l) q.1 (wrote c x))
      go (Err w) h = refused_not h

  pub round_leaves : (t : State) (m : List ℕ) → round_of f s ram rom ≡ did t m → Rounded f s t × Left f s ram rom m
  unfolding Leaves
  round_leaves t m e = go element refl f.copies refl
    where
      go : (l : Loaded) → element ≡ l → (b : Bool) → f.copies ≡ b → Leaves t m
      go (Err x) h b c = refused_not (sym (round_missing f s ram rom x h) ∙ e)
      go (Ok x) h true c = stored_leaves x t m c (sym (round_copies f s ram rom x h c) ∙ e)
      go (Ok x) h false c =
          let q = same_did (sym (round_compares f s ram rom x h c) ∙ e) in
          subst (λ (u : State). Rounded f s u × Left f s ram rom m) q.0
          (compared_rounded f p s ok v x c, subst (λ (l : List ℕ). Left f s ram rom l) q.1 unchanged)

-- RAM keeps its length, and holds bytes
pub left_length : {f : Form} {s : State} {ram rom m : List ℕ} → Left f s ram rom m → length m ≡ length ram
left_length unchanged = refl
left_length {f} {s} {ram} {rom} (wrote c v) = after_length ram rom (pointer_of s f.to) f.size v

pub left_bytes : {f : Form} {s : State} {ram rom m : List ℕ} → Bytes ram → Left f s ram rom m → Bytes m
left_bytes h unchanged = h
left_bytes {f} {s} {ram} {rom} h (wrote c v) = bytes_after ram rom (pointer_of s f.to) f.size v h

-- a compare leaves it as it was
pub left_compare : {f : Form} {s : State} {ram rom m : List ℕ} → f.copies ≡ false → Left f s ram rom m → m ≡ ram
left_compare e unchanged = refl
left_compare e (wrote c v) = let z : ◌≡◌ {A = ℕ} 0 1 = cc in absurd (omega arith)

-- ---- a round that finds what it needs is done; one that does not is refused with 5 or 6
module _ (f : Form) (s : State) (ram rom : List ℕ) where
  pub loaded_there : (a : ℕ) (z : Size) → Present (place_of (length ram) (length rom) a (bytes_of z)) → (v : ℕ) × (load_of ram rom a z ≡ Ok v)
  unfolding load_of
  loaded_there a z h = go (operand_at ram rom a z) refl
    where
      go : (q : Place) → operand_at ram rom a z ≡ q → (v : ℕ) × (load_from q ram rom (bytes_of z) ≡ Ok v)
      go (Ram o) e = (_, refl)
      go (Rom o) e = (_, refl)
      go (Missing x) e = absurd (h x e)

  pub missing_load : (a : ℕ) (z : Size) (v x : ℕ) → place_of (length ram) (length rom) a (bytes_of z) ≡ Missing x → load_of ram rom a z ≡ Ok v → ⊥
  unfolding load_of
  missing_load a z v x h e =
      let f : load_from (Missing x) ram rom (bytes_of z) ≡ Ok v = sym (ap (λ (q : Place). load_from q ram rom (bytes_of z)) h) ∙ e in
      cc

  stored_there :
      (t : State) (a : ℕ) (z : Size) (v : ℕ) → a + bytes_of z ≤ length ram → storing t ram rom a z v ≡ did t (ram_after ram rom a z v)
  unfolding storing store_of ram_after
  stored_there t a z v h = rw (place_ram (length ram) (length rom) a (bytes_of z) h) refl

  pub ready_did :
      Present (place_of (length ram) (length rom) (pointer_of s f.from) (bytes_of f.size))
      → (f.copies ≡ true → pointer_of s f.to + bytes_of f.size ≤ length ram)
      → (t : State) × (m : List ℕ) × (round_of f s ram rom ≡ did t m)
  ready_did h k = go (loaded_there (pointer_of s f.from) f.size h) f.copies refl
    where
      go : (v : ℕ) × (load_of ram rom (pointer_of s f.from) f.size ≡ Ok v) → (b : Bool) → f.copies ≡ b
          → (t : State) × (m : List ℕ) × (round_of f s ram rom ≡ did t m)
      go x true c = (
        copied f s,
        ram_after ram rom (pointer_of s f.to) f.size x.0,
        round_copies f s ram rom x.0 x.1 c ∙ stored_there (copied f s) (pointer_of s f.to) f.size x.0 (k c),
      )
      go x false c = (compared f x.0 s, ram, round_compares f s ram rom x.0 x.1 c)

  -- a round whose element is missing, and a copy's whose target is not RAM
  pub round_no_element :
      (x : ℕ) → place_of (length ram) (length rom) (pointer_of s f.from) (bytes_of f.size) ≡ Missing x → round_of f s ram rom ≡ no (why.Missing x)
  unfolding load_of
  round_no_element x h = round_missing f s ram rom (record { 0 = x }) (ap (λ (q : Place). load_from q ram rom (bytes_of f.size)) h)

  stored_no :
      (t : State) (a : ℕ) (z : Size) (v : ℕ) (q : Place) (w : Why) → operand_at ram rom a z ≡ q → store_to q a ≡ Err w →
      storing t ram rom a z v ≡ no w
  unfolding storing store_of ram_after
  stored_no t a z v q w h e =
      ap (λ (p : Place). stored_by (store_to p a) t (ram_after ram rom a z v)) h ∙ ap (λ (r : Answer). stored_by r t (ram_after ram rom a z v)) e

  pub round_no_target :
      (q : Place) (w : Why) → f.copies ≡ true
      → Present (place_of (length ram) (length rom) (pointer_of s f.from) (bytes_of f.size))
      → place_of (length ram) (length rom) (pointer_of s f.to) (bytes_of f.size) ≡ q → store_to q (pointer_of s f.to) ≡ Err w
      → round_of f s ram rom ≡ no w
  round_no_target q w c h k e =
      let x = loaded_there (pointer_of s f.from) f.size h in
      round_copies f s ram rom x.0 x.1 c ∙ stored_no (copied f s) (pointer_of s f.to) f.size x.0 q w k e

-- ---- a compare's round is equal where A or WA equals the element
flags_back : (s : State) (g : Flags) → flags_in (flagged s g) ≡ g
unfolding flagged with_flags with_both_flags
flags_back s g = unpacked g

acc_lt : (s : State) (z : Size) → accumulator s z < 2 ^ bits_of z
acc_lt s Byte = register_lt s Byte 1
acc_lt s Word = register_lt s Word 0
acc_lt s Long = register_lt s Long 0

zero_is : (k a b : ℕ) → a < 2 ^ k → b < 2 ^ k → (difference_of k a b false).flags.z ≡ eqb a b
unfolding operated
zero_is k a b h i = compared_same k a b false ∙ rw (mod-eq_of_lt h, mod-eq_of_lt i) refl

pub compared_equal : (f : Form) (x : ℕ) (s : State) → f.copies ≡ false → x < 2 ^ bits_of f.size → equal_in f (compared f x s) ≡ eqb (accumulator s f.size) x
unfolding compared
compared_equal f x s c h =
    let t = counted (moved f f.from s) in
    let g = compared_of (flags_in s) (difference_of (bits_of f.size) (accumulator s f.size) x false).flags (more_in t) in
    ap (λ (b : Bool). not b && (flags_in (flagged t g)).z) c
    ∙ ap (λ (y : Flags). y.z) (flags_back t g)
    ∙ zero_is (bits_of f.size) (accumulator s f.size) x (acc_lt s f.size) h

pub copy_unequal : (f : Form) (t : State) → f.copies ≡ true → equal_in f t ≡ false
copy_unequal f t c = ap (λ (b : Bool). not b && (flags_in t).z) c
