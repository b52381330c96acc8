-- A load and the load back (specs/Patches.antt), proved.
use Prim.Native.Nat.{ℕ, ◌%◌, ◌<◌}
use mathlib.Core.Path.{◌≡◌, refl, sym, ap, ◌∙◌, subst}
use mathlib.Core.List.{List, [], ◌∷◌}
use Rattle.little.specs.declared.Size.{Size}
use Rattle.state.specs.declared.State.{State}
use Rattle.state.specs.State.{with_counter}
use Rattle.state.specs.Named.{held_in, with_held}
use Rattle.state.specs.Register.{get_register}
use Rattle.state.specs.Sound.{Sound}
use Rattle.state.proofs.Naming.{plain_names, sound_held}
use Rattle.code.specs.declared.Operand.{Operand}
use Rattle.code.specs.declared.Operand.TheVariants.{Register, Named, Constant, Memory}
use Rattle.code.specs.declared.Op.TheVariants.{Puts}
use Rattle.code.specs.declared.Use.TheVariants.{Load, From}
use Rattle.code.specs.Range.{Holds, place_range, InRegisters}
use Rattle.operand.specs.Try.{did}
use Rattle.compute.specs.Compute.{puts_of}
use Rattle.exec.specs.Exec.{effect_of}
use Rattle.facts.proofs.Kept.{Whole, whole_kept}
use Rattle.patch.specs.Piece.{Makes, LeaveSame}
use Rattle.patch.specs.Patches.{into_code, out_of_code, LoadBackIsNothing}
use Rattle.patch.proofs.Pieces.{makes, one, two, whole, valid_of_lem}
use Rattle.patch.proofs.Parts.{code_in, part, value_is, put_is, part_stays, held_counter, held_lt, held_back, held_same, copied_held}

-- what one register holds, put into another
abbrev copied : Size → Operand → Operand → State → State
copied z to from s = with_held s (part s z to) (held_in s.registers (part s z from))

-- a register is one of the places that a load can name
in_place : (z : Size) (o : Operand) → InRegisters z o → Holds (place_range z o)
in_place z (Register r) h = h
in_place z (Named c) h = h
in_place z (Constant n) h = absurd h
in_place z (Memory m) h = absurd h

module _ (z : Size) (o : Operand) (r : ℕ) (h : InRegisters z o) (k : r < 8) where
  into_effect : (s : State) (at c : ℕ) (ram rom : List ℕ) → effect_of (Puts (From r)) z o at (with_counter s c) ram rom ≡ did (with_counter (copied z o (Register r) s) c) ram
  unfolding effect_of puts_of with_counter
  into_effect s at c ram rom =
      put_is (with_counter s c) ram rom z o (get_register s z r) h
      ∙ ap (λ (v : ℕ). did (with_held (with_counter s c) (part s z o) v) ram) ((plain_names s.bank z r).0 s.registers)
      ∙ ap (λ (x : State). did x ram) (held_counter s c (part s z o) (held_in s.registers (part s z (Register r))))

  out_effect : (s : State) (at c : ℕ) (ram rom : List ℕ) → effect_of (Puts (Load r)) z o at (with_counter s c) ram rom ≡ did (with_counter (copied z (Register r) o s) c) ram
  unfolding effect_of puts_of with_counter
  out_effect s at c ram rom =
      let v = held_in s.registers (part s z o) in
      rw (value_is (with_counter s c) ram rom z o h)
      (ap (λ (x : State). did x ram) ((plain_names s.bank z r).1 (with_counter s c) v refl ∙ held_counter s c (part s z (Register r)) v))

  into_makes : (s : State) → Whole s → Makes (into_code z o r) s (copied z o (Register r) s)
  into_makes s w = makes (Puts (From r)) z o s (copied z o (Register r) s) (k, in_place z o h) (valid_of_lem s w) (into_effect s)

  out_makes : (s : State) → Whole s → Makes (out_of_code z o r) s (copied z (Register r) o s)
  out_makes s w = makes (Puts (Load r)) z o s (copied z (Register r) o s) (k, in_place z o h) (valid_of_lem s w) (out_effect s)

-- what is copied back is there already
module _ (z : Size) (to from : Operand) (a : InRegisters z to) (b : InRegisters z from) where
  copied_whole : (s : State) → Whole s → Whole (copied z to from s)
  copied_whole s w = whole_kept.parts s z (code_in z to) (held_in s.registers (part s z from)) w

  copied_back : (s : State) → Sound s → copied z from to (copied z to from s) ≡ copied z to from s
  copied_back s ok =
      let v = held_in s.registers (part s z from) in
      let t = copied z to from s in
      let same : (o : Operand) → part t z o ≡ part s z o = part_stays s (part s z to) v z in
      let here : held_in t.registers (part t z to) ≡ v = ap (held_in t.registers) (same to) ∙ held_back s z to a ok v (held_lt s z from b) in
      let there : held_in t.registers (part t z from) ≡ v = ap (held_in t.registers) (same from) ∙ copied_held s z to from a b ok in
      ap (with_held t (part t z from)) (here ∙ sym there) ∙ held_same t z from b (sound_held s (s.bank.0 % 4) z (code_in z to) v ok)

  -- two loads, each by its code
  loaded_back :
      (there back : List ℕ) → ((s : State) → Whole s → Makes there s (copied z to from s)) → ((s : State) → Whole s → Makes back s (copied z from to s)) →
      LeaveSame (there ∷ back ∷ []) (there ∷ [])
  loaded_back there back p q s ok v =
      let w = whole s ok v in
      let t = copied z to from s in
      (t, two there back s t t (p s w) (subst (Makes back t) (copied_back s ok) (q t (copied_whole s w))), one there s t (p s w))

pub load_back_is_nothing : LoadBackIsNothing
load_back_is_nothing z o r h k = (
  loaded_back z o (Register r) h k (into_code z o r) (out_of_code z o r) (into_makes z o r h k) (out_makes z o r h k),
  loaded_back z (Register r) o k h (out_of_code z o r) (into_code z o r) (out_makes z o r h k) (into_makes z o r h k),
)
