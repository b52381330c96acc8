-- A step keeps a valid state valid, a sound one sound, and RAM's length.
use Prim.Native.Nat.{ℕ, ◌%◌, ◌^◌, ◌<◌}
use mathlib.Core.Path.{◌≡◌, refl, ap, ◌∙◌, subst}
use mathlib.Core.List.{List}
use mathlib.Core.Bool.{Bool}
use native.Mathlib.Omega.{arith}
use lib.ListN.{length}
use Rattle.little.specs.declared.Size.{Size}
use Rattle.little.specs.Width.{bytes_of}
use Rattle.flags.specs.Flag.{packed_of}
use Rattle.flags.specs.declared.Flags.{Flags}
use Rattle.flags.proofs.Fits.{Fits}
use Rattle.flags.proofs.Packed.{packed_lt}
use Rattle.operand.proofs.Flags.{valid_fits, fits_valid}
use Rattle.memory.specs.Access.{code_at}
use Rattle.state.specs.State.{with_counter, with_bank, with_level, with_nesting, with_flags, with_both_flags}
use Rattle.state.specs.Named.{named, with_held}
use Rattle.state.specs.Sound.{Sound}
use Rattle.state.specs.declared.State.{State}
use Rattle.state.proofs.Sound.{sound_lent, sound_nested}
use Rattle.state.proofs.Naming.{sound_held}
use Rattle.state.proofs.Valid.{Valid, valid_says, valid_from, valid_held, valid_counter, valid_bank, valid_level, valid_nesting, valid_flags, valid_both}
use Rattle.code.specs.declared.Form.{Form}
use Rattle.code.specs.declared.Op.{Op}
use Rattle.code.specs.declared.Op.TheVariants.{Controls, Stacks, Puts, Sets, Blocks, Interrupts}
use Rattle.code.specs.declared.Instruction.{Instruction}
use Rattle.code.specs.Listed.{decode_of}
use Rattle.operand.specs.Try.{Try, did, no}
use Rattle.operand.specs.Flag.{flagged, exchanged}
use Rattle.block.specs.Block.{copied, compared, round_of}
use Rattle.exec.specs.Exec.{past_of, executed_of, done}
use Rattle.turn.specs.Once.{once_of}
use Rattle.facts.specs.Touched.{Span, none, bytes, uses_marked, read_of, stored_of, KeepsRest}
use Rattle.facts.proofs.Touched.{Kept, Recounted, past_kept, copied_kept, compared_kept, Gives, GivesBy, fair_round, fair_effect}
use Rattle.answer.specs.Number.{Answer}
use Rattle.std.proofs.Common.{Ok, Err}
use Rattle.code.specs.Unread.{Decoded}
use Rattle.code.specs.declared.Unread.TheVariants.{Short, Unlisted}

-- ---- validity
valid_part : (s : State) (z : Size) (c v : ℕ) → Valid s → Valid (with_held s (named (s.bank.0 % 4) (bytes_of z) c) v)
valid_part s z c v ok = valid_says _ (valid_held s _ v ∙ valid_from s ok)

valid_flagged : (s : State) (f : Flags) → Fits f → Valid s → Valid (flagged s f)
unfolding flagged
valid_flagged s f x ok = valid_flags s (packed_of f) (fits_valid f x) ok

pub valid_kept : Kept Valid
valid_kept =
    record {
      parts = valid_part;
      counters = valid_counter;
      banks = valid_bank;
      levels = valid_level;
      fitting = λ s ok. valid_fits s.flags ok.flags;
      flags = valid_flagged;
      exchanges = λ s ok. valid_both s _ _ ok.spare ok.flags ok;
    }

pub valid_recounted : (op : Op) → Recounted Valid op
valid_recounted op e = valid_nesting

pub copied_valid : (f : Form) (s : State) → Valid s → Valid (copied f s)
copied_valid f s ok = copied_kept Valid valid_kept f s ok

pub compared_valid : (f : Form) (v : ℕ) (s : State) → Valid s → Valid (compared f v s)
compared_valid f v s ok = compared_kept Valid valid_kept f v s ok

-- ---- soundness
sound_counter : (s : State) (c : ℕ) → Sound s → Sound (with_counter s c)
unfolding with_counter
sound_counter s c ok =
    sound_lent s s.registers (c % 2 ^ 24) s.bank.0 s.flags s.spare ok ok.twenty ok.fit (omega arith) ok.bank_fit ok.flags_fit ok.spare_fit

sound_bank : (s : State) (b : ℕ) → Sound s → Sound (with_bank s b)
unfolding with_bank
sound_bank s b ok =
    sound_lent s s.registers s.counter (b % 4) s.flags s.spare ok ok.twenty ok.fit ok.counter_fit (omega arith) ok.flags_fit ok.spare_fit

sound_level : (s : State) (l : ℕ) → Sound s → Sound (with_level s l)
unfolding with_level
sound_level s l ok = sound_nested s (l % 8) s.nesting ok (omega arith) ok.nesting_fit

sound_nesting : (s : State) (n : ℕ) → Sound s → Sound (with_nesting s n)
unfolding with_nesting
sound_nesting s n ok = sound_nested s s.level.0 (n % 2 ^ 16) ok ok.level_fit (omega arith)

packed_fits : (f : Flags) → f.marks < 2 ^ 8 → packed_of f < 2 ^ 16
unfolding packed_of
packed_fits f h = omega (arith, packed_lt f)

pub sound_flagged : (s : State) (f : Flags) → f.marks < 2 ^ 8 → Sound s → Sound (flagged s f)
unfolding flagged with_flags with_both_flags
sound_flagged s f h ok =
    sound_lent s s.registers s.counter s.bank.0 (packed_of f) s.spare ok ok.twenty ok.fit ok.counter_fit ok.bank_fit (packed_fits f h) ok.spare_fit

sound_exchanged : (s : State) → Sound s → Sound (exchanged s)
unfolding with_both_flags
sound_exchanged s ok =
    sound_lent s s.registers s.counter s.bank.0 s.spare s.flags ok ok.twenty ok.fit ok.counter_fit ok.bank_fit ok.spare_fit ok.flags_fit

-- a valid state that is sound
abbrev pub Whole : State → Type 0
Whole s = Valid s × Sound s

pub whole_kept : Kept Whole
whole_kept =
    record {
      parts = λ s z c v ok. (valid_kept.parts s z c v ok.0, sound_held s (s.bank.0 % 4) z c v ok.1);
      counters = λ s c ok. (valid_kept.counters s c ok.0, sound_counter s c ok.1);
      banks = λ s b ok. (valid_kept.banks s b ok.0, sound_bank s b ok.1);
      levels = λ s l ok. (valid_kept.levels s l ok.0, sound_level s l ok.1);
      fitting = λ s ok. valid_kept.fitting s ok.0;
      flags = λ s f x ok. (valid_kept.flags s f x ok.0, sound_flagged s f (omega (arith, x.few)) ok.1);
      exchanges = λ s ok. (valid_kept.exchanges s ok.0, sound_exchanged s ok.1);
    }

pub whole_recounted : (op : Op) → Recounted Whole op
whole_recounted op e s n ok = (valid_nesting s n ok.0, sound_nesting s n ok.1)

-- ---- what a step leaves
pub spares_length : (g : Span) (ram m : List ℕ) → KeepsRest g ram m → length m ≡ length ram
spares_length none ram m e = ap length e
spares_length (bytes a n) ram m h = h.0

-- the counter is no flag
past_uses : (op : Op) (n : ℕ) (s : State) → uses_marked op (past_of n s) ≡ uses_marked op s
unfolding uses_marked past_of with_counter
past_uses (Controls what) n s = refl
past_uses (Stacks what) n s = refl
past_uses (Puts how) n s = refl
past_uses (Sets r) n s = refl
past_uses (Blocks f) n s = refl
past_uses (Interrupts what) n s = refl

pub executed_fair :
    (P : State → Type 0) (i : Instruction) (s : State) (ram rom : List ℕ) → Kept P → Recounted P i.op → P s
    → GivesBy P ram rom (uses_marked i.op s) (read_of i.op i.size i.operand (past_of i.length s)) (stored_of i.op i.size i.operand (past_of i.length s)) (executed_of i s ram rom)
unfolding executed_of
executed_fair P i s ram rom k c ok =
    let t = past_of i.length s in
    subst (λ (b : Bool). GivesBy P ram rom b (read_of i.op i.size i.operand t) (stored_of i.op i.size i.operand t) (executed_of i s ram rom))
    (past_uses i.op i.length s)
    (fair_effect P ram rom i.op i.size i.operand s.counter t k c (past_kept P k i.length s ok))

unfoldable pub Keeps : List ℕ → Try → Type 0
Keeps ram (did t m) = Valid t × (length m ≡ length ram)
Keeps ram (no w) = Unit {0}

keeps_fair : (ram rom : List ℕ) (a : Answer) (g : Span) (t : Try) → Gives Valid ram rom a g t → Keeps ram t
unfolding Keeps Gives
keeps_fair ram rom a g (did t m) h = (h.0, spares_length g ram m h.1.0)
keeps_fair ram rom a g (no w) h = tt

pub keeps_round : (ram rom : List ℕ) (f : Form) (s : State) → Valid s → Keeps ram (round_of f s ram rom)
keeps_round ram rom f s ok = keeps_fair ram rom _ _ (round_of f s ram rom) (fair_round Valid ram rom f s valid_kept ok)

pub keeps_once : (ram rom : List ℕ) (s : State) → Valid s → Keeps ram (once_of s ram rom)
unfolding once_of Keeps
keeps_once ram rom s ok = go (decode_of (code_at ram rom s.counter))
  where
    go : (d : Decoded) → Keeps ram (done d s ram rom)
    go (Err Short) = tt
    go (Err Unlisted) = tt
    go (Ok i) = keeps_fair ram rom _ _ (executed_of i s ram rom) (executed_fair Valid i s ram rom valid_kept (valid_recounted i.op) ok)
