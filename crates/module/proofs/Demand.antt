-- Demand 3 over records, from that over states; and a record that meets what it supposes.
use Prim.Native.Nat.{ℕ, ◌^◌}
use mathlib.Core.Path.{◌≡◌, refl, sym, subst}
use mathlib.Core.List.{List, []}
use mathlib.Core.Bool.{true}
use native.Mathlib.Omega.{arith}
use lib.Dec.{T}
use Rattle.answer.specs.declared.Why.TheVariants.{Missing}
use Rattle.answer.specs.Number.{number_of, at_of}
use Rattle.little.specs.Bytes.{bytes_from}
use Rattle.state.specs.State.{reset_state, valid_of, long_of, with_long, with_counter, with_both_flags, with_flags}
use Rattle.state.specs.Register.{get_bits, set_bits, slot_in, set_slot, slot_of, register_at, set_register}
use Rattle.state.specs.Sound.{Sound}
use Rattle.state.specs.declared.State.{State}
use Rattle.state.proofs.Sound.{fits, fits_says}
use Rattle.saved.specs.Record.{longs_bytes, old_record_of, record_of, restored_of}
use Rattle.saved.proofs.RoundTrip.{saved_reads_back}
use Rattle.code.specs.declared.Form.{Form}
use Rattle.turn.specs.Many.{Result, ends}
use Rattle.run.specs.Run.{run_of, RunLeaves}
use Rattle.run.specs.Demand.{Spares, EndsAfter, GoesOnAfter, Ending, at_count, at_equal, at_refusal, ComesTo}
use Rattle.cases.specs.Table.{machine, begin, ◌▹◌, ◌&◌, A, BC, XIX}
use Rattle.cases.specs.Runs.{compare_runs, refused, cpir_start}
use Rattle.cases.specs.Evidence.{Start, StartMet, tells, ldir, cpir, full_ram, full_rom, full_copy, evidence}
use Rattle.run.proofs.Endings.{ends_as_told}
use Rattle.cases.proofs.Evidence.{evidence_met}
use Rattle.cases.proofs.Full.{copy_met}
use Rattle.cases.proofs.Runs.{runs_hold}
use Rattle.module.specs.Calls.{CRunMeets}
use Rattle.module.specs.Statements.{HasState}
use Rattle.module.specs.Demand.{CallLeaves, CallMet, CallEndsAsTold, seek_record, SeekCalled, FullCalled}
use Rattle.module.proofs.Records.{Opens, held, meets}
use Rattle.std.proofs.Common.{Ok, Err}
use Rattle.answer.specs.Number.{Answer}

-- ---- each outcome of a run from the state, over the record that holds it
module _ (f : Form) (b : List ℕ) (s : State) (ram rom : List ℕ) (o : Opens b s) where
  called : (steps : ℕ) {r : Result} → run_of steps s ram rom ≡ r → CallLeaves b ram rom steps r
  called steps e = subst (CallLeaves b ram rom steps) e (meets steps b ram rom s o)

  call_ends : (n : ℕ) → EndsAfter f s ram rom (RunLeaves s ram rom) n → EndsAfter f s ram rom (CallLeaves b ram rom) n
  call_ends n (t, m, rounds, e, k) = (t, m, rounds, called n e, k)

  call_goes_on : (n : ℕ) → GoesOnAfter f s ram rom (RunLeaves s ram rom) n → GoesOnAfter f s ram rom (CallLeaves b ram rom) n
  call_goes_on n (t, m, rounds, e, c) = (t, m, rounds, called n e, c)

  call_comes_to : (e : Ending) → ComesTo f s ram rom (RunLeaves s ram rom) e → ComesTo f s ram rom (CallLeaves b ram rom) e
  call_comes_to at_count h = call_ends _ h
  call_comes_to (at_equal i) h = call_ends _ h
  call_comes_to (at_refusal n w) h = (
    call_goes_on n h.0,
    λ steps l k. let x = h.1 steps l k in (x.0, x.1, x.2, called steps x.3),
  )

pub call_ends_as_told : (f : Form) (b : List ℕ) (s : State) (ram rom : List ℕ) → CallEndsAsTold f b s ram rom
call_ends_as_told f b s ram rom e h =
    let o = held b s h.0 in
    let x = ends_as_told f s ram rom h.1 e h.2 h.3 in
    (call_comes_to f b s ram rom o e x.0, λ k l. call_goes_on f b s ram rom o k (x.1 k l))

-- ---- records that meet it
holds : (s : State) (b : List ℕ) → record_of s ≡ b → T (fits (2 ^ 8) b) → Sound s → valid_of s ≡ true → HasState b s
holds s b e t ok v =
    (fits_says (2 ^ 8) (omega arith) b t, subst (λ (l : List ℕ). restored_of l ≡ record { answer = Ok tt; state = s }) e (saved_reads_back s ok v).0)

-- a start of run/Evidence, on the record of its state
met_called : (x : Start) (b : List ℕ) → record_of x.state ≡ b → T (fits (2 ^ 8) b) → StartMet x →
    CallMet x.form b x.state x.ram x.rom x.ending
met_called x b is t m = (
  holds x.state b is t m.0.sound m.0.valid,
  m.0,
  m.1,
  subst (λ (n : ℕ). Spares x.form x.state n) (sym m.2) m.3,
)

-- and what a run of so many steps leaves of the record
met_left :
    (x : Start) (b : List ℕ) → record_of x.state ≡ b → T (fits (2 ^ 8) b) → StartMet x →
    (steps d : ℕ) (u : State) (l b' : List ℕ) (a : Answer) → run_of steps x.state x.ram x.rom ≡ ends d u l a → record_of u ≡ b' →
    CRunMeets steps b x.ram x.rom (number_of a) (at_of a) b' l d
met_left x b is t m steps d u l b' a e f =
    subst (λ (r : List ℕ). CRunMeets steps b x.ram x.rom (number_of a) (at_of a) r l d) f
    (called x.form b x.state x.ram x.rom (held b x.state (holds x.state b is t m.0.sound m.0.valid)) steps e)

-- the searches for 33 and for 44, and the one that is refused
abbrev found : Start
found = tells cpir (cpir_start ▹ A 0x33) [] (at_equal 2) 3

abbrev none_found : Start
none_found = tells cpir (cpir_start ▹ A 0x44) [] at_count 3

abbrev refused_one : Start
refused_one = tells cpir (cpir_start ▹ A 0x44 & XIX 5 & BC 9) [] (at_refusal 2 (Missing 7)) 2

searches : StartMet found × StartMet none_found × StartMet refused_one
unfolding evidence
searches =
    let l = evidence_met.1.1.1.1 in
    (l.0, l.1.0, l.1.1.1.1.1.0)

pub seek_called : SeekCalled
unfolding compare_runs refused fits begin bytes_from longs_bytes record_of old_record_of reset_state long_of with_long with_counter with_both_flags with_flags get_bits set_bits slot_in set_slot slot_of register_at set_register
seek_called = (
  met_called found (seek_record 0x33 3 4 0 0x00) refl tt searches.0,
  met_left found (seek_record 0x33 3 4 0 0x00) refl tt searches.0 3 3 _ _ _ (Ok tt) runs_hold.1.1.0 refl,
  met_called none_found (seek_record 0x44 3 4 0 0x00) refl tt searches.1,
  met_left none_found (seek_record 0x44 3 4 0 0x00) refl tt searches.1 3 3 _ _ _ (Ok tt) runs_hold.1.1.1.1.0 refl,
  met_called refused_one (seek_record 0x44 9 5 0 0x00) refl tt searches.2,
  met_left refused_one (seek_record 0x44 9 5 0 0x00) refl tt searches.2 9 2 _ _ _ (Err (Missing 7)) runs_hold.2.1.0 refl,
)

full_bytes : T (fits (2 ^ 8) (record_of full_copy))
unfolding full_copy fits begin bytes_from longs_bytes record_of old_record_of reset_state long_of with_long with_counter with_both_flags with_flags get_bits set_bits slot_in set_slot slot_of register_at set_register
full_bytes = tt

pub full_called : FullCalled
full_called =
    let b = record_of full_copy in
    let met = met_called (tells ldir (machine full_copy full_ram) full_rom at_count 65536) b refl full_bytes copy_met in
    (met, subst (EndsAfter ldir full_copy full_ram full_rom (CallLeaves b full_ram full_rom)) copy_met.2 (call_ends_as_told ldir b full_copy full_ram full_rom at_count met).0)
