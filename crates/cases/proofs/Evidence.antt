-- The starts of specs/Evidence.antt meet what demand 3 supposes, and so come to what they tell.
use Prim.Native.Nat.{ℕ}
use mathlib.Core.Path.{◌≡◌, refl, sym, subst}
use mathlib.Core.List.{List, [], ◌∷◌}
use mathlib.Core.Bool.{true, false}
use native.Mathlib.Omega.{arith}
use Rattle.little.specs.declared.Size.TheVariants.{Byte}
use Rattle.state.proofs.Sound.{fits}
use Rattle.run.specs.Demand.{Spares, no_element, no_target, rom_target, count_of, passed, rounds_of}
use Rattle.cases.specs.Table.{OfEach, begin, ◌▹◌, ◌&◌, A, WA, BC, XDE, XHL, XIX, Bank}
use Rattle.cases.specs.Runs.{ldir_start, lddr_start, cpir_start, cpdr_start, to_rom_start, to_rom_rom}
use Rattle.cases.specs.Evidence.{Start, StartMet, StartSays, ldir, lddr, cpir, cpdr, copying, comparing, evidence, EvidenceMet, EvidenceSays}
use Rattle.run.proofs.Endings.{ends_as_told}
use Rattle.cases.proofs.Computed.{left}
use Rattle.cases.proofs.Tests.{below, only, present, differs, count_met, equal_met, refusal_met}
use Rattle.cases.proofs.Full as full

-- row and row, and none more
infixr 20 ◌and◌
abbrev ◌and◌ : {A B : Type 0} → A → B → A × B
a and b = (a, b)

pub evidence_met : EvidenceMet
unfolding evidence only below fits present differs count_of passed rounds_of left
evidence_met =
    count_met ldir ldir_start [] tt refl refl refl 3 refl tt tt
    and count_met lddr lddr_start [] tt refl refl refl 2 refl tt tt
    and count_met ldir (ldir_start ▹ XDE 5) [] tt refl refl refl 3 refl tt tt
    and equal_met cpir (cpir_start ▹ A 0x11) [] tt refl refl refl 0 tt tt (refl, refl)
    and equal_met cpir (cpir_start ▹ A 0x33) [] tt refl refl refl 2 tt tt (refl, refl)
    and count_met cpir (cpir_start ▹ A 0x44) [] tt refl refl refl 3 refl tt tt
    and equal_met cpdr (cpdr_start ▹ WA 0x5678) [] tt refl refl refl 0 tt tt (refl, refl)
    and equal_met cpdr (cpdr_start ▹ WA 0x1234) [] tt refl refl refl 1 tt tt (refl, refl)
    and count_met cpdr (cpdr_start ▹ WA 0xFFFF) [] tt refl refl refl 2 refl tt tt
    and refusal_met cpir (cpir_start ▹ A 0x44 & XIX 5 & BC 9) [] tt refl refl refl 2 tt tt (no_element _ refl) tt
    and refusal_met ldir (ldir_start ▹ XHL 8 & XDE 2 & BC 5) [] tt refl refl refl 2 tt tt (no_element _ refl) tt
    and refusal_met ldir (ldir_start ▹ XDE 9) [] tt refl refl refl 1 tt tt (no_target refl (λ x h. let z : ◌≡◌ {A = ℕ} 0 1 = cc in omega arith) _ refl) tt
    and refusal_met (copying Byte false 2 3) to_rom_start to_rom_rom tt refl refl refl 2 tt tt (rom_target refl (λ x h. let z : ◌≡◌ {A = ℕ} 0 1 = cc in omega arith) _ refl) tt
    and count_met ldir (begin 0x00 ldir_start.ram ▹ Bank 2 & XHL 4 & XDE 7 & BC 3) [] tt refl refl refl 3 refl tt tt
    and equal_met (comparing Byte true 3) (begin 0x00 (0x83 ∷ 0x15 ∷ 0x00 ∷ 0x00 ∷ 0x11 ∷ 0x22 ∷ 0x33 ∷ []) ▹ Bank 3 & A 0x33 & XHL 4 & BC 3) [] tt refl refl refl 2 tt tt (refl, refl)
    and refusal_met ldir (begin 0x00 ldir_start.ram ▹ Bank 1 & XHL 8 & XDE 2 & BC 5) [] tt refl refl refl 2 tt tt (no_element _ refl) tt
    and full.copy_met
    and full.seek_met
    and tt

start_says : (b : Start) → StartMet b → StartSays b
start_says b m =
    ends_as_told b.form b.state b.ram b.rom m.0 b.ending m.1
    (subst (λ (n : ℕ). Spares b.form b.state n) (sym m.2) m.3)

each_says : (l : List Start) → OfEach StartMet l → OfEach StartSays l
each_says [] t = t
each_says (b ∷ bs) t = (start_says b t.0, each_says bs t.1)

pub evidence_says : EvidenceSays
evidence_says = each_says evidence evidence_met
