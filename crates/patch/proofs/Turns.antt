-- Banks, EX F,F' and NOP (specs/Patches.antt), proved.
use Prim.Native.Nat.{ℕ, zero, suc, ◌+◌, ◌<◌}
use mathlib.Core.Path.{◌≡◌, refl, sym, ap, ◌∙◌, subst}
use mathlib.Core.List.{List, [], ◌∷◌, ◌++◌, append_assoc}
use native.Mathlib.Omega.{arith}
use native.Mathlib.Numerals.{add-one}
use lib.ListN.{replicate, replicate-append-replicate}
use Rattle.little.specs.declared.Size.TheVariants.{Byte}
use Rattle.state.specs.declared.State.{State}
use Rattle.state.specs.State.{with_counter, with_bank, with_both_flags}
use Rattle.code.specs.declared.Operand.TheVariants.{Constant}
use Rattle.code.specs.declared.Op.TheVariants.{Controls}
use Rattle.code.specs.declared.Control.{Control}
use Rattle.code.specs.declared.Control.TheVariants.{Nop, Incf, Decf, Exf}
use Rattle.code.specs.Range.{InRange}
use Rattle.code.specs.Written.{code_of}
use Rattle.operand.specs.Try.{Try, did}
use Rattle.control.specs.Control.{control_of}
use Rattle.control.specs.Undone.{Undoes}
use Rattle.control.proofs.Undone.{banks_undone, exchange_undone}
use Rattle.exec.specs.Exec.{effect_of}
use Rattle.facts.proofs.Kept.{Whole, whole_kept}
use Rattle.patch.specs.Piece.{Makes, PieceMakes, LeaveSame}
use Rattle.patch.specs.Patches.{nop, incf, decf, exf, BanksReturn, ExchangesReturn, NopsAreNothing}
use Rattle.patch.proofs.Pieces.{state_in, makes, one, pieces_join, nothing, whole, valid_of_lem}

-- the state that one of these leaves, by the state alone
abbrev pub turned : Control → State → State
turned what s = state_in s (control_of what 0 s [])

-- what is of one byte and has no number
abbrev pub plain_code : Control → List ℕ
plain_code what = code_of (Controls what) Byte (Constant 0)

-- it does the same whatever the counter and RAM are
abbrev pub Plain : Control → Type 0
Plain what =
    InRange (Controls what) Byte (Constant 0)
    × ((s : State) (at c : ℕ) (ram rom : List ℕ) → effect_of (Controls what) Byte (Constant 0) at (with_counter s c) ram rom ≡ did (with_counter (turned what s) c) ram)

plains : Plain Incf × Plain Decf × Plain Exf × Plain Nop
unfolding effect_of control_of with_bank with_both_flags with_counter
plains = (
  ((tt, omega arith), λ s at c ram rom. refl),
  ((tt, omega arith), λ s at c ram rom. refl),
  ((tt, omega arith), λ s at c ram rom. refl),
  ((tt, omega arith), λ s at c ram rom. refl),
)

pub plain_makes : (what : Control) (s : State) → Plain what → Whole s → Makes (plain_code what) s (turned what s)
plain_makes what s p w = makes (Controls what) Byte (Constant 0) s (turned what s) p.0 (valid_of_lem s w) (p.1 s)

-- the second undoes the first
undone : (first second : Control) (s : State) → Undoes second first s → turned second (turned first s) ≡ s
undone first second s u = go (u 0 0 [])
  where
    go : (t : State) × (control_of first 0 s [] ≡ did t []) × (control_of second 0 t [] ≡ did s []) → turned second (turned first s) ≡ s
    go (t, e, f) = ap (λ (x : Try). turned second (state_in s x)) e ∙ ap (state_in t) f

turned_whole : (s : State) → Whole s → Whole (turned Incf s) × Whole (turned Decf s) × Whole (turned Exf s)
unfolding control_of
turned_whole s w = (whole_kept.banks s (s.bank.0 + 1) w, whole_kept.banks s (s.bank.0 + 3) w, whole_kept.exchanges s w)

-- a step that another one undoes
abbrev StepBack : List ℕ → List ℕ → Type 0
StepBack f g = (s : State) → Whole s → (u : State) × Whole u × Makes f s u × Makes g u s

step_back :
    (first second : Control) → Plain first → Plain second → ((s : State) → Whole s → Whole (turned first s)) →
    ((s : State) → Whole s → Undoes second first s) → StepBack (plain_code first) (plain_code second)
step_back first second p q k u s w =
    let t = turned first s in
    (t, k s w, plain_makes first s p w, subst (Makes (plain_code second) t) (undone first second s (u s w)) (plain_makes second t q (k s w)))

-- n times the one and then n times the other
last : (g : List ℕ) (n : ℕ) → g ∷ replicate n g ≡ replicate n g ++ (g ∷ [])
last g n = ap (λ (k : ℕ). replicate k g) (sym (add-one n)) ∙ sym (replicate-append-replicate n 1 g)

there_and_back : (f g : List ℕ) → StepBack f g → (n : ℕ) (s : State) → Whole s → PieceMakes (replicate n f ++ replicate n g) s s
unfolding PieceMakes
there_and_back f g b zero s w = refl
there_and_back f g b (suc n) s w =
    let (u, k, p, q) = b s w in
    let e : (replicate n f ++ replicate n g) ++ (g ∷ []) ≡ replicate n f ++ (g ∷ replicate n g) =
    append_assoc (replicate n f) (replicate n g) (g ∷ []) ∙ ap (λ (l : List (List ℕ)). replicate n f ++ l) (sym (last g n)) in
    (u, p, subst (λ (l : List (List ℕ)). PieceMakes l u s) e (pieces_join (replicate n f ++ replicate n g) (g ∷ []) u u s (there_and_back f g b n u k) (one g u s q)))

back_same : (f g : List ℕ) → StepBack f g → (n : ℕ) → LeaveSame (replicate n f ++ replicate n g) []
back_same f g b n s ok v = (s, there_and_back f g b n s (whole s ok v), nothing s)

bank_lt : (s : State) → Whole s → s.bank.0 < 4
bank_lt s w = w.0.bank

pub banks_return : BanksReturn
unfolding code_of
banks_return n = (
  back_same incf decf (step_back Incf Decf plains.0 plains.1 (λ s w. (turned_whole s w).0) (λ s w. (banks_undone s (bank_lt s w)).0)) n,
  back_same decf incf (step_back Decf Incf plains.1 plains.0 (λ s w. (turned_whole s w).1) (λ s w. (banks_undone s (bank_lt s w)).1)) n,
)

pub exchanges_return : ExchangesReturn
unfolding code_of
exchanges_return = back_same exf exf (step_back Exf Exf plains.2 plains.2 (λ s w. (turned_whole s w).2) (λ s w. exchange_undone s)) 1

nop_makes : (s : State) → Whole s → Makes nop s s
unfolding code_of control_of
nop_makes s w = plain_makes Nop s plains.3 w

nops : (n : ℕ) (s : State) → Whole s → PieceMakes (replicate n nop) s s
unfolding PieceMakes
nops zero s w = refl
nops (suc n) s w = (s, nop_makes s w, nops n s w)

pub nops_are_nothing : NopsAreNothing
nops_are_nothing n s ok v = (s, nops n s (whole s ok v), nothing s)
