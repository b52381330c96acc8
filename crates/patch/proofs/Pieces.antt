-- Pieces of code (specs/Piece.antt), proved.
use Prim.Native.Nat.{ℕ, ◌+◌, ◌%◌, ◌^◌, ◌<◌, ◌≤◌}
use mathlib.Core.Path.{◌≡◌, refl, sym, ap, ◌∙◌, subst}
use mathlib.Core.List.{List, [], ◌∷◌, ◌++◌, append-nil, append_assoc}
use mathlib.Core.Bool.{true}
use native.Mathlib.Omega.{arith}
use native.Mathlib.Nat.{mod-lt, mod-mod, mod-add-mod, mod-eq_of_lt, add-zero, zero-add, add_assoc}
use native.Mathlib.Numerals.{add-one}
use lib.ListN.{length, length-append}
use Rattle.memory.specs.Access.{code_at, code_from}
use Rattle.memory.specs.Place.{place_of}
use Rattle.memory.specs.declared.Place.{Place}
use Rattle.memory.proofs.Laws.{place_ram, code_on}
use Rattle.little.specs.declared.Size.{Size}
use Rattle.state.specs.declared.State.{State}
use Rattle.state.specs.State.{lent, valid_of, with_counter}
use Rattle.state.specs.Sound.{Sound}
use Rattle.state.proofs.Valid.{valid_says, valid_from, valid_counter}
use Rattle.code.specs.declared.Op.{Op}
use Rattle.code.specs.declared.Operand.{Operand}
use Rattle.code.specs.declared.Instruction.{Instruction}
use Rattle.code.specs.Range.{InRange}
use Rattle.code.specs.Listed.{decode_of}
use Rattle.code.specs.Written.{code_of}
use Rattle.code.proofs.Exact.{reads_back, range_test}
use Rattle.operand.specs.Try.{Try, did, no, Outcome, after, leaves}
use Rattle.exec.specs.Exec.{past_of, effect_of, executed_of}
use Rattle.turn.specs.Once.{once_of}
use Rattle.turn.specs.Many.{ends}
use Rattle.turn.proofs.ManySteps.{many_none}
use Rattle.step.specs.Step.{try_of, step_of}
use Rattle.facts.specs.Statements.{Within, Passed}
use Rattle.facts.proofs.Kept.{Whole, whole_kept}
use Rattle.facts.proofs.Statements.{not_long, keeps_valid}
use Rattle.run.specs.Run.{most_steps, run_of}
use Rattle.run.specs.Statements.{later}
use Rattle.run.proofs.Laws.{try_once, run_goes, still_passes}
use Rattle.run.proofs.Joins.{run_is_steps}
use Rattle.run.proofs.Steps.{back_at}
use Rattle.patch.specs.Piece.{in_a_row, CodeBegins, CanStand, ButCounter, Makes, PieceMakes, FitsMemory, PieceSettled, PiecesJoin, PatchesTurn, PatchesJoin, PatchesChain, PieceRuns, PatchKeeps}
use Rattle.std.proofs.Common.{Ok}

-- ---- the counter
again : (s : State) (a b : ℕ) → with_counter (with_counter s a) b ≡ with_counter s b
unfolding with_counter
again s a b = refl

same_at : (s t : State) → ButCounter s t → (at : ℕ) → with_counter s at ≡ with_counter t at
same_at s t e at = sym (again s 0 at) ∙ ap (λ (x : State). with_counter x at) e ∙ again t 0 at

pub same_counter : (s : State) (a b : ℕ) → a % 2 ^ 24 ≡ b % 2 ^ 24 → with_counter s a ≡ with_counter s b
unfolding with_counter
same_counter s a b e = ap (λ (c : ℕ). lent s s.registers c s.bank.0 s.flags s.spare) e

counter_is : (s : State) (a : ℕ) → a < 2 ^ 24 → (with_counter s a).counter ≡ a
unfolding with_counter
counter_is s a h = mod-eq_of_lt h

-- ---- a step
-- the instruction that an operation of a size is with its operand
abbrev instruction : Op → Size → Operand → Instruction
instruction op z o = record { op = op; size = z; operand = o; length = length (code_of op z o) }

once_whole : (s : State) (ram rom : List ℕ) (i : Instruction) → decode_of (code_at ram rom s.counter) ≡ Ok i → once_of s ram rom ≡ executed_of i s ram rom
unfolding once_of
once_whole s ram rom i e = rw e refl

pub passes : (s : State) (ram rom : List ℕ) → Within ram rom → valid_of s ≡ true → try_of s ram rom ≡ once_of s ram rom
passes s ram rom w v = try_once s ram rom (not_long (length ram) (length rom) w.0 w.1) v

-- an operation within its range that stands at the counter
pub try_code :
    (op : Op) (z : Size) (o : Operand) (s : State) (ram rom : List ℕ) → InRange op z o → Passed s ram rom → CodeBegins ram rom s.counter (code_of op z o) →
    try_of s ram rom ≡ effect_of op z o s.counter (past_of (length (code_of op z o)) s) ram rom
unfolding executed_of
try_code op z o s ram rom r ok (rest, stands) =
    passes s ram rom ok.0 ok.1
    ∙ once_whole s ram rom (instruction op z o) (ap decode_of stands ∙ reads_back op z o rest ((range_test op z o).1 r))

-- the same wherever the counter is
past_is : (s : State) (at n : ℕ) → past_of n (with_counter s at) ≡ with_counter s ((with_counter s at).counter + n)
unfolding past_of with_counter
past_is s at n = refl

valid_at : (s : State) (at : ℕ) → valid_of s ≡ true → valid_of (with_counter s at) ≡ true
valid_at s at v = valid_from (with_counter s at) (valid_counter s at (valid_says s v))

-- an operation that makes t of s wherever the counter is
pub makes :
    (op : Op) (z : Size) (o : Operand) (s t : State) → InRange op z o → valid_of s ≡ true →
    ((at c : ℕ) (ram rom : List ℕ) → effect_of op z o at (with_counter s c) ram rom ≡ did (with_counter t c) ram) → Makes (code_of op z o) s t
makes op z o s t r v e ram rom at w l (rest, stands) =
    let u = with_counter s at in
    let n = length (code_of op z o) in
    let c = counter_is s at (omega arith) in
    try_code op z o u ram rom r (w, valid_at s at v) (rest, ap (code_at ram rom) c ∙ stands)
    ∙ ap (λ (x : State). effect_of op z o u.counter x ram rom) (past_is s at n)
    ∙ e u.counter (u.counter + n) ram rom
    ∙ ap (λ (x : ℕ). did (with_counter t (x + n)) ram) c

-- ---- small pieces
pub one : (code : List ℕ) (s t : State) → Makes code s t → PieceMakes (code ∷ []) s t
unfolding PieceMakes
one code s t p = (t, p, refl)

pub two : (c d : List ℕ) (s t u : State) → Makes c s t → Makes d t u → PieceMakes (c ∷ d ∷ []) s u
unfolding PieceMakes
two c d s t u p q = (t, p, (u, q, refl))

pub nothing : (s : State) → PieceMakes [] s s
unfolding PieceMakes
nothing s = refl

pub whole : (s : State) → Sound s → valid_of s ≡ true → Whole s
whole s ok v = (valid_says s v, ok)

pub valid_of_lem : (s : State) → Whole s → valid_of s ≡ true
valid_of_lem s w = valid_from s w.0

pub fit_one : (c : List ℕ) → length c ≤ 2 ^ 16 → FitsMemory (c ∷ [])
unfolding FitsMemory
fit_one c h = (h, tt)

pub fit_two : (c d : List ℕ) → length c ≤ 2 ^ 16 → length d ≤ 2 ^ 16 → FitsMemory (c ∷ d ∷ [])
unfolding FitsMemory
fit_two c d h k = (h, (k, tt))

-- ---- the counter makes no difference before a piece, nor after it
moved_start : (piece : List (List ℕ)) (s s' t : State) → ButCounter s s' → PieceMakes piece s' t → PieceMakes piece s t
unfolding PieceMakes
moved_start [] s s' t e p = e ∙ p
moved_start (code ∷ piece) s s' t e (u, p, ps) = (u, λ ram rom at w l b. ap (λ (x : State). try_of x ram rom) (same_at s s' e at) ∙ p ram rom at w l b, ps)

moved_end : (piece : List (List ℕ)) (s t t' : State) → ButCounter t t' → PieceMakes piece s t → PieceMakes piece s t'
unfolding PieceMakes
moved_end [] s t t' e p = p ∙ e
moved_end (code ∷ piece) s t t' e (u, p, ps) = (u, p, moved_end piece u t t' e ps)

-- ---- what a code makes that stands alone
pub can_stand : CanStand
unfolding code_at place_of
can_stand [] = ([], refl)
can_stand (b ∷ code) = ([], ap (λ (p : Place). code_from p (b ∷ code) []) (place_ram (length (b ∷ code)) 0 0 1 (omega arith)) ∙ sym (append-nil (b ∷ code)))

made_alone : (code : List ℕ) (s t : State) → length code ≤ 2 ^ 16 → Makes code s t → try_of (with_counter s 0) code [] ≡ did (with_counter t (length code)) code
made_alone code s t h p = p code [] 0 (h, omega arith) (omega arith) (can_stand code) ∙ ap (λ (n : ℕ). did (with_counter t n) code) (zero-add (length code))

-- ---- one outcome
-- the state that a step that is done leaves
abbrev pub state_in : State → Try → State
state_in s (did t m) = t
state_in s (no w) = s

one_made : (code : List ℕ) (s s' t u : State) → ButCounter s s' → length code ≤ 2 ^ 16 → Makes code s t → Makes code s' u → ButCounter t u
one_made code s s' t u e h p q =
    let n = length code in
    let d = sym (made_alone code s t h p) ∙ (ap (λ (x : State). try_of x code []) e ∙ made_alone code s' u h q) in
    sym (again t n 0) ∙ ap (λ (x : Try). with_counter (state_in s x) 0) d ∙ again u n 0

one_outcome : (piece : List (List ℕ)) (s s' t u : State) → FitsMemory piece → ButCounter s s' → PieceMakes piece s t → PieceMakes piece s' u → ButCounter t u
unfolding PieceMakes FitsMemory
one_outcome [] s s' t u h e p q = sym p ∙ e ∙ q
one_outcome (code ∷ piece) s s' t u h e (v, p, ps) (w, q, qs) = one_outcome piece v w t u h.1 (one_made code s s' v w e h.0 p q) ps qs

pub piece_settled : PieceSettled
piece_settled piece s t u h p q = one_outcome piece s s t u h refl p q

-- ---- one piece after the other, and one patch after the other
pub pieces_join : PiecesJoin
unfolding PieceMakes
pieces_join [] q s t u e w = moved_start q s t u e w
pieces_join (c ∷ p) q s t u (v, m, ms) w = (v, m, pieces_join p q v t u ms w)

-- a step that is done keeps a state whole
kept_whole : (s t : State) (ram rom m : List ℕ) → Whole s → try_of s ram rom ≡ did t m → Whole t
unfolding step_of
kept_whole s t ram rom m w e =
    let d : step_of s ram rom ≡ after (Ok tt) t m = ap (leaves s ram) e in
    let k = keeps_valid s ram rom (ap (λ (o : Outcome). o.answer) d) in
    let same : (step_of s ram rom).state ≡ t = ap (λ (o : Outcome). o.state) d in
    subst Whole same (valid_says _ k.0, k.2 w.1)

made_whole : (piece : List (List ℕ)) (s t : State) → FitsMemory piece → Whole (with_counter s 0) → PieceMakes piece s t → Whole (with_counter t 0)
unfolding PieceMakes FitsMemory
made_whole [] s t h w p = subst Whole p w
made_whole (code ∷ piece) s t h w (u, p, ps) =
    let n = length code in
    let k = kept_whole (with_counter s 0) (with_counter u n) code [] code w (made_alone code s u h.0 p) in
    made_whole piece u t h.1 (subst Whole (again u n 0) (whole_kept.counters (with_counter u n) 0 k)) ps

pub patches_turn : PatchesTurn
patches_turn p q l s ok v = let (t, a, b) = l s ok v in (t, b, a)

pub patches_join : PatchesJoin
patches_join p q p' q' f l l' s ok v =
    let (t, a, b) = l s ok v in
    let w = made_whole p s t f (whole_kept.counters s 0 (whole s ok v)) a in
    let (u, c, d) = l' (with_counter t 0) w.1 (valid_of_lem (with_counter t 0) w) in
    let same : ButCounter t (with_counter t 0) = sym (again t 0 0) in
    (u, pieces_join p p' s t u a (moved_start p' t (with_counter t 0) u same c), pieces_join q q' s t u b (moved_start q' t (with_counter t 0) u same d))

pub patches_chain : PatchesChain
patches_chain p q r f l k s ok v =
    let (t, a, b) = l s ok v in
    let (u, c, d) = k s ok v in
    (u, moved_end p s t u (piece_settled q s t u f b c) a, d)

-- ---- pieces that stand in a memory
-- what stands behind code
behind :
    (ram rom : List ℕ) (at : ℕ) (code more : List ℕ) → length ram ≤ 2 ^ 16 → CodeBegins ram rom at (code ++ more) →
    CodeBegins ram rom ((at + length code) % 2 ^ 24) more
behind ram rom at code [] h (rest, e) = (code_at ram rom ((at + length code) % 2 ^ 24), refl)
behind ram rom at code (x ∷ more) h (rest, e) =
    let o = code_on ram rom at code x (more ++ rest) (omega arith) (e ∙ append_assoc code (x ∷ more) rest) in
    (rest, ap (code_at ram rom) (mod-eq_of_lt o.0) ∙ o.1)

module _ (ram rom : List ℕ) (w : Within ram rom) where
  run_none : (s : State) → valid_of s ≡ true → run_of 0 s ram rom ≡ ends 0 s ram (Ok tt)
  run_none s v = run_goes s ram rom 0 (omega arith) (not_long (length ram) (length rom) w.0 w.1) v ∙ many_none 0 s ram rom

  runs :
      (piece : List (List ℕ)) (s t : State) (at : ℕ) → PieceMakes piece s t → valid_of (with_counter s at) ≡ true → length piece ≤ most_steps → at < 2 ^ 24 →
      CodeBegins ram rom at (in_a_row piece) → run_of (length piece) (with_counter s at) ram rom ≡ ends (length piece) (with_counter t (at + length (in_a_row piece))) ram (Ok tt)
  unfolding PieceMakes in_a_row
  runs [] s t at e v n l stands =
      run_none (with_counter s at) v
      ∙ ap (λ (x : State). ends 0 x ram (Ok tt)) (same_at s t e at)
      ∙ ap (λ (x : ℕ). ends 0 (with_counter t x) ram (Ok tt)) (sym (add-zero at))
  runs (code ∷ piece) s t at (u, p, ps) v n l (rest, e) =
      let c = at + length code in
      let d = c % 2 ^ 24 in
      let first = p ram rom at w l (in_a_row piece ++ rest, e ∙ append_assoc code (in_a_row piece) rest) in
      let once = sym (passes (with_counter s at) ram rom w v) ∙ first in
      let valid = (still_passes (with_counter s at) ram rom (with_counter u c) ram v once).0 in
      let moved : with_counter u c ≡ with_counter u d = same_counter u c d (sym (mod-mod c (2 ^ 24))) in
      let k = length piece in
      let rests = runs piece u t d ps (subst (λ (x : State). valid_of x ≡ true) moved valid) (omega arith) (mod-lt c (omega arith)) (behind ram rom at code (in_a_row piece) w.0 (rest, e)) in
      let far : (d + length (in_a_row piece)) % 2 ^ 24 ≡ (at + length (code ++ in_a_row piece)) % 2 ^ 24 =
      mod-add-mod c (2 ^ 24) (length (in_a_row piece)) ∙ ap (λ (x : ℕ). x % 2 ^ 24) (add_assoc at (length code) (length (in_a_row piece)) ∙ ap (λ (x : ℕ). at + x) (sym (length-append code (in_a_row piece)))) in
      ap (λ (x : ℕ). run_of x (with_counter s at) ram rom) (sym (add-one k))
      ∙ (run_is_steps (with_counter s at) ram rom k (omega arith)).0 (with_counter u c) ram first
      ∙ ap (λ (x : State). later 1 (run_of k x ram rom)) moved
      ∙ ap (later 1) rests
      ∙ ap (λ (x : State). ends (1 + k) x ram (Ok tt)) (same_counter t (d + length (in_a_row piece)) (at + length (code ++ in_a_row piece)) far)
      ∙ ap (λ (x : ℕ). ends x (with_counter t (at + length (code ++ in_a_row piece))) ram (Ok tt)) (omega arith)

pub piece_runs : PieceRuns
piece_runs piece s t ram rom p ok n stands =
    let l = (valid_says s ok.1).counter in
    let e : with_counter s s.counter ≡ s = sym (again s 0 s.counter) ∙ back_at s s.counter 0 refl l in
    ap (λ (x : State). run_of (length piece) x ram rom) (sym e)
    ∙ runs ram rom ok.0 piece s t s.counter p (subst (λ (x : State). valid_of x ≡ true) (sym e) ok.1) n l stands

pub patch_keeps : PatchKeeps
patch_keeps before after s at at' ram rom ram' rom' same ok v p q =
    let m = same s ok v in (
      m.0,
      runs ram rom p.within before s m.0 at m.1 (valid_at s at v) p.steps p.address p.stands,
      runs ram' rom' q.within after s m.0 at' m.2 (valid_at s at' v) q.steps q.address q.stands,
    )
