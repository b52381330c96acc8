-- Steps with offers of requests between them, proved.
use Prim.Native.Nat.{ℕ, suc, ◌+◌, ◌%◌, ◌^◌, ◌≤◌, ◌<◌}
use mathlib.Core.Path.{◌≡◌, refl, ap, ap₂, sym, ◌∙◌, subst}
use mathlib.Core.List.{List, [], ◌∷◌}
use mathlib.Core.Bool.{Bool, true, false, cond}
use mathlib.Core.Logic.{inl}
use native.Mathlib.Omega.{arith}
use native.Mathlib.Nat.{add-zero, zero-add, add-mod}
use lib.ListN.{length}
use Rattle.answer.specs.Number.{number_of}
use Rattle.answer.specs.declared.Why.{Why}
use Rattle.little.specs.declared.Size.TheVariants.{Long}
use Rattle.memory.specs.Access.{code_at, load_of, store_bytes}
use Rattle.state.specs.declared.State.{State}
use Rattle.state.specs.State.{valid_of, with_long, with_counter, with_level, with_nesting}
use Rattle.state.specs.Register.{set_slot, get_register, set_register}
use Rattle.state.specs.Sound.{Sound}
use Rattle.code.specs.declared.Op.{Op}
use Rattle.code.specs.declared.Op.TheVariants.{Controls, Stacks, Puts, Sets, Blocks, Interrupts}
use Rattle.code.specs.declared.Interrupt.{Interrupt}
use Rattle.code.specs.declared.Interrupt.TheVariants.{PushSr, PopSr, Reti}
use Rattle.code.specs.declared.Instruction.{Instruction}
use Rattle.code.specs.Listed.{decode_of}
use Rattle.operand.specs.Try.{Try, did, no, Outcome, after, leaves, and_then, with_loaded}
use Rattle.operand.specs.Operand.{stored_by}
use Rattle.operand.specs.Round.{less, plus}
use Rattle.stack.specs.Stack.{with_stack}
use Rattle.step.specs.Step.{try_of, step_of}
use Rattle.facts.specs.Statements.{Passed}
use Rattle.facts.specs.Touched.{below_stack}
use Rattle.facts.proofs.Kept.{spares_length}
use Rattle.facts.proofs.Levels.{step_counts}
use Rattle.facts.proofs.Statements.{some, not_long, operated, keeps_valid}
use Rattle.turn.specs.Many.{Result, ends, many_of}
use Rattle.turn.proofs.ManySteps.{many_none, many_did}
use Rattle.run.specs.Run.{most_steps, run_of}
use Rattle.run.specs.Statements.{later}
use Rattle.run.proofs.Joins.{runs_join, run_is_steps}
use Rattle.run.proofs.Laws.{try_once, run_goes}
use Rattle.run.proofs.Rounds.{same_did, refused_not}
use Rattle.request.specs.Request.{takes, entered, entering, return_address, offered_of, request_of, if_done, took_of}
use Rattle.between.specs.History.{Event, step, offer, happens, history_of, is_reti, returns_by, return_at, stepping, taking, returning, counted_in, NestingBalances, NestingComesBack, UntakenIsRun}
use Rattle.between.proofs.Offer.{Course, long, invalid, bad, out, let_in, course, taken_says, taken_is, taken_keeps}
use Rattle.std.proofs.Common.{Ok, Err}
use Rattle.answer.specs.Number.{Answer}
use Rattle.memory.specs.Access.{Loaded}

abbrev one : Bool → ℕ
one b = cond b 1 0

-- ---- what a done event leaves
-- a step
step_left_lem : (s : State) (ram rom : List ℕ) (t : State) (m : List ℕ) → try_of s ram rom ≡ did t m → step_of s ram rom ≡ after (Ok tt) t m
unfolding step_of
step_left_lem s ram rom t m e = ap (leaves s ram) e

-- an offer: it was taken, or nothing has changed
request_left_lem : (level address : ℕ) (s : State) (ram rom : List ℕ) (t : State) (m : List ℕ) →
    offered_of level address s ram rom ≡ did t m → request_of level address s ram rom ≡ after (Ok tt) t m
unfolding request_of
request_left_lem level address s ram rom t m e = ap (leaves s ram) e

pub data Offered (level address : ℕ) (s : State) (ram rom : List ℕ) (t : State) (m : List ℕ) : Type 0 where
  was_taken : took_of level address s ram rom ≡ true → Offered level address s ram rom t m
  was_not : took_of level address s ram rom ≡ false → t ≡ s → m ≡ ram → Offered level address s ram rom t m

pub offered : (level address : ℕ) (s : State) (ram rom : List ℕ) (t : State) (m : List ℕ) →
    offered_of level address s ram rom ≡ did t m → Offered level address s ram rom t m
unfolding took_of
offered level address s ram rom t m e = go (course level address s ram rom)
  where
    o : request_of level address s ram rom ≡ after (Ok tt) t m
    o = request_left_lem level address s ram rom t m e

    a : (request_of level address s ram rom).answer ≡ Ok tt
    a = ap (λ (x : Outcome). x.answer) o

    go : Course level address s ram rom → Offered level address s ram rom t m
    go (long l x) = absurd (omega (arith, ap number_of (sym x ∙ a)))
    go (invalid w v x) = absurd (omega (arith, ap number_of (sym x ∙ a)))
    go (bad p b x) = absurd (omega (arith, ap number_of (sym x ∙ a)))
    go (out p b n x) =
        was_not (ap (λ (y : Answer). if_done y (takes s.level.0 level)) a ∙ n)
        (ap (λ (y : Outcome). y.state) (sym o ∙ x)) (ap (λ (y : Outcome). y.ram) (sym o ∙ x))
    go (let_in p b n x) = was_taken (ap (λ (y : Answer). if_done y (takes s.level.0 level)) a ∙ n)

-- what every event keeps
pub record Keeps (s : State) (ram rom : List ℕ) (t : State) (m : List ℕ) : Type 0 where
  pub passed : Passed s ram rom → Passed t m rom
  pub sound : Sound s → Sound t
  pub room : length m ≡ length ram

still : (s t : State) (ram rom m : List ℕ) → length m ≡ length ram → valid_of t ≡ true → Passed s ram rom → Passed t m rom
still s t ram rom m l v p = ((rw l p.0.0, p.0.1), v)

pub event_keeps : (e : Event) (s : State) (ram rom : List ℕ) (t : State) (m : List ℕ) → happens e s ram rom ≡ did t m → Keeps s ram rom t m
event_keeps step s ram rom t m e =
    let o = step_left_lem s ram rom t m e in
    let k = keeps_valid s ram rom (ap (λ (x : Outcome). x.answer) o) in
    let state : (step_of s ram rom).state ≡ t = ap (λ (x : Outcome). x.state) o in
    let l : length m ≡ length ram = sym (ap (λ (x : Outcome). length x.ram) o) ∙ k.1 in
    record {
      passed = still s t ram rom m l (subst (λ (u : State). valid_of u ≡ true) state k.0);
      sound = λ ok. subst Sound state (k.2 ok);
      room = l;
    }
event_keeps (offer level address) s ram rom t m e = go (offered level address s ram rom t m e)
  where
    o : request_of level address s ram rom ≡ after (Ok tt) t m
    o = request_left_lem level address s ram rom t m e

    go : Offered level address s ram rom t m → Keeps s ram rom t m
    go (was_taken k) =
        let x = taken_keeps level address s ram rom k in
        let state : (request_of level address s ram rom).state ≡ t = ap (λ (y : Outcome). y.state) o in
        let l : length m ≡ length ram = sym (ap (λ (y : Outcome). length y.ram) o) ∙ spares_length (below_stack s 6) ram (request_of level address s ram rom).ram x.2 in
        record {
          passed = still s t ram rom m l (subst (λ (u : State). valid_of u ≡ true) state x.0);
          sound = λ ok. subst Sound state (x.1 ok);
          room = l;
        }
    go (was_not k f g) = record { passed = λ p. rw (f, g) p; sound = λ ok. rw f ok; room = ap length g }

-- nothing is counted where nothing happens
counted_none : (test : Event → State → List ℕ → List ℕ → Bool) (s : State) (ram rom : List ℕ) → counted_in test [] s ram rom ≡ 0
unfolding counted_in
counted_none test s ram rom = refl

-- ---- a history, event by event
module _ (e : Event) (es : List Event) (s : State) (ram rom : List ℕ) where
  history_on : (u : State) (l : List ℕ) → happens e s ram rom ≡ did u l → history_of (e ∷ es) s ram rom ≡ history_of es u l rom
  unfolding history_of
  history_on u l f = rw (history_of, f) refl

  history_off : (w : Why) → happens e s ram rom ≡ no w → history_of (e ∷ es) s ram rom ≡ no w
  unfolding history_of
  history_off w f = rw (history_of, f) refl

  counted_on :
      (test : Event → State → List ℕ → List ℕ → Bool) (u : State) (l : List ℕ) → happens e s ram rom ≡ did u l →
      counted_in test (e ∷ es) s ram rom ≡ one (test e s ram rom) + counted_in test es u l rom
  unfolding counted_in
  counted_on test u l f = rw f refl

-- a walk over a history whose events are all done: what holds at the end holds before each event that leads there
module _
    (P : List Event → State → List ℕ → Type 0) (rom : List ℕ) (t : State) (m : List ℕ)
    (nothing : P [] t m)
    (event : (e : Event) (es : List Event) (s : State) (ram : List ℕ) (u : State) (l : List ℕ) → happens e s ram rom ≡ did u l → P es u l → P (e ∷ es) s ram)
  where
    pub walked : (es : List Event) (s : State) (ram : List ℕ) → history_of es s ram rom ≡ did t m → P es s ram
    unfolding history_of
    walked [] s ram h = let q = same_did h in subst (λ (l : List ℕ). P [] s l) (sym q.1) (subst (λ (u : State). P [] u m) (sym q.0) nothing)
    walked (e ∷ es) s ram h = go (happens e s ram rom) refl (λ u l k. walked es u l k)
      where
        go : (x : Try) → happens e s ram rom ≡ x → ((u : State) (l : List ℕ) → history_of es u l rom ≡ did t m → P es u l) → P (e ∷ es) s ram
        go (did u l) f rest = event e es s ram u l f (rest u l (sym (history_on e es s ram rom u l f) ∙ h))
        go (no w) f rest = refused_not (sym (history_off e es s ram rom w f) ∙ h)

-- ---- what a history keeps
pub history_keeps : (es : List Event) (s : State) (ram rom : List ℕ) (t : State) (m : List ℕ) → history_of es s ram rom ≡ did t m → Keeps s ram rom t m
history_keeps es s ram rom t m h =
    walked (λ es s ram. Keeps s ram rom t m) rom t m
    (record { passed = λ p. p; sound = λ ok. ok; room = refl })
    (λ e es s ram u l f k.
    let x = event_keeps e s ram rom u l f in
    record { passed = λ p. k.passed (x.passed p); sound = λ ok. k.sound (x.sound ok); room = k.room ∙ x.room })
    es s ram h

-- ---- numbers that go round
without : (x y c : ℕ) → (x + c) % 2 ^ 16 ≡ (y + c) % 2 ^ 16 → x % 2 ^ 16 ≡ y % 2 ^ 16
without x y c e = omega arith

-- two sums that are the same round 2^16, joined
joined : (x y z a b c d : ℕ) → (y + a) % 2 ^ 16 ≡ (z + b) % 2 ^ 16 → (x + c) % 2 ^ 16 ≡ (y + d) % 2 ^ 16 → (x + (a + c)) % 2 ^ 16 ≡ (z + (b + d)) % 2 ^ 16
joined x y z a b c d e f =
    let g : (x + c + (y + a)) % 2 ^ 16 ≡ (y + d + (z + b)) % 2 ^ 16 =
    add-mod (x + c) (y + a) (2 ^ 16) ∙ ap₂ (λ (m n : ℕ). (m + n) % 2 ^ 16) f e ∙ sym (add-mod (y + d) (z + b) (2 ^ 16)) in
    let h : x + c + (y + a) ≡ x + (a + c) + y = omega arith in
    let i : y + d + (z + b) ≡ z + (b + d) + y = omega arith in
    without (x + (a + c)) (z + (b + d)) y (ap (λ (n : ℕ). n % 2 ^ 16) (sym h) ∙ g ∙ ap (λ (n : ℕ). n % 2 ^ 16) i)

cancelled : (x y c : ℕ) → x < 2 ^ 16 → y < 2 ^ 16 → (x + c) % 2 ^ 16 ≡ (y + c) % 2 ^ 16 → x ≡ y
cancelled x y c h k e = omega arith

-- ---- the nesting count
-- RETI, and no other operation
reti_is : (what : Interrupt) → is_reti what ≡ true → what ≡ Reti
reti_is PushSr e = let z : ◌≡◌ {A = ℕ} 0 1 = cc in absurd (omega arith)
reti_is PopSr e = let z : ◌≡◌ {A = ℕ} 0 1 = cc in absurd (omega arith)
reti_is Reti e = refl

returns_is : (op : Op) → returns_by op ≡ true → op ≡ Interrupts Reti
returns_is (Controls what) e = let z : ◌≡◌ {A = ℕ} 0 1 = cc in absurd (omega arith)
returns_is (Stacks what) e = let z : ◌≡◌ {A = ℕ} 0 1 = cc in absurd (omega arith)
returns_is (Puts how) e = let z : ◌≡◌ {A = ℕ} 0 1 = cc in absurd (omega arith)
returns_is (Sets r) e = let z : ◌≡◌ {A = ℕ} 0 1 = cc in absurd (omega arith)
returns_is (Blocks f) e = let z : ◌≡◌ {A = ℕ} 0 1 = cc in absurd (omega arith)
returns_is (Interrupts what) e = ap Interrupts (reti_is what e)

returns_not : (op : Op) → returns_by op ≡ false → op ≡ Interrupts Reti → ⊥
returns_not op e f = let z : ◌≡◌ {A = ℕ} 0 1 = ap (λ (b : Bool). cond b 1 0) (sym e ∙ ap returns_by f) in omega arith

-- a step goes down by one at RETI
step_balances : (s : State) (ram rom : List ℕ) (t : State) (m : List ℕ) → Sound s → try_of s ram rom ≡ did t m →
    (t.nesting + one (return_at (decode_of (code_at ram rom s.counter)))) % 2 ^ 16 ≡ s.nesting % 2 ^ 16
step_balances s ram rom t m ok e = go (operated s ram rom (Ok tt) (inl refl) d)
  where
    o : step_of s ram rom ≡ after (Ok tt) t m
    o = step_left_lem s ram rom t m e

    d : (step_of s ram rom).answer ≡ Ok tt
    d = ap (λ (x : Outcome). x.answer) o

    state : (step_of s ram rom).state.nesting ≡ t.nesting
    state = ap (λ (x : Outcome). x.state.nesting) o

    go : (i : Instruction) × (Passed s ram rom × (decode_of (code_at ram rom s.counter) ≡ Ok i)) →
        (t.nesting + one (return_at (decode_of (code_at ram rom s.counter)))) % 2 ^ 16 ≡ s.nesting % 2 ^ 16
    go (i, (p, h)) = by (returns_by i.op) refl
      where
        by : (b : Bool) → returns_by i.op ≡ b → (t.nesting + one (return_at (decode_of (code_at ram rom s.counter)))) % 2 ^ 16 ≡ s.nesting % 2 ^ 16
        by true f =
            let n = sym state ∙ (step_counts s ram rom i (d, h)).0 (returns_is i.op f) in
            rw (h, f) (omega (arith, n, ok.nesting_fit))
        by false f =
            let n = sym state ∙ (step_counts s ram rom i (d, h)).1 (returns_not i.op f) in
            rw (h, f) (omega (arith, n))

-- a request that is taken goes up by one
entered_counts : (level vector : ℕ) (s : State) → (entered level vector s).nesting ≡ plus 16 s.nesting 1
unfolding entered with_counter with_nesting with_level
entered_counts level vector s = omega arith

-- done, a push and then what is entered, by its answer
stored_counts :
    (s t : State) (ram m : List ℕ) (level vector : ℕ) (a : Answer) → (leaves s ram (and_then (stored_by a t m) (entered level vector))).answer ≡ Ok tt →
    (leaves s ram (and_then (stored_by a t m) (entered level vector))).state.nesting ≡ plus 16 t.nesting 1
stored_counts s t ram m level vector (Ok _) e = entered_counts level vector t
stored_counts s t ram m level vector (Err w) e = absurd (omega (arith, ap number_of e, some w))

loaded_counts :
    (s : State) (ram rom : List ℕ) (level : ℕ) (l : Loaded) →
    (leaves s ram (with_loaded l (λ v. entering (return_address s) level v s ram rom))).answer ≡ Ok tt →
    (leaves s ram (with_loaded l (λ v. entering (return_address s) level v s ram rom))).state.nesting ≡ plus 16 s.nesting 1
unfolding set_register set_slot with_long
loaded_counts s ram rom level (Ok v) e =
    let x = less 32 (get_register s Long 7) 6 in
    stored_counts s (with_stack s x) ram _ level v (store_bytes ram rom (x % 2 ^ 24) 6) e
loaded_counts s ram rom level (Err x) e = absurd (omega (arith, ap number_of e))

taken_counts :
    (level address : ℕ) (s : State) (ram rom : List ℕ) → took_of level address s ram rom ≡ true →
    (request_of level address s ram rom).state.nesting ≡ plus 16 s.nesting 1
taken_counts level address s ram rom k =
    let t = taken_says level address s ram rom k in
    let o = taken_is level address s ram rom t in
    ap (λ (x : Outcome). x.state.nesting) o
    ∙ loaded_counts s ram rom level (load_of ram rom address Long) (sym (ap (λ (x : Outcome). x.answer) o) ∙ t.done)

event_balances :
    (e : Event) (s : State) (ram rom : List ℕ) (t : State) (m : List ℕ) → Sound s → happens e s ram rom ≡ did t m →
    (t.nesting + one (returning e s ram rom)) % 2 ^ 16 ≡ (s.nesting + one (taking e s ram rom)) % 2 ^ 16
event_balances step s ram rom t m ok e = rw add-zero (step_balances s ram rom t m ok e)
event_balances (offer level address) s ram rom t m ok e = go (offered level address s ram rom t m e)
  where
    go : Offered level address s ram rom t m → (t.nesting + 0) % 2 ^ 16 ≡ (s.nesting + one (took_of level address s ram rom)) % 2 ^ 16
    go (was_taken k) =
        let n : t.nesting ≡ plus 16 s.nesting 1 =
        sym (ap (λ (y : Outcome). y.state.nesting) (request_left_lem level address s ram rom t m e)) ∙ taken_counts level address s ram rom k in
        rw k (omega (arith, n))
    go (was_not k f g) = let n : t.nesting ≡ s.nesting = ap (λ (u : State). u.nesting) f in rw k (omega (arith, n))

pub nesting_balances : (es : List Event) (s t : State) (ram rom m : List ℕ) → NestingBalances es s t ram rom m
nesting_balances es s t ram rom m ok h =
    walked
    (λ es s ram. Sound s → (t.nesting + counted_in returning es s ram rom) % 2 ^ 16 ≡ (s.nesting + counted_in taking es s ram rom) % 2 ^ 16)
    rom t m (λ x. rw (counted_none returning t m rom, counted_none taking t m rom) refl) event es s ram h ok
  where
    event :
        (e : Event) (es : List Event) (s : State) (ram : List ℕ) (u : State) (l : List ℕ) → happens e s ram rom ≡ did u l →
        (Sound u → (t.nesting + counted_in returning es u l rom) % 2 ^ 16 ≡ (u.nesting + counted_in taking es u l rom) % 2 ^ 16) →
        Sound s → (t.nesting + counted_in returning (e ∷ es) s ram rom) % 2 ^ 16 ≡ (s.nesting + counted_in taking (e ∷ es) s ram rom) % 2 ^ 16
    event e es s ram u l f rest k =
        let a = event_balances e s ram rom u l k f in
        let b = rest ((event_keeps e s ram rom u l f).sound k) in
        rw (counted_on e es s ram rom returning u l f, counted_on e es s ram rom taking u l f)
        (joined t.nesting u.nesting s.nesting (one (returning e s ram rom)) (one (taking e s ram rom)) (counted_in returning es u l rom) (counted_in taking es u l rom) a b)

pub nesting_comes_back : (es : List Event) (s t : State) (ram rom m : List ℕ) → NestingComesBack es s t ram rom m
nesting_comes_back es s t ram rom m ok h same =
    let n = nesting_balances es s t ram rom m ok h in
    let a = ((history_keeps es s ram rom t m h).sound ok).nesting_fit in
    let b = ok.nesting_fit in
    cancelled t.nesting s.nesting (counted_in returning es s ram rom) a b (rw same at n)

-- ---- offers that are not taken
-- where none is counted, this event is none and none comes after it
no_more :
    (e : Event) (s : State) (ram : List ℕ) (u : State) (l : List ℕ) (es : List Event) (rom : List ℕ) → happens e s ram rom ≡ did u l →
    counted_in taking (e ∷ es) s ram rom ≡ 0 → (taking e s ram rom ≡ false) × (counted_in taking es u l rom ≡ 0)
no_more e s ram u l es rom f z = go (taking e s ram rom) refl (sym (counted_on e es s ram rom taking u l f) ∙ z)
  where
    go : (b : Bool) → taking e s ram rom ≡ b → one (taking e s ram rom) + counted_in taking es u l rom ≡ 0 →
        (taking e s ram rom ≡ false) × (counted_in taking es u l rom ≡ 0)
    go true g n = absurd (omega (arith, rw g at n))
    go false g n = (g, omega (arith, rw g at n))

-- one event before n steps that are done
untaken :
    (e : Event) (s : State) (ram : List ℕ) (u : State) (l : List ℕ) (d n : ℕ) (t : State) (m rom : List ℕ) → Passed s ram rom →
    happens e s ram rom ≡ did u l → taking e s ram rom ≡ false → ((c : ℕ) → many_of n c u l rom ≡ ends (c + n) t m (Ok tt)) →
    many_of (one (stepping e s ram rom) + n) d s ram rom ≡ ends (d + (one (stepping e s ram rom) + n)) t m (Ok tt)
untaken step s ram u l d n t m rom p f k rest =
    let o = sym (try_once s ram rom (not_long (length ram) (length rom) p.0.0 p.0.1) p.1) ∙ f in
    let c : d + 1 + n ≡ d + (1 + n) = omega arith in
    let z : 1 + n ≡ suc n = omega arith in
    ap (λ (k : ℕ). many_of k d s ram rom) z ∙ many_did n d s ram rom u l o ∙ rest (d + 1) ∙ ap (λ (x : ℕ). ends x t m (Ok tt)) c
untaken (offer level address) s ram u l d n t m rom p f k rest = go (offered level address s ram rom u l f)
  where
    go : Offered level address s ram rom u l → many_of (0 + n) d s ram rom ≡ ends (d + (0 + n)) t m (Ok tt)
    go (was_taken x) = let z : ◌≡◌ {A = ℕ} 0 1 = ap (λ (b : Bool). cond b 0 1) (sym x ∙ k) in absurd (omega arith)
    go (was_not x g h) = rw (zero-add, ← g, ← h) (rest d)

untaken_run :
    (es : List Event) (s t : State) (ram rom m : List ℕ) → Passed s ram rom → history_of es s ram rom ≡ did t m → counted_in taking es s ram rom ≡ 0 →
    counted_in stepping es s ram rom ≤ most_steps → run_of (counted_in stepping es s ram rom) s ram rom ≡ ends (counted_in stepping es s ram rom) t m (Ok tt)
untaken_run es s t ram rom m p h none few =
    run_goes s ram rom (counted_in stepping es s ram rom) few (not_long (length ram) (length rom) p.0.0 p.0.1) p.1
    ∙ walked
    (λ es s ram. Passed s ram rom → counted_in taking es s ram rom ≡ 0 → (d : ℕ) →
    many_of (counted_in stepping es s ram rom) d s ram rom ≡ ends (d + counted_in stepping es s ram rom) t m (Ok tt))
    rom t m nothing event es s ram h p none 0
    ∙ ap (λ (n : ℕ). ends n t m (Ok tt)) (zero-add (counted_in stepping es s ram rom))
  where
    nothing : Passed t m rom → counted_in taking [] t m rom ≡ 0 → (d : ℕ) →
        many_of (counted_in stepping [] t m rom) d t m rom ≡ ends (d + counted_in stepping [] t m rom) t m (Ok tt)
    nothing q z d = rw (counted_none stepping t m rom, add-zero) (many_none d t m rom)

    event :
        (e : Event) (es : List Event) (s : State) (ram : List ℕ) (u : State) (l : List ℕ) → happens e s ram rom ≡ did u l →
        (Passed u l rom → counted_in taking es u l rom ≡ 0 → (d : ℕ) →
        many_of (counted_in stepping es u l rom) d u l rom ≡ ends (d + counted_in stepping es u l rom) t m (Ok tt)) →
        Passed s ram rom → counted_in taking (e ∷ es) s ram rom ≡ 0 → (d : ℕ) →
        many_of (counted_in stepping (e ∷ es) s ram rom) d s ram rom ≡ ends (d + counted_in stepping (e ∷ es) s ram rom) t m (Ok tt)
    event e es s ram u l f rest q z d =
        rw (counted_on e es s ram rom stepping u l f)
        (untaken e s ram u l d (counted_in stepping es u l rom) t m rom q f (no_more e s ram u l es rom f z).0
        (rest ((event_keeps e s ram rom u l f).passed q) (no_more e s ram u l es rom f z).1))

-- a run of n steps that are done, whose next step is refused
stopped_there :
    (n : ℕ) (s t : State) (ram rom m : List ℕ) (w : Why) → n < most_steps → run_of n s ram rom ≡ ends n t m (Ok tt) → try_of t m rom ≡ no w →
    run_of (n + 1) s ram rom ≡ ends n t m (Err w)
stopped_there n s t ram rom m w few e f =
    let d : (run_of n s ram rom).answer ≡ Ok tt = ap (λ (r : Result). r.answer) e in
    let one : run_of 1 t m rom ≡ ends 0 t m (Err w) = (run_is_steps t m rom 0 (omega arith)).1 w f in
    runs_join s ram rom n 1 (omega arith) d
    ∙ ap (λ (r : Result). later n (run_of 1 r.state r.ram rom)) e
    ∙ ap (later n) one
    ∙ ap (λ (k : ℕ). ends k t m (Err w)) (add-zero n)

pub untaken_is_run : (es : List Event) (s t : State) (ram rom m : List ℕ) → UntakenIsRun es s t ram rom m
untaken_is_run es s t ram rom m p h none few =
    let e = untaken_run es s t ram rom m p h none (omega arith) in
    (e, λ w f. stopped_there (counted_in stepping es s ram rom) s t ram rom m w few e f)
