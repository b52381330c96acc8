-- What each function adds to the line, and that it is short enough.
use Prim.Native.Nat.{ℕ, zero, suc, ◌+◌, ◌*◌, ◌<◌, ◌≤◌}
use mathlib.Core.Path.{◌≡◌, refl, ap, sym, ◌∙◌}
use mathlib.Core.List.{List, [], ◌∷◌, ◌++◌}
use mathlib.Core.Bool.{Bool, true, false, cond}
use native.Mathlib.Omega.{arith}
use lib.ListN.{length, take, length-append}
use lib.Dec.{ltb}
use borrow.Author.Tests.{lt-ltb, le-ltb}
use Rattle.answer.specs.declared.Why.{Why}
use Rattle.answer.specs.declared.Why.TheVariants.{TooLong}
use Rattle.answer.specs.Number.{why_number, number_of}
use Rattle.little.specs.declared.Size.TheVariants.{Long}
use Rattle.state.specs.declared.State.{State}
use Rattle.state.specs.Register.{get_register}
use Rattle.state.specs.Sr.{sr_of}
use Rattle.step.specs.declared.Stepped.{Stepped}
use Rattle.step.specs.Reset.{reset_of}
use Rattle.turn.specs.declared.Ran.{Ran}
use Rattle.turn.specs.Many.{Result, result_with}
use Rattle.run.specs.Run.{run_of}
use Rattle.text.specs.Text.{hex_of, decimal_of, following, line_of}
use Rattle.text.specs.Grown.{grown}
use Rattle.text.proofs.Laws.{grown_joins, grown_whole, field_made, more, line_made, hex_length, decimal_length}
use Rattle.line.specs.Lines.{where_of, register_of, registers_of, refused_line, ran_line, zeros, line_after, line_for, LineMeets}
use Rattle.text.specs.declared.Line.{Line}
use Rattle.std.proofs.Common.{Ok, Err}
use Rattle.answer.specs.Number.{Answer}

-- ---- a line is shorter than 128 bytes
abbrev Short : List (List ℕ) → Type 0
Short [] = Unit {0}
Short (f ∷ fs) = (length f ≤ 8) × Short fs

after_short : (fs : List (List ℕ)) → Short fs → length (following fs) ≤ 9 * length fs
after_short [] s = omega arith
after_short (f ∷ fs) s = omega (arith, length-append (32 ∷ f) (following fs), after_short fs s.1, s.0)

counted_short :
    (d n : ℕ) (fs : List (List ℕ)) → length fs ≤ 10 → Short fs → length (line_of (decimal_of d) (decimal_of n ∷ fs)) ≤ 127
counted_short d n fs h s =
    omega (
      arith,
      h,
      length-append (decimal_of d) (following (decimal_of n ∷ fs) ++ (10 ∷ [])),
      length-append (following (decimal_of n ∷ fs)) (10 ∷ []),
      length-append (32 ∷ decimal_of n) (following fs),
      decimal_length 10 d,
      decimal_length 10 n,
      after_short fs s,
    )

hex_short : (k n : ℕ) → k ≤ 8 → length (hex_of k n) ≤ 8
hex_short k n h = omega (arith, h, hex_length k n)

pub refused_short : (w : Why) → length (refused_line w) ≤ 127
unfolding refused_line
refused_short w = counted_short 0 (why_number w) [] (omega arith) tt

pub ran_short : (s : State) (d : ℕ) (a : Answer) → length (ran_line s d a) ≤ 127
unfolding ran_line
ran_short s d a =
    let r : (code : ℕ) → length (register_of s code) ≤ 8 = λ code. hex_short 8 (get_register s Long code) (omega arith) in
    counted_short d (number_of a) (where_of s ++ registers_of s) (omega arith)
    (hex_short 6 s.counter (omega arith), (hex_short 4 (sr_of s) (omega arith), (r 0, (r 1, (r 2, (r 3, (r 4, (r 5, (r 6, (r 7, tt))))))))))

-- ---- what each function adds
pub counts_made : (l : List ℕ) (d n : ℕ) → grown (grown (grown l (decimal_of d)) (32 ∷ [])) (decimal_of n) ≡ grown l (decimal_of d ++ following (decimal_of n ∷ []))
counts_made l d n = field_made (grown l (decimal_of d)) (decimal_of n) ∙ grown_joins l (decimal_of d) (following (decimal_of n ∷ []))

-- one register more
register_next : (s : State) (code : ℕ) → code < 8 → take code (registers_of s) ++ (register_of s code ∷ []) ≡ take (code + 1) (registers_of s)
register_next s zero h = refl
register_next s (suc zero) h = refl
register_next s (suc (suc zero)) h = refl
register_next s (suc (suc (suc zero))) h = refl
register_next s (suc (suc (suc (suc zero)))) h = refl
register_next s (suc (suc (suc (suc (suc zero))))) h = refl
register_next s (suc (suc (suc (suc (suc (suc zero)))))) h = refl
register_next s (suc (suc (suc (suc (suc (suc (suc zero))))))) h = refl
register_next s (suc (suc (suc (suc (suc (suc (suc (suc n)))))))) h = absurd (omega arith)

pub register_more :
    (l : List ℕ) (s : State) (code : ℕ) → code < 8 →
    grown (grown l (following (take code (registers_of s)))) (following (register_of s code ∷ [])) ≡ grown l (following (take (code + 1) (registers_of s)))
register_more l s code h =
    more l [] (take code (registers_of s)) (register_of s code ∷ []) ∙ ap (λ (fs : List (List ℕ)). grown l (following fs)) (register_next s code h)

pub refused_made : (w : Why) → grown (grown [] (decimal_of 0 ++ following (decimal_of (why_number w) ∷ []))) (10 ∷ []) ≡ refused_line w
unfolding refused_line
refused_made w = line_made [] (decimal_of 0) (decimal_of (why_number w) ∷ []) ∙ grown_whole [] (refused_line w) (omega (arith, refused_short w))

pub ran_made :
    (s : State) (d : ℕ) (a : Answer) →
    grown (grown (grown (grown [] (decimal_of d ++ following (decimal_of (number_of a) ∷ []))) (following (where_of s))) (following (registers_of s))) (10 ∷ [])
    ≡ ran_line s d a
unfolding ran_line
ran_made s d a =
    let f = decimal_of d in
    let x = decimal_of (number_of a) ∷ [] in
    let e : grown (grown (grown [] (f ++ following x)) (following (where_of s))) (following (registers_of s)) ≡ grown [] (f ++ following (x ++ (where_of s ++ registers_of s))) =
    ap (λ (l : List ℕ). grown l (following (registers_of s))) (more [] f x (where_of s)) ∙ more [] f (x ++ where_of s) (registers_of s) in
    ap (λ (l : List ℕ). grown l (10 ∷ [])) e
    ∙ line_made [] f (x ++ (where_of s ++ registers_of s))
    ∙ grown_whole [] (ran_line s d a) (omega (arith, ran_short s d a))

-- ---- the program
module _ (image : List ℕ) where
  pub for_long : 32768 < length image → line_for image ≡ refused_line TooLong
  unfolding line_for
  for_long h = rw (lt-ltb 32768 (length image) h) refl

  module _ (few : length image ≤ 32768) (r : Stepped) (is : r ≡ reset_of zeros image) where
    reset_answer_lem : {a : Answer} → r.answer ≡ a → (reset_of zeros image).answer ≡ a
    reset_answer_lem e = ap (λ (x : Stepped). x.answer) (sym is) ∙ e

    pub for_stops : (w : Why) → r.answer ≡ Err w → line_for image ≡ refused_line w
    unfolding line_for
    for_stops w e = rw (le-ltb 32768 (length image) few, reset_answer_lem e) refl

    pub for_ran : (q : Ran) (m : List ℕ) → r.answer ≡ Ok tt → result_with q m ≡ run_of 1000 r.state zeros image →
        line_for image ≡ ran_line q.state q.done q.answer
    unfolding line_for
    for_ran q m e f =
        rw (le-ltb 32768 (length image) few, reset_answer_lem e)
        (sym (ap (line_after (Ok tt)) (f ∙ ap (λ (x : Stepped). run_of 1000 x.state zeros image) is)))

-- every line is short enough to be written whole
pub for_short : (image : List ℕ) → length (line_for image) ≤ 127
unfolding line_for
for_short image = go (ltb 32768 (length image)) (reset_of zeros image).answer (run_of 1000 (reset_of zeros image).state zeros image)
  where
    go : (b : Bool) (a : Answer) (r : Result) → length (cond b (refused_line TooLong) (line_after a r)) ≤ 127
    go true a r = refused_short TooLong
    go false (Err w) r = refused_short w
    go false (Ok _) r = ran_short r.state r.done r.answer

pub line_whole : (image : List ℕ) {r : Line} → r ≡ line_for image → LineMeets image r
line_whole image e = (e, rw e (omega (arith, for_short image)))
