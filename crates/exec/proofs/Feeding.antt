-- A form of the feed calculation, done by a function of its own: what it tells is what the code says, and its effect is that of the
-- instruction.
use Prim.Native.Nat.{ℕ, ◌+◌, ◌%◌, ◌^◌, ◌≤◌}
use mathlib.Core.Path.{◌≡◌, refl, ap, sym, subst, ◌∙◌}
use mathlib.Core.List.{List}
use mathlib.Core.Logic.{◌⊎◌, inl, inr}
use native.Mathlib.Omega.{arith}
use borrow.Author.Tests.{ne_eqb}
use Rattle.little.specs.declared.Size.{Size}
use Rattle.state.specs.declared.State.{State}
use Rattle.state.specs.declared.Bank.{Bank}
use Rattle.state.specs.inner.Lent.{banked_with, banked_at_with, standing_at}
use Rattle.code.specs.declared.Op.TheVariants.{Puts}
use Rattle.code.specs.declared.Use.{Use}
use Rattle.code.specs.declared.Operand.{Operand}
use Rattle.code.specs.Said.{judge, whole_of}
use Rattle.code.specs.Rows.{by_rows}
use Rattle.code.specs.Registers.{feed_rows}
use Rattle.code.proofs.Alike.{feed_forms, feed_bytes}
use Rattle.compute.specs.Compute.{puts_of}
use Rattle.operand.specs.inner.Does.{Does}
use Rattle.exec.specs.Exec.{effect_of, done}
use Rattle.exec.specs.inner.Counter.{on_of}
use Rattle.exec.specs.inner.Fed.{bytes_told, answer_of, Feeds}
use Rattle.exec.proofs.Laws.{put_on}
use Rattle.std.proofs.Common.{Ok, Err}
use Rattle.code.specs.Unread.{Decoded}
use Rattle.code.specs.declared.Unread.TheVariants.{Short, Unlisted}

-- an instruction of two bytes or more is answered as done
told_done : (n : ℕ) → 2 ≤ n → answer_of n ≡ Ok tt
told_done n h = rw (ne_eqb n 0 (λ e. omega arith), ne_eqb n 1 (λ e. omega arith)) refl

-- ---- in the function itself: a use of n bytes that was read and done
module _ (z : Size) (o : Operand) (code : List ℕ) (s after : State) (ram rom : List ℕ) where
  pub put_fed :
      (how : Use) (n : ℕ) → whole_of (Puts how) z o n ≡ judge (by_rows (feed_rows z o)) code 1 →
      Does (λ t m. puts_of how z o t m rom) s ram (Ok tt) after ram →
      Feeds (judge (by_rows (feed_rows z o)) code 1) n s ram rom after
  unfolding effect_of
  put_fed how n e d =
      let k : 2 ≤ n = feed_bytes z o code how n (sym e) in
      rw (← e) (refl, rw (told_done n k) d)

module _ (z : Size) (o : Operand) (code : List ℕ) (s : State) (ram rom : List ℕ) where
  pub short_fed : (Err Short) ≡ judge (by_rows (feed_rows z o)) code 1 → Feeds (judge (by_rows (feed_rows z o)) code 1) 1 s ram rom s
  short_fed e = rw (← e) (refl, refl)

  pub none_fed : (Err Unlisted) ≡ judge (by_rows (feed_rows z o)) code 1 → Feeds (judge (by_rows (feed_rows z o)) code 1) 0 s ram rom s
  none_fed e = rw (← e) (refl, refl)

-- ---- in its caller: the counter goes on where it is done
module _ (z : Size) (o : Operand) (rest : State) (bank : Bank) (regs next : List ℕ) (flags g counter : ℕ) (ram rom : List ℕ) where
  -- what is read of the code d, and is told by n
  abbrev Fed : Decoded → ℕ → Type 0
  Fed d n = (s : State) → Feeds d n (banked_with s regs bank flags) ram rom (banked_with s next bank g)

  abbrev On : Decoded → ℕ → Type 0
  On d n = Does (λ t m. done d t m rom) (banked_at_with rest regs bank counter flags) ram (answer_of n) (banked_at_with rest next bank (on_of (answer_of n) n counter) g) ram

  put_goes_on : (how : Use) (n : ℕ) → 2 ≤ n → Fed (whole_of (Puts how) z o n) n → On (whole_of (Puts how) z o n) n
  unfolding effect_of
  put_goes_on how n k f =
      rw (told_done n k)
      (put_on rest regs bank counter flags n ram rom how z o next g (rw (told_done n k) at (f (standing_at rest ((counter + n) % 2 ^ 24))).1))

  short_stays : Fed (Err Short) 1 → On (Err Short) 1
  short_stays f = (f (standing_at rest counter)).1

  none_stays : Fed (Err Unlisted) 0 → On (Err Unlisted) 0
  none_stays f = (f (standing_at rest counter)).1

  goes_on_lem :
      (d : Decoded) (n : ℕ) → ((how : Use) × (m : ℕ) × (d ≡ whole_of (Puts how) z o m)) ⊎ ((d ≡ Err Short) ⊎ (d ≡ Err Unlisted)) →
      ((how : Use) (m : ℕ) → d ≡ whole_of (Puts how) z o m → 2 ≤ m) → Fed d n → On d n
  goes_on_lem d n (inl (how, m, e)) b f =
      let q : m ≡ n = sym ((f rest).0 ∙ ap bytes_told e) in
      let w : d ≡ whole_of (Puts how) z o n = e ∙ ap (whole_of (Puts how) z o) q in
      let k : 2 ≤ n = b how n w in
      subst (λ (x : Decoded). On x n) (sym w) (put_goes_on how n k (subst (λ (x : Decoded). Fed x n) w f))
  goes_on_lem d n (inr (inl e)) b f =
      let q : n ≡ 1 = (f rest).0 ∙ ap bytes_told e in
      let h : Fed (Err Short) 1 = subst (λ (x : ℕ). Fed (Err Short) x) q (subst (λ (x : Decoded). Fed x n) e f) in
      subst (λ (x : ℕ). On d x) (sym q) (subst (λ (x : Decoded). On x 1) (sym e) (short_stays h))
  goes_on_lem d n (inr (inr e)) b f =
      let q : n ≡ 0 = (f rest).0 ∙ ap bytes_told e in
      let h : Fed (Err Unlisted) 0 = subst (λ (x : ℕ). Fed (Err Unlisted) x) q (subst (λ (x : Decoded). Fed x n) e f) in
      subst (λ (x : ℕ). On d x) (sym q) (subst (λ (x : Decoded). On x 0) (sym e) (none_stays h))

  pub fed_on : (code : List ℕ) (n : ℕ) → Fed (judge (by_rows (feed_rows z o)) code 1) n → On (judge (by_rows (feed_rows z o)) code 1) n
  fed_on code n f = goes_on_lem (judge (by_rows (feed_rows z o)) code 1) n (feed_forms z o code) (feed_bytes z o code) f
