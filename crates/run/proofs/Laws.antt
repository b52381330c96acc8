-- Laws of a run: its checks, and that they need be made once.
use Prim.Native.Nat.{ℕ, ◌<◌, ◌≤◌}
use mathlib.Core.Path.{◌≡◌, refl, subst}
use mathlib.Core.List.{List}
use mathlib.Core.Bool.{true, false}
use lib.ListN.{length}
use borrow.Author.Tests.{lt-ltb, le-ltb}
use Rattle.answer.specs.declared.Why.TheVariants.{TooMany, TooLong, Invalid}
use Rattle.state.specs.State.{valid_of}
use Rattle.state.specs.declared.State.{State}
use Rattle.state.proofs.Valid.{Valid, valid_says, valid_from}
use Rattle.operand.specs.Try.{Try, did}
use Rattle.turn.specs.Once.{once_of}
use Rattle.step.specs.Step.{too_long, guarded, try_of}
use Rattle.facts.proofs.Kept.{Keeps, keeps_once}
use Rattle.turn.specs.Many.{ends, many_of}
use Rattle.run.specs.Run.{run_of}
use Rattle.std.proofs.Common.{Err}

-- ---- the checks
module _ (s : State) (ram rom : List ℕ) where
  pub guard_passes : (t : Try) → too_long (length ram) (length rom) ≡ false → valid_of s ≡ true → guarded s ram rom t ≡ t
  unfolding guarded
  guard_passes t l v = rw (l, v) refl

  pub try_once : too_long (length ram) (length rom) ≡ false → valid_of s ≡ true → try_of s ram rom ≡ once_of s ram rom
  unfolding try_of
  try_once l v = guard_passes (once_of s ram rom) l v

  pub run_many : (n : ℕ) → 1000000 < n → run_of n s ram rom ≡ ends 0 s ram (Err TooMany)
  unfolding run_of
  run_many n h = rw (lt-ltb 1000000 n h) refl

  pub run_long : (n : ℕ) → n ≤ 1000000 → too_long (length ram) (length rom) ≡ true → run_of n s ram rom ≡ ends 0 s ram (Err TooLong)
  unfolding run_of guarded
  run_long n h l = rw (le-ltb 1000000 n h, l) refl

  pub run_invalid :
      (n : ℕ) → n ≤ 1000000 → too_long (length ram) (length rom) ≡ false → valid_of s ≡ false → run_of n s ram rom ≡ ends 0 s ram (Err Invalid)
  unfolding run_of guarded
  run_invalid n h l v = rw (le-ltb 1000000 n h, l, v) refl

  pub run_goes :
      (n : ℕ) → n ≤ 1000000 → too_long (length ram) (length rom) ≡ false → valid_of s ≡ true → run_of n s ram rom ≡ many_of n 0 s ram rom
  unfolding run_of guarded
  run_goes n h l v = rw (le-ltb 1000000 n h, l, v) refl

-- a step that is done keeps a valid state valid and RAM's length, so that its checks need not be made again
kept_by : (ram : List ℕ) (t : State) (m : List ℕ) → Keeps ram (did t m) → Valid t × (length m ≡ length ram)
unfolding Keeps
kept_by ram t m k = (k.0, k.1)

pub still_passes :
    (s : State) (ram rom : List ℕ) (t : State) (m : List ℕ) → valid_of s ≡ true → once_of s ram rom ≡ did t m →
    (valid_of t ≡ true) × (length m ≡ length ram)
still_passes s ram rom t m v e =
    let k = kept_by ram t m (subst (λ (x : Try). Keeps ram x) e (keeps_once ram rom s (valid_says s v))) in
    (valid_from t k.0, k.1)
