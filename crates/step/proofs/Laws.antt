-- What is shown is there.
use Prim.Native.Nat.{ℕ, ◌≤◌}
use mathlib.Core.Path.{◌≡◌, refl}
use mathlib.Core.List.{List}
use native.Mathlib.Omega.{arith}
use lib.ListN.{length}
use Rattle.code.specs.Listed.{decode_of}
use Rattle.code.proofs.Walked.{length_fits}
use Rattle.step.specs.Show.{length_in}
use Rattle.std.proofs.Common.{Ok, Err}
use Rattle.code.specs.Unread.{Decoded}
use Rattle.code.specs.declared.Unread.TheVariants.{Short, Unlisted}

pub length_there : (l : List ℕ) → length_in (decode_of l) ≤ length l
length_there l = go (decode_of l) refl
  where
    go : (d : Decoded) → decode_of l ≡ d → length_in d ≤ length l
    go (Err Short) e = omega arith
    go (Err Unlisted) e = omega arith
    go (Ok i) e = (length_fits l i e).1.1
