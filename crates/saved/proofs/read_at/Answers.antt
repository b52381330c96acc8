use Prim.Native.Nat.{◌+◌, ◌-◌}
use mathlib.Core.Path.{◌≡◌, ◌∙◌}
use native.Mathlib.Omega.{arith}
use lib.ListN.{drop}
use Rattle.saved.proofs.Numbers.{read_part}
use Rattle.saved.proofs.read_at.Goals as goal

pub returns : goal.returns
returns c =
    let a = c.args in
    let z : a.at + a.n - a.at ≡ a.n = omega arith in
    rw z at c.read.ensures ∙ read_part a.n (drop a.at a.bytes.now) c.requires.1
