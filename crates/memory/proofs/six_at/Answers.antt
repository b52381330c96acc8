-- `memory::six_at` meets its contract.
use native.Mathlib.Omega.{arith}
use Rattle.memory.proofs.Six.{six_value, six_fits}
use Rattle.memory.proofs.six_at.Goals as goal

pub returns : goal.returns
returns c =
    let a = c.args in
    let low = c.read-low.result in
    let e = c.read-low.ensures in
    record {
      both = six_value a.at a.bytes.now low c.read-high.result c.requires e c.read-high.ensures;
      fits = six_fits a.at a.bytes.now low (λ i. omega (arith, c.type_inv.bytes i)) e;
    }
