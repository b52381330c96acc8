use Prim.Native.Nat.{◌%◌}
use Rattle.state.proofs.Fields.{code_field}
use Rattle.state.proofs.named.of_code.Goals as goal

pub returns : goal.returns
returns c = let a = c.args in code_field (a.bank.0 % 4) a.code c.sixteen-k.result c.sixteen-k.ensures.0
