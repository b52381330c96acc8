-- The tables of runs, computed.
use mathlib.Core.Path.{refl}
use Rattle.cases.specs.Runs.{copy_runs, compare_runs, refused, onto, checks, start_up, addresses, RunsHold}
use Rattle.cases.proofs.Computed.{left, said, each}

pub runs_hold : RunsHold
unfolding copy_runs compare_runs refused onto checks start_up addresses left said
runs_hold = (
  each copy_runs refl,
  each compare_runs refl,
  each refused refl,
  each onto refl,
  each checks refl,
  each start_up refl,
  each addresses refl,
)
