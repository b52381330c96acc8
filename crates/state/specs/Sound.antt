-- What the type of a state says of its value: twenty registers, and each number fits where it is held.
-- Every state that the code handles is so; a statement about every State of the specifications has to ask for it.
use Rattle.std.specs.Prelude.{ℕ, ◌<◌, ◌^◌, ◌≡◌, length, get_or}
use Rattle.state.specs.declared.State.{State}

pub record Sound (s : State) : Type 0 where
  pub twenty : length s.registers ≡ 20
  pub fit : (i : ℕ) → get_or s.registers i 0 < 2 ^ 32
  pub counter_fit : s.counter < 2 ^ 32
  pub bank_fit : s.bank.0 < 2 ^ 8
  pub level_fit : s.level.0 < 2 ^ 8
  pub flags_fit : s.flags < 2 ^ 16
  pub spare_fit : s.spare < 2 ^ 16
  pub nesting_fit : s.nesting < 2 ^ 16
