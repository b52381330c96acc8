-- What is made of one value of k bits by itself; `old` are the flags before.
use Rattle.std.specs.Prelude.{ℕ}
use Rattle.flags.specs.{declared.Computed.Computed, declared.Flags.Flags, Flag.keeping}
use Rattle.alu.specs.{declared.change.Change.Change, Count.steps_of, Count.inc_of, Count.dec_of}
use Rattle.alu.specs.{Shift.places_of, Shift.shift_of, Extend.extz_of, Extend.exts_of}
use Rattle.alu.specs.declared.change.Change.TheVariants.{Inc, Dec, ShiftBy, Extz, Exts}

-- by how many, or by how many places, is as the code has it
abbrev pub changed : Change → ℕ → ℕ → Flags → Computed
changed (Inc n) k a old = inc_of old k a (steps_of n)
changed (Dec n) k a old = dec_of old k a (steps_of n)
changed (ShiftBy kind n) k a old = shift_of kind k a (places_of n)
changed Extz k a old = keeping old (extz_of k a)
changed Exts k a old = keeping old (exts_of k a)
