-- The flags in the state: F as six flags with their marks, changed and packed again.
use Rattle.flags.specs.{declared.Flags.Flags, Flag.packed_of, Flag.flags_of}
use Rattle.state.specs.{declared.State.State, State.with_flags, State.with_both_flags}

-- the flags of a state, with their marks
abbrev pub flags_in : State → Flags
flags_in s = flags_of s.flags

-- the state with these flags and marks, packed
unfoldable pub flagged : State → Flags → State
flagged s f = with_flags s (packed_of f)

-- EX F,F'
abbrev pub exchanged : State → State
exchanged s = with_both_flags s s.spare s.flags
