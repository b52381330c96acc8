use Rattle.std.proofs.Common.{◌≡◌, take}
use Rattle.text.specs.Text.{following}
use Rattle.text.specs.Grown.{grown}
use Rattle.line.specs.Lines.{registers_of}
use Rattle.line.proofs.registers.Given as goal

abbrev pub invariant-loop-code : goal.invariant-loop-code
invariant-loop-code l = l.l ≡ grown l.initial.l (following (take l.code (registers_of l.s)))
