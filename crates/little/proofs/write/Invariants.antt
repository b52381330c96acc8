-- What is written already and what is left make up the bytes of `v`.
use Rattle.std.proofs.Common.{◌≡◌, ◌-◌, ◌++◌, length, take}
use Rattle.little.specs.Bytes.{bytes_from}
use Rattle.little.proofs.write.Given as goal

abbrev pub invariant-loop-byte : goal.invariant-loop-byte
invariant-loop-byte l =
    take l.byte-index l.part ++ bytes_from (length l.part - l.byte-index) l.rest ≡ bytes_from (length l.initial.part) l.v
