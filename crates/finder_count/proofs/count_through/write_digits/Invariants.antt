use Rattle.std.proofs.Common.{◌≡◌, ◌-◌, ◌++◌, length, take}
use Rattle.finder_count.specs.Assignments.{digits}
use Rattle.finder_count.proofs.count_through.write_digits.Given as goal

-- what is written, with the digits of what is left
abbrev pub invariant-loop-byte : goal.invariant-loop-byte
invariant-loop-byte l = (take l.byte-index l.bytes ++ digits (length l.bytes - l.byte-index) l.rest) ≡ digits (length l.fn.bytes) l.number
