use Rattle.std.proofs.Common.{◌≡◌, take, true}
use Rattle.terms.specs.Clauses.{binary}
use Rattle.terms.proofs.clauses.is_binary.Given as goal

-- the bytes so far are binary
abbrev pub invariant-loop-byte : goal.invariant-loop-byte
invariant-loop-byte l = binary (take l.byte-index l.bytes) ≡ true
