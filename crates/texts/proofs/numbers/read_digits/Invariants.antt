use Rattle.std.proofs.Common.{◌≡◌, drop}
use Rattle.texts.specs.Numbers.{with_digits}
use Rattle.texts.proofs.numbers.read_digits.Given as goal

-- the digits that are left, after the number so far
abbrev pub invariant-loop-byte : goal.invariant-loop-byte
invariant-loop-byte l = with_digits l.most l.n (drop l.byte-index l.digits) ≡ with_digits l.most 0 l.fn.digits
