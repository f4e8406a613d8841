use Rattle.std.proofs.Common.{◌≡◌}
use Rattle.maker_branch.proofs.scores.Scores.add.Given as goal

-- the scores alone change
abbrev pub invariant-loop-number : goal.invariant-loop-number
invariant-loop-number l = l.self.left ≡ l.fn.self.left
