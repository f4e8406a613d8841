use Rattle.std.proofs.Common.{◌*◌, ◌+◌}
use Rattle.maker_branch.proofs.SetLaws.{undecided}
use Rattle.maker_branch.proofs.branch_and_bound.BranchAndBoundMaker.+narrowing.Given as goal

-- more numbers are chosen or left out
abbrev pub decreases-narrow : goal.decreases-narrow
decreases-narrow g l = 3 * undecided l.branch.now + 2

abbrev pub decreases-cut : goal.decreases-cut
decreases-cut g l = 3 * undecided l.branch.now + 1

abbrev pub decreases-split : goal.decreases-split
decreases-split g l = 3 * undecided l.branch.now
