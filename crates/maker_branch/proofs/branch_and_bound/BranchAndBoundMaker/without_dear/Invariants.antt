use Rattle.maker_branch.specs.Narrowing.{LeftOut}
use Rattle.maker_branch.proofs.branch_and_bound.BranchAndBoundMaker.without_dear.Given as goal

-- numbers are left out with which no cover of the branch costs less than the best
abbrev pub invariant-loop-number : goal.invariant-loop-number
invariant-loop-number g l = let K = g.W.WeightKind.kind in LeftOut K l.self.store l.fn.branch (K.value l.best_cost) l.narrower
