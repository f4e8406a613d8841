use Rattle.maker_branch.specs.Loads.{BearFor}
use Rattle.maker_branch.specs.Branches.{in_branch_with}
use Rattle.maker_branch.proofs.lower_bounds.LowerBound.is_dear_with.Given as goal

-- the loads are those of the covers of the branch that have the number
abbrev pub invariant-loop-raise : goal.invariant-loop-raise
invariant-loop-raise g l = let K = g.W.WeightKind.kind in BearFor K l.store.weights (in_branch_with l.store l.branch l.number) l.loads
