use Rattle.std.proofs.Common.{◌≡◌}
use Rattle.maker_branch.specs.Loads.{BearIn}
use Rattle.maker_branch.proofs.lower_bounds.LowerBound.of.Given as goal

-- the loads are those of the branch
abbrev pub invariant-loop : goal.invariant-loop
invariant-loop g l = (l.bound.base ≡ l.fn.base) × BearIn g.W.WeightKind.kind l.store l.branch l.bound.loads
