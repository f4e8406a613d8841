use Rattle.maker_branch.specs.Branches.{in_branch, Forced}
use Rattle.maker_branch.proofs.branch_and_bound.BranchAndBoundMaker.with_forced.Given as goal

-- the chosen numbers, and others that every cover of the branch has
abbrev pub invariant-loop-core : goal.invariant-loop-core
invariant-loop-core g l = Forced (in_branch l.self.store l.fn.branch) l.fn.branch l.forced
