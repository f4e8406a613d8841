use Rattle.std.proofs.Common.{◌≡◌, true, ◌-◌, ◌^◌, length}
use Rattle.terms.specs.Masks.{below}
use Rattle.terms.specs.declared.limits.TheConstants.{SOFT_PLACES}
use Rattle.maker_branch.proofs.greedy.greedy.Given as goal

-- given numbers are chosen, and none is left out
abbrev pub invariant-loop-number : goal.invariant-loop-number
invariant-loop-number g l = (below (length l.store.weights) l.branch.chosen ≡ true) × (l.branch.out ≡ 0)

-- a number more is chosen each time
abbrev pub decreases-loop-number : goal.decreases-loop-number
decreases-loop-number g l = 2 ^ SOFT_PLACES - l.branch.chosen
