use Rattle.std.proofs.Common.{◌≡◌, true}
use Rattle.std.specs.List.{list_all}
use Rattle.terms.specs.Masks.{member}
use Rattle.maker_branch.specs.Loads.{BearIn}
use Rattle.maker_branch.proofs.loads.Loads.of_chosen.Given as goal

-- the numbers to come are chosen ones, and the loads are those of the branch
abbrev pub invariant-loop-number : goal.invariant-loop-number
invariant-loop-number g l = (list_all (member l.fn.branch.chosen) l.number-iterator ≡ true) × BearIn g.W.WeightKind.kind l.store l.fn.branch l.loads
