use Rattle.std.proofs.Common.{◌≡◌, true, drop}
use Rattle.terms.specs.Masks.{member}
use Rattle.weights.specs.Costs.{cost, cost_from}
use Rattle.weights.proofs.costs.cost_of.Given as goal

-- the total so far can be held, and with the weights that are left it makes up the whole
abbrev pub invariant-loop-number : goal.invariant-loop-number
invariant-loop-number g l =
    let K = g.W.WeightKind.kind in
    record {
      held : K.holds (K.value l.total) ≡ true;
      whole : K.plus (K.value l.total) (cost_from K (drop l.number l.weights) (member l.set) l.number) ≡ cost K l.weights l.set;
    }
