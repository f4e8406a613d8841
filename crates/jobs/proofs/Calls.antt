-- From what the parts answer to what the calls of a job answer.
use Rattle.std.proofs.lemmas.Bool.Decides.{nat_tests}
use Rattle.terms.proofs.MaskLaws.{below_members}
use Rattle.weights.proofs.CostLaws.{broken_charge}

-- the cost of the set that an assignment breaks
pub ruleset cost_laws = (nat_tests, below_members, broken_charge)
