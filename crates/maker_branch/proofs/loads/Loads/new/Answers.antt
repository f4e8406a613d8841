use Rattle.terms.specs.declared.limits.TheConstants.{SOFT_PLACES}
use Rattle.maker_branch.proofs.LoadLaws.{nothing_borne}
use Rattle.maker_branch.proofs.loads.Loads.new.Goals as goal

pub returns : goal.returns
returns g c weights these = nothing_borne g.W.WeightKind.kind g.met.W.WeightKind.laws weights SOFT_PLACES c.zero.result c.zero-2.result these c.zero.ensures c.zero-2.ensures
