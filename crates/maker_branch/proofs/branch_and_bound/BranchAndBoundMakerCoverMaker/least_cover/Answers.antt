use Rattle.maker_branch.proofs.BestLaws.{best_of_all}
use Rattle.maker_branch.proofs.branch_and_bound.BranchAndBoundMakerCoverMaker.least_cover.Goals as goal

pub returns : goal.returns
returns g c =
    best_of_all g.W.WeightKind.kind g.met.W.WeightKind.laws c.args.self.now.store c.all.result c.cover.result c.narrow.result c.all.ensures.chosen c.all.ensures.out c.narrow.ensures
