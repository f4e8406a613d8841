use Rattle.maker_branch.proofs.SetLaws.{below_with}
use Rattle.maker_branch.proofs.branches.Branch.with.Goals as goal

pub invariant_of-result-clause-chosen_fit : goal.invariant_of-result-clause-chosen_fit
invariant_of-result-clause-chosen_fit c = below_with c.args.self.now.chosen c.insert.result c.args.number c.insert.ensures c.args.self.now.chosen_fit
