use Rattle.maker_branch.proofs.SetLaws.{below_with}
use Rattle.maker_branch.proofs.branches.Branch.without.Goals as goal

pub invariant_of-result-clause-out_fit : goal.invariant_of-result-clause-out_fit
invariant_of-result-clause-out_fit c = below_with c.args.self.now.out c.insert.result c.args.number c.insert.ensures c.args.self.now.out_fit
