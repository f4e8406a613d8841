use Rattle.maker_branch.proofs.LoadLaws.{borne}
use Rattle.maker_branch.proofs.loads.Loads.bear.Goals as goal

pub returns-clause-loads : goal.returns-clause-loads
returns-clause-loads g c =
    rw c.note_if_full.ensures.loads
    (borne g.W.WeightKind.kind g.met.W.WeightKind.laws c.args.store.now.weights c.args.self.now.loads c.args.number c.args.amount c.in-Some.load c.in-Some.ensures)
