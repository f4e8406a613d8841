use Rattle.std.proofs.Common.{rules}
use Rattle.bracket.proofs.Bracket.{opening_has}
use Rattle.jobs.proofs.job.Job.open.Goals as goal

pub returns-clause-bracket : goal.returns-clause-bracket
returns-clause-bracket g c = opening_has g.met.C.Weight.WeightKind.laws (g.F.Finder.meaning c.args.finder) (g.C.CoverMaker.meaning c.args.maker) _ (search rules)
