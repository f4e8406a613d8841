use Rattle.std.proofs.Common.{rules}
use Rattle.bracket.proofs.Bracket.{step_keeps}
use Rattle.jobs.proofs.job.Job.soft.Goals as goal

pub returns-in-Fresh-clause-bracket : goal.returns-in-Fresh-clause-bracket
returns-in-Fresh-clause-bracket g c = step_keeps g.met.C.Weight.WeightKind.laws _ _ _ _ (search rules)

pub returns-in-Used-clause-bracket : goal.returns-in-Used-clause-bracket
returns-in-Used-clause-bracket g c = step_keeps g.met.C.Weight.WeightKind.laws _ _ _ _ (search (rules))
