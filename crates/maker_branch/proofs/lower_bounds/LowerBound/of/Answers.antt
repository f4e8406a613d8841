use Rattle.std.proofs.Common.{◌∙◌}
use Rattle.maker_branch.proofs.lower_bounds.LowerBound.of.Goals as goal

pub loop-preserved : goal.loop-preserved
loop-preserved g c = (c.put_on.ensures.base ∙ c.loop.invariant.0, c.put_on.ensures.loads c.loop.invariant.1)
