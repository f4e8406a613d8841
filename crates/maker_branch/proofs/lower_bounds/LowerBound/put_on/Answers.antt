use Rattle.maker_branch.specs.Branches.{in_branch}
use Rattle.maker_branch.proofs.lower_bounds.LowerBound.put_on.Goals as goal

pub returns-then-has_room-clause-loads : goal.returns-then-has_room-clause-loads
returns-then-has_room-clause-loads g c b = rw c.keep.ensures.loads (c.raise.ensures (in_branch c.args.store.now c.args.branch.now) b c.in-Some.ensures)
