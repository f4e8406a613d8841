use Rattle.terms.specs.Masks.{member}
use Rattle.maker_branch.specs.Branches.{in_branch}
use Rattle.maker_branch.proofs.BranchLaws.{chosen_has}
use Rattle.maker_branch.proofs.SetLaws.{all_listed, next_passes}
use Rattle.maker_branch.proofs.loads.Loads.of_chosen.Goals as goal

pub loop-number-init : goal.loop-number-init
loop-number-init g c = (
  rw c.into_iter-number-iterator.ensures.into_iter_gives (all_listed (member c.args.branch.now.chosen) c.members-number-items.result c.members-number-items.ensures.all),
  c.new-loads.ensures c.args.store.now.weights (in_branch c.args.store.now c.args.branch.now),
)

pub loop-number-preserved : goal.loop-number-preserved
loop-number-preserved g c =
    let next = next_passes (member c.args.branch.now.chosen) c.in-Some.number _ _ c.in-Some.ensures.steps c.loop-number.invariant.0 in (
      next.1,
      c.choose.ensures (in_branch c.args.store.now c.args.branch.now) c.loop-number.invariant.1 (λ set h. chosen_has c.args.store.now c.args.branch.now set c.in-Some.number next.0 h),
    )
