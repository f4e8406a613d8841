use Rattle.std.proofs.Common.{refl}
use Rattle.maker_branch.proofs.BranchLaws.{forced_none, last_forced, none_left}
use Rattle.maker_branch.proofs.SetLaws.{subset_with}
use Rattle.maker_branch.proofs.branches.Branch.with_last.Goals as goal

pub returns-then-intersects-clause-forced : goal.returns-then-intersects-clause-forced
returns-then-intersects-clause-forced c = forced_none c.args.self.now c.args.core

pub returns-in_err-number-clause-none : goal.returns-in_err-number-clause-none
returns-in_err-number-clause-none c h set = none_left c.args.self.now c.args.core c.minus-rest.result set c.minus-rest.ensures (c.in_err-number.ensures.none.0 refl)

pub returns-then-is_empty-clause-forced : goal.returns-then-is_empty-clause-forced
returns-then-is_empty-clause-forced c = record {
  out = c.with.ensures.out;
  chosen = subset_with c.args.self.now.chosen c.with.result.chosen c.in_ok-number.number c.with.ensures.chosen;
  forced = λ set h. last_forced c.args.self.now c.args.core c.minus-rest.result set c.minus-rest.ensures c.in_ok-number.number c.remove.result c.with.result.chosen c.remove.ensures
      (c.if-is_empty.ensures.members.0 refl) c.with.ensures.chosen h;
}

pub returns-else-is_empty-clause-forced : goal.returns-else-is_empty-clause-forced
returns-else-is_empty-clause-forced c = forced_none c.args.self.now c.args.core
