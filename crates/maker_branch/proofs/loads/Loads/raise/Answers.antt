use Rattle.std.proofs.Common.{refl, ◌∙◌}
use Rattle.maker_branch.proofs.Raising.{raising, raised_one, raised_none, raised_all, not_raised}
use Rattle.maker_branch.proofs.loads.Loads.raise.Goals as goal

pub loop-number-init : goal.loop-number-init
loop-number-init g c = (
  refl,
  λ these b meet. rw c.into_iter-number-iterator.ensures.into_iter_gives
      (raising g.W.WeightKind.kind c.args.store.now.weights these c.args.amount c.args.self.now.total c.args.set c.members-number-items.result
      c.args.self.now.loads c.members-number-items.ensures.all meet b),
)

pub returns-then-not-bear : goal.returns-then-not-bear
returns-then-not-bear g c these b meet =
    rw (c.bear.ensures.total ∙ c.loop-number.invariant.0)
    (raised_none g.W.WeightKind.kind g.met.W.WeightKind.laws c.args.store.now.weights these _ _ c.loop-number.self.loads _ c.bear.result c.in-Some.number _ c.if-not-bear.true
    c.bear.ensures.loads (c.loop-number.invariant.1 these b meet))

pub loop-number-preserved : goal.loop-number-preserved
loop-number-preserved g c = (
  c.bear.ensures.total ∙ c.loop-number.invariant.0,
  λ these b meet. raised_one g.W.WeightKind.kind g.met.W.WeightKind.laws c.args.store.now.weights these _ _ c.loop-number.self.loads _ c.bear.result c.in-Some.number _ _
      c.in-Some.ensures.steps c.if-not-bear.false c.bear.ensures.loads (c.loop-number.invariant.1 these b meet),
)

pub returns-in-Some-sum : goal.returns-in-Some-sum
returns-in-Some-sum g c these b meet =
    let K = g.W.WeightKind.kind in
    raised_all K g.met.W.WeightKind.laws c.args.store.now.weights these _ c.args.self.now.total c.loop-number.self.loads c.loop-number.self.loads c.in-Some-sum.total _ _ c.in-None.ensures.steps.0
    c.loop-number.invariant.0 c.in-Some-sum.ensures.1 (c.loop-number.invariant.1 these b meet)

pub returns-in_default : goal.returns-in_default
returns-in_default g c these b meet =
    rw c.loop-number.invariant.0
    (not_raised g.W.WeightKind.kind g.met.W.WeightKind.laws c.args.store.now.weights these _ c.args.self.now.total c.loop-number.self.loads c.loop-number.self.loads _ (c.loop-number.invariant.1 these b meet))
