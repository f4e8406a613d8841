use Rattle.std.proofs.Common.{length, refl, arith, ◌∙◌}
use Rattle.maker_branch.proofs.BranchLaws.{open_parts}
use Rattle.maker_branch.proofs.GreedyLaws.{given, met}
use Rattle.maker_branch.proofs.SetLaws.{below_none, grows_with}
use Rattle.maker_branch.proofs.greedy.greedy.Goals as goal

pub loop-number-init : goal.loop-number-init
loop-number-init g c = (below_none (length c.args.store.now.weights) c.all-branch.result.chosen c.all-branch.ensures.chosen, c.all-branch.ensures.out)

pub loop-number-smaller : goal.loop-number-smaller
loop-number-smaller g c =
    let branch = c.loop-number.branch in
    let parts = open_parts c.args.store.now branch c.in-Some.number c.requires.3 c.in-Some.ensures.member in
    let grows = grows_with branch.chosen c.with-branch.result.chosen c.in-Some.number c.with-branch.ensures.chosen parts.1 (omega (arith, parts.0, c.requires.0)) branch.chosen_fit in
    omega (arith, grows)

pub loop-number-preserved : goal.loop-number-preserved
loop-number-preserved g c =
    let branch = c.loop-number.branch in (
      given (length c.args.store.now.weights) branch.chosen c.loop-number.invariant.0 c.with-branch.result.chosen c.in-Some.number c.with-branch.ensures.chosen
          (open_parts c.args.store.now branch c.in-Some.number c.requires.3 c.in-Some.ensures.member).0,
      c.with-branch.ensures.out ∙ c.loop-number.invariant.1,
    )

pub returns : goal.returns
returns g c = met c.args.store.now c.loop-number.branch c.requires.3 c.loop-number.invariant.0 c.loop-number.invariant.1 (c.in_default.ensures.none refl)
