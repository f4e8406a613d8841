use Rattle.std.proofs.Common.{refl, ◌∙◌}
use Rattle.std.proofs.lemmas.Bool.{both_ways, false_from_ne_true}
use Rattle.maker_branch.specs.Branches.{in_branch, meets_in}
use Rattle.maker_branch.proofs.BranchLaws.{in_parts, met_in_branch}
use Rattle.terms.proofs.MaskLaws.{subset_self, subset_trans}
use Rattle.maker_branch.proofs.branch_and_bound.BranchAndBoundMaker.with_forced.Goals as goal

pub loop-core-init : goal.loop-core-init
loop-core-init g c = record { out = refl; chosen = subset_self c.args.branch.now.chosen; forced = λ set h. (in_parts c.args.self.now.store c.args.branch.now set h).1 }

pub loop-core-preserved : goal.loop-core-preserved
loop-core-preserved g c =
    let so_far = c.loop-core.invariant in
    let last = c.in_ok-forced.ensures.forced in
    record {
      out = last.out ∙ so_far.out;
      chosen = subset_trans c.args.branch.now.chosen c.loop-core.forced.chosen c.in_ok-forced.forced.chosen so_far.chosen last.chosen;
      forced = λ set h. last.forced set
          (met_in_branch c.args.self.now.store c.cores-core-items.result.now c.args.branch.now c.loop-core.forced c.loop-core.core-index c.core-item.result set c.cores-core-items.ensures
          c.loop-core-test.true c.core-item.is h so_far.out (so_far.forced set h));
    }

pub returns-in_err-forced-clause-none : goal.returns-in_err-forced-clause-none
returns-in_err-forced-clause-none g c h set =
    let m = c.args.self.now.store in
    let so_far = c.loop-core.invariant in
    false_from_ne_true (in_branch m c.args.branch.now set)
    (λ i. both_ways (meets_in c.loop-core.forced c.core-item.result set) (c.in_err-forced.ensures.none refl set)
    (met_in_branch m c.cores-core-items.result.now c.args.branch.now c.loop-core.forced c.loop-core.core-index c.core-item.result set c.cores-core-items.ensures c.loop-core-test.true
    c.core-item.is i so_far.out (so_far.forced set i)))
