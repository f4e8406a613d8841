use Rattle.std.proofs.Common.{rules, refl, ◌∙◌}
use Rattle.std.proofs.lemmas.Bool.{and_from, and_parts, both_ways}
use Rattle.terms.specs.Masks.{intersect, member}
use Rattle.maker_branch.specs.Branches.{in_branch}
use Rattle.maker_branch.proofs.BranchLaws.{in_narrower, in_parts, one_more_out}
use Rattle.terms.proofs.MaskLaws.{subset_self, subset_trans}
use Rattle.maker_branch.proofs.LoadLaws.{bears_fewer}
use Rattle.maker_branch.proofs.SetLaws.{subset_with}
use Rattle.maker_branch.proofs.branch_and_bound.BranchAndBoundMaker.without_dear.Goals as goal

pub loop-number-init : goal.loop-number-init
loop-number-init g c =
    let m = c.args.self.now.store in
    let branch = c.args.branch.now in
    record {
      chosen = refl;
      out = subset_self branch.out;
      dear = λ set h. let parts = and_parts (in_branch m branch set) (intersect branch.out set) h in
          absurd (both_ways (intersect branch.out set) (in_parts m branch set parts.0).2 parts.1);
    }

pub loop-number-preserved-then-is_dear_with : goal.loop-number-preserved-then-is_dear_with
loop-number-preserved-then-is_dear_with g c =
    let m = c.args.self.now.store in
    let branch = c.args.branch.now in
    let narrower = c.loop-number.narrower in
    let without = c.without-narrower.result in
    let so_far = c.loop-number.invariant in
    record {
      chosen = c.without-narrower.ensures.chosen ∙ so_far.chosen;
      out = subset_trans branch.out narrower.out without.out so_far.out (subset_with narrower.out without.out c.in-Some.number c.without-narrower.ensures.out);
      dear = λ set h. let parts = and_parts (in_branch m branch set) (intersect without.out set) h in
          one_more_out m branch narrower without.out c.in-Some.number set so_far.chosen c.without-narrower.ensures.out parts.0 parts.1
          (λ meets. so_far.dear set (and_from (in_branch m branch set) (intersect narrower.out set) parts.0 meets))
          (λ apart has. c.is_dear_with.ensures c.if-is_dear_with.true set (and_from (in_branch m narrower set) (member set c.in-Some.number) apart has));
    }

pub is_dear_with-requires : goal.is_dear_with-requires
is_dear_with-requires g c =
    let K = g.W.WeightKind.kind in
    let m = c.args.self.now.store in
    let branch = c.args.branch.now in
    let narrower = c.loop-number.narrower in
    let so_far = c.loop-number.invariant in
    let bears = bears_fewer K g.met.W.WeightKind.laws m.weights _ _ (in_branch m branch) (in_branch m narrower) (λ set. in_narrower m branch narrower set so_far.chosen so_far.out) c.requires in
    search rules
