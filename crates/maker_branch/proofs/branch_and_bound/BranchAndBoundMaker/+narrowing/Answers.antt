use Rattle.std.proofs.Common.{refl, rules, sym, ◌∙◌, arith}
use Rattle.std.proofs.lemmas.Bool.{both_ways, false_from_ne_true}
use Rattle.makers.specs.Covers.{is_cover}
use Rattle.maker_branch.specs.Branches.{in_branch}
use Rattle.maker_branch.proofs.BestLaws.{best_alone, best_both, best_bound, best_chosen, best_forced, best_wider}
use Rattle.maker_branch.proofs.BranchLaws.{none_open, open_parts}
use Rattle.maker_branch.proofs.SetLaws.{below_mask, falls_chosen, falls_out, fewer_chosen, greater, grows_with}
use Rattle.maker_branch.proofs.branch_and_bound.BranchAndBoundMaker.+narrowing.Goals as goal

pub narrow-cut-requires : goal.narrow-cut-requires
narrow-cut-requires g t c κs within =
    let forced = c.in-Some.ensures.forced in (
      omega (arith, c.decreases, fewer_chosen c.args.branch.now c.in-Some.forced forced.out forced.chosen),
      (within, (search rules, c.requires.cover)),
    )

pub narrow-returns-in-Some : goal.narrow-returns-in-Some
narrow-returns-in-Some g t c =
    best_forced g.W.WeightKind.kind g.met.W.WeightKind.laws c.args.self.now.store c.args.branch.now c.args.best c.in-Some.forced c.cut.result c.in-Some.ensures.forced c.cut.ensures

pub narrow-returns-in-None : goal.narrow-returns-in-None
narrow-returns-in-None g t c =
    best_alone g.W.WeightKind.kind g.met.W.WeightKind.laws c.args.self.now.store c.args.branch.now c.args.best c.requires.cover (c.in-None.ensures.none refl)

pub cut-returns-then-reaches : goal.cut-returns-then-reaches
cut-returns-then-reaches g t c =
    best_bound g.W.WeightKind.kind g.met.W.WeightKind.laws c.args.self.now.store c.args.branch.now c.args.best c.of_chosen-base.result _ c.requires.cover c.of_chosen-base.ensures
    c.sum-best_cost.ensures (sym c.reaches.ensures ∙ c.if-reaches.true)

pub cut-returns-then-is_cover : goal.cut-returns-then-is_cover
cut-returns-then-is_cover g t c =
    best_chosen g.W.WeightKind.kind g.met.W.WeightKind.laws c.args.self.now.store c.args.branch.now c.args.best c.cheaper.result c.requires.cover
    (sym c.is_cover.ensures ∙ c.if-is_cover.true) c.cheaper.ensures.no_dearer

pub cut-returns-then-reaches-2 : goal.cut-returns-then-reaches-2
cut-returns-then-reaches-2 g t c =
    best_bound g.W.WeightKind.kind g.met.W.WeightKind.laws c.args.self.now.store c.args.branch.now c.args.best c.of-bound.result.loads _ c.requires.cover c.of-bound.ensures.loads
    c.sum-best_cost.ensures (sym c.reaches-2.ensures ∙ c.if-reaches-2.true)

pub cut-narrow-requires : goal.cut-narrow-requires
cut-narrow-requires g t c κs within =
    let branch = c.args.branch.now in
    let narrower = c.without_dear-narrower.result in
    let less = greater branch.out narrower.out c.without_dear-narrower.ensures.out (sym c.is_subset.ensures.value ∙ c.if-not-is_subset.true) in (
      omega (arith, c.decreases, falls_out branch narrower c.without_dear-narrower.ensures.chosen less (below_mask narrower.out narrower.out_fit)),
      (within, (search rules, c.requires.cover)),
    )

pub cut-returns-then-not-is_subset : goal.cut-returns-then-not-is_subset
cut-returns-then-not-is_subset g t c =
    best_wider g.W.WeightKind.kind g.met.W.WeightKind.laws c.args.self.now.store c.args.branch.now c.args.best c.without_dear-narrower.result c.narrow.result c.sum-best_cost.result
    c.sum-best_cost.ensures c.without_dear-narrower.ensures c.narrow.ensures

pub cut-split-requires : goal.cut-split-requires
cut-split-requires g t c κs within = (
  omega (arith, c.decreases),
  (within, (search rules, (sym (c.of-scores.ensures c.in-Some.number) ∙ c.in-Some.ensures.member, c.requires.cover))),
)

pub cut-returns-in-None : goal.cut-returns-in-None
cut-returns-in-None g t c =
    let m = c.args.self.now.store in
    let branch = c.args.branch.now in
    best_alone g.W.WeightKind.kind g.met.W.WeightKind.laws m branch c.args.best c.requires.cover (λ set. false_from_ne_true (in_branch m branch set)
    (λ h. both_ways (is_cover m branch.chosen) (sym c.is_cover.ensures ∙ c.if-is_cover.false)
    (none_open m branch set (λ k. sym (c.of-scores.ensures k) ∙ c.in-None.ensures.none refl k) h)))

pub split-narrow-with-requires : goal.split-narrow-with-requires
split-narrow-with-requires g t c κs within =
    let branch = c.args.branch.now in
    let parts = open_parts c.args.self.now.store branch c.args.number c.args.self.now.limited.3 c.requires.number in
    let grows = grows_with branch.chosen c.with.result.chosen c.args.number c.with.ensures.chosen parts.1 (omega (arith, parts.0, c.args.self.now.limited.0)) branch.chosen_fit in (
      omega (arith, c.decreases, falls_chosen branch c.with.result c.with.ensures.out grows.0 grows.1),
      (within, (search rules, c.requires.cover)),
    )

pub split-narrow-requires : goal.split-narrow-requires
split-narrow-requires g t c κs within =
    let branch = c.args.branch.now in
    let parts = open_parts c.args.self.now.store branch c.args.number c.args.self.now.limited.3 c.requires.number in
    let grows = grows_with branch.out c.without.result.out c.args.number c.without.ensures.out parts.2 (omega (arith, parts.0, c.args.self.now.limited.0)) branch.out_fit in (
      omega (arith, c.decreases, falls_out branch c.without.result c.without.ensures.chosen grows.0 grows.1),
      (within, (search rules, c.narrow-with.ensures.cover)),
    )

pub split-returns : goal.split-returns
split-returns g t c =
    best_both g.W.WeightKind.kind g.met.W.WeightKind.laws c.args.self.now.store c.args.branch.now c.args.best c.args.number c.with.result c.without.result c.narrow-with.result c.narrow.result
    c.with.ensures.chosen c.with.ensures.out c.without.ensures.chosen c.without.ensures.out c.narrow-with.ensures c.narrow.ensures
