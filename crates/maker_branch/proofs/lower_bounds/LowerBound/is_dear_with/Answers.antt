use Rattle.std.proofs.Common.{ℕ, sym, ◌∙◌}
use Rattle.terms.specs.Masks.{member}
use Rattle.maker_branch.specs.Branches.{in_branch}
use Rattle.maker_branch.specs.Branches.{in_branch_with}
use Rattle.std.proofs.lemmas.Bool.{and_parts}
use Rattle.maker_branch.proofs.LoadLaws.{bears_fewer, bound_under}
use Rattle.maker_branch.proofs.lower_bounds.LowerBound.is_dear_with.Goals as goal

pub loop-raise-init : goal.loop-raise-init
loop-raise-init g c =
    let K = g.W.WeightKind.kind in
    let m = c.args.store.now in
    let these = in_branch_with m c.args.branch.now c.args.number in
    let parts = λ (set : ℕ). and_parts (in_branch m c.args.branch.now set) (member set c.args.number) in
    c.choose.ensures these (bears_fewer K g.met.W.WeightKind.laws m.weights _ _ (in_branch m c.args.branch.now) these (λ set h. (parts set h).0) c.requires)
    (λ set h. (parts set h).1)

pub loop-raise-preserved-then-not-has : goal.loop-raise-preserved-then-not-has
loop-raise-preserved-then-not-has g c =
    let m = c.args.store.now in
    c.raise.ensures (in_branch_with m c.args.branch.now c.args.number) c.loop-raise.invariant
    (λ set h. c.in-Some-left_of.ensures set (and_parts (in_branch m c.args.branch.now set) (member set c.args.number) h).0)

pub returns : goal.returns
returns g c e set h =
    let K = g.W.WeightKind.kind in
    bound_under K g.met.W.WeightKind.laws c.args.store.now.weights _ _ (in_branch_with c.args.store.now c.args.branch.now c.args.number) set _ c.loop-raise.invariant h
    (sym c.reaches.ensures ∙ e)
