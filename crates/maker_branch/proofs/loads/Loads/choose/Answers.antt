use Rattle.std.proofs.Common.{sym, ◌∙◌}
use Rattle.maker_branch.proofs.BranchLaws.{both_have}
use Rattle.maker_branch.proofs.loads.Loads.choose.Goals as goal

pub returns-then-has : goal.returns-then-has
returns-then-has g c these b h =
    c.raise.ensures these b (λ set t. both_have c.insert-alone.result set c.args.number (sym c.has.ensures ∙ c.if-has.true) (h set t))
