use Rattle.std.proofs.Common.{◌≡◌, ℕ, not, ◌&&◌, take}
use Rattle.std.specs.List.{list_any}
use Rattle.terms.specs.Masks.{member}
use Rattle.maker_branch.specs.Scores.{open_with}
use Rattle.maker_branch.proofs.scores.Scores.of.Given as goal

-- the numbers left are those of the open cores so far
abbrev pub invariant-loop-core : goal.invariant-loop-core
invariant-loop-core g l =
    (k : ℕ) → member l.scores.left k ≡ (list_any (open_with l.branch.chosen k) (take l.core-index l.core-items) && not (member l.branch.out k))
