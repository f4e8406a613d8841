use Rattle.finder_search.specs.Trail.{Unassigned}
use Rattle.finder_search.proofs.scores.Scores.best.Given as goal

-- the best so far is of an unset variable
abbrev pub invariant-loop-index : goal.invariant-loop-index
invariant-loop-index l = Unassigned l.trail l.best
