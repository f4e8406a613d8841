use Rattle.std.proofs.Common.{◌*◌, ◌+◌}
use Rattle.finder_search.specs.Occurrences.{has_number}
use Rattle.finder_search.specs.Propagation.{Sound, losing}
use Rattle.finder_search.specs.Trail.{unset, Extends}
use Rattle.finder_search.proofs.Visiting.{Visited}
use Rattle.finder_search.specs.Question.{query}
use Rattle.finder_search.proofs.question.Question.+propagating.Given as goal

-- the variables without a value become fewer
abbrev pub decreases-propagate : goal.decreases-propagate
decreases-propagate l = 2 * unset l.trail.now + 1

abbrev pub decreases-visit : goal.decreases-visit
decreases-visit l = 2 * unset l.trail.now

-- values were implied, and the clauses visited at are quiet
abbrev pub invariant-propagate-loop-number : goal.invariant-propagate-loop-number
invariant-propagate-loop-number l =
    Extends l.level l.fn.trail l.trail
    × Sound (query l.self) l.trail
    × Visited (query l.self) (losing (query l.self) l.fn.literal) (has_number l.number-iterator) l.fn.trail l.trail
