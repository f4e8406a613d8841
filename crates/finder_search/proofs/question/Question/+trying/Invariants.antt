use Rattle.std.proofs.Common.{◌*◌, ◌+◌}
use Rattle.finder_search.specs.Trail.{unset}
use Rattle.finder_search.proofs.question.Question.+trying.Given as goal

-- the variables without a value become fewer
abbrev pub decreases-try_next : goal.decreases-try_next
decreases-try_next l = 5 * unset l.trail.now + 4

abbrev pub decreases-split : goal.decreases-split
decreases-split l = 5 * unset l.trail.now + 3

abbrev pub decreases-try_opposite : goal.decreases-try_opposite
decreases-try_opposite l = 5 * unset l.trail.now + 2

abbrev pub decreases-try_literal : goal.decreases-try_literal
decreases-try_literal l = 5 * unset l.trail.now + 1

abbrev pub decreases-propagate_decision : goal.decreases-propagate_decision
decreases-propagate_decision l = 5 * unset l.trail.now + 5
