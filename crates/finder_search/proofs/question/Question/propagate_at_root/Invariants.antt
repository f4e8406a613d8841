use Rattle.finder_search.specs.Propagation.{Sound, each_clause}
use Rattle.finder_search.specs.Trail.{Extends}
use Rattle.finder_search.proofs.Visiting.{Visited, from_on}
use Rattle.finder_search.specs.Question.{query}
use Rattle.finder_search.proofs.question.Question.propagate_at_root.Given as goal

-- values were implied, and the clauses visited at are quiet
abbrev pub invariant-loop-number : goal.invariant-loop-number
invariant-loop-number l =
    Extends 0 l.fn.trail l.trail × Sound (query l.self) l.trail × Visited (query l.self) each_clause (from_on l.number) l.fn.trail l.trail
