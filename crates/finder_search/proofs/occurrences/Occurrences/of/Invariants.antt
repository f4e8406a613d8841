use Rattle.finder_search.proofs.Occurring.{Coming}
use Rattle.finder_search.specs.Query.{asking}
use Rattle.finder_search.proofs.occurrences.Occurrences.of.Given as goal

-- the clauses before those that are still to come are told
abbrev pub invariant-loop-clause : goal.invariant-loop-clause
invariant-loop-clause l = Coming (asking l.tables l.set) l.number l.occurrences l.clause-iterator
