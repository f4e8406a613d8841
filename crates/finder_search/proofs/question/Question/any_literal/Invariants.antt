use Rattle.std.proofs.Common.{All}
use Rattle.clause_tables.specs.Entries.{IsProper}
use Rattle.finder_search.proofs.Next.{AllQuiet, MetBefore}
use Rattle.finder_search.specs.Question.{query}
use Rattle.finder_search.proofs.question.Question.any_literal.Given as goal

-- what is known of the clauses to come, and that those before them are met
abbrev pub invariant-loop-clause : goal.invariant-loop-clause
invariant-loop-clause l =
    All (IsProper l.self.tables.now.n) l.clause-iterator
    × AllQuiet (query l.self) l.trail l.clause-iterator
    × MetBefore (query l.self) l.trail l.clause-iterator
