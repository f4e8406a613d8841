use Rattle.std.proofs.Common.{length}
use Rattle.std.proofs.lemmas.List.Elements.{All-rest}
use Rattle.clause_tables.specs.Entries.{LiesWithin}
use Rattle.clause_tables.proofs.clauses.ClausesIterator.next.Goals as goal

pub invariant_of-self : goal.invariant_of-self
invariant_of-self c = All-rest (LiesWithin (length c.self.inside.literals.now)) c.in_ok-record.record.now _ _ c.in_ok-record.ensures.cases.0 c.self.invariant
