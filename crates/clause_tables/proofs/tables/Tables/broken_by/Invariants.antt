use Rattle.std.proofs.Common.{◌≡◌, ℕ, ◌&&◌, ◌||◌}
use Rattle.terms.specs.Masks.{member}
use Rattle.terms.specs.Sets.{fits}
use Rattle.clause_tables.proofs.Breaking.{broken_in}
use Rattle.clause_tables.proofs.tables.Tables.broken_by.Given as goal

-- the set with what is still to come is all that is broken
abbrev pub invariant-loop-clause : goal.invariant-loop-clause
invariant-loop-clause l = (j : ℕ) → (member l.broken j || (broken_in l.clause-iterator l.assignment j && fits j))
    ≡ (broken_in l.self.entries l.assignment j && fits j)
