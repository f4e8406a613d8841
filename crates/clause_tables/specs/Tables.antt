-- What the tables of a finder hold, and what is always so of that.
use Rattle.std.specs.Prelude.{◌≡◌, ◌+◌, ◌-◌, ◌≤◌, false, IsTrue, map, length, All}
use Rattle.terms.specs.Clauses.{bad_literal}
use Rattle.terms.specs.declared.limits.TheConstants.{TABLE_PLACES}
use Rattle.finders.specs.Meanings.{Limited}
use Rattle.clause_tables.specs.Entries.{entry, softs, numbered, literal_count, LiesWithin}
use Rattle.clause_tables.specs.Table.{Table, meaning_of}
use Rattle.clause_tables.specs.declared.tables.Tables.TheInside.{Inside}

abbrev pub table_of : Inside → Table
table_of t = record {
  n = t.n;
  entries = map (entry t.literals.items) t.records.items;
  free_softs = t.limit - t.softs;
  free_clauses = t.records.free;
  free_literals = t.literals.free;
}

pub record IsValid (t : Inside) : Type 0 where
  pub limited : Limited (meaning_of (table_of t))
  -- where a clause begins fits a record
  pub roomy : length t.literals.items + t.literals.free ≤ TABLE_PLACES
  -- the number of a clause fits as well
  pub few : length t.records.items + t.records.free ≤ TABLE_PLACES
  -- the clauses have no more literals than are in use
  pub short : literal_count (table_of t).entries ≤ length t.literals.items
  -- each clause lies within the literals in use
  pub inside : All (LiesWithin (length t.literals.items)) t.records.items
  -- each literal in use is one of the n variables'
  pub proper : All (λ l. bad_literal t.n l ≡ false) t.literals.items
  -- soft clauses have their numbers in order
  pub numbered : IsTrue (numbered 0 (table_of t).entries)
  -- there are as many soft clauses as were counted, and no more than can be
  pub counted : length (softs (table_of t).entries) ≡ t.softs
  pub fitting : t.softs ≤ t.limit
