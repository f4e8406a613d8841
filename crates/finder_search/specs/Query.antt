-- What the search is asked: for a model of a table's hard clauses and a set of its soft ones.
use Rattle.std.specs.Prelude.{◌≡◌, ℕ, true, List}
use Rattle.terms.specs.Clauses.{Assignment}
use Rattle.clause_tables.specs.Table.{Table}
use Rattle.clause_tables.specs.Wanted.{all_met}

pub record Query : Type 0 where
  pub table : Table
  -- the soft clauses that are asked for
  pub set : ℕ

abbrev pub asking : Table → ℕ → Query
asking table set = record { table = table; set = set }

-- the assignment satisfies the hard clauses and the soft ones of the set
abbrev pub Satisfies : Table → ℕ → List ℕ → Type 0
Satisfies t set a = Assignment t.n a × (all_met set a t.entries ≡ true)
