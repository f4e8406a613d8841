-- Which clauses a model has to satisfy.
use Rattle.std.specs.Prelude.{◌≡◌, ℕ, Bool, true, false, not, ◌||◌, List, ℤ}
use Rattle.std.specs.List.{list_all}
use Rattle.terms.specs.Clauses.{satisfied_by, breaks}
use Rattle.terms.specs.Masks.{member}
use Rattle.finders.specs.Meanings.{FinderMeaning}
use Rattle.clause_tables.specs.Entries.{Entry}
use Rattle.clause_tables.specs.declared.records.ClauseKind.{ClauseKind}
use Rattle.clause_tables.specs.declared.records.ClauseKind.TheVariants.{Hard, Soft}

-- a model has to satisfy the hard clauses and the soft ones of the set
abbrev pub wanted : ℕ → ClauseKind → Bool
wanted set Hard = true
wanted set (Soft k) = member set k

-- a clause that is wanted is satisfied
abbrev pub met : ℕ → List ℕ → ClauseKind → List ℤ → Bool
met set a k c = not (wanted set k) || satisfied_by a c

-- each clause is met
abbrev pub all_met : ℕ → List ℕ → List Entry → Bool
all_met set a = list_all (λ e. met set a e.kind e.clause)

-- what an assignment has to meet to be a model
abbrev pub Meets : FinderMeaning → ℕ → List ℕ → Type 0
Meets m set a = (m.admits a ≡ true) × ((k : ℕ) → member set k ≡ true → breaks a m.softs k ≡ false)
