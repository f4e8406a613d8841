-- The clauses of a table in their order, each with its kind.
use Rattle.std.specs.Prelude.{◌≡◌, ℕ, suc, ◌+◌, ◌≤◌, Bool, true, false, ◌&&◌, List, [], ◌∷◌, length, take, drop, All, ℤ, ◌==◌}
use Rattle.std.specs.List.{flat_map, list_all, sum_by}
use Rattle.terms.specs.Clauses.{satisfied_by, bad_literal}
use Rattle.clause_tables.specs.declared.records.Clause.{Clause}
use Rattle.clause_tables.specs.declared.records.ClauseKind.{ClauseKind}
use Rattle.clause_tables.specs.declared.records.ClauseKind.TheVariants.{Hard, Soft}
use Rattle.clause_tables.specs.declared.records.ClauseRecord.{ClauseRecord}

pub record Entry : Type 0 where
  pub kind : ClauseKind
  pub clause : List ℤ

abbrev pub is_soft : ClauseKind → Bool
is_soft Hard = false
is_soft (Soft k) = true

abbrev pub blank : ClauseRecord
blank = record { place = 0; size = 0; kind = Hard }

-- the clause of a record, its literals being a part of the table of literals
abbrev pub entry : List ℤ → ClauseRecord → Entry
entry literals r = record { kind = r.kind; clause = take r.size (drop r.place literals) }

-- the literals of the record's clause are among the first ones, so many
abbrev pub LiesWithin : ℕ → ClauseRecord → Type 0
LiesWithin count r = r.place + r.size ≤ count

-- each literal of the clause is one of the n variables'
abbrev pub IsProper : ℕ → Entry → Type 0
IsProper n e = All (λ l. bad_literal n l ≡ false) e.clause

-- how many literals the clauses have together
abbrev pub literal_count : List Entry → ℕ
literal_count = sum_by (λ e. length e.clause)

-- ---- hard and soft clauses, each in order
abbrev pub hard_part : ClauseKind → List ℤ → List (List ℤ)
hard_part Hard c = c ∷ []
hard_part (Soft k) c = []

abbrev pub soft_part : ClauseKind → List ℤ → List (List ℤ)
soft_part Hard c = []
soft_part (Soft k) c = c ∷ []

abbrev pub hards : List Entry → List (List ℤ)
hards = flat_map (λ e. hard_part e.kind e.clause)

abbrev pub softs : List Entry → List (List ℤ)
softs = flat_map (λ e. soft_part e.kind e.clause)

abbrev pub satisfied_all : List (List ℤ) → List ℕ → Bool
satisfied_all cs a = list_all (satisfied_by a) cs

-- ---- soft clauses have their numbers in order
-- where so many soft clauses stand before, the next one has that number
abbrev pub well_numbered : ℕ → ClauseKind → Bool
well_numbered before Hard = true
well_numbered before (Soft k) = k == before

abbrev pub softs_after : ℕ → ClauseKind → ℕ
softs_after before Hard = before
softs_after before (Soft k) = suc before

abbrev pub numbered : ℕ → List Entry → Bool
numbered before [] = true
numbered before (e ∷ es) = well_numbered before e.kind && numbered (softs_after before e.kind) es

-- ---- a clause as it is shown
abbrev pub as_entry : Clause → Entry
as_entry c = record { kind = c.kind; clause = c.literals.now }
