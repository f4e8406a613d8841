-- What the tables of a finder show, what that means, and how a clause more changes it.
use Rattle.std.specs.Prelude.{ℕ, ◌-◌, min, List, [], ◌∷◌, ◌++◌, length, ℤ, Option}
use Rattle.terms.specs.declared.refusals.Refusal.{Refusal}
use Rattle.finders.specs.Meanings.{FinderMeaning, fresh, with_hard, with_soft}
use Rattle.finders.specs.Refused.{hard_refused, soft_refused}
use Rattle.clause_tables.specs.Entries.{Entry, hards, softs, satisfied_all, softs_after}
use Rattle.clause_tables.specs.declared.records.ClauseKind.{ClauseKind}
use Rattle.clause_tables.specs.declared.records.ClauseKind.TheVariants.{Hard, Soft}
use Rattle.clause_tables.specs.declared.records.ClauseRecord.{ClauseRecord}
use Rattle.clause_tables.specs.declared.room.Room.{Room}

pub record Table : Type 0 where
  -- the number of variables
  pub n : ℕ
  -- the clauses in the order in which they came
  pub entries : List Entry
  pub free_softs : ℕ
  pub free_clauses : ℕ
  pub free_literals : ℕ

abbrev pub meaning_of : Table → FinderMeaning
meaning_of t = record {
  n = t.n;
  admits = satisfied_all (hards t.entries);
  softs = softs t.entries;
  free_softs = t.free_softs;
  free_clauses = t.free_clauses;
  free_literals = t.free_literals;
}

-- what is made on these tables, in this room
abbrev pub made_in : Room → List ClauseRecord → List ℤ → FinderMeaning
made_in r records literals = fresh r.variables r.softs (min (length records) r.places) (min (length literals) r.places)

-- ---- adding a clause of either kind
abbrev pub with_entry : Table → Entry → Table
with_entry t e = record t {
  entries = t.entries ++ e ∷ [];
  free_softs = t.free_softs - softs_after 0 e.kind;
  free_clauses = t.free_clauses - 1;
  free_literals = t.free_literals - length e.clause;
}

abbrev pub refused_as : ClauseKind → FinderMeaning → List ℤ → Option Refusal
refused_as Hard m c = hard_refused m c
refused_as (Soft k) m c = soft_refused m c

abbrev pub with_clause : ClauseKind → FinderMeaning → List ℤ → FinderMeaning
with_clause Hard m c = with_hard m c
with_clause (Soft k) m c = with_soft m c
