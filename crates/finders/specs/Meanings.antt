-- What a finder means, and how an accepted clause changes that.
use Rattle.std.specs.Prelude.{ℕ, ◌+◌, ◌-◌, ◌≤◌, Bool, true, ◌&&◌, List, [], ◌∷◌, ◌++◌, length, ℤ}
use Rattle.terms.specs.Clauses.{satisfied_by}
use Rattle.terms.specs.declared.limits.TheConstants.{MOST_VARIABLES, SOFT_PLACES}

pub record FinderMeaning : Type 0 where
  -- the variables are 1 to n
  pub n : ℕ
  -- which assignments of the n variables are admitted
  pub admits : List ℕ → Bool
  -- the soft clauses in order: number k is the one at place k
  pub softs : List (List ℤ)
  pub free_softs : ℕ
  pub free_clauses : ℕ
  pub free_literals : ℕ

-- what holds of every finder: it has not too many variables, nor too many soft places, taken and free
abbrev pub Limited : FinderMeaning → Type 0
Limited m = (m.n ≤ MOST_VARIABLES) × (length m.softs + m.free_softs ≤ SOFT_PLACES)

-- no clause yet, so that every assignment is admitted
abbrev pub fresh : ℕ → ℕ → ℕ → ℕ → FinderMeaning
fresh n soft_places clause_places literal_places = record {
  n = n;
  admits = λ a. true;
  softs = [];
  free_softs = soft_places;
  free_clauses = clause_places;
  free_literals = literal_places;
}

-- the clause has taken a clause place, and as many literal places as it has literals
abbrev pub with_taken : FinderMeaning → List ℤ → FinderMeaning
with_taken m c = record m { free_clauses = m.free_clauses - 1; free_literals = m.free_literals - length c }

-- of the admitted assignments those that satisfy the clause are left
abbrev pub with_hard : FinderMeaning → List ℤ → FinderMeaning
with_hard m c = record (with_taken m c) { admits = λ a. m.admits a && satisfied_by a c }

-- the clause comes last among the soft ones
abbrev pub with_soft : FinderMeaning → List ℤ → FinderMeaning
with_soft m c = record (with_taken m c) { softs = m.softs ++ c ∷ []; free_softs = m.free_softs - 1 }
