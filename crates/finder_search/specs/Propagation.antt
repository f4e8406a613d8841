-- What always holds of a trail, and what propagation comes to: no clause is left broken or unit.
use Rattle.std.specs.Prelude.{◌≡◌, ℕ, ◌<◌, Bool, true, false, not, ◌||◌, List, length, ℤ, Some, Ok, Err, Result, ◌==◌, nat_lt, slice_get}
use Rattle.std.specs.List.{filter, list_any}
use Rattle.terms.specs.Clauses.{bad_literal}
use Rattle.clause_tables.specs.Entries.{Entry, IsProper}
use Rattle.clause_tables.specs.Table.{Table}
use Rattle.clause_tables.specs.Wanted.{wanted, met, all_met}
use Rattle.finder_search.specs.ClauseStatus.{is_true}
use Rattle.finder_search.specs.Literals.{negated}
use Rattle.finder_search.specs.Occurrences.{occurs, occurs_in}
use Rattle.finder_search.specs.Query.{Query}
use Rattle.finder_search.specs.Reasons.{Backed, Excludes}
use Rattle.finder_search.specs.Trail.{Extends, decisions, is_unassigned, slot_at, unset}
use Rattle.finder_search.specs.declared.reasons.Reason.{Reason}
use Rattle.finder_search.specs.declared.trail.Slot.{Slot}

-- each implied value is backed by its reason
pub record Sound (q : Query) (ss : List Slot) : Type 0 where
  pub wide : length ss ≡ q.table.n
  pub backed : (v : ℕ) → v < length ss → Backed q (decisions ss) v (slot_at ss v)

-- ---- clauses of the table
-- whoever meets all clauses of the table meets this one
abbrev pub Entails : Table → Entry → Type 0
Entails t e = (set : ℕ) → (a : List ℕ) → all_met set a t.entries ≡ true → met set a e.kind e.clause ≡ true

-- the entry has proper literals, and is satisfied wherever all clauses of the table are
abbrev pub Belongs : Table → Entry → Type 0
Belongs t e = IsProper t.n e × Entails t e

-- the clause is one of those that a model has to satisfy
abbrev pub IsAsked : Query → Entry → Type 0
IsAsked q e = Belongs q.table e × (wanted q.set e.kind ≡ true)

-- ---- quiet clauses
-- a clause that is wanted has a true literal
abbrev pub is_met : Query → List Slot → Entry → Bool
is_met q ss e = not (wanted q.set e.kind) || list_any (is_true ss) e.clause

abbrev pub is_several : List ℤ → Bool
is_several ls = nat_lt 1 (length ls)

-- a clause that is wanted is neither broken nor unit: it has a true literal, or several without a value
abbrev pub is_quiet : Query → List Slot → Entry → Bool
is_quiet q ss e = is_met q ss e || is_several (filter (is_unassigned ss) e.clause)

-- each clause is quiet but those with a number that is pending
abbrev pub Quiet : Query → (ℕ → Bool) → List Slot → Type 0
Quiet q pending ss =
    (k : ℕ) → (e : Entry) → slice_get q.table.entries k ≡ Some e → pending k ≡ false
    → is_quiet q ss e ≡ true

abbrev pub no_clause : ℕ → Bool
no_clause k = false

abbrev pub one_clause : ℕ → ℕ → Bool
one_clause number k = number == k

abbrev pub each_clause : ℕ → Bool
each_clause k = true

-- the clauses that lose a literal where this one is made true
abbrev pub losing : Query → ℤ → ℕ → Bool
losing q l = occurs q (negated l)

-- ---- propagation
-- clauses stay quiet from ss to ts but those that lose the opposite of the literal
abbrev pub Keeps : Query → ℤ → List Slot → List Slot → Type 0
Keeps q l ss ts =
    (e : Entry) → IsProper q.table.n e → is_quiet q ss e ≡ true → occurs_in (negated l) e ≡ false
    → is_quiet q ts e ≡ true

-- from ss to ts the last literal of a unit clause was made true
pub record ImpliesLast (q : Query) (level : ℕ) (ss ts : List Slot) (e : Entry) (l : ℤ) : Type 0 where
  pub extends : Extends level ss ts
  pub sound : Sound q ts
  pub fewer : unset ts < unset ss
  pub proper : bad_literal q.table.n l ≡ false
  pub keeps : Keeps q l ss ts
  -- the clause itself has a true literal now
  pub own : is_quiet q ts e ≡ true

-- What comes of visiting clauses: they are quiet then, and so are those that were before,
-- unless it is found that there is no model.
abbrev pub Propagated : Query → (ℕ → Bool) → List Slot → Result Unit Reason → List Slot → Type 0
Propagated q visited ss (Ok u) ts =
    (pending : ℕ → Bool) → Quiet q (λ k. pending k || visited k) ss → Quiet q pending ts
Propagated q visited ss (Err r) ts = Excludes q (decisions ss) r

-- what comes of visiting those that lose a literal
abbrev pub PropagatedLiteral : Query → ℤ → List Slot → Result Unit Reason → List Slot → Type 0
PropagatedLiteral q l = Propagated q (losing q l)
