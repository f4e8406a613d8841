-- What it rests on that a clause is broken or unit, and what a reason says of assignments.
use Rattle.std.specs.Prelude.{◌≡◌, ℕ, Bool, true, false, not, ◌&&◌, ◌||◌, List, ℤ, Some, None, Option, ◌==◌, slice_index, slice_index_or}
use Rattle.std.specs.List.{list_any}
use Rattle.terms.specs.Masks.{member, Subset}
use Rattle.terms.specs.Sets.{fits}
use Rattle.clause_tables.specs.Entries.{Entry}
use Rattle.clause_tables.specs.declared.records.ClauseKind.{ClauseKind}
use Rattle.clause_tables.specs.declared.records.ClauseKind.TheVariants.{Hard, Soft}
use Rattle.finder_search.specs.Literals.{index}
use Rattle.finder_search.specs.Query.{Query, Satisfies}
use Rattle.finder_search.specs.Trail.{slot_at, rests_on_decision, rests_on_soft}
use Rattle.finder_search.specs.VariableSets.{has}
use Rattle.finder_search.specs.declared.reasons.Reason.{Reason}
use Rattle.finder_search.specs.declared.trail.Slot.{Slot}
use Rattle.finder_search.specs.declared.trail.Slot.TheVariants.{Unset, Decided, Implied}
use Rattle.finder_search.specs.declared.variable_sets.VariableSet.{VariableSet}

-- ---- the reason that a clause gives
-- the clause has this soft number
abbrev pub is_number : ClauseKind → ℕ → Bool
is_number Hard k = false
is_number (Soft i) k = i == k && fits k

-- the decisions that the literals of the clause rest on
abbrev pub clause_decisions : List Slot → List ℤ → ℕ → Bool
clause_decisions ss c v = list_any (λ l. rests_on_decision (slot_at ss (index l)) (index l) v) c

-- the soft clauses that they rest on, and the clause itself
abbrev pub clause_softs : List Slot → ClauseKind → List ℤ → ℕ → Bool
clause_softs ss kind c k = is_number kind k || list_any (λ l. rests_on_soft (slot_at ss (index l)) k) c

-- the reason is the clause and what its literals rest on
abbrev pub IsReason : List Slot → Entry → Reason → Type 0
IsReason ss e r =
    ((v : ℕ) → has r.decisions v ≡ clause_decisions ss e.clause v)
    × ((k : ℕ) → member r.softs k ≡ clause_softs ss e.kind e.clause k)

-- both reasons together
abbrev pub IsUnion : Reason → Reason → Reason → Type 0
IsUnion x y r =
    ((v : ℕ) → has r.decisions v ≡ (has x.decisions v || has y.decisions v))
    × ((k : ℕ) → member r.softs k ≡ (member x.softs k || member y.softs k))

-- both, but for the decision of the variable at this index
abbrev pub IsJoined : Reason → Reason → ℕ → Reason → Type 0
IsJoined x y index r =
    ((v : ℕ) → has r.decisions v ≡ ((has x.decisions v || has y.decisions v) && not (index == v)))
    × ((k : ℕ) → member r.softs k ≡ (member x.softs k || member y.softs k))

-- ---- what a reason says
-- whether the variable at index v is 1
abbrev pub bit : List ℕ → ℕ → Bool
bit a v = slice_index a v == 1

abbrev pub Agrees : Option Bool → Bool → Type 0
Agrees None x = Unit {0}
Agrees (Some b) x = x ≡ b

-- the assignment has what was decided for the variables of the set
unfoldable pub Follows : List (Option Bool) → VariableSet → List ℕ → Type 0
Follows ds set a = (v : ℕ) → has set v ≡ true → Agrees (slice_index_or ds v None) (bit a v)

-- no assignment satisfies the reason's soft clauses, all of the set, and follows its decisions
pub record Excludes (q : Query) (ds : List (Option Bool)) (r : Reason) : Type 0 where
  pub among : Subset r.softs q.set
  pub none : (a : List ℕ) → Satisfies q.table r.softs a → Follows ds r.decisions a → ⊥

-- each assignment that satisfies the reason's soft clauses and follows its decisions has the implied value
abbrev pub Backed : Query → List (Option Bool) → ℕ → Slot → Type 0
Backed q ds v Unset = Unit {0}
Backed q ds v (Decided b d) = Unit {0}
Backed q ds v (Implied b d r) =
    Subset r.softs q.set
    × ((a : List ℕ) → Satisfies q.table r.softs a → Follows ds r.decisions a → bit a v ≡ b)
