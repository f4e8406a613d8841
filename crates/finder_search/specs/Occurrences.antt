-- In which clauses of the table a literal occurs, and how that is listed.
use Rattle.std.specs.Prelude.{◌≡◌, ℕ, zero, suc, Bool, false, ◌&&◌, ◌||◌, if◌then◌else◌, List, [], ◌∷◌, length, reverse, take, ℤ, ◌==◌, slice_index}
use Rattle.std.specs.List.{list_any}
use Rattle.std.specs.Ordering.{int_eq}
use Rattle.terms.specs.Clauses.{bad_literal}
use Rattle.terms.specs.declared.limits.TheConstants.{MOST_VARIABLES}
use Rattle.clause_tables.specs.Entries.{Entry}
use Rattle.clause_tables.specs.Wanted.{wanted}
use Rattle.finder_search.specs.Literals.{row}
use Rattle.finder_search.specs.Query.{Query}
use Rattle.finder_search.specs.declared.occurrences.Node.{Node}
use Rattle.finder_search.specs.declared.occurrences.Occurrences.{Occurrences}

-- the literal is one of the clause's
abbrev pub occurs_in : ℤ → Entry → Bool
occurs_in l e = list_any (λ x. int_eq x l) e.clause

-- clause number k is wanted for the set, and the literal is one of its
abbrev pub occurs_among : ℕ → ℤ → List Entry → ℕ → Bool
occurs_among set l [] k = false
occurs_among set l (e ∷ es) zero = wanted set e.kind && occurs_in l e
occurs_among set l (e ∷ es) (suc k) = occurs_among set l es k

abbrev pub occurs : Query → ℤ → ℕ → Bool
occurs q l = occurs_among q.set l q.table.entries

-- ---- how it is listed
-- The numbers along a chain of nodes, of which the newest comes first here. The head 0 is that of no node,
-- and that of a node is how many nodes there are up to it.
unfoldable pub chain : List Node → ℕ → List ℕ
chain [] head = []
chain (n ∷ older) head = if head == suc (length older) then n.number ∷ chain older n.next else chain older head

-- the numbers in the literal's chain
unfoldable pub numbers_with : Occurrences → ℤ → List ℕ
numbers_with o l = chain (reverse (take o.used o.nodes)) (slice_index o.heads (row l))

abbrev pub has_number : List ℕ → ℕ → Bool
has_number js k = list_any (λ j. j == k) js

-- the list of each literal has the numbers of the wanted clauses in which it occurs, and no others
abbrev pub Indexed : Query → Occurrences → Type 0
Indexed q o = (l : ℤ) → bad_literal q.table.n l ≡ false → (k : ℕ) → has_number (numbers_with o l) k ≡ occurs q l k

-- the number has come in front of the literal's chain, and the other chains are as they were
abbrev pub PushesNumber : Occurrences → Occurrences → ℤ → ℕ → Type 0
PushesNumber old new x number =
    (l : ℤ) → bad_literal MOST_VARIABLES l ≡ false
    → numbers_with new l ≡ (if int_eq x l then number ∷ numbers_with old l else numbers_with old l)

-- the clause with this number is listed as well, where it is wanted for the set
abbrev pub AddsClause : Occurrences → Occurrences → ℕ → ℕ → Entry → Type 0
AddsClause old new set number e =
    (l : ℤ) → bad_literal MOST_VARIABLES l ≡ false → (k : ℕ)
    → has_number (numbers_with new l) k ≡ (has_number (numbers_with old l) k || (number == k && (wanted set e.kind && occurs_in l e)))
