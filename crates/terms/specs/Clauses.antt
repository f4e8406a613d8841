-- Literals, clauses and assignments.
use Rattle.std.specs.Prelude.{◌≡◌, ℕ, zero, suc, ◌<◌, Bool, true, false, not, ◌&&◌, ◌||◌, List, [], length, ℤ, pos, negsuc, Some, None, Option, ◌==◌, nat_lt, slice_index, slice_index_or, position}
use Rattle.std.specs.List.{list_all, list_any}

-- each byte is 0 or 1
abbrev pub binary : List ℕ → Bool
binary a = list_all (λ b. nat_lt b 2) a

-- the same told by indices
abbrev pub Binary : List ℕ → Type 0
Binary a = (k : ℕ) → k < length a → slice_index a k < 2

-- an assignment gives each of n variables 0 or 1
abbrev pub Assignment : ℕ → List ℕ → Type 0
Assignment n a = (length a ≡ n) × (binary a ≡ true)

-- Literal v is true where variable v is 1, literal -v where it is 0; the value of variable v stands at index v - 1.
-- No assignment makes the literal 0 true, or one of a variable that it has no value for.
abbrev pub true_in : List ℕ → ℤ → Bool
true_in a (pos zero) = false
true_in a (pos (suc k)) = slice_index a k == 1
true_in a (negsuc k) = slice_index_or a k 1 == 0

-- at least one literal is true
abbrev pub satisfied_by : List ℕ → List ℤ → Bool
satisfied_by a c = list_any (true_in a) c

-- the same told by indices: the literal at some index is true
abbrev pub Satisfied : List ℕ → List ℤ → Type 0
Satisfied a c = (k : ℕ) × (k < length c) × (true_in a (slice_index_or c k (pos 0)) ≡ true)

-- k is the number of a clause that the assignment breaks
abbrev pub breaks : List ℕ → List (List ℤ) → ℕ → Bool
breaks a cs k = nat_lt k (length cs) && not (satisfied_by a (slice_index_or cs k []))

abbrev pub variable : ℤ → ℕ
variable (pos v) = v
variable (negsuc k) = suc k

-- a literal that is 0 or whose variable is above n
abbrev pub bad_literal : ℕ → ℤ → Bool
bad_literal n l = variable l == 0 || nat_lt n (variable l)

-- the index of the first bad literal of a clause
abbrev pub first_bad : ℕ → List ℤ → Option ℕ
first_bad n c = position (bad_literal n) c

-- the same told by indices: no literal is bad, or the one at an index is and none before it
abbrev pub FirstBad : ℕ → List ℤ → Option ℕ → Type 0
FirstBad n c None = (k : ℕ) → k < length c → bad_literal n (slice_index_or c k (pos 0)) ≡ false
FirstBad n c (Some i) =
    (i < length c) × (bad_literal n (slice_index_or c i (pos 0)) ≡ true) × ((k : ℕ) → k < i → bad_literal n (slice_index_or c k (pos 0)) ≡ false)
