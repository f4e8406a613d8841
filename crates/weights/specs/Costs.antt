-- The total of all weights, the cost of a set of soft numbers, and the cost of an assignment.
use Rattle.std.specs.Prelude.{ℕ, suc, Bool, if◌then◌else◌, List, [], ◌∷◌, ℤ}
use Rattle.terms.specs.Clauses.{satisfied_by}
use Rattle.terms.specs.Masks.{member}
use Rattle.weights.specs.Kinds.{Kind}

module _ {W : Type 0} (K : Kind W) where
  -- the sum of all weights
  abbrev pub total : List W → K.V
  total [] = K.zero
  total (w ∷ ws) = K.plus (K.value w) (total ws)

  -- the sum of the weights at the numbers that p picks, the first weight having the number i
  abbrev pub cost_from : List W → (ℕ → Bool) → ℕ → K.V
  cost_from [] p i = K.zero
  cost_from (w ∷ ws) p i = K.plus (if p i then K.value w else K.zero) (cost_from ws p (suc i))

  -- the cost of a set, given by its mask
  abbrev pub cost : List W → ℕ → K.V
  cost ws m = cost_from ws (member m) 0

  -- the cost of an assignment: of soft clauses with their weights, the sum of the weights of those that it breaks
  abbrev pub charge : List (W × List ℤ) → List ℕ → K.V
  charge [] a = K.zero
  charge (s ∷ softs) a = K.plus (if satisfied_by a s.1 then K.zero else K.value s.0) (charge softs a)
