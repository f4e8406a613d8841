-- Sets of variables.
use Rattle.std.specs.Prelude.{ℕ, ◌/◌, ◌%◌, Bool, slice_index_or}
use Rattle.terms.specs.Masks.{member}
use Rattle.terms.specs.declared.limits.TheConstants.{SOFT_PLACES}
use Rattle.finder_search.specs.declared.variable_sets.VariableSet.{VariableSet}

-- the variable at index v is in the set, whose parts have so many indices each
unfoldable pub has : VariableSet → ℕ → Bool
has s v = member (slice_index_or s.parts (v / SOFT_PLACES) 0) (v % SOFT_PLACES)
