-- How a clause stands under the values that are set.
use Rattle.std.specs.Prelude.{Bool, false, if◌then◌else◌, List, [], ◌∷◌, ℤ, Some, None, Option}
use Rattle.std.specs.List.{filter, list_any}
use Rattle.finder_search.specs.Literals.{index, positive, same}
use Rattle.finder_search.specs.Trail.{slot_at, value_of, is_unassigned}
use Rattle.finder_search.specs.declared.trail.Slot.{Slot}
use Rattle.finder_search.specs.declared.clause_status.ClauseStatus.{ClauseStatus}
use Rattle.finder_search.specs.declared.clause_status.ClauseStatus.TheVariants.{Satisfied, Broken, Unit as UnitClause, Open}

-- whether a literal is true, where its variable has a value
abbrev pub truth : Option Bool → ℤ → Option Bool
truth None l = None
truth (Some b) l = Some (same b (positive l))

abbrev pub is_so : Option Bool → Bool
is_so None = false
is_so (Some b) = b

abbrev pub is_true : List Slot → ℤ → Bool
is_true ss l = is_so (truth (value_of (slot_at ss (index l))) l)

-- the status of a clause without a true literal, by those that have no value
abbrev pub left_with : List ℤ → ClauseStatus
left_with [] = Broken
left_with (l ∷ []) = UnitClause l
left_with (l ∷ k ∷ ls) = Open l

abbrev pub status : List Slot → List ℤ → ClauseStatus
status ss c = if list_any (is_true ss) c then Satisfied else left_with (filter (is_unassigned ss) c)
