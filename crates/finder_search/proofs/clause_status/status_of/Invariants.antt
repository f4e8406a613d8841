use Rattle.std.proofs.Common.{◌≡◌, false, take}
use Rattle.std.specs.List.{filter, list_any}
use Rattle.finder_search.specs.ClauseStatus.{is_true, left_with}
use Rattle.finder_search.specs.Trail.{is_unassigned}
use Rattle.finder_search.proofs.clause_status.status_of.Given as goal

-- so far no literal is true, and this is how those without a value leave the clause
abbrev pub invariant-loop-literal : goal.invariant-loop-literal
invariant-loop-literal l =
    (list_any (is_true l.trail) (take l.literal-index l.clause) ≡ false)
    × (l.status ≡ left_with (filter (is_unassigned l.trail) (take l.literal-index l.clause)))
