use Rattle.std.proofs.Common.{◌≤◌}
use Rattle.terms.specs.declared.limits.TheConstants.{TABLE_PLACES}
use Rattle.finder_search.proofs.order.short_first.Given as goal

-- the short clauses stand before those that were gone over
abbrev pub invariant-loop-number : goal.invariant-loop-number
invariant-loop-number l = (l.short ≤ l.number) × (l.number ≤ l.count) × (l.count ≤ TABLE_PLACES)
