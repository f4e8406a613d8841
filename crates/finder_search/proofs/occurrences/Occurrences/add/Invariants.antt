use Rattle.std.proofs.Common.{◌≡◌, ℕ, ◌+◌, ◌&&◌, ◌||◌, false, take, ℤ, ◌==◌}
use Rattle.std.specs.List.{list_any}
use Rattle.std.specs.Ordering.{int_eq}
use Rattle.terms.specs.Clauses.{bad_literal}
use Rattle.finder_search.specs.Occurrences.{has_number, numbers_with}
use Rattle.terms.specs.declared.limits.TheConstants.{MOST_VARIABLES}
use Rattle.finder_search.proofs.occurrences.Occurrences.add.Given as goal

-- so far the literals before this one are added
abbrev pub invariant-loop-literal : goal.invariant-loop-literal
invariant-loop-literal l =
    (l.self.used ≡ l.fn.self.used + l.literal-index)
    × ((x : ℤ) → bad_literal MOST_VARIABLES x ≡ false → (k : ℕ) → has_number (numbers_with l.self x) k
    ≡ (has_number (numbers_with l.fn.self x) k || (l.number == k && list_any (λ y. int_eq y x) (take l.literal-index l.literal-items))))
