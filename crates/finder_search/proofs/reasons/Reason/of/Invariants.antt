use Rattle.std.proofs.Common.{◌≡◌, ℕ, take}
use Rattle.terms.specs.Masks.{member}
use Rattle.finder_search.specs.Reasons.{clause_decisions, clause_softs}
use Rattle.finder_search.specs.VariableSets.{has}
use Rattle.finder_search.proofs.reasons.Reason.of.Given as goal

-- the reason so far is that of the literals so far
abbrev pub invariant-loop-literal : goal.invariant-loop-literal
invariant-loop-literal l =
    ((v : ℕ) → has l.reason.decisions v ≡ clause_decisions l.trail (take l.literal-index l.literal-items) v)
    × ((k : ℕ) → member l.reason.softs k ≡ clause_softs l.trail l.clause.kind (take l.literal-index l.literal-items) k)
