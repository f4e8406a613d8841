use Rattle.std.proofs.Common.{ℕ, ◌≤◌, refl, arith}
use Rattle.std.proofs.lemmas.List.Elements.{All-replicate}
use Rattle.finder_search.specs.Occurrences.{chain, numbers_with}
use Rattle.finder_search.specs.declared.literals.TheConstants.{LITERAL_ROWS}
use Rattle.finder_search.proofs.occurrences.Occurrences.none.Goals as goal

pub invariant_of-result : goal.invariant_of-result
invariant_of-result c = record { roomy = omega arith; rooted = All-replicate (λ (h : ℕ). h ≤ 0) LITERAL_ROWS 0 (omega arith) }

pub returns-clause-none : goal.returns-clause-none
unfolding numbers_with chain
returns-clause-none c l = refl
