use Rattle.std.proofs.Common.{◌≡◌, ◌≤◌, IfSome, length}
use Rattle.finder_search.specs.Trail.{Unassigned}
use Rattle.finder_search.proofs.question.Question.best_literal.Given as goal

-- the clauses that are met stand before those that were visited at, and the open literal is one
abbrev pub invariant-loop-index : goal.invariant-loop-index
invariant-loop-index l = (length l.order ≡ l.index-end) × (l.met ≤ l.index) × (l.index ≤ l.index-end) × IfSome l.«open» (Unassigned l.trail)
