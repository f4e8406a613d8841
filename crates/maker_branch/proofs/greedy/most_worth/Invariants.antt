use Rattle.std.proofs.Common.{◌≡◌, ℕ, true, eqb}
use Rattle.std.specs.List.{list_any}
use Rattle.terms.specs.Masks.{member}
use Rattle.maker_branch.proofs.greedy.most_worth.Given as goal

-- the best in hand is open, and so are the numbers to come
abbrev pub invariant-loop-number : goal.invariant-loop-number
invariant-loop-number g l = record {
  inside : member l.hits.left l.best ≡ true;
  to_come : (k : ℕ) → list_any (λ j. eqb j k) l.number-iterator ≡ true → member l.hits.left k ≡ true;
}
