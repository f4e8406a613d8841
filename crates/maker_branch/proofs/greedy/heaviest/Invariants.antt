use Rattle.std.proofs.Common.{◌≡◌, ℕ, true, eqb}
use Rattle.std.specs.List.{list_any}
use Rattle.terms.specs.Masks.{member}
use Rattle.maker_branch.proofs.greedy.heaviest.Given as goal

-- the heaviest so far is a member, and so are those to come
abbrev pub invariant-loop-number : goal.invariant-loop-number
invariant-loop-number g l = record {
  inside : member l.fn.set l.heaviest ≡ true;
  to_come : (k : ℕ) → list_any (λ j. eqb j k) l.number-iterator ≡ true → member l.fn.set k ≡ true;
}
