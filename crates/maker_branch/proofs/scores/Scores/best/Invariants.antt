use Rattle.std.proofs.Common.{◌≡◌, ℕ, ◌≤◌, true, false, eqb}
use Rattle.std.specs.Prelude.{slice_index_or}
use Rattle.std.specs.List.{list_any}
use Rattle.terms.specs.Masks.{member}
use Rattle.maker_branch.proofs.scores.Scores.best.Given as goal

-- the best in hand is open, and so are the numbers to come; the others have no higher score
abbrev pub invariant-loop-number : goal.invariant-loop-number
invariant-loop-number l = record {
  inside : member l.self.left l.best ≡ true;
  to_come : (k : ℕ) → list_any (λ j. eqb j k) l.number-iterator ≡ true → member l.self.left k ≡ true;
  most : (k : ℕ) → member l.self.left k ≡ true → list_any (λ j. eqb j k) l.number-iterator ≡ false
      → slice_index_or l.self.scores k 0 ≤ slice_index_or l.self.scores l.best 0;
}
