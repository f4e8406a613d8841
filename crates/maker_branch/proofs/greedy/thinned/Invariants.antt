use Rattle.std.proofs.Common.{◌≡◌, ℕ, true, false}
use Rattle.terms.specs.Masks.{member, subset}
use Rattle.makers.specs.Covers.{is_cover, Needed}
use Rattle.maker_branch.proofs.greedy.thinned.Given as goal

-- part of the cover, and a cover, of which no number that was tried can be spared
abbrev pub invariant-loop-number : goal.invariant-loop-number
invariant-loop-number g l = record {
  covers : is_cover l.store l.thinned ≡ true;
  within : subset l.thinned l.fn.cover ≡ true;
  needed : (k : ℕ) → member l.left k ≡ false → member l.thinned k ≡ true → Needed l.store l.thinned k;
}

-- a number is left out each time
abbrev pub decreases-loop-number : goal.decreases-loop-number
decreases-loop-number g l = l.left
