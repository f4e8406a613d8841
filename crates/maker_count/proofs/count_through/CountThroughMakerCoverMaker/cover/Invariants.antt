use Rattle.std.proofs.Common.{◌≡◌, ℕ, ◌<◌, true}
use Rattle.terms.specs.Masks.{member}
use Rattle.makers.specs.Covers.{is_cover, Needed}
use Rattle.maker_count.proofs.count_through.CountThroughMakerCoverMaker.cover.Given as goal

-- a cover, of which no number that was tried can be spared
abbrev pub invariant-loop-number : goal.invariant-loop-number
invariant-loop-number g l = record {
  covers : is_cover l.self.store l.cover ≡ true;
  needed : (k : ℕ) → k < l.number → member l.cover k ≡ true → Needed l.self.store l.cover k;
}
