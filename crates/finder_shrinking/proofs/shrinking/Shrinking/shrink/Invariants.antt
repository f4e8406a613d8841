use Rattle.std.proofs.Common.{◌≡◌, ℕ, ◌<◌, true}
use Rattle.terms.specs.Masks.{member, Subset}
use Rattle.finders.specs.Questions.{Core}
use Rattle.finder_shrinking.specs.Shrinking.{Needed}
use Rattle.finder_shrinking.proofs.shrinking.Shrinking.shrink.Given as goal

-- a core within the first one, in which the members that were tried are needed
abbrev pub invariant-loop-number : goal.invariant-loop-number
invariant-loop-number g l =
    Core (g.F.Finder.meaning l.self) l.small × Subset l.small l.initial.small
    × ((k : ℕ) → k < l.number → member l.small k ≡ true → Needed (g.F.Finder.meaning l.self) l.small k)
