use Rattle.std.proofs.Common.{◌≡◌, ◌++◌, map, take, drop}
use Rattle.finder_search.specs.Trail.{undone}
use Rattle.finder_search.proofs.trail.Trial.drop.Given as goal

-- the trail so far, undone, and the others as they were
abbrev pub invariant-loop-slot : goal.invariant-loop-slot
invariant-loop-slot l = l.trail ≡ (map (undone l.level) (take l.slot-index l.initial.trail) ++ drop l.slot-index l.initial.trail)
