use Rattle.std.proofs.Common.{◌≡◌, map, take}
use Rattle.finder_search.specs.Trail.{byte_of}
use Rattle.finder_search.proofs.trail.write_model.Given as goal

-- the values so far
abbrev pub invariant-loop-index : goal.invariant-loop-index
invariant-loop-index l = take l.index l.buffer ≡ map byte_of (take l.index l.trail)
