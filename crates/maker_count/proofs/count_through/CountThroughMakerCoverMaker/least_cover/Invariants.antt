use Rattle.std.proofs.Common.{◌≡◌, ℕ, ◌<◌, true}
use Rattle.weights.specs.Costs.{cost}
use Rattle.makers.specs.Covers.{is_cover}
use Rattle.maker_count.proofs.count_through.CountThroughMakerCoverMaker.least_cover.Given as goal

-- a cover, and none that was tried costs less
abbrev pub invariant-loop-mask : goal.invariant-loop-mask
invariant-loop-mask g l =
    let K = g.W.WeightKind.kind in
    record {
      covers : is_cover l.self.store l.least ≡ true;
      least : (other : ℕ) → other < l.mask → is_cover l.self.store other ≡ true → K.le (cost K l.self.store.weights l.least) (cost K l.self.store.weights other) ≡ true;
    }
