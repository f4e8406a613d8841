use Rattle.std.proofs.Common.{◌≡◌, ◌<◌, ◌/◌, ◌^◌}
use Rattle.maker_branch.specs.Multiples.{times}
use Rattle.maker_branch.proofs.multiples.times.Given as goal

-- the weight as many times as the binary digits of the count say that were read
abbrev pub invariant-loop-digit : goal.invariant-loop-digit
invariant-loop-digit g l =
    let K = g.W.WeightKind.kind in
    l.count < 2 ^ 10 → K.value l.product ≡ times K (K.value l.weight) (l.count / 2 ^ l.digit)
