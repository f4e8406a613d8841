use Rattle.std.proofs.Common.{arith, below_more}
use Rattle.finder_shrinking.proofs.Sparing.{needed_in_less}
use Rattle.finder_shrinking.proofs.shrinking.Shrinking.shrink.Goals as goal

pub loop-number-preserved : goal.loop-number-preserved
loop-number-preserved g c =
    let less = c.spare-small.ensures in (
      less.core,
      (λ j h. c.loop-number.invariant.1 j (less.within j h)),
      below_more _ _
          (λ k l h. needed_in_less _ _ c.spare-small.result k less.within (c.loop-number.invariant.2 k l (less.within k h)))
          less.needed,
    )

pub returns-clause-minimal : goal.returns-clause-minimal
returns-clause-minimal g c k h =
    let count = rw c.self.view_is at c.soft_count-number-end.ensures in
    c.loop-number.invariant.2 k (omega (arith, c.loop-number.invariant.0.given k h, count)) h
