use Rattle.terms.proofs.MaskLaws.{subset_trans}
use Rattle.maker_branch.proofs.Thinning.{fewer, tried}
use Rattle.maker_branch.proofs.greedy.thinned.Goals as goal

pub loop-number-smaller : goal.loop-number-smaller
loop-number-smaller g c = fewer c.remove-left.result c.loop-number.left c.in-Some.number c.remove-left.ensures c.in-Some.ensures.member

pub loop-number-preserved : goal.loop-number-preserved
loop-number-preserved g c =
    let smaller = c.spare-thinned.ensures.smaller c.loop-number.invariant.covers in
    record {
      covers = smaller.covers;
      within = subset_trans c.spare-thinned.result c.loop-number.thinned c.args.cover smaller.within c.loop-number.invariant.within;
      needed = tried c.args.store.now c.loop-number.left c.remove-left.result c.loop-number.thinned c.spare-thinned.result c.in-Some.number
          c.remove-left.ensures smaller c.loop-number.invariant.needed;
    }
