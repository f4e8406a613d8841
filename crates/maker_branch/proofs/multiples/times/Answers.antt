use Rattle.maker_branch.proofs.Multiplying.{digit_zero, digit_one}
use Rattle.maker_branch.proofs.multiples.times.Goals as goal

pub loop-digit-preserved-then-count-digit-eq1 : goal.loop-digit-preserved-then-count-digit-eq1
loop-digit-preserved-then-count-digit-eq1 g c within =
    let K = g.W.WeightKind.kind in
    digit_one K g.met.W.WeightKind.laws (K.value c.args.weight) c.args.count c.loop-digit.digit c.loop-digit-test.true (K.value c.loop-digit.product) (K.value c.in_ok-product.product)
    (c.loop-digit.invariant within) c.in_ok-product.ensures.1 (K.value c.in_ok-product-2.product) c.in_ok-product-2.ensures.1 c.if-count-digit-eq1.true

pub loop-digit-preserved : goal.loop-digit-preserved
loop-digit-preserved g c within =
    let K = g.W.WeightKind.kind in
    digit_zero K g.met.W.WeightKind.laws (K.value c.args.weight) c.args.count c.loop-digit.digit c.loop-digit-test.true (K.value c.loop-digit.product) (K.value c.in_ok-product.product)
    (c.loop-digit.invariant within) c.in_ok-product.ensures.1 c.if-count-digit-eq1.false
