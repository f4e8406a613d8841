use Rattle.std.proofs.Common.{◌/◌, ◌%◌, arith}
use Rattle.terms.specs.declared.limits.TheConstants.{SOFT_PLACES}
use Rattle.finder_search.specs.VariableSets.{has}
use Rattle.finder_search.proofs.Union.{united_none, united_more, united_all}
use Rattle.finder_search.proofs.variable_sets.VariableSet.union.Goals as goal

pub loop-index-init : goal.loop-index-init
loop-index-init c = united_none c.args.self.parts c.args.other.parts

pub loop-index-preserved : goal.loop-index-preserved
loop-index-preserved c =
    united_more c.loop-index.index c.args.self.parts c.args.other.parts c.loop-index.parts c.index-parts-index.result c.index-other-index.result c.union.result (omega arith) (omega arith)
    c.union.ensures c.loop-index.invariant

pub returns : goal.returns
unfolding has
returns c v = united_all c.loop-index.index c.args.self.parts c.args.other.parts c.loop-index.parts (omega arith) c.loop-index.invariant (v / SOFT_PLACES) (v % SOFT_PLACES)
