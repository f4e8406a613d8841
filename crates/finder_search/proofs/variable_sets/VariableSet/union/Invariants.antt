use Rattle.finder_search.proofs.Union.{United}
use Rattle.finder_search.proofs.variable_sets.VariableSet.union.Given as goal

abbrev pub invariant-loop-index : goal.invariant-loop-index
invariant-loop-index l = United l.index l.fn.self.parts l.fn.other.parts l.parts
