use Rattle.worked_examples.proofs.Computed.{examples_hold}
use Rattle.worked_examples.proofs.worked_examples.Goals as goal

pub returns-clause-proved : goal.returns-clause-proved
returns-clause-proved c = examples_hold
