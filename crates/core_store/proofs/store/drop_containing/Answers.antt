use Rattle.std.proofs.Common.{rules}
use Rattle.std.proofs.lemmas.Fn.{filter_same}
use Rattle.core_store.proofs.store.drop_containing.Goals as goal

pub returns-clause-cores : goal.returns-clause-cores
returns-clause-cores c = filter_same _ _ _ (λ x b f' k. search rules) _ _ c.retain.ensures.filtered
