use Rattle.clause_tables.specs.Entries.{as_entry}
use Rattle.finder_search.proofs.Implying.{excludes_broken}
use Rattle.finder_search.specs.Question.{query}
use Rattle.finder_search.proofs.question.Question.conflict.Goals as goal

pub returns-clause-excludes : goal.returns-clause-excludes
returns-clause-excludes c =
    excludes_broken (query c.args.self.now) c.args.trail.now (as_entry c.args.clause) c.of.result
    c.requires.sound c.requires.asked c.args.self.now.known c.of.ensures c.requires.broken
