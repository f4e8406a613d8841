use Rattle.std.proofs.Common.{◌≡◌, true, sym, ◌∙◌, rules}
use Rattle.clause_tables.specs.Entries.{as_entry}
use Rattle.clause_tables.specs.Wanted.{wanted}
use Rattle.finder_search.specs.Question.{query}
use Rattle.finder_search.proofs.Implying.{open_unassigned, open_unmet}
use Rattle.finder_search.proofs.question.Question.open_literal.Goals as goal

pub returns-in-Open : goal.returns-in-Open
returns-in-Open c =
    let e = as_entry c.args.clause in
    let stands = sym c.status_of.ensures ∙ c.in-Open.is in
    let unassigned = open_unassigned c.args.self.now.tables.now.n c.args.trail.now e c.in-Open.literal c.requires.wide c.requires.proper stands in
    let wish : wanted c.args.self.now.set c.args.clause.kind ≡ true = search rules in
    ((search (rules, unassigned), search (rules, unassigned)), open_unmet (query c.args.self.now) c.args.trail.now e c.in-Open.literal wish stands)
