use Rattle.std.proofs.Common.{refl, ◌∙◌}
use Rattle.clause_tables.specs.Entries.{as_entry}
use Rattle.finder_search.proofs.Occurring.{coming_first, coming_more}
use Rattle.finder_search.specs.Query.{asking}
use Rattle.finder_search.proofs.occurrences.Occurrences.of.Goals as goal

pub loop-clause-init : goal.loop-clause-init
loop-clause-init c =
    let of = c.clauses-clause-items.ensures in
    coming_first (asking c.args.tables.now c.args.set) c.none-occurrences.result _ (c.into_iter-clause-iterator.ensures.into_iter_gives ∙ of.clauses) of.limited.0 of.proper of.few of.short
    c.none-occurrences.ensures.used c.none-occurrences.ensures.none

pub loop-clause-preserved : goal.loop-clause-preserved
loop-clause-preserved c =
    coming_more (asking c.args.tables.now c.args.set) c.loop-clause.number _ c.loop-clause.occurrences c.add.new.self (as_entry c.in-Some.clause) c.next.new.self _
    c.clauses-clause-items.ensures.limited.0 c.loop-clause.invariant c.in-Some.ensures.steps refl c.add.ensures.used c.add.ensures.added
