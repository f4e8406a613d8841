-- What a count-through finder means.
use Rattle.finders.specs.Meanings.{FinderMeaning}
use Rattle.clause_tables.specs.Table.{meaning_of}
use Rattle.finder_count.specs.declared.count_through.CountThrough.{CountThrough}

abbrev pub finder_meaning : CountThrough → FinderMeaning
finder_meaning x = meaning_of x.tables
