-- What the search means.
use Rattle.finders.specs.Meanings.{FinderMeaning}
use Rattle.clause_tables.specs.Table.{meaning_of}
use Rattle.finder_search.specs.declared.finder.Search.{Search}

abbrev pub finder_meaning : Search → FinderMeaning
finder_meaning x = meaning_of x.tables
