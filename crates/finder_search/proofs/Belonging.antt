-- The clauses of the table, as they are read one at a time.
use Rattle.std.proofs.Common.{◌≡◌, ℕ, All, get_or, slice_get, true, Some, subst}
use Rattle.std.proofs.lemmas.List.Sums.{AllPass-from_list_all}
use Rattle.std.proofs.lemmas.Option.{slice_get_within, get_or_from_slice_get}
use Rattle.clause_tables.specs.Entries.{Entry, IsProper}
use Rattle.clause_tables.specs.Table.{Table}
use Rattle.clause_tables.specs.Wanted.{met}
use Rattle.finder_search.specs.Propagation.{Belongs}

pub listed_belongs : (t : Table) (e : Entry) (k : ℕ) → All (IsProper t.n) t.entries → slice_get t.entries k ≡ Some e → Belongs t e
listed_belongs t e k proper h =
    let l = slice_get_within t.entries k e h in
    let at : get_or t.entries k e ≡ e = get_or_from_slice_get t.entries k e e h in (
      subst (IsProper t.n) at (proper k e l),
      λ set a all. subst (λ x. met set a x.kind x.clause ≡ true) at (AllPass-from_list_all (λ x. met set a x.kind x.clause) t.entries all k e l),
    )
