-- Whether a clause is open, as the clauses are gone over.
use Rattle.std.proofs.Common.{◌≡◌, true, ◌&&◌, List, ◌∷◌, All, ℤ, Some, None, Option, refl, ap, ◌∙◌}
use Rattle.std.specs.List.{list_all}
use Rattle.clause_tables.specs.Entries.{Entry}
use Rattle.finder_search.specs.Propagation.{is_met, is_quiet}
use Rattle.finder_search.specs.Query.{Query}
use Rattle.finder_search.specs.Splitting.{OpenIn}
use Rattle.finder_search.specs.declared.trail.Slot.{Slot}

-- each clause is quiet
abbrev pub AllQuiet : Query → List Slot → List Entry → Type 0
AllQuiet q ss es = All (λ e. is_quiet q ss e ≡ true) es

-- all clauses are met where the rest are
abbrev pub MetBefore : Query → List Slot → List Entry → Type 0
MetBefore q ss rest = list_all (is_met q ss) q.table.entries ≡ list_all (is_met q ss) rest

-- a clause without an open literal is passed over
pub met_more : (q : Query) (ss : List Slot) (e : Entry) (rest : List Entry) (here : Option ℤ) → ((l : ℤ) → here ≡ Some l → ⊥) → is_quiet q ss e ≡ true → OpenIn q ss e here
    → MetBefore q ss (e ∷ rest) → MetBefore q ss rest
met_more q ss e rest None none quiet here so = so ∙ ap (λ b. b && list_all (is_met q ss) rest) (here quiet)
met_more q ss e rest (Some l) none quiet here so = absurd (none l refl)
