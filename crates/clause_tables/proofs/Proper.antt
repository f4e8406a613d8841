-- The literals of the clauses are those of the table of literals.
use Rattle.std.proofs.Common.{◌≡◌, ℕ, false, List, All, map, ℤ}
use Rattle.std.proofs.lemmas.List.Elements.{All-map, All-take, All-drop}
use Rattle.terms.specs.Clauses.{bad_literal}
use Rattle.clause_tables.specs.Entries.{IsProper, entry}
use Rattle.clause_tables.specs.declared.records.ClauseRecord.{ClauseRecord}

pub all_proper : (n : ℕ) (ls : List ℤ) (rs : List ClauseRecord) → All (λ l. bad_literal n l ≡ false) ls → All (IsProper n) (map (entry ls) rs)
all_proper n ls rs h =
    All-map (IsProper n) (entry ls) rs (λ k d l. All-take (λ x. bad_literal n x ≡ false) _ _ (All-drop (λ x. bad_literal n x ≡ false) _ ls h))
