use Rattle.std.proofs.Common.{◌≡◌, true, false, rules}
use borrow.Author.Tests.{tests}
use Rattle.std.proofs.lemmas.Iterator.{cases_from_all}
use Rattle.std.proofs.lemmas.Iterator.Consumers.{YieldsList-from_first}
use Rattle.std.proofs.lemmas.Bool.Decides.{Decides-at}
use Rattle.clause_tables.specs.Entries.{Entry, as_entry}
use Rattle.clause_tables.specs.Wanted.{met, all_met}
use Rattle.clause_tables.proofs.Meeting.{all_met_from_cases, met_decides}
use Rattle.clause_tables.proofs.tables.Tables.meets.Goals as goal

pub returns : goal.returns
returns c =
    let a = c.args.assignment.now in
    let es = c.args.self.now.entries in
    let set = c.args.set in
    Decides-at c.all.result (all_met set a es)
    (all_met_from_cases set a es c.all.result
    (cases_from_all _ _ c.all.result (λ (e : Entry). met set a e.kind e.clause ≡ true) (λ (e : Entry). met set a e.kind e.clause ≡ false) c.all.ensures.ran
    (YieldsList-from_first as_entry (λ rest. rest) es c.clauses.ensures.clauses) (λ x q k. search (rules, tests)) (λ x q k. search (rules, tests))))
    (met_decides set a es c.clauses.ensures.numbered)
