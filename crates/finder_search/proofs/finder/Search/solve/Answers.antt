use Rattle.std.proofs.Common.{Ok, take, drop, replicate, ◌++◌, IsTrue, sym, ap, ◌∙◌, subst, arith}
use Rattle.std.proofs.lemmas.List.{length-take-le}
use Rattle.finders.proofs.Asking.{asked_well}
use Rattle.finders.specs.Questions.{Asked}
use Rattle.terms.specs.declared.limits.TheConstants.{MOST_VARIABLES}
use Rattle.clause_tables.specs.Entries.{numbered}
use Rattle.clause_tables.specs.Table.{meaning_of}
use Rattle.finder_search.specs.Query.{asking}
use Rattle.finder_search.specs.Splitting.{Solved}
use Rattle.finder_search.specs.declared.trail.Slot.TheVariants.{Unset}
use Rattle.finder_search.proofs.Beginning.{asked, few_known, root_trail}
use Rattle.finder_search.proofs.finder.Search.solve.Goals as goal

pub new-question-requires-clause-known : goal.new-question-requires-clause-known
new-question-requires-clause-known c =
    few_known c.args.self.now.tables c.args.set (omega (arith, c.args.self.now.limited.1)) (asked_well (meaning_of c.args.self.now.tables) c.args.set c.args.buffer.now c.requires).1

pub solve-requires-clause-unset : goal.solve-requires-clause-unset
solve-requires-clause-unset c =
    root_trail c.variables-n.result c.new-question.result.tables.now.n (omega (arith, c.variables-n.ensures, c.args.self.now.limited.0))
    (c.variables-n.ensures ∙ sym (ap (λ q. q.table.n) c.new-question.ensures))

pub solve-requires-clause-long : goal.solve-requires-clause-long
solve-requires-clause-long c =
    let long = (asked_well (meaning_of c.args.self.now.tables) c.args.set c.args.buffer.now c.requires).0 in
    length-take-le c.variables-n.result c.args.buffer.now (omega (arith, c.variables-n.ensures, long))
    ∙ c.variables-n.ensures
    ∙ sym (ap (λ q. q.table.n) c.new-question.ensures)

pub returns : goal.returns
returns c =
    let q = asking c.args.self.now.tables c.args.set in
    let n = c.variables-n.result in
    let before = c.args.buffer.now in
    let after = c.solve.new.buffer in
    let solved : Solved q (take n (replicate MOST_VARIABLES Unset)) (take n before) c.solve.result after =
    subst (λ p. Solved p (take n (replicate MOST_VARIABLES Unset)) (take n before) c.solve.result after) c.new-question.ensures c.solve.ensures in
    let trail = root_trail n q.table.n (omega (arith, c.variables-n.ensures, c.args.self.now.limited.0)) c.variables-n.ensures in
    subst (λ a. Asked (meaning_of q.table) q.set before (Ok a) (after ++ drop n before)) (sym c.answer.ensures)
    (asked q n before after c.solve.result c.variables-n.ensures
    (subst (λ p. IsTrue (numbered 0 p.table.entries)) c.new-question.ensures c.new-question.result.ordered)
    (asked_well (meaning_of q.table) q.set before c.requires).1
    (subst (λ ss. Solved q ss (take n before) c.solve.result after) trail solved))
