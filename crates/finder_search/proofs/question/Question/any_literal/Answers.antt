use Rattle.std.proofs.Common.{◌≡◌, true, subst}
use Rattle.std.proofs.lemmas.List.Elements.{All-head, All-rest}
use Rattle.clause_tables.specs.Entries.{IsProper, as_entry}
use Rattle.finder_search.specs.Propagation.{is_quiet}
use Rattle.finder_search.proofs.Modelling.{bytes_model}
use Rattle.finder_search.proofs.Next.{AllQuiet, MetBefore, met_more}
use Rattle.finder_search.specs.Question.{query}
use Rattle.finder_search.proofs.question.Question.any_literal.Goals as goal

pub loop-clause-preserved : goal.loop-clause-preserved
loop-clause-preserved c =
    let q = query c.args.self.now in
    let ss = c.args.trail.now in
    let e = as_entry c.in-Some.clause in
    let rest = c.next.new.self in
    let so_far = c.loop-clause.invariant in (
      All-rest (IsProper q.table.n) e rest c.loop-clause.clause-iterator c.in-Some.ensures.steps so_far.0,
      All-rest (λ x. is_quiet q ss x ≡ true) e rest c.loop-clause.clause-iterator c.in-Some.ensures.steps so_far.1,
      met_more q ss e rest c.open_literal.result c.in_default.not-Some
          (All-head (λ x. is_quiet q ss x ≡ true) e rest (subst (AllQuiet q ss) c.in-Some.ensures.steps so_far.1)) c.open_literal.ensures
          (subst (MetBefore q ss) c.in-Some.ensures.steps so_far.2),
    )

pub returns : goal.returns
returns c =
    let q = query c.args.self.now in
    let ss = c.args.trail.now in
    bytes_model q ss c.requires.sound.wide c.clauses-clause-items.ensures.proper (subst (MetBefore q ss) c.in-None.ensures.steps.0 c.loop-clause.invariant.2)
