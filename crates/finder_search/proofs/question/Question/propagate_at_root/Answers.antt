use Rattle.std.proofs.Common.{◌+◌, arith}
use Rattle.finder_search.proofs.Extending.{extends_more}
use Rattle.finder_search.proofs.Visiting.{visited_more, visited_all, from_on, from_on_more, from_on_all}
use Rattle.finder_search.specs.Question.{query}
use Rattle.finder_search.specs.Propagation.{each_clause}
use Rattle.finder_search.proofs.question.Question.propagate_at_root.Goals as goal

pub loop-number-preserved : goal.loop-number-preserved
loop-number-preserved c =
    let so_far = c.loop-number.invariant in (
      extends_more so_far.0 c.visit.ensures.extends,
      c.visit.ensures.sound,
      visited_more (query c.args.self.now) c.loop-number.number each_clause (from_on c.loop-number.number) (from_on (c.loop-number.number + 1)) c.args.trail.now
          c.loop-number.trail c.visit.new.trail (from_on_more c.loop-number.number) so_far.2 c.in_ok-visit.ensures.propagated,
    )

pub returns-clause-propagated : goal.returns-clause-propagated
returns-clause-propagated c =
    visited_all (query c.args.self.now) each_clause (from_on c.loop-number.number) c.args.trail.now c.loop-number.trail (λ k l. from_on_all c.loop-number.number k (omega (arith, l, c.clause_count-number-end.ensures, c.loop-number-test.false)))
    c.loop-number.invariant.2
