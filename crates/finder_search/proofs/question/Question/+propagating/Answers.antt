use Rattle.std.proofs.Common.{option_map, sym, ap, ◌∙◌, rules, w32, FitsSigned}
use Rattle.std.proofs.lemmas.Int.{to_z-of_z}
use Rattle.clause_tables.specs.Entries.{as_entry}
use Rattle.finder_search.specs.Occurrences.{has_number}
use Rattle.finder_search.proofs.Extending.{extends_more}
use Rattle.finder_search.proofs.Visiting.{visited_last, visited_more, visited_all, number_more, number_none}
use Rattle.finder_search.specs.Question.{query}
use Rattle.finder_search.specs.Propagation.{losing}
use Rattle.finder_search.proofs.question.Question.+propagating.Goals as goal

pub propagate-loop-number-preserved : goal.propagate-loop-number-preserved
propagate-loop-number-preserved t c =
    let q = query c.args.self.now in
    let numbers = c.loop-number.number-iterator in
    let rest = c.next.new.self in
    let so_far = c.loop-number.invariant in (
      extends_more so_far.0 c.visit.ensures.extends,
      c.visit.ensures.sound,
      simp (to_z-of_z, c.ranges.literal)
          (visited_more q c.from.result (losing q c.args.literal) (has_number numbers) (has_number rest) c.args.trail.now c.loop-number.trail
          c.visit.new.trail (λ k. number_more numbers rest k c.in-Some.number c.from.result c.in-Some.ensures.steps c.from.ensures) (simp (to_z-of_z, c.ranges.literal) at so_far.2) c.in_ok-visit.ensures.propagated),
    )

pub propagate-returns-clause-propagated : goal.propagate-returns-clause-propagated
propagate-returns-clause-propagated t c =
    let q = query c.args.self.now in
    let numbers = c.loop-number.number-iterator in
    visited_all q (losing q c.args.literal) (has_number numbers) c.args.trail.now c.loop-number.trail
    (λ k l. number_none numbers k c.in-None.ensures.steps.0) (simp (to_z-of_z, c.ranges.literal) at c.loop-number.invariant.2)

pub visit-returns-in-Unit-clause-propagated : goal.visit-returns-in-Unit-clause-propagated
visit-returns-in-Unit-clause-propagated t c =
    let fits : FitsSigned w32 c.in-Unit.literal = search rules in
    visited_last (query c.args.self.now) c.args.number c.args.level c.in-Unit.literal (as_entry c.in-Some.clause) c.args.trail.now c.imply_last.new.trail c.propagate.new.trail
    c.propagate.result c.clause.ensures.proper (sym c.clause.ensures.clause ∙ ap (option_map as_entry) c.in-Some.is) c.imply_last.ensures.extends
    (simp (to_z-of_z, fits) at c.imply_last.ensures.keeps) c.imply_last.ensures.own (simp (to_z-of_z, fits) at c.propagate.ensures.propagated)
