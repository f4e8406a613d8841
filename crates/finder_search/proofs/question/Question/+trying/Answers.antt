use Rattle.std.proofs.Common.{◌≡◌, false, not, ◌∙◌, subst, refl, arith, rules}
use Rattle.std.proofs.lemmas.Int.{to_z-of_z}
use Rattle.finder_search.specs.Literals.{index, positive}
use Rattle.finder_search.specs.Splitting.{Answers}
use Rattle.finder_search.specs.Trail.{decisions}
use Rattle.finder_search.specs.VariableSets.{has}
use Rattle.finder_search.proofs.Branching.{excludes_unused, excludes_both}
use Rattle.finder_search.proofs.Deciding.{opposite_decision, unassigned_room, unassigned_index, decided_decisions, decided_fewer, just_decided, all_restored, propagated_ready}
use Rattle.finder_search.specs.Question.{query}
use Rattle.finder_search.specs.Reasons.{IsJoined}
use Rattle.finder_search.proofs.question.Question.+trying.Goals as goal

pub try_literal-overflow_add-deeper : goal.try_literal-overflow_add-deeper
try_literal-overflow_add-deeper t c = let room = unassigned_room c.args.trail.now c.args.literal c.args.level c.requires.unassigned c.requires.ready.room in omega arith

pub try_literal-propagate_decision-requires : goal.try_literal-propagate_decision-requires
try_literal-propagate_decision-requires t c =
    let decided = simp (to_z-of_z, c.ranges.literal) at c.decide.ensures in
    let fewer = decided_fewer c.args.level c.args.trail.now c.decide.new.trail c.args.literal c.requires.unassigned decided in (
      omega (arith, c.decreases, fewer),
      simp (to_z-of_z, c.ranges.literal)
          (just_decided c.args.level c.args.trail.now c.decide.new.trail c.args.literal c.requires.unassigned decided (query c.args.self.now) c.args.buffer.now c.args.self.now.proper c.requires.ready),
    )

pub try_literal-returns-clause-same : goal.try_literal-returns-clause-same
try_literal-returns-clause-same t c =
    all_restored c.args.level c.args.trail.now c.decide.new.trail c.args.literal c.requires.unassigned
    (simp (to_z-of_z, c.ranges.literal) at c.decide.ensures) c.propagate_decision.new.trail c.drop-trial.new.self.0 c.requires.ready.within c.propagate_decision.ensures.extends c.drop-trial.ensures

pub try_literal-returns-clause-answer : goal.try_literal-returns-clause-answer
try_literal-returns-clause-answer t c =
    let decided = simp (to_z-of_z, c.ranges.literal) at c.decide.ensures in
    let made = decided_decisions c.args.level c.args.trail.now c.decide.new.trail c.args.literal c.requires.unassigned decided in
    subst (λ cs. Answers (query c.args.self.now) cs c.args.buffer.now c.propagate_decision.result c.propagate_decision.new.buffer) made c.propagate_decision.ensures.answer

pub propagate_decision-try_next-requires : goal.propagate_decision-try_next-requires
propagate_decision-try_next-requires t c =
    let propagated = simp (to_z-of_z, c.ranges.literal) at c.in_ok-propagate.ensures.propagated in (
      omega (arith, c.decreases, c.propagate.ensures.extends.fewer),
      propagated_ready (query c.args.self.now) c.args.literal c.args.level c.args.trail.now c.propagate.new.trail c.args.buffer.now c.requires
          c.propagate.ensures.extends c.propagate.ensures.sound propagated,
    )

pub split-returns-then-not-has-clause-answer : goal.split-returns-then-not-has-clause-answer
split-returns-then-not-has-clause-answer t c =
    let u = c.args.literal in
    let unused : has c.in-Err.first.decisions (index u) ≡ false = search rules in (
      excludes_unused (query c.args.self.now) (decisions c.args.trail.now) (index u) (unassigned_index c.args.trail.now u c.requires.unassigned.0) (positive u) c.in-Err.first unused
          (simp (to_z-of_z, c.ranges.literal) at c.in-Err.ensures.answer.0),
      c.in-Err.ensures.answer.1,
    )

pub split-returns-then-not-has-2-clause-answer : goal.split-returns-then-not-has-2-clause-answer
split-returns-then-not-has-2-clause-answer t c =
    let u = c.args.literal in
    let unused : has c.in-Err-try_opposite.second.decisions (index u) ≡ false = search rules in
    let again = simp (to_z-of_z, c.ranges.literal, c.try_literal.ensures.same, opposite_decision c.args.trail.now u c.requires.unassigned.0) at c.in-Err-try_opposite.ensures.answer.0 in (
      excludes_unused (query c.args.self.now) (decisions c.args.trail.now) (index u) (unassigned_index c.args.trail.now u c.requires.unassigned.0) (not (positive u))
          c.in-Err-try_opposite.second unused again,
      c.in-Err-try_opposite.ensures.answer.1 ∙ c.in-Err.ensures.answer.1,
    )

pub split-returns-clause-answer : goal.split-returns-clause-answer
split-returns-clause-answer t c =
    let u = c.args.literal in
    let index_is : c.index_of-index.result ≡ index u = search rules in
    let again = simp (to_z-of_z, c.ranges.literal, c.try_literal.ensures.same, opposite_decision c.args.trail.now u c.requires.unassigned.0) at c.in-Err-try_opposite.ensures.answer.0 in (
      excludes_both (query c.args.self.now) (decisions c.args.trail.now) (index u) (unassigned_index c.args.trail.now u c.requires.unassigned.0) (positive u) (not (positive u))
          c.in-Err.first c.in-Err-try_opposite.second c.joined.result refl
          (subst (λ p. IsJoined c.in-Err.first c.in-Err-try_opposite.second p c.joined.result) index_is c.joined.ensures)
          (simp (to_z-of_z, c.ranges.literal) at c.in-Err.ensures.answer.0) again,
      c.in-Err-try_opposite.ensures.answer.1 ∙ c.in-Err.ensures.answer.1,
    )
