-- Where a round goes when the finder has answered.
use Rattle.std.specs.Prelude.{ℕ, List, take, None, Option, Result}
use Rattle.terms.specs.Earliest.{Changes}
use Rattle.terms.specs.declared.refusals.Refusal.{Refusal}
use Rattle.terms.specs.declared.soft_sets.SoftSet.{SoftSet}
use Rattle.weights.specs.Kinds.{Kind}
use Rattle.finders.specs.declared.finder.Answer.{Answer}
use Rattle.finders.specs.declared.finder.Answer.TheVariants.{Model, Core}
use Rattle.makers.specs.Refused.{core_refused}
use Rattle.bracket.specs.States.{State}
use Rattle.bracket.specs.Steps.{Takes}
use Rattle.bracket.specs.Changes.{at_floor, after_model, after_core, voided}
use Rattle.bracket.specs.declared.states.Phase.TheVariants.{Quick, Exact}

module _ {W : Type 0} {K : Kind W} where
  -- the cover that a round takes in its phase, and the floor that it has by then
  abbrev pub TakesCover : State K → SoftSet × W → Type 0
  TakesCover s t = Takes s s.phase t.0 (K.value t.1)

  -- the assignment in the first n bytes is kept where it costs less
  abbrev pub keeping : State K → List ℕ → State K
  keeping s bytes = after_model s (take s.finder.n bytes) s.phase

  -- with nothing kept, after the question for no soft clauses
  abbrev pub after_first : State K → Answer SoftSet → List ℕ → State K
  after_first s Model bytes = after_model s (take s.finder.n bytes) Quick
  after_first s (Core core) bytes = voided s

  -- with something kept, after the question for the soft clauses outside a cover: a core may find no place
  abbrev pub answer_refused : State K → Answer SoftSet → Option Refusal
  answer_refused s Model = None
  answer_refused s (Core core) = core_refused s.maker core

  -- the state at that floor, after the answer; a model stands in the first n bytes
  abbrev pub after_answer : State K → K.V → Answer SoftSet → List ℕ → State K
  after_answer s floor Model bytes = after_model (at_floor s floor) (take s.finder.n bytes) Exact
  after_answer s floor (Core core) bytes = after_core (at_floor s floor) core

  abbrev pub TakesAnswer : State K → K.V → Answer SoftSet → List ℕ → Result (Unit {0}) Refusal → State K → Type 0
  TakesAnswer s floor answer bytes result t = Changes result (λ s. after_answer s floor answer bytes) s t
