-- What a question asks, and what a finder answers where it is solved.
use Rattle.std.specs.Prelude.{Ok, Err, Result}
use Rattle.terms.specs.declared.soft_sets.SoftSet.{SoftSet}
use Rattle.finders.specs.declared.finder.Answer.{Answer}
use Rattle.finders.specs.declared.finder.Answer.TheVariants.{Model as Found, Core as Conflict}
use Rattle.finder_search.specs.Query.{Query, asking}
use Rattle.finder_search.specs.declared.question.Question.{Question}
use Rattle.finder_search.specs.declared.reasons.Reason.{Reason}

abbrev pub query : Question → Query
query x = asking x.tables.now x.set

-- a model, or the soft clauses of the reason as the core
abbrev pub answer_to : Result Unit Reason → Answer SoftSet
answer_to (Ok u) = Found
answer_to (Err r) = Conflict r.softs
