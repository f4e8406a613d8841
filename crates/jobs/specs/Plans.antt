-- What is kept, seen as a plan.
use Rattle.std.specs.Prelude.{◌≡◌, ℕ, Bool, true, false, List, ◌&&◌, ◌==◌, IsTrue, length, take, Some, None, Option}
use Rattle.terms.specs.Clauses.{binary}
use Rattle.terms.specs.declared.soft_sets.SoftSet.{SoftSet}
use Rattle.weights.specs.Kinds.{Kind}
use Rattle.finders.specs.Meanings.{FinderMeaning}
use Rattle.finders.specs.declared.finder.Answer.{Answer}
use Rattle.finders.specs.declared.finder.Answer.TheVariants.{Model}
use Rattle.bracket.specs.Changes.{priced, repriced}
use Rattle.bracket.specs.States.{Plan, State, same}
use Rattle.jobs.specs.declared.play.Kept.{Kept}

-- the finder admits the assignment
abbrev pub admitted_by : FinderMeaning → List ℕ → Bool
admitted_by f a = length a == f.n && (binary a && f.admits a)

-- the finder admits what is kept
abbrev pub kept_admitted_by : {V : Type 0} → FinderMeaning → Option (Plan V) → Bool
kept_admitted_by f None = true
kept_admitted_by f (Some p) = admitted_by f p.values

-- the finder admits the assignment in the first n bytes
abbrev pub AdmitsFront : FinderMeaning → List ℕ → Type 0
AdmitsFront f bytes = IsTrue (admitted_by f (take f.n bytes))

-- the same where the answer is a model
abbrev pub AdmitsModel : FinderMeaning → Answer SoftSet → List ℕ → Type 0
AdmitsModel f answer bytes = answer ≡ Model → AdmitsFront f bytes

-- the first n bytes at their cost
abbrev pub plan : {W : Type 0} (K : Kind W) → ℕ → Option (Kept W) → Option (Plan K.V)
plan K n None = None
plan K n (Some kept) = Some (record { values = take n kept.values; cost = K.value kept.cost })

abbrev pub AdmitsKept : {W : Type 0} → Kind W → FinderMeaning → Option (Kept W) → Type 0
AdmitsKept K f kept = IsTrue (kept_admitted_by f (plan K f.n kept))

-- the weight is what the assignment in the first n bytes costs
abbrev pub Costs : {W : Type 0} (K : Kind W) → State K → List ℕ → W → Type 0
Costs K s bytes w = K.value w ≡ (priced s (take s.finder.n bytes)).cost

-- what is kept, with its cost worked out anew
abbrev pub PricedAnew : {W : Type 0} (K : Kind W) → State K → Option (Kept W) → Type 0
PricedAnew K s kept = (plan K s.finder.n kept ≡ (repriced s).kept) × AdmitsKept K s.finder kept

-- what is kept costs that
abbrev pub is_ceiling : {W : Type 0} (K : Kind W) → K.V → Option (Plan K.V) → Bool
is_ceiling K floor None = false
is_ceiling K floor (Some p) = same K floor p.cost
