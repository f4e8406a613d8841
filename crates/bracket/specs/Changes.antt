-- How clauses and answers change a state, and what a clause is refused for.
use Rattle.std.specs.Prelude.{ℕ, true, if◌then◌else◌, List, ℤ, Some, None, Option, option_map}
use Rattle.std.specs.List.{zip}
use Rattle.terms.specs.Clauses.{satisfied_by}
use Rattle.terms.specs.Earliest.{earlier}
use Rattle.terms.specs.declared.refusals.Refusal.{Refusal}
use Rattle.terms.specs.declared.refusals.Refusal.TheVariants.{NotFresh}
use Rattle.weights.specs.Costs.{charge}
use Rattle.weights.specs.Kinds.{Kind}
use Rattle.finders.specs.Meanings.{with_hard, with_soft}
use Rattle.finders.specs.Refused.{hard_refused as finder_hard_refused, soft_refused as finder_soft_refused}
use Rattle.makers.specs.Meanings.{with_weight, with_core}
use Rattle.makers.specs.Refused.{weight_refused}
use Rattle.bracket.specs.States.{State, Plan}
use Rattle.bracket.specs.declared.states.Phase.{Phase}
use Rattle.bracket.specs.declared.states.Phase.TheVariants.{Quick}

-- ---- what is kept
-- what is kept, unless it breaks the clause
abbrev pub unbroken : {V : Type 0} → List ℤ → Option (Plan V) → Option (Plan V)
unbroken c None = None
unbroken c (Some plan) = if satisfied_by plan.values c then Some plan else None

module _ {W : Type 0} (K : Kind W) where
  -- the new one is kept if nothing is, or if it costs less
  abbrev pub cheaper : Option (Plan K.V) → Plan K.V → Option (Plan K.V)
  cheaper None new = Some new
  cheaper (Some old) new = if K.le old.cost new.cost then Some old else Some new

  abbrev pub higher : K.V → K.V → K.V
  higher x y = if K.le y x then x else y

module _ {W : Type 0} {K : Kind W} where
  -- ---- costs
  -- an assignment with its cost, by the soft clauses of the finder and the weights of the maker
  abbrev pub priced : State K → List ℕ → Plan K.V
  priced s a = record { values = a; cost = charge K (zip s.maker.weights s.finder.softs) a }

  -- with the cost of what is kept worked out anew
  abbrev pub repriced : State K → State K
  repriced s = record s { kept = option_map (λ plan. priced s plan.values) s.kept }

  -- ---- what a clause is refused for
  -- opened on parts that were in use, a job takes none
  abbrev pub if_fresh : State K → Option Refusal → Option Refusal
  if_fresh s refusal = if s.fresh then refusal else Some NotFresh

  abbrev pub hard_refused : State K → List ℤ → Option Refusal
  hard_refused s c = if_fresh s (finder_hard_refused s.finder c)

  -- the earlier of what the two parts refuse it for
  abbrev pub soft_refused : State K → W → List ℤ → Option Refusal
  soft_refused s w c = if_fresh s (earlier (finder_soft_refused s.finder c) (weight_refused K s.maker w))

  -- ---- what an accepted clause leaves
  abbrev pub after_hard : State K → List ℤ → State K
  after_hard s c = record s { finder = with_hard s.finder c; kept = unbroken c s.kept; phase = Quick }

  abbrev pub after_soft : State K → W → List ℤ → State K
  after_soft s w c = repriced (record s { finder = with_soft s.finder c; maker = with_weight s.maker w; phase = Quick })

  -- ---- the moves of a round
  abbrev pub at_floor : State K → K.V → State K
  at_floor s floor = record s { floor = floor }

  abbrev pub after_model : State K → List ℕ → Phase → State K
  after_model s a phase = record s { kept = cheaper K s.kept (priced s a); phase = phase }

  abbrev pub after_core : State K → ℕ → State K
  after_core s core = record s { maker = with_core s.maker core; phase = Quick }

  abbrev pub voided : State K → State K
  voided s = record s { void = true }
