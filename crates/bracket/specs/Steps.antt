-- The calls of a job, and the one result that each can have in a state.
use Rattle.std.specs.Prelude.{◌≡◌, ℕ, true, false, not, ◌&&◌, List, length, ℤ, Some, None, Option, nat_lt}
use Rattle.terms.specs.Masks.{member, Subset}
use Rattle.terms.specs.Earliest.{unless_refused}
use Rattle.terms.specs.declared.refusals.Refusal.{Refusal}
use Rattle.terms.specs.declared.refusals.Refusal.TheVariants.{NotFresh, Finished, NoCorePlace}
use Rattle.weights.specs.Costs.{cost}
use Rattle.weights.specs.Kinds.{Kind}
use Rattle.finders.specs.Questions.{Model, Core}
use Rattle.makers.specs.Covers.{is_cover, Least}
use Rattle.makers.specs.Refused.{core_refused}
use Rattle.bracket.specs.States.{State, status, Ended}
use Rattle.bracket.specs.Changes.{higher, hard_refused, after_hard, soft_refused, after_soft, at_floor, after_model, after_core, voided}
use Rattle.bracket.specs.declared.states.Phase.{Phase}
use Rattle.bracket.specs.declared.states.Phase.TheVariants.{Quick, Exact}
use Rattle.bracket.specs.declared.states.Status.TheVariants.{Unasked, Best, Open}

-- what is called, and with what
pub data Call (W : Type 0) : Type 0 where
  hard : List ℤ → Call W
  soft : W → List ℤ → Call W
  round : Call W

module _ {W : Type 0} {K : Kind W} where
  -- ---- a round
  -- the cover that a round takes in each phase, and the floor that it has by then
  abbrev pub Takes : State K → Phase → ℕ → K.V → Type 0
  Takes s Quick cover floor = (is_cover s.maker cover ≡ true) × (floor ≡ s.floor)
  Takes s Exact cover floor = Least K s.maker cover × (floor ≡ higher K s.floor (cost K s.maker.weights cover))

  -- the set of all given numbers outside a cover
  abbrev pub Outside : State K → ℕ → ℕ → Type 0
  Outside s cover asked = (k : ℕ) → member asked k ≡ (nat_lt k (length s.maker.weights) && not (member cover k))

  -- a round goes on at this floor, and asks for this set
  pub record Asks (s : State K) (floor : K.V) (asked : ℕ) : Type 0 where
    pub is_open : status s ≡ Open
    pub cover : ℕ
    pub takes : Takes s s.phase cover floor
    pub stays_open : status (at_floor s floor) ≡ Open
    pub outside : Outside s cover asked

  -- what a round is refused for, if it is, and where it leads
  pub data Round (s : State K) : Option Refusal → State K → Type 0 where
    not_fresh : s.fresh ≡ false → Round s (Some NotFresh) s
    has_ended : s.fresh ≡ true → Ended s → Round s (Some Finished) s
    -- with nothing kept: no assignment is admitted, or here is one
    none_allowed : s.fresh ≡ true → status s ≡ Unasked → (core : ℕ) → Core s.finder core → Subset core 0 → Round s None (voided s)
    first_model : s.fresh ≡ true → status s ≡ Unasked → (a : List ℕ) → Model s.finder 0 a → Round s None (after_model s a Quick)
    -- with something kept: the floor has reached the ceiling, as it can by a least cover, or else a set is asked for
    floor_reached : s.fresh ≡ true → status s ≡ Open → (cover : ℕ) (floor : K.V) → Takes s s.phase cover floor
        → status (at_floor s floor) ≡ Best → Round s None (at_floor s floor)
    model_found : s.fresh ≡ true → (floor : K.V) (asked : ℕ) → Asks s floor asked → (a : List ℕ) → Model s.finder asked a
        → Round s None (after_model (at_floor s floor) a Exact)
    -- a core is added, or it finds no place and all stays as it was
    core_added : s.fresh ≡ true → (floor : K.V) (asked : ℕ) → Asks s floor asked → (core : ℕ) → Core s.finder core → Subset core asked
        → core_refused s.maker core ≡ None → Round s None (after_core (at_floor s floor) core)
    core_left : s.fresh ≡ true → (floor : K.V) (asked : ℕ) → Asks s floor asked → (core : ℕ) → Core s.finder core → Subset core asked
        → core_refused s.maker core ≡ Some NoCorePlace → Round s (Some NoCorePlace) s

  -- ---- any call: what it is refused for, if it is, and where it leads
  abbrev pub Step : State K → Call W → Option Refusal → State K → Type 0
  Step s (hard c) r t = (r ≡ hard_refused s c) × (t ≡ unless_refused r (after_hard s c) s)
  Step s (soft w c) r t = (r ≡ soft_refused s w c) × (t ≡ unless_refused r (after_soft s w c) s)
  Step s round r t = Round s r t
