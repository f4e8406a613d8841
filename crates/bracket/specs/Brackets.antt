-- The bracket: what holds at the opening of a job and on each line of its log.
use Rattle.std.specs.Prelude.{◌≡◌, ◌↔◌, ℕ, ◌+◌, ◌^◌, ◌≤◌, true, false, List, [], ◌∷◌, length, Some, None, Option}
use Rattle.std.specs.List.{list_any}
use Rattle.terms.specs.declared.limits.TheConstants.{CORE_PLACES}
use Rattle.terms.specs.Masks.{subset, Subset}
use Rattle.terms.specs.declared.refusals.Refusal.{Refusal}
use Rattle.terms.specs.declared.refusals.Refusal.TheVariants.{Finished, NoCorePlace}
use Rattle.weights.specs.Kinds.{Kind}
use Rattle.finders.specs.Meanings.{FinderMeaning}
use Rattle.finders.specs.Questions.{Core}
use Rattle.makers.specs.Meanings.{MakerMeaning}
use Rattle.makers.specs.Covers.{is_cover}
use Rattle.bracket.specs.States.{State, Plan, status, Ended, are_fresh}
use Rattle.bracket.specs.Steps.{Call, round, Outside}
use Rattle.bracket.specs.Logs.{Line, line, Log, Logged, latest, softs, Allowed, cost_by, rounds}
use Rattle.bracket.specs.declared.states.Status.TheVariants.{Void, Best}

module _ {W : Type 0} {K : Kind W} where
  -- the ceiling is what the plan costs, and the plan is allowed
  abbrev pub AllowedAtItsCost : State K → Log K → Plan K.V → Type 0
  AllowedAtItsCost first log plan = Allowed first.finder log plan.values × (plan.cost ≡ cost_by log plan.values)

  -- an assignment is kept, and its cost is the floor
  abbrev pub FloorIsCeiling : State K → Type 0
  FloorIsCeiling s = (plan : Plan K.V) × (s.kept ≡ Some plan) × (s.floor ≡ plan.cost)

  abbrev pub NoneAllowed : State K → Log K → Type 0
  NoneAllowed first log = (a : List ℕ) → Allowed first.finder log a → ⊥

  -- ---- what holds of the state that a log leaves
  pub record Holds (first : State K) (log : Log K) (s : State K) : Type 0 where
    pub floor_is_low : (a : List ℕ) → Allowed first.finder log a → K.le s.floor (cost_by log a) ≡ true
    pub kept_is_allowed : (plan : Plan K.V) → s.kept ≡ Some plan → AllowedAtItsCost first log plan
    pub best_exactly : (status s ≡ Best) ↔ FloorIsCeiling s
    pub void_only : status s ≡ Void → NoneAllowed first log
    pub rounds_are_few : rounds log ≤ 2 ^ (length (softs log) + 1) + 1

  -- ---- what holds of a line, with the state before it
  -- all places for cores are taken, and a core that lies outside a cover is part of no kept one
  pub record Crowded (s : State K) : Type 0 where
    pub all_taken : length s.maker.cores ≡ CORE_PLACES
    pub cover : ℕ
    pub covers : is_cover s.maker cover ≡ true
    pub asked : ℕ
    pub outside : Outside s cover asked
    pub found : ℕ
    pub conflicts : Core s.finder found
    pub within : Subset found asked
    pub part_of_none : list_any (subset found) s.maker.cores ≡ false

  pub record LineHolds (first : State K) (log : Log K) (before : State K) (l : Line K) : Type 0 where
    pub floor_never_falls : K.le before.floor l.after.floor ≡ true
    pub void_is_found : l.call ≡ round → l.refusal ≡ None → NoneAllowed first log → status l.after ≡ Void
    pub void_stays : status before ≡ Void → status l.after ≡ Void
    pub end_is_final : l.call ≡ round → Ended before → (l.refusal ≡ Some Finished) × (l.after ≡ before)
    pub refused_only : (r : Refusal) → l.call ≡ round → l.refusal ≡ Some r → (Ended before → ⊥)
        → (r ≡ NoCorePlace) × Crowded before × (l.after ≡ before)

  -- ---- the whole
  abbrev pub BracketStands : State K → Log K → Type 0
  BracketStands first [] = Holds first [] first
  BracketStands first (l ∷ log) = Holds first (l ∷ log) l.after × LineHolds first log (latest first log) l × BracketStands first log

  -- what the opening promises: on fresh parts a log begins, and the bracket stands on it
  abbrev pub OpensBracket : FinderMeaning → MakerMeaning W → State K → Type 0
  OpensBracket f m s = are_fresh f m ≡ true → Logged s [] s × BracketStands s []

  -- what a call promises: it adds a line to every log of the job, and the bracket stands on that log
  abbrev pub KeepsBracket : State K → Call W → Option Refusal → State K → Type 0
  KeepsBracket s c r t = (first : State K) (log : Log K) → Logged first log s
      → Logged first (line c r t ∷ log) t × BracketStands first (line c r t ∷ log)
