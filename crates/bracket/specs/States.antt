-- What a job is at one moment.
use Rattle.std.specs.Prelude.{◌≡◌, ◌⊎◌, ℕ, Bool, false, ◌&&◌, if◌then◌else◌, List, length, Some, None, Option, option_map, ◌==◌}
use Rattle.weights.specs.Kinds.{Kind}
use Rattle.finders.specs.Meanings.{FinderMeaning}
use Rattle.makers.specs.Meanings.{MakerMeaning}
use Rattle.bracket.specs.declared.states.Phase.{Phase}
use Rattle.bracket.specs.declared.states.Phase.TheVariants.{Quick}
use Rattle.bracket.specs.declared.states.Status.{Status}
use Rattle.bracket.specs.declared.states.Status.TheVariants.{Void, Unasked, Best, Open}

-- an assignment with its cost
pub record Plan (V : Type 0) : Type 0 where
  pub values : List ℕ
  pub cost : V

pub record State {W : Type 0} (K : Kind W) : Type 0 where
  -- whether both parts were fresh at the opening
  pub fresh : Bool
  pub finder : FinderMeaning
  pub maker : MakerMeaning W
  pub floor : K.V
  -- the assignment in hand, if there is one; its cost is the ceiling
  pub kept : Option (Plan K.V)
  pub phase : Phase
  -- whether a round has found that nothing is allowed
  pub void : Bool

-- what the assignment in hand costs
abbrev pub ceiling : {W : Type 0} {K : Kind W} → State K → Option K.V
ceiling s = option_map (λ plan. plan.cost) s.kept

-- neither part has soft clauses, weights or cores
abbrev pub are_fresh : {W : Type 0} → FinderMeaning → MakerMeaning W → Bool
are_fresh f m = length f.softs == 0 && (length m.weights == 0 && length m.cores == 0)

module _ {W : Type 0} (K : Kind W) where
  -- a job that has just been opened on two parts
  abbrev pub opened_on : FinderMeaning → MakerMeaning W → State K
  opened_on f m = record { fresh = are_fresh f m; finder = f; maker = m; floor = K.zero; kept = None; phase = Quick; void = false }

  abbrev pub same : K.V → K.V → Bool
  same x y = K.le x y && K.le y x

  abbrev pub status_at : K.V → Option (Plan K.V) → Status
  status_at floor None = Unasked
  status_at floor (Some plan) = if same floor plan.cost then Best else Open

module _ {W : Type 0} {K : Kind W} where
  abbrev pub status : State K → Status
  status s = if s.void then Void else status_at K s.floor s.kept

  -- no round goes on
  abbrev pub Ended : State K → Type 0
  Ended s = (status s ≡ Best) ⊎ (status s ≡ Void)
