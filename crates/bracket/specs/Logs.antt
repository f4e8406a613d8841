-- The log of a job's calls, and what it says of clauses, assignments and rounds.
use Rattle.std.specs.Prelude.{◌≡◌, ℕ, suc, true, List, [], ◌∷◌, ◌++◌, ℤ, Option}
use Rattle.std.specs.List.{list_all}
use Rattle.terms.specs.Clauses.{satisfied_by, Assignment}
use Rattle.terms.specs.Earliest.{unless_refused}
use Rattle.terms.specs.declared.refusals.Refusal.{Refusal}
use Rattle.weights.specs.Costs.{charge}
use Rattle.weights.specs.Kinds.{Kind}
use Rattle.finders.specs.Meanings.{FinderMeaning}
use Rattle.bracket.specs.States.{State, opened_on, are_fresh}
use Rattle.bracket.specs.Steps.{Call, hard, soft, round, Step}

-- ---- what an accepted call adds to the hard clauses, to the soft ones, and to the rounds since the latest clause
module _ {W : Type 0} where
  abbrev pub hards_with : Call W → List (List ℤ) → List (List ℤ)
  hards_with (hard c) cs = cs ++ c ∷ []
  hards_with (soft w c) cs = cs
  hards_with round cs = cs

  abbrev pub softs_with : Call W → List (W × List ℤ) → List (W × List ℤ)
  softs_with (hard c) cs = cs
  softs_with (soft w c) cs = cs ++ (w, c) ∷ []
  softs_with round cs = cs

  abbrev pub rounds_with : Call W → ℕ → ℕ
  rounds_with (hard c) n = 0
  rounds_with (soft w c) n = 0
  rounds_with round n = suc n

-- ---- logs
-- a call, what it was refused for, if it was, and the state that it left
pub record Line {W : Type 0} (K : Kind W) : Type 0 where
  pub call : Call W
  pub refusal : Option Refusal
  pub after : State K

-- the latest line comes first
abbrev pub Log : {W : Type 0} → Kind W → Type 0
Log K = List (Line K)

-- an assignment that the finder admitted at the opening, and that satisfies each of some clauses
abbrev pub AllowedBy : FinderMeaning → List (List ℤ) → List ℕ → Type 0
AllowedBy f clauses a = Assignment f.n a × (f.admits a ≡ true) × (list_all (satisfied_by a) clauses ≡ true)

module _ {W : Type 0} {K : Kind W} where
  abbrev pub line : Call W → Option Refusal → State K → Line K
  line c r t = record { call = c; refusal = r; after = t }

  -- a job that has just been opened on fresh parts
  abbrev pub JustOpened : State K → Type 0
  JustOpened s = (are_fresh s.finder s.maker ≡ true) × (s ≡ opened_on K s.finder s.maker)

  -- a job was opened on fresh parts in the state first, and has come to a state by the calls of a log
  pub data Logged (first : State K) : Log K → State K → Type 0 where
    opened : JustOpened first → Logged first [] first
    called : {log : Log K} {s t : State K} {c : Call W} {r : Option Refusal} → Logged first log s → Step s c r t → Logged first (line c r t ∷ log) t

  -- the state that a log leaves
  abbrev pub latest : State K → Log K → State K
  latest first [] = first
  latest first (l ∷ log) = l.after

  -- ---- what a log says
  -- the accepted hard clauses
  abbrev pub hards : Log K → List (List ℤ)
  hards [] = []
  hards (l ∷ log) = unless_refused l.refusal (hards_with l.call (hards log)) (hards log)

  -- the accepted soft clauses with their weights
  abbrev pub softs : Log K → List (W × List ℤ)
  softs [] = []
  softs (l ∷ log) = unless_refused l.refusal (softs_with l.call (softs log)) (softs log)

  -- the clauses being the hard ones that were accepted
  abbrev pub Allowed : FinderMeaning → Log K → List ℕ → Type 0
  Allowed f log a = AllowedBy f (hards log) a

  -- what an assignment pays for the accepted soft clauses that it breaks
  abbrev pub cost_by : Log K → List ℕ → K.V
  cost_by log a = charge K (softs log) a

  -- how many rounds were accepted after the last accepted clause, or in all if there is none
  abbrev pub rounds : Log K → ℕ
  rounds [] = 0
  rounds (l ∷ log) = unless_refused l.refusal (rounds_with l.call (rounds log)) (rounds log)
