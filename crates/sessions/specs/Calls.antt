-- What the calls of a line come to.
use Rattle.std.specs.Prelude.{◌≡◌, ℕ, suc, ◌+◌, ◌≤◌, ◌<◌, List, [], ◌∷◌, ◌++◌, ℤ, Some, None, Option, Ok, Err, Result}
use Rattle.bracket.specs.Brackets.{BracketStands, KeepsBracket}
use Rattle.bracket.specs.Logs.{Log, line, Logged}
use Rattle.bracket.specs.States.{State, Ended}
use Rattle.bracket.specs.Steps.{Call, hard, soft, round, Step}
use Rattle.sessions.specs.Printing.{printed}
use Rattle.terms.specs.Clauses.{first_bad}
use Rattle.terms.specs.declared.refusals.Refusal.{Refusal}
use Rattle.terms.specs.declared.refusals.Refusal.TheVariants.{BadLiteral, ZeroWeight, TotalNotHeld}
use Rattle.texts.specs.declared.faults.LineFault.{LineFault}
use Rattle.weights.specs.Kinds.{Kind}

-- ---- faults
-- the field of the first bad literal, where the literals begin at a field; 0, the whole line, where none is bad
abbrev pub bad_field : ℕ → Option ℕ → ℕ
bad_field first None = 0
bad_field first (Some index) = first + index

-- the field that a refused clause names, where its literals begin at a field
abbrev pub clause_field : ℕ → ℕ → List ℤ → Refusal → ℕ
clause_field first n c BadLiteral = bad_field first (first_bad n c)
clause_field first n c ZeroWeight = 2
clause_field first n c TotalNotHeld = 2
clause_field first n c refusal = 0

-- the literals of a soft clause come after its weight
abbrev pub call_field : {W : Type 0} → ℕ → Call W → Refusal → ℕ
call_field n (hard c) refusal = clause_field 2 n c refusal
call_field n (soft w c) refusal = clause_field 3 n c refusal
call_field n round refusal = 0

-- the fault of a line whose call is refused
abbrev pub call_fault : {W : Type 0} → ℕ → ℕ → Call W → Refusal → LineFault
call_fault line n c refusal = record { line = line; field = call_field n c refusal; refusal = refusal }

-- what a call on a line comes to
abbrev pub call_result : {W : Type 0} → ℕ → ℕ → Call W → Option Refusal → Result (Unit {0}) LineFault
call_result number n c None = Ok tt
call_result number n c (Some refusal) = Err (call_fault number n c refusal)

-- and what is printed of that: nothing where it is accepted
abbrev pub result_text : Result (Unit {0}) LineFault → List ℕ
result_text (Ok u) = []
result_text (Err fault) = printed fault

-- ---- logs
module _ {W : Type 0} {K : Kind W} where
  -- each log that comes to a state goes on to another one by these calls, and the bracket stands on it
  abbrev pub Continues : State K → Log K → State K → Type 0
  Continues s more t = (first : State K) (log : Log K) → Logged first log s → BracketStands first log
      → Logged first (more ++ log) t × BracketStands first (more ++ log)

  -- a call on a line was made, and came to this
  abbrev pub Called : ℕ → Call W → State K → State K → Result (Unit {0}) LineFault → Type 0
  Called number c s t result = (r : Option Refusal) × Step s c r t × KeepsBracket s c r t × (result ≡ call_result number s.finder.n c r)

  -- a number of rounds led from one state to another; all were accepted, and none was called once the job had ended
  pub data Rounds (s : State K) : ℕ → Log K → State K → Type 0 where
    none : Rounds s 0 [] s
    one_more : {k : ℕ} {log : Log K} {t u : State K} → Rounds s k log t → (Ended t → ⊥) → Step t round None u
        → Rounds s (suc k) (line round None u ∷ log) u

  -- and then the count was reached, the job had ended, or a round was refused
  pub data RoundsPlayed (count : ℕ) (s : State K) : Log K → State K → Option Refusal → Type 0 where
    all_played : {log : Log K} {t : State K} → Rounds s count log t → RoundsPlayed count s log t None
    has_ended : {k : ℕ} {log : Log K} {t : State K} → Rounds s k log t → k ≤ count → Ended t → RoundsPlayed count s log t None
    refused : {k : ℕ} {log : Log K} {t u : State K} {r : Refusal} → Rounds s k log t → k < count → (Ended t → ⊥) → Step t round (Some r) u
        → RoundsPlayed count s (line round (Some r) u ∷ log) u (Some r)

  -- the rounds of a line were played, and came to this
  abbrev pub PlayedRounds : ℕ → ℕ → State K → State K → Result (Unit {0}) LineFault → Type 0
  PlayedRounds number count s t result =
      (log : Log K) × (r : Option Refusal) × RoundsPlayed count s log t r × Continues s log t × (result ≡ call_result {W = W} number 0 round r)
