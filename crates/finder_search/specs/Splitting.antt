-- Trying one truth of a variable and then the other: what is known before, and what it answers.
use Rattle.std.specs.Prelude.{◌≡◌, ℕ, ◌+◌, ◌^◌, ◌<◌, Bool, true, false, List, map, length, ℤ, Some, None, Option, Ok, Err, Result, slice_set}
use Rattle.terms.specs.Clauses.{bad_literal}
use Rattle.clause_tables.specs.Entries.{Entry}
use Rattle.finder_search.specs.Literals.{index, positive}
use Rattle.finder_search.specs.Propagation.{Quiet, Sound, is_met, is_quiet, losing, no_clause}
use Rattle.finder_search.specs.Query.{Query, Satisfies}
use Rattle.finder_search.specs.Reasons.{Excludes}
use Rattle.finder_search.specs.Trail.{Unassigned, Within, byte_of, decisions, unset}
use Rattle.finder_search.specs.declared.reasons.Reason.{Reason}
use Rattle.finder_search.specs.declared.trail.Slot.{Slot}

-- what is so of a trail while these clauses are pending
pub record Pending (q : Query) (pending : ℕ → Bool) (level : ℕ) (ss : List Slot) (buffer : List ℕ) : Type 0 where
  pub sound : Sound q ss
  pub quiet : Quiet q pending ss
  pub within : Within level ss
  -- no level is too high to be noted
  pub room : level + unset ss < 2 ^ 16
  pub long : length buffer ≡ q.table.n

-- what is so before a literal is decided
abbrev pub Ready : Query → ℕ → List Slot → List ℕ → Type 0
Ready q = Pending q no_clause

-- what is so once it is, before it is propagated
abbrev pub JustDecided : Query → ℤ → ℕ → List Slot → List ℕ → Type 0
JustDecided q l level ss buffer = (bad_literal q.table.n l ≡ false) × Pending q (losing q l) level ss buffer

-- the decisions with that of this literal
abbrev pub with_decision : List Slot → ℤ → List (Option Bool)
with_decision ss l = slice_set (decisions ss) (index l) (Some (positive l))

-- ---- what to decide next
-- a literal without a value, where there is one in a clause that is wanted and has no true literal
abbrev pub OpenIn : Query → List Slot → Entry → Option ℤ → Type 0
OpenIn q ss e None = is_quiet q ss e ≡ true → is_met q ss e ≡ true
OpenIn q ss e (Some l) = Unassigned ss l × (is_met q ss e ≡ false)

-- a literal without a value, or none, as the values are a model
abbrev pub Next : Query → List Slot → Option ℤ → Type 0
Next q ss None = Satisfies q.table q.set (map byte_of ss)
Next q ss (Some l) = Unassigned ss l

-- ---- the answer: a model in the buffer, or why there is none under the decisions, with the buffer as it was
abbrev pub Answers : Query → List (Option Bool) → List ℕ → Result Unit Reason → List ℕ → Type 0
Answers q ds before (Ok u) after = Satisfies q.table q.set after
Answers q ds before (Err r) after = Excludes q ds r × (after ≡ before)

-- under the decisions of the trail
abbrev pub Solved : Query → List Slot → List ℕ → Result Unit Reason → List ℕ → Type 0
Solved q ss = Answers q (decisions ss)

-- and under that of a literal more
abbrev pub SolvedWith : Query → List Slot → ℤ → List ℕ → Result Unit Reason → List ℕ → Type 0
SolvedWith q ss l = Answers q (with_decision ss l)
