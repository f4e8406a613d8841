-- How each variable stands while a search is on: its value, its level, and what the value rests on.
use Rattle.std.specs.Prelude.{◌≡◌, ℕ, ◌+◌, ◌<◌, ◌≤◌, Bool, true, false, if◌then◌else◌, List, [], ◌∷◌, map, length, ℤ, Some, None, Option, ◌==◌, nat_lt, slice_index_or}
use Rattle.terms.specs.Clauses.{bad_literal}
use Rattle.terms.specs.Masks.{member}
use Rattle.finder_search.specs.Literals.{index}
use Rattle.finder_search.specs.VariableSets.{has}
use Rattle.finder_search.specs.declared.trail.Slot.{Slot}
use Rattle.finder_search.specs.declared.trail.Slot.TheVariants.{Unset, Decided, Implied}

abbrev pub slot_at : List Slot → ℕ → Slot
slot_at ss v = slice_index_or ss v Unset

-- ---- values
abbrev pub value_of : Slot → Option Bool
value_of Unset = None
value_of (Decided b d) = Some b
value_of (Implied b d r) = Some b

abbrev pub is_unset : Slot → Bool
is_unset Unset = true
is_unset (Decided b d) = false
is_unset (Implied b d r) = false

-- the value as a byte of an assignment; a variable that has none gets 0
abbrev pub byte_of : Slot → ℕ
byte_of Unset = 0
byte_of (Decided b d) = if b then 1 else 0
byte_of (Implied b d r) = if b then 1 else 0

-- how many variables have no value
unfoldable pub unset : List Slot → ℕ
unset [] = 0
unset (s ∷ ss) = (if is_unset s then 1 else 0) + unset ss

abbrev pub is_unassigned : List Slot → ℤ → Bool
is_unassigned ss l = is_unset (slot_at ss (index l))

-- a literal whose variable has no value
abbrev pub Unassigned : List Slot → ℤ → Type 0
Unassigned ss l = (bad_literal (length ss) l ≡ false) × (is_unassigned ss l ≡ true)

-- ---- decisions
abbrev pub decision_of : Slot → Option Bool
decision_of Unset = None
decision_of (Decided b d) = Some b
decision_of (Implied b d r) = None

-- what the search has decided for each variable
abbrev pub decisions : List Slot → List (Option Bool)
decisions = map decision_of

-- a value that was decided rests on that decision of the variable, which has this index, and on nothing else
abbrev pub rests_on_decision : Slot → ℕ → ℕ → Bool
rests_on_decision Unset p v = false
rests_on_decision (Decided b d) p v = p == v
rests_on_decision (Implied b d r) p v = has r.decisions v

abbrev pub rests_on_soft : Slot → ℕ → Bool
rests_on_soft Unset k = false
rests_on_soft (Decided b d) k = false
rests_on_soft (Implied b d r) k = member r.softs k

-- ---- levels
abbrev pub level_of : Slot → ℕ
level_of Unset = 0
level_of (Decided b d) = d
level_of (Implied b d r) = d

-- the variable was set deeper than this level
abbrev pub is_deeper : ℕ → Slot → Bool
is_deeper level Unset = false
is_deeper level (Decided b d) = nat_lt level d
is_deeper level (Implied b d r) = nat_lt level d

-- the slot where all that is deeper is unset
abbrev pub undone : ℕ → Slot → Slot
undone level s = if is_deeper level s then Unset else s

-- no variable is set deeper
unfoldable pub Within : ℕ → List Slot → Type 0
Within level ss = (v : ℕ) → v < length ss → level_of (slot_at ss v) ≤ level

-- from ss to ts values were implied at this level, for variables that had none, and nothing else was done
pub record Extends (level : ℕ) (ss ts : List Slot) : Type 0 where
  pub decided : decisions ts ≡ decisions ss
  pub below : (d : ℕ) → d < level → map (undone d) ts ≡ map (undone d) ss
  pub kept : (v : ℕ) → is_unset (slot_at ss v) ≡ false → slot_at ts v ≡ slot_at ss v
  pub fewer : unset ts ≤ unset ss
  pub within : Within level ss → Within level ts
