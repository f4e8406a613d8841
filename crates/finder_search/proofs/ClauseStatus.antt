-- The status of a clause, literal by literal, and what it says of these.
use Rattle.std.proofs.Common.{◌≡◌, ◌<◌, Bool, true, false, not, cond, List, [], ◌∷◌, ◌++◌, length, get_or, ℤ, is_some, refl, arith}
use Rattle.std.specs.List.{list_any, filter}
use Rattle.std.proofs.lemmas.List.Elements.{filter_more}
use Rattle.std.proofs.lemmas.List.Folds.{list_any_more, list_any_at}
use Rattle.finder_search.specs.ClauseStatus.{is_true, left_with, status, truth}
use Rattle.finder_search.specs.Trail.{is_unassigned, is_unset, value_of}
use Rattle.finder_search.specs.declared.trail.Slot.{Slot}
use Rattle.finder_search.specs.declared.trail.Slot.TheVariants.{Unset, Decided, Implied}
use Rattle.finder_search.specs.declared.clause_status.ClauseStatus.{ClauseStatus}
use Rattle.finder_search.specs.declared.clause_status.ClauseStatus.TheVariants.{Satisfied, Broken, Unit as UnitClause, Open}

-- one literal more that has no value
abbrev pub with_unset : ClauseStatus → ℤ → ClauseStatus
with_unset Satisfied l = Satisfied
with_unset Broken l = UnitClause l
with_unset (UnitClause k) l = Open k
with_unset (Open k) l = Open k

pub left_with_push : (ls : List ℤ) (l : ℤ) → left_with (ls ++ l ∷ []) ≡ with_unset (left_with ls) l
left_with_push [] l = refl
left_with_push (k ∷ []) l = refl
left_with_push (k ∷ j ∷ ls) l = refl

-- a literal is neither true nor false where its variable is unset
pub unset_none : (s : Slot) (l : ℤ) → is_unset s ≡ not (is_some (truth (value_of s) l))
unset_none Unset l = refl
unset_none (Decided b d) l = refl
unset_none (Implied b d r) l = refl

pub ruleset status_steps = (list_any_more, list_any_at, filter_more)

-- ---- what a status says of the literals
module _ (ss : List Slot) (c : List ℤ) where
  pub broken_status : status ss c ≡ Broken → (list_any (is_true ss) c ≡ false) × (filter (is_unassigned ss) c ≡ [])
  broken_status = by (list_any (is_true ss) c) (filter (is_unassigned ss) c)
    where
      by : (b : Bool) (ls : List ℤ) → cond b Satisfied (left_with ls) ≡ Broken → (b ≡ false) × (ls ≡ [])
      by true ls e = absurd (cc)
      by false [] e = (refl, refl)
      by false (l ∷ []) e = absurd (cc)
      by false (l ∷ k ∷ ls) e = absurd (cc)

  pub unit_status : (u : ℤ) → status ss c ≡ UnitClause u → (list_any (is_true ss) c ≡ false) × (filter (is_unassigned ss) c ≡ u ∷ [])
  unit_status u = by (list_any (is_true ss) c) (filter (is_unassigned ss) c)
    where
      by : (b : Bool) (ls : List ℤ) → cond b Satisfied (left_with ls) ≡ UnitClause u → (b ≡ false) × (ls ≡ u ∷ [])
      by true ls e = absurd (cc)
      by false [] e = absurd (cc)
      by false (l ∷ []) e = (refl, cc)
      by false (l ∷ k ∷ ls) e = absurd (cc)

  pub open_status : (u : ℤ) → status ss c ≡ Open u → (get_or (filter (is_unassigned ss) c) 0 u ≡ u) × (0 < length (filter (is_unassigned ss) c)) × (list_any (is_true ss) c ≡ false)
  open_status u = by (list_any (is_true ss) c) (filter (is_unassigned ss) c)
    where
      by : (b : Bool) (ls : List ℤ) → cond b Satisfied (left_with ls) ≡ Open u → (get_or ls 0 u ≡ u) × (0 < length ls) × (b ≡ false)
      by true ls e = absurd (cc)
      by false [] e = absurd (cc)
      by false (l ∷ []) e = absurd (cc)
      by false (l ∷ k ∷ ls) e = (cc, omega arith, refl)
