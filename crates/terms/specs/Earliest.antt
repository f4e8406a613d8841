-- Which of several refusals a call gets, and what it leaves.
use Rattle.std.specs.Prelude.{◌≡◌, Bool, if◌then◌else◌, List, [], ◌∷◌, Some, None, Option, Result}
use Rattle.std.specs.Result.{result_err}
use Rattle.std.specs.Ordering.{ord_min}
use Rattle.terms.specs.declared.refusals.Refusal.{Refusal}
use Rattle.terms.specs.contracts.refusals.RefusalOrd.TheImpl.{ghosts as order_of_checks}

-- the earlier of two: the cases of the enum stand in the order in which they are checked
abbrev pub earlier : Option Refusal → Option Refusal → Option Refusal
earlier None other = other
earlier (Some one) None = Some one
earlier (Some one) (Some two) = Some (ord_min order_of_checks.cmp one two)

-- the earliest refusal of the tests that are met
abbrev pub earliest : List (Bool × Refusal) → Option Refusal
earliest [] = None
earliest (t ∷ ts) = earlier (if t.0 then Some t.1 else None) (earliest ts)

-- what a call leaves: what it should change where it is accepted, all as it was where it is refused
abbrev pub unless_refused : {A : Type 0} → Option Refusal → A → A → A
unless_refused None changed same = changed
unless_refused (Some r) changed same = same

-- an accepted call changes the old by f, and a refused one leaves it
abbrev pub Changes : {A T : Type 0} → Result T Refusal → (A → A) → A → A → Type 0
Changes result f old new = new ≡ unless_refused (result_err result) (f old) old
