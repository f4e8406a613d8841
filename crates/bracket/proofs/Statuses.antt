-- What a status says of a state.
use Rattle.std.proofs.Common.{◌≡◌, Bool, true, false, if◌then◌else◌, Some, None, Option, refl, arith}
use Rattle.weights.specs.Kinds.{Kind}
use Rattle.bracket.specs.States.{State, Plan, same, status, status_at, Ended}
use Rattle.bracket.specs.declared.states.Status.{Status}
use Rattle.bracket.specs.declared.states.Status.TheVariants.{Void, Unasked, Best, Open}

module _ {W : Type 0} (K : Kind W) where
  abbrev told : Bool → K.V → Option (Plan K.V) → Status
  told void floor kept = if void then Void else status_at K floor kept

  -- an assignment is kept, and its cost is as much as the floor or is not
  abbrev Keeps : Bool → K.V → Option (Plan K.V) → Type 0
  Keeps equal floor kept = (plan : Plan K.V) × (kept ≡ Some plan) × (same K floor plan.cost ≡ equal)

  void_told : (v : Bool) (f : K.V) (k : Option (Plan K.V)) → told v f k ≡ Void → v ≡ true
  void_told true f k e = refl
  void_told false f None e = grind arith
  void_told false f (Some p) e = grind arith

  unasked_told : (v : Bool) (f : K.V) (k : Option (Plan K.V)) → told v f k ≡ Unasked → (v ≡ false) × (k ≡ None)
  unasked_told true f k e = grind arith
  unasked_told false f None e = (refl, refl)
  unasked_told false f (Some p) e = grind arith

  best_told : (v : Bool) (f : K.V) (k : Option (Plan K.V)) → told v f k ≡ Best → (v ≡ false) × Keeps true f k
  best_told true f k e = grind arith
  best_told false f None e = grind arith
  best_told false f (Some p) e = (refl, (p, refl, grind arith))

  open_told : (v : Bool) (f : K.V) (k : Option (Plan K.V)) → told v f k ≡ Open → (v ≡ false) × Keeps false f k
  open_told true f k e = grind arith
  open_told false f None e = grind arith
  open_told false f (Some p) e = (refl, (p, refl, grind arith))

module _ {V : Type 0} where
  keeps_not_void : (void : Bool) (kept : Option V) (plan : V) → (void ≡ true → kept ≡ None) → kept ≡ Some plan → void ≡ false
  keeps_not_void true kept plan h k = grind (arith, h refl)
  keeps_not_void false kept plan h k = refl

module _ {W : Type 0} {K : Kind W} (s : State K) where
  pub is_void : status s ≡ Void → s.void ≡ true
  is_void e = void_told K s.void s.floor s.kept e

  pub is_unasked : status s ≡ Unasked → (s.void ≡ false) × (s.kept ≡ None)
  is_unasked e = unasked_told K s.void s.floor s.kept e

  pub is_best : status s ≡ Best → (s.void ≡ false) × Keeps K true s.floor s.kept
  is_best e = best_told K s.void s.floor s.kept e

  pub is_open : status s ≡ Open → (s.void ≡ false) × Keeps K false s.floor s.kept
  is_open e = open_told K s.void s.floor s.kept e

  pub is_not_void : (plan : Plan K.V) → (s.void ≡ true → s.kept ≡ None) → s.kept ≡ Some plan → s.void ≡ false
  is_not_void plan h k = keeps_not_void s.void s.kept plan h k

  pub void_at : s.void ≡ true → status s ≡ Void
  void_at e = grind arith

  pub best_at : (plan : Plan K.V) → s.void ≡ false → s.kept ≡ Some plan → same K s.floor plan.cost ≡ true → status s ≡ Best
  best_at plan v k e = grind arith

  pub open_goes_on : status s ≡ Open → Ended s → ⊥
  open_goes_on e x = grind arith

  pub unasked_goes_on : status s ≡ Unasked → Ended s → ⊥
  unasked_goes_on e x = grind arith
