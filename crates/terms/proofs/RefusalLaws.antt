-- Which tests failed where a call was not refused.
use Rattle.std.proofs.Common.{◌≡◌, Bool, true, false, cond, Some, None, Option, refl, arith}
use Rattle.terms.specs.Earliest.{earlier}
use Rattle.terms.specs.declared.refusals.Refusal.{Refusal}

pub neither : (first other : Option Refusal) → earlier first other ≡ None → (first ≡ None) × (other ≡ None)
neither None other e = (refl, e)
neither (Some r) None e = grind arith
neither (Some r) (Some t) e = grind arith

pub passes : (b : Bool) (r : Refusal) (rest : Option Refusal) → earlier (cond b (Some r) None) rest ≡ None → (b ≡ false) × (rest ≡ None)
passes true r rest e = grind (arith, neither (Some r) rest e)
passes false r rest e = (refl, e)

pub never : (r : Refusal) (o : Option Refusal) → Some r ≡ o → o ≡ None → ⊥
never r o p q = grind arith
