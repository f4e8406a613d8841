-- The cost of the set that an assignment breaks is the cost of the assignment.
use Rattle.std.proofs.Common.{◌≡◌, ℕ, suc, ◌+◌, Bool, List, [], ◌∷◌, length, ℤ, refl, ap₂, arith}
use Rattle.std.proofs.lemmas.Bool.Decides.{nat_tests}
use Rattle.terms.specs.Clauses.{breaks}
use Rattle.terms.specs.Masks.{member}
use Rattle.std.specs.List.{zip}
use Rattle.weights.specs.Kinds.{Kind}
use Rattle.weights.specs.Costs.{cost_from, cost, charge}

module _ {W : Type 0} (K : Kind W) where
  broken_from : (ws : List W) (cs : List (List ℤ)) (a : List ℕ) (p : ℕ → Bool) (i : ℕ) → length ws ≡ length cs → ((k : ℕ) → p (i + k) ≡ breaks a cs k)
      → cost_from K ws p i ≡ charge K (zip ws cs) a
  broken_from [] cs a p i l h = refl
  broken_from (w ∷ ws) [] a p i l h = absurd (omega arith)
  broken_from (w ∷ ws) (c ∷ cs) a p i l h =
      ap₂ K.plus (grind (arith, h 0)) (broken_from ws cs a p (suc i) (omega arith) (λ k. grind (arith, nat_tests, h (suc k))))

  pub broken_charge : (ws : List W) (cs : List (List ℤ)) (a : List ℕ) (m : ℕ) → length ws ≡ length cs → ((k : ℕ) → member m k ≡ breaks a cs k)
      → cost K ws m ≡ charge K (zip ws cs) a
  broken_charge ws cs a m l h = broken_from ws cs a (member m) 0 l (grind (arith, h))
