-- Sums grow with their parts.
use Rattle.std.proofs.Common.{◌≡◌, ℕ, suc, Bool, true, false, if◌then◌else◌, List, [], ◌∷◌, arith}
use Rattle.weights.specs.Costs.{cost_from}
use Rattle.weights.specs.Kinds.{Kind, Laws}

module _ {W : Type 0} {K : Kind W} (laws : Laws K) where
  pub le_self : (x : K.V) → K.le x x ≡ true
  le_self x = grind (arith, laws.total x x)

  pub more_left : (z x y : K.V) → K.le x y ≡ true → K.le (K.plus z x) (K.plus z y) ≡ true
  more_left z x y h = grind (arith, laws.comm z x, laws.comm z y, laws.mono x y z)

  pub more_both : (u v x y : K.V) → K.le u v ≡ true → K.le x y ≡ true → K.le (K.plus u x) (K.plus v y) ≡ true
  more_both u v x y g h = laws.trans (K.plus u x) (K.plus v x) (K.plus v y) (laws.mono u v x g) (more_left v x y h)

  -- what picks more, of weights that are no less, costs no less
  pub pick_more : (p q : Bool) (v w : K.V) → (p ≡ true → q ≡ true) → K.le v w ≡ true → K.le (if p then v else K.zero) (if q then w else K.zero) ≡ true
  pick_more true q v w h l = grind (arith, h, l)
  pick_more false q v w h l = laws.least (if q then w else K.zero)

  pub cost_more : (ws : List W) (p q : ℕ → Bool) (i : ℕ) → ((k : ℕ) → p k ≡ true → q k ≡ true) → K.le (cost_from K ws p i) (cost_from K ws q i) ≡ true
  cost_more [] p q i h = le_self K.zero
  cost_more (w ∷ ws) p q i h =
      more_both _ _ (cost_from K ws p (suc i)) (cost_from K ws q (suc i)) (pick_more (p i) (q i) (K.value w) (K.value w) (h i) (le_self (K.value w))) (cost_more ws p q (suc i) h)
