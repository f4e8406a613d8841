-- The total of all weights, and the costs of sets beside it.
use Rattle.std.proofs.Common.{◌≡◌, ℕ, suc, Bool, true, false, not, cond, List, [], ◌∷◌, ◌++◌, sym, ap, ◌∙◌}
use Rattle.weights.specs.Kinds.{Kind, Laws}
use Rattle.weights.specs.Costs.{total, cost_from}

module _ {W : Type 0} (K : Kind W) (laws : Laws K) where
  -- one weight more adds to the total
  pub total_push : (ws : List W) (w : W) → total K (ws ++ w ∷ []) ≡ K.plus (total K ws) (K.value w)
  total_push [] w = laws.comm (K.value w) K.zero
  total_push (x ∷ ws) w = ap (K.plus (K.value x)) (total_push ws w) ∙ sym (laws.assoc (K.value x) (total K ws) (K.value w))

  -- one weight in either of two sums
  placed : (b : Bool) (v x y : K.V) → K.plus (K.plus (cond b v K.zero) x) (K.plus (cond (not b) v K.zero) y) ≡ K.plus v (K.plus x y)
  placed true v x y = ap (K.plus (K.plus v x)) (laws.unit y) ∙ laws.assoc v x y
  placed false v x y =
      ap (λ z. K.plus z (K.plus v y)) (laws.unit x) ∙ sym (laws.assoc x v y) ∙ ap (λ z. K.plus z y) (laws.comm x v) ∙ laws.assoc v x y

  -- what p picks and what it leaves make up the total
  picked_and_left : (ws : List W) (p : ℕ → Bool) (i : ℕ) → K.plus (cost_from K ws p i) (cost_from K ws (λ k. not (p k)) i) ≡ total K ws
  picked_and_left [] p i = laws.unit K.zero
  picked_and_left (w ∷ ws) p i =
      placed (p i) (K.value w) (cost_from K ws p (suc i)) (cost_from K ws (λ k. not (p k)) (suc i)) ∙ ap (K.plus (K.value w)) (picked_and_left ws p (suc i))

  -- no cost is too much where the total is not
  pub cost_held : (ws : List W) (p : ℕ → Bool) (i : ℕ) → K.holds (total K ws) ≡ true → K.holds (cost_from K ws p i) ≡ true
  cost_held ws p i h = (laws.parts (cost_from K ws p i) (cost_from K ws (λ k. not (p k)) i) (ap K.holds (picked_and_left ws p i) ∙ h)).0
