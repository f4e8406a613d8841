-- Loads, and what sets of numbers come to under them.
use Rattle.std.proofs.Common.{◌≡◌, ℕ, zero, suc, ◌+◌, ◌<◌, Bool, true, false, cond, List, [], ◌∷◌, length, replicate, get_or, slice_set, refl, sym, ap, ◌∙◌, subst, arith}
use Rattle.weights.specs.Costs.{cost_from, cost}
use Rattle.weights.specs.Kinds.{Kind, Laws}
use Rattle.terms.specs.Masks.{member}
use Rattle.weights.proofs.SumLaws.{le_self, more_both, pick_more}
use Rattle.maker_branch.specs.Loads.{value_at, AllWithin, Raised, Borne, Bears}

module _ {W : Type 0} (K : Kind W) where
  pub value_at_index : (xs : List W) (k : ℕ) (w : W) → k < length xs → w ≡ get_or xs k w → value_at K xs k ≡ K.value w
  value_at_index [] k w l h = absurd (omega arith)
  value_at_index (x ∷ xs) zero w l h = ap K.value (sym h)
  value_at_index (x ∷ xs) (suc k) w l h = value_at_index xs k w (omega arith) h

  value_at_none : (n k : ℕ) (z : W) → K.value z ≡ K.zero → value_at K (replicate n z) k ≡ K.zero
  value_at_none zero k z h = refl
  value_at_none (suc n) zero z h = h
  value_at_none (suc n) (suc k) z h = value_at_none n k z h

  set_within : (xs ys : List W) (j : ℕ) (t : W) → AllWithin K xs ys → K.le (K.value t) (value_at K ys j) ≡ true → AllWithin K (slice_set xs j t) ys
  set_within [] ys j t h l k = h k
  set_within (x ∷ xs) ys zero t h l zero = l
  set_within (x ∷ xs) ys zero t h l (suc k) = h (suc k)
  set_within (x ∷ xs) ys (suc j) t h l zero = h 0
  set_within (x ∷ xs) [] (suc j) t h l (suc k) = set_within xs [] j t (λ i. h (suc i)) l k
  set_within (x ∷ xs) (y ∷ ys) (suc j) t h l (suc k) = set_within xs ys j t (λ i. h (suc i)) l k

module _ {W : Type 0} (K : Kind W) (laws : Laws K) where
  -- what costs no more by the number costs no more by the set
  cost_within : (xs ys : List W) (p : ℕ → Bool) (i : ℕ) → AllWithin K xs ys → K.le (cost_from K xs p i) (cost_from K ys p i) ≡ true
  cost_within [] ys p i h = laws.least (cost_from K ys p i)
  cost_within (x ∷ xs) [] p i h =
      subst (λ z. K.le (K.plus (cond (p i) (K.value x) K.zero) (cost_from K xs p (suc i))) z ≡ true) (laws.unit K.zero)
      (more_both laws (cond (p i) (K.value x) K.zero) K.zero (cost_from K xs p (suc i)) K.zero (only (p i)) (cost_within xs [] p (suc i) (λ k. h (suc k))))
    where
      only : (b : Bool) → K.le (cond b (K.value x) K.zero) K.zero ≡ true
      only true = h 0
      only false = le_self laws K.zero
  cost_within (x ∷ xs) (y ∷ ys) p i h =
      more_both laws (cond (p i) (K.value x) K.zero) (cond (p i) (K.value y) K.zero) (cost_from K xs p (suc i)) (cost_from K ys p (suc i)) (pick_more laws (p i) (p i) (K.value x) (K.value y) (λ t. t) (h 0))
      (cost_within xs ys p (suc i) (λ k. h (suc k)))

  added : (b : Bool) (x y z v : K.V) → v ≡ K.plus x y → K.plus (cond b v K.zero) z ≡ K.plus (K.plus (cond b x K.zero) z) (cond b y K.zero)
  added true x y z v h = ap (λ u. K.plus u z) h ∙ laws.assoc x y z ∙ ap (K.plus x) (laws.comm y z) ∙ sym (laws.assoc x z y)
  added false x y z v h = sym (laws.comm (K.plus K.zero z) K.zero ∙ laws.unit (K.plus K.zero z))

  -- an amount more on one number counts for the sets that have it
  cost_set : (xs : List W) (j : ℕ) (t : W) (y : K.V) (p : ℕ → Bool) (i : ℕ) → j < length xs → K.value t ≡ K.plus (value_at K xs j) y
      → cost_from K (slice_set xs j t) p i ≡ K.plus (cost_from K xs p i) (cond (p (i + j)) y K.zero)
  cost_set [] j t y p i l h = absurd (omega arith)
  cost_set (x ∷ xs) zero t y p i l h =
      added (p i) (K.value x) y (cost_from K xs p (suc i)) (K.value t) h
      ∙ ap (λ k. K.plus (K.plus (cond (p i) (K.value x) K.zero) (cost_from K xs p (suc i))) (cond (p k) y K.zero)) (omega arith)
  cost_set (x ∷ xs) (suc j) t y p i l h =
      ap (K.plus (cond (p i) (K.value x) K.zero)) (cost_set xs j t y p (suc i) (omega arith) h)
      ∙ sym (laws.assoc (cond (p i) (K.value x) K.zero) (cost_from K xs p (suc i)) (cond (p (suc i + j)) y K.zero))
      ∙ ap (λ k. K.plus (K.plus (cond (p i) (K.value x) K.zero) (cost_from K xs p (suc i))) (cond (p k) y K.zero)) (omega arith)

  -- no loads come to nothing
  pub nothing_borne : (weights : List W) (n : ℕ) (z total : W) (these : ℕ → Bool) → K.value z ≡ K.zero → K.value total ≡ K.zero → Bears K weights these (replicate n z) total
  nothing_borne weights n z total these h t = record {
    within = λ k. subst (λ v. K.le v (value_at K weights k) ≡ true) (sym (value_at_none K n k z h)) (laws.least (value_at K weights k));
    enough = λ set s. subst (λ v. K.le v (cost K (replicate n z) set) ≡ true) (sym t) (laws.least (cost K (replicate n z) set));
  }

  -- the loads once one number bears an amount more
  cost_borne : (xs : List W) (j : ℕ) (t : W) (y : K.V) (set : ℕ) → j < length xs → K.value t ≡ K.plus (value_at K xs j) y
      → cost K (slice_set xs j t) set ≡ cond (member set j) (K.plus (cost K xs set) y) (cost K xs set)
  cost_borne xs j t y set l h = cost_set xs j t y (member set) 0 l h ∙ ap (λ k. K.plus (cost K xs set) (cond (member set k) y K.zero)) (omega arith) ∙ inside (member set j)
    where
      inside : (b : Bool) → K.plus (cost K xs set) (cond b y K.zero) ≡ cond b (K.plus (cost K xs set) y) (cost K xs set)
      inside true = refl
      inside false = laws.comm (cost K xs set) K.zero ∙ laws.unit (cost K xs set)

  module _ (weights loads : List W) (k : ℕ) (amount : W) where
    pub borne : (load : W) → Raised K weights loads k amount load → Borne K weights k amount true loads (slice_set loads k load)
    borne load r = record {
      within = λ h. set_within K loads weights k load h r.within;
      costs = λ set. cost_borne loads k load (K.value amount) set r.fits r.sum;
    }

    pub not_borne : Borne K weights k amount false loads loads
    not_borne = record { within = λ h. h; costs = λ set. refl }

  -- what holds of more sets holds of fewer
  pub bears_fewer : (weights loads : List W) (total : W) (these those : ℕ → Bool) → ((set : ℕ) → those set ≡ true → these set ≡ true) → Bears K weights these loads total
      → Bears K weights those loads total
  bears_fewer weights loads total these those f b = record { within = b.within; enough = λ set t. b.enough set (f set t) }

  -- none of these sets costs less than the total
  pub bound_under : (weights loads : List W) (total : W) (these : ℕ → Bool) (set : ℕ) (x : K.V) → Bears K weights these loads total → these set ≡ true → K.le x (K.value total) ≡ true
      → K.le x (cost K weights set) ≡ true
  bound_under weights loads total these set x b t l =
      laws.trans x (K.value total) (cost K weights set) l
      (laws.trans (K.value total) (cost K loads set) (cost K weights set) (b.enough set t) (cost_within loads weights (member set) 0 b.within))
