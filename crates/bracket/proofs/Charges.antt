-- Values compared: floors, the costs of covers, and what assignments pay.
use Rattle.std.proofs.Common.{◌≡◌, ℕ, zero, suc, ◌^◌, ◌⊎◌, inl, inr, ⊎_elim, Bool, true, false, ◌&&◌, if◌then◌else◌, List, [], ◌∷◌, ◌++◌, length, map, ℤ, Some, None, Option, refl, ap, subst, bit_or, ltb, arith}
use Rattle.std.proofs.lemmas.Bool.Decides.{nat_tests}
use Rattle.std.specs.List.{zip}
use Rattle.terms.specs.Clauses.{breaks}
use Rattle.terms.specs.Masks.{member}
use Rattle.terms.proofs.MaskLaws.{member-or, member_one, none_members}
use Rattle.weights.specs.Costs.{charge}
use Rattle.weights.specs.Kinds.{Kind, Laws}
use Rattle.weights.proofs.SumLaws.{le_self, more_left}
use Rattle.bracket.specs.States.{Plan, same}
use Rattle.bracket.specs.Changes.{higher, cheaper}

module _ {W : Type 0} {K : Kind W} (laws : Laws K) where
  pub same_is_equal : (x y : K.V) → same K x y ≡ true → x ≡ y
  same_is_equal x y h = grind (arith, laws.antisym x y)

  pub equal_is_same : (x y : K.V) → x ≡ y → same K x y ≡ true
  equal_is_same x y e = grind (arith, le_self laws x)

  -- ---- the higher of two
  pub higher_left : (x y : K.V) → K.le x (higher K x y) ≡ true
  higher_left x y = grind (arith, le_self laws x, laws.total y x)

  pub higher_right : (x y : K.V) → K.le y (higher K x y) ≡ true
  higher_right x y = grind (arith, le_self laws y)

  pub higher_low : (x y z : K.V) → K.le x z ≡ true → K.le y z ≡ true → K.le (higher K x y) z ≡ true
  higher_low x y z p q = grind arith

  -- ---- what is kept of two plans
  -- it is one of them, and costs no more than the new one
  pub cheaper_is : (kept : Option (Plan K.V)) (new : Plan K.V)
      → (plan : Plan K.V) × (cheaper K kept new ≡ Some plan) × (K.le plan.cost new.cost ≡ true) × ((kept ≡ Some plan) ⊎ (new ≡ plan))
  cheaper_is None new = (new, refl, le_self laws new.cost, inr refl)
  cheaper_is (Some old) new = by_test (K.le old.cost new.cost) refl
    where
      by_test : (b : Bool) → K.le old.cost new.cost ≡ b
          → (plan : Plan K.V) × (◌≡◌ {A = Option (Plan K.V)} (if b then Some old else Some new) (Some plan)) × (K.le plan.cost new.cost ≡ true)
          × ((Some old ≡ Some plan) ⊎ (new ≡ plan))
      by_test true e = (old, refl, e, inl refl)
      by_test false e = (new, refl, le_self laws new.cost, inr refl)

  -- so what holds of either holds of it
  pub of_cheaper : (P : Plan K.V → Type 0) (kept : Option (Plan K.V)) (new : Plan K.V) → ((old : Plan K.V) → kept ≡ Some old → P old) → P new
      → (plan : Plan K.V) → cheaper K kept new ≡ Some plan → P plan
  of_cheaper P kept new olds h plan e =
      let c = cheaper_is kept new in
      let i : c.0 ≡ plan = grind (arith, c.1, e) in
      subst P i (⊎_elim (λ k. olds c.0 k) (λ k. subst P k h) c.3)

  -- ---- sums
  -- a soft clause more costs no less
  pub charge_more : (xs ys : List (W × List ℤ)) (a : List ℕ) → K.le (charge K xs a) (charge K (xs ++ ys) a) ≡ true
  charge_more [] ys a = laws.least (charge K ys a)
  charge_more (x ∷ xs) ys a = more_left laws _ (charge K xs a) (charge K (xs ++ ys) a) (charge_more xs ys a)

-- ---- weights beside clauses
pub zip_of_parts : {A B : Type 0} (xs : List (A × B)) → zip (map (λ x. x.0) xs) (map (λ x. x.1) xs) ≡ xs
zip_of_parts [] = refl
zip_of_parts (x ∷ xs) = ap (λ ys. x ∷ ys) (zip_of_parts xs)

-- ---- the set of the soft clauses that an assignment breaks
abbrev PicksBelow : (ℕ → Bool) → ℕ → Type 0
PicksBelow p n = (m : ℕ) × ((k : ℕ) → member m k ≡ (ltb k n && p k))

one_more : (p : ℕ → Bool) (n : ℕ) (b : Bool) → p n ≡ b → PicksBelow p n → PicksBelow p (suc n)
one_more p n true e m = (bit_or m.0 (2 ^ n), λ k. grind (arith, nat_tests, member-or m.0 (2 ^ n) k, member_one n k, m.1 k))
one_more p n false e m = (m.0, λ k. grind (arith, nat_tests, m.1 k))

picked_below : (p : ℕ → Bool) (n : ℕ) → PicksBelow p n
picked_below p zero = (0, λ k. grind (arith, nat_tests, none_members 0))
picked_below p (suc n) = one_more p n (p n) refl (picked_below p n)

pub broken_set : (a : List ℕ) (cs : List (List ℤ)) → (set : ℕ) × ((k : ℕ) → member set k ≡ breaks a cs k)
broken_set a cs = let m = picked_below (breaks a cs) (length cs) in (m.0, λ k. grind (arith, nat_tests, m.1 k))
