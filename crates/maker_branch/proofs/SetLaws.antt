-- Sets with one number more, and their masks as numbers.
use Rattle.std.proofs.Common.{◌≡◌, ℕ, ◌+◌, ◌-◌, ◌<◌, ◌≤◌, ◌^◌, Bool, true, false, bit_and, ⊎_elim, sym, ap, List, [], ◌∷◌, ◌∙◌, refl, arith, subst}
use Rattle.std.specs.Prelude.{◌==◌}
use Rattle.std.specs.List.{list_all, list_any}
use Rattle.std.proofs.lemmas.Bool.{both_ways, cases_lt, eqb-true, ltb-true}
use Rattle.std.proofs.lemmas.Nat.{and_le_r}
use Rattle.std.proofs.lemmas.Bool.Decides.{nat_tests}
use Rattle.terms.specs.declared.limits.TheConstants.{SOFT_PLACES}
use Rattle.terms.specs.Masks.{member, subset, intersect, below}
use Rattle.terms.proofs.MaskLaws.{none_members, subset_members, subset_self, intersect_members, below_members}
use Rattle.maker_branch.specs.Branches.{With}
use Rattle.maker_branch.specs.declared.branches.Branch.{Branch}

-- what is listed and nothing else passes the test, so all that is listed does
pub all_listed : (p : ℕ → Bool) (ks : List ℕ) → ((k : ℕ) → p k ≡ list_any (λ j. j == k) ks) → list_all p ks ≡ true
all_listed p ks e = from ks (λ k h. e k ∙ h)
  where
    here : (k : ℕ) (js : List ℕ) → list_any (λ j. j == k) (k ∷ js) ≡ true
    here k js = grind (arith, nat_tests)

    from : (js : List ℕ) → ((k : ℕ) → list_any (λ j. j == k) js ≡ true → p k ≡ true) → list_all p js ≡ true
    from [] h = refl
    from (j ∷ js) h = grind (arith, nat_tests, h j (here j js), from js (λ k t. h k (grind (arith, nat_tests, t))))

pub next_passes : (p : ℕ → Bool) (k : ℕ) (items rest : List ℕ) → items ≡ k ∷ rest → list_all p items ≡ true → (p k ≡ true) × (list_all p rest ≡ true)
next_passes p k items rest e h = let both = subst (λ ks. list_all p ks ≡ true) e h in (grind (arith, both), grind (arith, both))

pub below_none : (n x : ℕ) → x ≡ 0 → below n x ≡ true
below_none n x none = grind (arith, nat_tests, none, none_members 0, below_members n x)

pub none_within : (x y : ℕ) → ((k : ℕ) → member x k ≡ false) → subset x y ≡ true
none_within x y none = grind (arith, nat_tests, none, subset_members x y)

pub none_apart : (x y : ℕ) → ((k : ℕ) → member x k ≡ false) → intersect x y ≡ false
none_apart x y none = grind (arith, nat_tests, none, intersect_members x y)

-- ---- masks as numbers
pub below_mask : (x : ℕ) → below SOFT_PLACES x ≡ true → x < 2 ^ SOFT_PLACES
unfolding below
below_mask x h = omega (arith, ltb-true x (2 ^ SOFT_PLACES) h)

not_within : (x y k : ℕ) → member x k ≡ true → member y k ≡ false → subset x y ≡ false
not_within x y k a b = grind (arith, nat_tests, a, b, subset_members x y)

-- a part is no greater
pub part_at_most : (x y : ℕ) → subset x y ≡ true → x ≤ y
unfolding subset
part_at_most x y h = omega (arith, and_le_r x y, eqb-true (bit_and x y) x h)

-- a set with more members is the greater number
pub greater : (x y : ℕ) → subset x y ≡ true → subset y x ≡ false → x < y
greater x y s n = ⊎_elim (λ less. less) (λ more. absurd (both_ways (subset y x) n (grind (arith, same (omega (arith, more, part_at_most x y s)), subset_self x)))) (cases_lt x y)
  where
    same : x ≡ y → subset y x ≡ subset x x
    same i = ap (λ z. subset z x) (sym i)

-- ---- a set, and the same with one number more
module _ (x more number : ℕ) (e : With x number more) where
  pub subset_with : subset x more ≡ true
  subset_with = grind (arith, nat_tests, e, subset_members x more)

  pub below_with : below SOFT_PLACES x ≡ true → below SOFT_PLACES more ≡ true
  below_with h = grind (arith, nat_tests, h, e, below_members SOFT_PLACES x, below_members SOFT_PLACES more)

  pub within_with : (set : ℕ) → subset x set ≡ true → member set number ≡ true → subset more set ≡ true
  within_with set s h = grind (arith, nat_tests, e, s, h, subset_members x set, subset_members more set)

  pub apart_with : (set : ℕ) → intersect x set ≡ false → member set number ≡ false → intersect more set ≡ false
  apart_with set a h = grind (arith, nat_tests, e, a, h, intersect_members x set, intersect_members more set)

  pub grows_with : member x number ≡ false → number < SOFT_PLACES → below SOFT_PLACES x ≡ true → (x < more) × (more < 2 ^ SOFT_PLACES)
  grows_with a l b =
      (greater x more subset_with (not_within more x number (grind (arith, nat_tests, e, l)) a), below_mask more (below_with b))

-- ---- how much is undecided: it falls as a set of numbers that are settled grows
abbrev pub undecided : Branch → ℕ
undecided branch = (2 ^ SOFT_PLACES - branch.chosen) + (2 ^ SOFT_PLACES - branch.out)

module _ (before after : Branch) where
  pub fewer_chosen : after.out ≡ before.out → subset before.chosen after.chosen ≡ true → undecided after ≤ undecided before
  fewer_chosen e s = omega (arith, e, part_at_most before.chosen after.chosen s)

  pub falls_chosen : after.out ≡ before.out → before.chosen < after.chosen → after.chosen < 2 ^ SOFT_PLACES → undecided after < undecided before
  falls_chosen e l b = omega (arith, e, l, b)

  pub falls_out : after.chosen ≡ before.chosen → before.out < after.out → after.out < 2 ^ SOFT_PLACES → undecided after < undecided before
  falls_out e l b = omega (arith, e, l, b)
