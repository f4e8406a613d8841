-- Covers that can be made smaller, and those that cannot.
use Rattle.std.proofs.Common.{◌≡◌, ℕ, ◌-◌, ◌^◌, true, false, not, ◌&&◌, eqb, List, [], ◌∷◌, length, refl, arith}
use Rattle.std.proofs.lemmas.Bool.Decides.{nat_tests}
use Rattle.std.specs.List.{list_all}
use Rattle.terms.specs.Masks.{member, subset, intersect}
use Rattle.terms.proofs.MaskLaws.{member_full, none_members, subset_members, subset_self, intersect_members, intersect_more, below_members}
use Rattle.makers.specs.Meanings.{MakerMeaning, proper}
use Rattle.makers.specs.Covers.{is_cover}

-- a set with more members covers what the smaller one covers
more_covers : (x y : ℕ) (cs : List ℕ) → subset x y ≡ true → list_all (intersect x) cs ≡ true → list_all (intersect y) cs ≡ true
more_covers x y [] s h = refl
more_covers x y (core ∷ cs) s h = grind (arith, nat_tests, more_covers x y cs, intersect_more x core y core s (subset_self core))

full_meets : (n core : ℕ) → proper n core ≡ true → intersect (2 ^ n - 1) core ≡ true
full_meets n core h = grind (arith, nat_tests, none_members core, below_members n core, intersect_members (2 ^ n - 1) core, member_full n)

full_covers : (n : ℕ) (cs : List ℕ) → list_all (proper n) cs ≡ true → list_all (intersect (2 ^ n - 1)) cs ≡ true
full_covers n [] h = refl
full_covers n (core ∷ cs) h = grind (arith, nat_tests, full_covers n cs, full_meets n core)

module _ {W : Type 0} (m : MakerMeaning W) where
  pub full_is_cover : (n s : ℕ) → n ≡ length m.weights → s ≡ 2 ^ n - 1 → list_all (proper (length m.weights)) m.cores ≡ true → is_cover m s ≡ true
  full_is_cover n s e f h = grind (arith, nat_tests, full_covers n m.cores, below_members n s, member_full n)

  -- a cover without the number k is a part of the rest
  lacks : (cover rest k other : ℕ) → ((j : ℕ) → member rest j ≡ (member cover j && not (eqb k j))) → subset other cover ≡ true → member other k ≡ false → subset other rest ≡ true
  lacks cover rest k other w s l = grind (arith, nat_tests, subset_members other cover, subset_members other rest)

  -- where a number cannot be spared, each cover that is part of this one has it
  pub needs : (cover rest k other : ℕ) → ((j : ℕ) → member rest j ≡ (member cover j && not (eqb k j))) → is_cover m cover ≡ true → is_cover m rest ≡ false
      → is_cover m other ≡ true → subset other cover ≡ true → member other k ≡ true
  needs cover rest k other w c r o s =
      grind (arith, nat_tests, lacks cover rest k other, more_covers other rest m.cores, below_members (length m.weights) cover, below_members (length m.weights) rest)
