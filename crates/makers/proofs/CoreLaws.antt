-- What a new core does to the kept ones and to their covers.
use Rattle.std.proofs.Common.{◌≡◌, ℕ, true, ◌&&◌, List, [], ◌∷◌, ◌++◌, refl, arith}
use Rattle.std.proofs.lemmas.Bool.Decides.{nat_tests}
use Rattle.std.proofs.lemmas.List.Folds.{list_all-append}
use Rattle.std.specs.List.{list_all}
use Rattle.terms.specs.Masks.{subset, intersect}
use Rattle.terms.proofs.MaskLaws.{subset_self, intersect_more}
use Rattle.makers.specs.Meanings.{has_part, staying}

module _ (set core : ℕ) where
  meets_whole : (x y : ℕ) → subset x y ≡ true → intersect set x ≡ true → intersect set y ≡ true
  meets_whole x y = intersect_more set x set y (subset_self set)

  part_met : (cs : List ℕ) → has_part cs core ≡ true → list_all (intersect set) cs ≡ true → intersect set core ≡ true
  part_met [] p m = grind arith
  part_met (x ∷ cs) p m = grind (arith, nat_tests, part_met cs, meets_whole x core)

  others_met : (cs : List ℕ) → intersect set core ≡ true → list_all (intersect set) (staying core cs) ≡ list_all (intersect set) cs
  others_met [] m = refl
  others_met (x ∷ cs) m = grind (arith, nat_tests, others_met cs, meets_whole core x)

  -- a set covers the cores after exactly when it covered those before and meets the new one
  pub covered_part : (cs : List ℕ) → has_part cs core ≡ true → list_all (intersect set) cs ≡ (list_all (intersect set) cs && intersect set core)
  covered_part cs p = grind (arith, nat_tests, part_met cs)

  pub covered_kept : (cs : List ℕ) → list_all (intersect set) (staying core cs ++ core ∷ []) ≡ (list_all (intersect set) cs && intersect set core)
  covered_kept cs = grind (arith, nat_tests, others_met cs, list_all-append (intersect set) (staying core cs) (core ∷ []))
