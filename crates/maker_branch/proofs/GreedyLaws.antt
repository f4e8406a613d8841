-- Taking one number after another, until every core is met.
use Rattle.std.proofs.Common.{◌≡◌, ℕ, ◌-◌, ◌^◌, ◌<◌, true, false, length, refl, arith}
use Rattle.std.proofs.lemmas.Bool.Decides.{nat_tests}
use Rattle.std.specs.List.{list_all}
use Rattle.terms.specs.Masks.{subset, intersect, below}
use Rattle.terms.proofs.MaskLaws.{member_full, none_members, subset_members, intersect_members, below_members}
use Rattle.makers.specs.Meanings.{MakerMeaning, proper}
use Rattle.makers.specs.Covers.{is_cover}
use Rattle.makers.proofs.CoverLaws.{full_is_cover}
use Rattle.maker_branch.specs.Branches.{NoneOf, With}
use Rattle.maker_branch.specs.Scores.{is_left}
use Rattle.maker_branch.specs.declared.branches.Branch.{Branch}
use Rattle.maker_branch.proofs.BranchLaws.{in_from, none_open}

module _ (n x : ℕ) (b : below n x ≡ true) where
  within_full : subset x (2 ^ n - 1) ≡ true
  within_full = grind (arith, nat_tests, b, below_members n x, subset_members x (2 ^ n - 1), member_full n)

  pub given : (more number : ℕ) → With x number more → number < n → below n more ≡ true
  given more number with l = grind (arith, nat_tests, b, with, l, below_members n x, below_members n more)

-- where nothing is left out, the branch has the cover of all numbers
pub met : {W : Type 0} (m : MakerMeaning W) (branch : Branch) → list_all (proper (length m.weights)) m.cores ≡ true → below (length m.weights) branch.chosen ≡ true → branch.out ≡ 0
    → NoneOf (is_left m branch) → is_cover m branch.chosen ≡ true
met m branch p b o h =
    let full = 2 ^ length m.weights - 1 in
    let apart : intersect branch.out full ≡ false = grind (arith, nat_tests, o, none_members 0, intersect_members branch.out full) in
    none_open m branch full h (in_from m branch full (full_is_cover m (length m.weights) full refl refl p) (within_full (length m.weights) branch.chosen b) apart)
