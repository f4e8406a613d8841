-- What one branch says of another, and of the numbers that are left in it.
use Rattle.std.proofs.Common.{◌≡◌, ℕ, ◌<◌, Bool, true, false, not, ◌&&◌, ⊎_elim, List, [], ◌∷◌, length, get_or, refl, sym, subst, arith}
use Rattle.std.proofs.lemmas.Bool.Decides.{nat_tests}
use Rattle.std.specs.Prelude.{◌==◌}
use Rattle.std.proofs.lemmas.Bool.{and_from, and_parts, cases_Bool}
use Rattle.std.proofs.lemmas.List.Folds.{list_all_at}
use Rattle.std.specs.List.{list_all, list_any}
use Rattle.terms.specs.Masks.{member, subset, intersect, below}
use Rattle.terms.proofs.MaskLaws.{subset_members, subset_self, intersect_members, below_members}
use Rattle.makers.specs.Meanings.{MakerMeaning, proper}
use Rattle.makers.specs.Covers.{is_cover}
use Rattle.maker_branch.specs.Branches.{in_branch, meets_in, Forced, NoneOf, With}
use Rattle.maker_branch.specs.Scores.{open_with, is_left}
use Rattle.maker_branch.specs.declared.branches.Branch.{Branch}

-- ---- lists of cores
all_at : (p : ℕ → Bool) (cs : List ℕ) (k core : ℕ) → k < length cs → core ≡ get_or cs k core → list_all p cs ≡ true → p core ≡ true
all_at p cs k core l e h = grind (arith, e, h, list_all_at p cs k core l)

-- two sets with the same member
pub both_have : (x y k : ℕ) → member x k ≡ true → member y k ≡ true → intersect x y ≡ true
both_have x y k a b = (intersect_members x y).1 (k, a, b)

below_part : (n x y : ℕ) → below n y ≡ true → subset x y ≡ true → below n x ≡ true
below_part n x y b s = grind (arith, nat_tests, b, s, below_members n x, below_members n y, subset_members x y)

-- ---- no number is chosen besides
pub forced_none : (branch : Branch) (core : ℕ) → Forced (meets_in branch core) branch branch
forced_none branch core = record { out = refl; chosen = subset_self branch.chosen; forced = λ set h. grind (arith, h) }

-- ---- a core of which the numbers left out are taken away
module _ (branch : Branch) (core rest set : ℕ) (left : (k : ℕ) → member rest k ≡ (member core k && not (member branch.out k))) where
  pub none_left : NoneOf (member rest) → meets_in branch core set ≡ false
  none_left none = grind (arith, nat_tests, left, none, intersect_members set core, intersect_members branch.out set)

  pub last_forced : (number others more : ℕ) → ((k : ℕ) → member others k ≡ (member rest k && not (number == k))) → NoneOf (member others)
      → With branch.chosen number more → meets_in branch core set ≡ true → subset more set ≡ true
  last_forced number others more o none m h =
      grind (arith, nat_tests, left, o, none, m, h, intersect_members set core, intersect_members branch.out set, subset_members branch.chosen set, subset_members more set)

-- ---- open cores
-- a number of an open core is given and not chosen
open_number : (n chosen k : ℕ) (cs : List ℕ) → list_all (proper n) cs ≡ true → list_any (open_with chosen k) cs ≡ true → (k < n) × (member chosen k ≡ false)
open_number n chosen k [] p h = grind arith
open_number n chosen k (x ∷ cs) p h = grind (arith, nat_tests, open_number n chosen k cs, below_members n x, intersect_members x chosen)

-- where no number is left of an open core, all that meet the cores without what is left out meet them by the chosen numbers
chosen_meets : (chosen out set : ℕ) (cs : List ℕ) → ((k : ℕ) → (list_any (open_with chosen k) cs && not (member out k)) ≡ false) → intersect out set ≡ false
    → list_all (intersect set) cs ≡ true → list_all (intersect chosen) cs ≡ true
chosen_meets chosen out set [] o a h = refl
chosen_meets chosen out set (x ∷ cs) o a h =
    grind (arith, nat_tests, o, a, h, chosen_meets chosen out set cs, intersect_members out set, intersect_members set x, intersect_members x chosen, intersect_members chosen x)

module _ {W : Type 0} (m : MakerMeaning W) where
  -- ---- what is in a branch
  pub in_parts : (branch : Branch) (set : ℕ) → in_branch m branch set ≡ true → (is_cover m set ≡ true) × (subset branch.chosen set ≡ true) × (intersect branch.out set ≡ false)
  in_parts branch set h = (grind (arith, h), grind (arith, h), grind (arith, h))

  pub in_from : (branch : Branch) (set : ℕ) → is_cover m set ≡ true → subset branch.chosen set ≡ true → intersect branch.out set ≡ false → in_branch m branch set ≡ true
  in_from branch set c s i = grind (arith, c, s, i)

  -- a cover meets a kept core, and a cover of the branch meets what is left of it
  pub left_met : (branch : Branch) (rest index core set : ℕ) → index < length m.cores → core ≡ get_or m.cores index core
      → ((j : ℕ) → member rest j ≡ (member core j && not (member branch.out j))) → in_branch m branch set ≡ true → intersect rest set ≡ true
  left_met branch rest index core set l e r h =
      let parts = in_parts branch set h in
      let met : intersect set core ≡ true = all_at (intersect set) m.cores index core l e (grind (arith, parts.0)) in
      grind (arith, nat_tests, r, met, parts.2, intersect_members set core, intersect_members branch.out set, intersect_members rest set)

  pub chosen_has : (branch : Branch) (set number : ℕ) → member branch.chosen number ≡ true → in_branch m branch set ≡ true → member set number ≡ true
  chosen_has branch set number t h = (subset_members branch.chosen set).0 (in_parts branch set h).1 number t

  -- a narrower branch
  pub in_narrower : (branch narrower : Branch) (set : ℕ) → narrower.chosen ≡ branch.chosen → subset branch.out narrower.out ≡ true → in_branch m narrower set ≡ true → in_branch m branch set ≡ true
  in_narrower branch narrower set e s h =
      let parts = in_parts narrower set h in
      in_from branch set parts.0 (subst (λ x. subset x set ≡ true) e parts.1)
      (grind (arith, nat_tests, s, parts.2, subset_members branch.out narrower.out, intersect_members branch.out set, intersect_members narrower.out set))

  -- a cover of the branch meets each kept core
  pub met_in_branch : (cs : List ℕ) (branch more : Branch) (k core set : ℕ) → cs ≡ m.cores → k < length cs → core ≡ get_or cs k core → in_branch m branch set ≡ true
      → more.out ≡ branch.out → subset more.chosen set ≡ true → meets_in more core set ≡ true
  met_in_branch cs branch more k core set same l e h o s =
      let parts = in_parts branch set h in
      let all : list_all (intersect set) cs ≡ true = subst (λ xs. list_all (intersect set) xs ≡ true) (sym same) (grind (arith, parts.0)) in
      grind (arith, o, s, parts.2, all_at (intersect set) cs k core l e all)

  -- what was left out before, or the branch of what was not, in which the number is
  pub one_more_out : {X : Type 0} (branch narrower : Branch) (more number set : ℕ) → narrower.chosen ≡ branch.chosen → With narrower.out number more → in_branch m branch set ≡ true
      → intersect more set ≡ true → (intersect narrower.out set ≡ true → X) → (in_branch m narrower set ≡ true → member set number ≡ true → X) → X
  one_more_out branch narrower more number set c e h t before now =
      let parts = in_parts branch set h in
      ⊎_elim before
      (λ apart. now (in_from narrower set parts.0 (subst (λ x. subset x set ≡ true) (sym c) parts.1) apart)
      (grind (arith, nat_tests, e, t, apart, intersect_members more set, intersect_members narrower.out set)))
      (cases_Bool (intersect narrower.out set))

  -- ---- numbers that are left of open cores
  pub open_parts : (branch : Branch) (number : ℕ) → list_all (proper (length m.weights)) m.cores ≡ true → is_left m branch number ≡ true
      → (number < length m.weights) × (member branch.chosen number ≡ false) × (member branch.out number ≡ false)
  open_parts branch number p o =
      let parts = and_parts (list_any (open_with branch.chosen number) m.cores) (not (member branch.out number)) o in
      let given = open_number (length m.weights) branch.chosen number m.cores p parts.0 in
      (given.0, given.1, grind (arith, parts.1))

  -- where there are none, the chosen numbers are a cover if the branch has one
  pub none_open : (branch : Branch) (set : ℕ) → NoneOf (is_left m branch) → in_branch m branch set ≡ true → is_cover m branch.chosen ≡ true
  none_open branch set o h =
      let parts = in_parts branch set h in
      let covers = and_parts (below (length m.weights) set) (list_all (intersect set) m.cores) parts.0 in
      and_from (below (length m.weights) branch.chosen) (list_all (intersect branch.chosen) m.cores) (below_part (length m.weights) branch.chosen set covers.0 parts.1)
      (chosen_meets branch.chosen branch.out set m.cores o parts.2 covers.1)
