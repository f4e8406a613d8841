-- Three cores, of which each two have a member in common, and what a core leaves of three others.
use Rattle.std.proofs.Common.{◌≡◌, ℕ, zero, suc, true, [], ◌∷◌, refl, arith}
use Rattle.std.proofs.lemmas.Bool.{both_ways}
use Rattle.std.proofs.lemmas.Bool.Decides.{nat_tests}
use Rattle.terms.specs.Masks.{member, subset, intersect, below}
use Rattle.weights.specs.Costs.{cost}
use Rattle.weights.specs.Plainly.{plain_kind}
use Rattle.makers.specs.Covers.{is_cover}
use Rattle.worked_examples.specs.Examples.{Keeps, LeastCover, set, triangle}

pub keeps_two : Keeps (set (2 ∷ 3 ∷ []) ∷ set (1 ∷ []) ∷ [])
unfolding subset
keeps_two = refl

-- of the eight sets of given numbers the empty one and those of one number are no covers, and the others cost 5, 6, 7 and 9
none_cheaper : (other : ℕ) → is_cover triangle other ≡ true → plain_kind.le 5 (cost plain_kind triangle.weights other) ≡ true
unfolding member subset intersect below
none_cheaper zero h = absurd (both_ways (is_cover triangle 0) refl h)
none_cheaper (suc zero) h = absurd (both_ways (is_cover triangle 1) refl h)
none_cheaper (suc (suc zero)) h = absurd (both_ways (is_cover triangle 2) refl h)
none_cheaper (suc (suc (suc zero))) h = refl
none_cheaper (suc (suc (suc (suc zero)))) h = absurd (both_ways (is_cover triangle 4) refl h)
none_cheaper (suc (suc (suc (suc (suc zero))))) h = refl
none_cheaper (suc (suc (suc (suc (suc (suc zero)))))) h = refl
none_cheaper (suc (suc (suc (suc (suc (suc (suc zero))))))) h = refl
none_cheaper (suc (suc (suc (suc (suc (suc (suc (suc m)))))))) h = grind (arith, nat_tests)

pub least_of_three : LeastCover (0 ∷ 1 ∷ []) 5
unfolding member subset intersect below
least_of_three = (record { cover = refl; least = none_cheaper }, refl)
