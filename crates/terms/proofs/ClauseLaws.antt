-- Literals and clauses, as the code goes through them.
use Rattle.std.proofs.Common.{◌≡◌, ℕ, ◌≤◌, Bool, true, false, cond, not, ◌&&◌, ltb, List, [], length, get_or, ℤ, pos, is_some, Some, None, refl, arith}
use Rattle.std.specs.List.{prefix_len}
use Rattle.std.proofs.lemmas.List.Sums.{prefix_len_passes}
use Rattle.std.proofs.lemmas.Bool.{lt-ltb, ltb-true, both_ways, ltb-false, not-true}
use Rattle.terms.specs.declared.limits.TheConstants.{SOFT_PLACES}
use Rattle.terms.specs.Sets.{fits}
use Rattle.terms.specs.Clauses.{satisfied_by, bad_literal, first_bad, FirstBad, breaks}

-- ---- where no bad literal is found, none is there
not_found : (t : Bool) (i : ℕ) → is_some (cond t (Some i) None) ≡ false → t ≡ false
not_found true i e = absurd (both_ways true e refl)
not_found false i e = refl

pub all_good : (n : ℕ) (c : List ℤ) → is_some (first_bad n c) ≡ false → FirstBad n c None
all_good n c e k l =
    let good : ℤ → Bool = λ x. not (bad_literal n x) in
    let none : length c ≤ prefix_len good c = ltb-false (prefix_len good c) (length c) (not_found _ (prefix_len good c) e) in
    not-true (bad_literal n (get_or c k (pos 0))) (prefix_len_passes good c k (pos 0) (omega arith))

-- ---- broken clauses
-- with no more soft clauses than there are places for, each broken one has a number that fits
pub all_fit : (a : List ℕ) (cs : List (List ℤ)) (k : ℕ) → length cs ≤ SOFT_PLACES → (breaks a cs k && fits k) ≡ breaks a cs k
all_fit a cs k h = within (ltb k (length cs)) (fits k) (not (satisfied_by a (get_or cs k []))) (λ e. lt-ltb k SOFT_PLACES (omega (arith, ltb-true k (length cs) e)))
  where
    within : (x f b : Bool) → (x ≡ true → f ≡ true) → ((x && b) && f) ≡ (x && b)
    within false f b g = refl
    within true f true g = g refl
    within true f false g = refl
