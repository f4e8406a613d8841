-- Literals under trail, and in assignments.
use Rattle.std.proofs.Common.{◌≡◌, ◌≢◌, ℕ, zero, suc, ◌-◌, ◌<◌, Bool, true, false, not, eqb, ltb, List, get_or, ℤ, pos, negsuc, refl, ap, ◌∙◌, arith}
use Rattle.std.proofs.lemmas.Bool.{both_ways, or_parts, eq-eqb, ltb-true, ltb-false}
use Rattle.std.proofs.lemmas.List.{get_or_default}
use Rattle.std.proofs.lemmas.List.Sums.{AllPass-from_list_all}
use Rattle.terms.specs.Clauses.{Assignment, true_in, variable, bad_literal}
use Rattle.finder_search.specs.Literals.{index, positive, negated, same}
use Rattle.finder_search.specs.Reasons.{bit}

-- ---- a literal that is not bad
pub index_within : (n : ℕ) (l : ℤ) → bad_literal n l ≡ false → index l < n
index_within n l h =
    let p = or_parts (eqb (variable l) 0) (ltb n (variable l)) h in
    let some : variable l ≢ 0 = λ e. both_ways (eqb (variable l) 0) p.0 (eq-eqb (variable l) 0 e) in
    omega (arith, some, ltb-false n (variable l) p.1)

-- a value of an assignment is 0 or 1
bit_below : (n : ℕ) (a : List ℕ) (v : ℕ) → Assignment n a → v < n → get_or a v 0 < 2
bit_below n a v h l = ltb-true (get_or a v 0) 2 (AllPass-from_list_all (λ b. ltb b 2) a h.1 v 0 (omega (arith, h.0)))

same_true : (x : ℕ) → eqb x 1 ≡ same (eqb x 1) true
same_true x = by (eqb x 1)
  where
    by : (b : Bool) → b ≡ same b true
    by true = refl
    by false = refl

same_false : (x : ℕ) → x < 2 → eqb x 0 ≡ same (eqb x 1) false
same_false zero l = refl
same_false (suc zero) l = refl
same_false (suc (suc x)) l = absurd (omega arith)

-- the literal is true where its variable has the literal's sign
pub true_is : (n : ℕ) (a : List ℕ) (l : ℤ) → Assignment n a → bad_literal n l ≡ false → true_in a l ≡ same (bit a (index l)) (positive l)
true_is n a (pos zero) h good = absurd (both_ways true good refl)
true_is n a (pos (suc k)) h good =
    let z : k ≡ suc k - 1 = omega arith in
    same_true (get_or a k 0) ∙ ap (λ v. same (bit a v) true) z
true_is n a (negsuc k) h good =
    let z : k ≡ suc k - 1 = omega arith in
    let l : k < n = omega (arith, index_within n (negsuc k) good) in
    let e : get_or a k 1 ≡ get_or a k 0 = get_or_default a k 1 0 (omega (arith, l, h.0)) in
    ap (λ x. eqb x 0) e ∙ same_false (get_or a k 0) (bit_below n a k h l) ∙ ap (λ v. same (bit a v) false) z

-- ---- the opposite
pub index_negated : (l : ℤ) → index (negated l) ≡ index l
index_negated (pos zero) = refl
index_negated (pos (suc k)) = refl
index_negated (negsuc k) = refl

pub positive_negated : (n : ℕ) (l : ℤ) → bad_literal n l ≡ false → positive (negated l) ≡ not (positive l)
positive_negated n (pos zero) good = absurd (both_ways true good refl)
positive_negated n (pos (suc k)) good = refl
positive_negated n (negsuc k) good = refl

pub bad_negated : (n : ℕ) (l : ℤ) → bad_literal n (negated l) ≡ bad_literal n l
bad_negated n (pos zero) = refl
bad_negated n (pos (suc k)) = refl
bad_negated n (negsuc k) = refl
