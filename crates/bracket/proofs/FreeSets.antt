-- How many sets of the first s numbers contain no kept core: a new core leaves fewer, and the empty set is always one.
use Rattle.std.proofs.Common.{◌≡◌, ℕ, zero, suc, ◌+◌, ◌^◌, ◌<◌, ◌≤◌, Bool, true, false, not, ◌||◌, cond, List, [], ◌∷◌, ◌++◌, refl, arith, pow_pos}
use Rattle.std.proofs.lemmas.Bool.Decides.{nat_tests}
use Rattle.std.proofs.lemmas.List.Folds.{list_any-append}
use Rattle.std.specs.List.{list_all}
use Rattle.terms.specs.Masks.{subset, below}
use Rattle.terms.proofs.MaskLaws.{subset_members, subset_self, subset_trans, none_members}
use Rattle.makers.specs.Meanings.{has_part, staying, cores_with, proper}

-- how many numbers below n pass a test
abbrev pub count : (ℕ → Bool) → ℕ → ℕ
count p zero = 0
count p (suc n) = cond (p n) 1 0 + count p n

pub count_at_most : (p : ℕ → Bool) (n : ℕ) → count p n ≤ n
count_at_most p zero = omega arith
count_at_most p (suc n) = grind (arith, count_at_most p n)

count_some : (p : ℕ → Bool) (n : ℕ) → p 0 ≡ true → 0 < n → 0 < count p n
count_some p zero h l = absurd (omega arith)
count_some p (suc zero) h l = grind arith
count_some p (suc (suc n)) h l = grind (arith, count_some p (suc n))

module _ (p q : ℕ → Bool) (implied : (k : ℕ) → p k ≡ true → q k ≡ true) where
  count_no_more : (n : ℕ) → count p n ≤ count q n
  count_no_more zero = omega arith
  count_no_more (suc n) = grind (arith, count_no_more n, implied n)

  count_fewer : (n k : ℕ) → k < n → p k ≡ false → q k ≡ true → count p n < count q n
  count_fewer zero k l f t = absurd (omega arith)
  count_fewer (suc n) k l f t = grind (arith, nat_tests, count_fewer n k, count_no_more n, implied n)

-- ---- what contains a kept core
-- what contained a kept core contains one of those that stay, or the new one
part_stays : (core set : ℕ) (cs : List ℕ) → has_part cs set ≡ true → (has_part (staying core cs) set || subset core set) ≡ true
part_stays core set [] h = grind arith
part_stays core set (x ∷ cs) h = grind (arith, nat_tests, part_stays core set cs, subset_trans core x set)

part_kept : (cs : List ℕ) (core set : ℕ) → has_part cs set ≡ true → has_part (staying core cs ++ core ∷ []) set ≡ true
part_kept cs core set h = grind (arith, nat_tests, part_stays core set cs, list_any-append (λ kept. subset kept set) (staying core cs) (core ∷ []))

part_new : (cs : List ℕ) (core : ℕ) → has_part (staying core cs ++ core ∷ []) core ≡ true
part_new cs core = grind (arith, nat_tests, subset_self core, list_any-append (λ kept. subset kept core) (staying core cs) (core ∷ []))

none_in_empty : (s : ℕ) (cs : List ℕ) → list_all (proper s) cs ≡ true → has_part cs 0 ≡ false
none_in_empty s [] h = refl
none_in_empty s (x ∷ cs) h = grind (arith, nat_tests, none_in_empty s cs, subset_members x 0, none_members x, none_members 0)

-- ---- the sets that contain none
abbrev pub is_free : List ℕ → ℕ → Bool
is_free cs set = not (has_part cs set)

abbrev pub free_sets : List ℕ → ℕ → ℕ
free_sets cs s = count (is_free cs) (2 ^ s)

pub free_at_most : (cs : List ℕ) (s : ℕ) → free_sets cs s ≤ 2 ^ s
free_at_most cs s = count_at_most (is_free cs) (2 ^ s)

pub some_free : (cs : List ℕ) (s : ℕ) → list_all (proper s) cs ≡ true → 0 < free_sets cs s
some_free cs s h = count_some (is_free cs) (2 ^ s) (grind (arith, none_in_empty s cs)) (pow_pos s)

pub fewer_free : (cs : List ℕ) (core s : ℕ) → below s core ≡ true → has_part cs core ≡ false → free_sets (cores_with cs core) s < free_sets cs s
unfolding below
fewer_free cs core s l n =
    grind (arith, nat_tests, count_fewer (is_free (staying core cs ++ core ∷ [])) (is_free cs) (λ k. grind (arith, part_kept cs core k)) (2 ^ s) core, part_new cs core)
