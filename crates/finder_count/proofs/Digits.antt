-- The numbers below 2 ^ n are the assignments of n variables, by their binary digits.
use Rattle.std.proofs.Common.{◌≡◌, ℕ, zero, suc, ◌+◌, ◌-◌, ◌*◌, ◌/◌, ◌%◌, ◌^◌, ◌<◌, List, [], ◌∷◌, ◌++◌, length, take, set, sym, refl, ap, ◌∙◌, ap₂, mod-lt, zero-lt-suc, pow-suc, arith}
use Rattle.std.proofs.lemmas.List.{take_more_set, length-set, append_assoc}
use Rattle.std.proofs.lemmas.Bool.{and_from, and_parts, lt-ltb, ltb-true}
use Rattle.terms.specs.Clauses.{Assignment, binary}
use Rattle.finder_count.specs.Assignments.{digits}

pub digits_assign : (n j : ℕ) → Assignment n (digits n j)
digits_assign zero j = (refl, refl)
digits_assign (suc n) j =
    let r = digits_assign n (j / 2) in
    (ap suc r.0, and_from _ (binary (digits n (j / 2))) (lt-ltb (j % 2) 2 (mod-lt j (zero-lt-suc 1))) r.1)

-- the number of an assignment
number : List ℕ → ℕ
number [] = 0
number (b ∷ a) = b + 2 * number a

pub each_counted : (n : ℕ) (a : List ℕ) → Assignment n a → (j : ℕ) × (j < 2 ^ n) × (a ≡ digits n j)
each_counted zero [] h = (0, omega arith, refl)
each_counted zero (b ∷ a) h = absurd (omega (arith, h.0))
each_counted (suc n) [] h = absurd (omega (arith, h.0))
each_counted (suc n) (b ∷ a) h =
    let p = and_parts _ (binary a) h.1 in
    let low : b < 2 = ltb-true b 2 p.0 in
    let r = each_counted n a (omega (arith, h.0), p.1) in
    let twice : 2 ^ suc n ≡ 2 ^ n * 2 = pow-suc 2 n in
    let j = b + 2 * r.0 in
    let first : b ≡ j % 2 = omega arith in
    let rest : r.0 ≡ j / 2 = omega arith in
    (j, omega (arith, r.1), ap₂ (λ x y. x ∷ y) first (r.2 ∙ ap (digits n) rest))

-- one digit more is written
pub digit_written : (xs : List ℕ) (i j : ℕ) → i < length xs
    → (take (i + 1) (set xs i (j % 2)) ++ digits (length (set xs i (j % 2)) - (i + 1)) (j / 2)) ≡ (take i xs ++ digits (length xs - i) j)
digit_written xs i j l =
    let fewer : length (set xs i (j % 2)) - (i + 1) ≡ length xs - suc i = simp length-set (omega arith) in
    let some : length xs - i ≡ suc (length xs - suc i) = omega arith in
    ap₂ (λ t m. t ++ digits m (j / 2)) (take_more_set xs i (j % 2) l) fewer
    ∙ append_assoc (take i xs) (j % 2 ∷ []) (digits (length xs - suc i) (j / 2))
    ∙ sym (ap (λ m. take i xs ++ digits m j) some)
