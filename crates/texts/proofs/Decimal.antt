-- What is read as a number is the number in base ten, and nothing else.
use Rattle.std.proofs.Common.{◌≡◌, ℕ, zero, suc, ◌+◌, ◌-◌, ◌*◌, ◌^◌, ◌<◌, ◌≤◌, true, cond, ◌&&◌, leb, List, [], ◌∷◌, length, get_or, Some, None, Option, refl, sym, ap, ◌∙◌, rules, arith}
use Rattle.std.specs.Fmt.{decimal}
use Rattle.std.specs.Str.{all_ascii_digits}
use Rattle.std.proofs.lemmas.Bool.Decides.{nat_tests}
use Rattle.std.proofs.lemmas.Fmt.{digits_decimal, digits_value-decimal, decimal-digits_value, decimal_nonempty, first_decimal, decimal_digit}
use Rattle.std.proofs.lemmas.Str.Parse.{IsNumeralModel, numerals_by_fold}
use Rattle.texts.specs.Numbers.{with_digits, number, NumberRead}

-- the number that digits write after those of n, without a bound
abbrev pub worth : ℕ → List ℕ → ℕ
worth n [] = n
worth n (c ∷ cs) = worth (n * 10 + (c - 48)) cs

pub own : IsNumeralModel (λ ds. all_ascii_digits ds ≡ true) (worth 0)
own = numerals_by_fold _ (search rules) worth (search rules)

worth_grows : (n : ℕ) (cs : List ℕ) → n ≤ worth n cs
worth_grows n [] = omega arith
worth_grows n (c ∷ cs) = omega (arith, worth_grows (n * 10 + (c - 48)) cs)

-- digit by digit as at once
at_once : (most n : ℕ) (cs : List ℕ) → n ≤ most
    → with_digits most n cs ≡ cond (all_ascii_digits cs && leb (worth n cs) most) (Some (worth n cs)) None
at_once most n [] h = grind (arith, nat_tests)
at_once most n (c ∷ cs) h = grind (arith, nat_tests, at_once most (n * 10 + (c - 48)) cs, worth_grows (n * 10 + (c - 48)) cs)

-- no leading zero
abbrev Tidy : List ℕ → Type 0
Tidy bs = (0 < length bs) × (get_or bs 0 0 ≡ 48 → length bs ≡ 1)

pub zero_alone : (n : ℕ) → n < 2 ^ 64 → get_or (decimal n) 0 0 ≡ 48 → length (decimal n) ≡ 1
zero_alone zero h e = rw (decimal_digit 0 (omega arith))
zero_alone (suc n) h e = absurd (omega (arith, first_decimal (suc n) (omega arith) h))

decimal_tidy : (n : ℕ) → n < 2 ^ 64 → Tidy (decimal n)
decimal_tidy n h = (decimal_nonempty n h, zero_alone n h)

tidy_number : (most : ℕ) (bs : List ℕ) → Tidy bs → number most bs ≡ with_digits most 0 bs
tidy_number most [] t = absurd (omega arith)
tidy_number most (c ∷ []) t = refl
tidy_number most (c ∷ d ∷ cs) t = grind (arith, nat_tests)

number_tidy : (most : ℕ) (bs : List ℕ) (n : ℕ) → number most bs ≡ Some n → Tidy bs × (with_digits most 0 bs ≡ Some n)
number_tidy most [] n e = grind arith
number_tidy most (c ∷ []) n e = ((omega arith, λ _. refl), e)
number_tidy most (c ∷ d ∷ cs) n e = grind (arith, nat_tests)

written : (most : ℕ) (bs : List ℕ) (n : ℕ) → most < 2 ^ 64 → number most bs ≡ Some n → (n ≤ most) × (bs ≡ decimal n)
written most bs n h e =
    let t = number_tidy most bs n e in
    let once = at_once most 0 bs (omega arith) in
    let is : (all_ascii_digits bs ≡ true) × (worth 0 bs ≡ n) × (n ≤ most) = grind (arith, nat_tests) in
    (is.2, sym (ap decimal (sym is.1) ∙ decimal-digits_value own bs is.0 t.0.0 t.0.1 (omega arith)))

pub number-decimal : (most n : ℕ) → most < 2 ^ 64 → n ≤ most → number most (decimal n) ≡ Some n
number-decimal most n h l =
    let small : n < 2 ^ 64 = omega arith in
    let digits = digits_decimal own n small in
    let same = digits_value-decimal own n small in
    let once = at_once most 0 (decimal n) (omega arith) in
    tidy_number most (decimal n) (decimal_tidy n small) ∙ grind (arith, nat_tests)

pub number_read : (most : ℕ) (bs : List ℕ) (r : Option ℕ) → most < 2 ^ 64 → r ≡ number most bs → NumberRead most bs r
number_read most bs None h e = λ n l is. let some = number-decimal most n h l in grind arith
number_read most bs (Some n) h e = written most bs n h (sym e)

pub ruleset number_laws = (number_read, decimal_nonempty, zero_alone)
