-- What is read as a literal is the literal in base ten, and nothing else.
use Rattle.std.proofs.Common.{◌≡◌, ℕ, zero, suc, ◌<◌, ◌≤◌, Bool, true, false, cond, eqb, List, [], ◌∷◌, length, Some, None, Option, ℤ, pos, negsuc, refl, sym, ap, ◌∙◌, arith}
use Rattle.std.specs.Fmt.{decimal, signed_decimal}
use Rattle.std.specs.Option.{option_map}
use Rattle.std.specs.Str.{all_ascii_digits}
use Rattle.std.proofs.lemmas.Bool.Decides.{nat_tests}
use Rattle.std.proofs.lemmas.Fmt.{digits_decimal, decimal_nonempty}
use Rattle.terms.specs.Clauses.{variable}
use Rattle.texts.specs.Numbers.{number, negative, literal, LiteralRead, NumberRead}
use Rattle.texts.specs.declared.numbers.TheConstants.{FIVE_DIGITS}
use Rattle.texts.proofs.Decimal.{own, number_read, number-decimal}

abbrev Written : List ℕ → ℤ → Type 0
Written bs l = (variable l ≤ FIVE_DIGITS) × (bs ≡ signed_decimal l)

-- ---- what is read is written so
minus_written : (bs : List ℕ) (r : Option ℕ) (l : ℤ) → NumberRead FIVE_DIGITS bs r → negative r ≡ Some l → Written (45 ∷ bs) l
minus_written bs None l w e = grind arith
minus_written bs (Some zero) l w e = grind arith
minus_written bs (Some (suc k)) l w e = grind arith

plain_written : (bs : List ℕ) (r : Option ℕ) (l : ℤ) → NumberRead FIVE_DIGITS bs r → option_map pos r ≡ Some l → Written bs l
plain_written bs None l w e = grind arith
plain_written bs (Some n) l w e = grind arith

read_written : (bs : List ℕ) (l : ℤ) → literal bs ≡ Some l → Written bs l
read_written [] l e = grind arith
read_written (c ∷ cs) l e = by_test (eqb c 45) refl e
  where
    by_test : (t : Bool) → eqb c 45 ≡ t → cond t (negative (number FIVE_DIGITS cs)) (option_map pos (number FIVE_DIGITS (c ∷ cs))) ≡ Some l
        → Written (c ∷ cs) l
    by_test true m e =
        let w = minus_written cs (number FIVE_DIGITS cs) l (number_read FIVE_DIGITS cs _ (omega arith) refl) e in
        grind (arith, nat_tests)
    by_test false m e = plain_written (c ∷ cs) (number FIVE_DIGITS (c ∷ cs)) l (number_read FIVE_DIGITS (c ∷ cs) _ (omega arith) refl) e

-- ---- what is written so is read
no_minus : (bs : List ℕ) → all_ascii_digits bs ≡ true → 0 < length bs → literal bs ≡ option_map pos (number FIVE_DIGITS bs)
no_minus [] digits some = absurd (omega arith)
no_minus (c ∷ cs) digits some = grind (arith, nat_tests)

literal-signed_decimal : (l : ℤ) → variable l ≤ FIVE_DIGITS → literal (signed_decimal l) ≡ Some l
literal-signed_decimal (pos n) h =
    no_minus (decimal n) (digits_decimal own n (omega arith)) (decimal_nonempty n (omega arith))
    ∙ ap (option_map pos) (number-decimal FIVE_DIGITS n (omega arith) h)
literal-signed_decimal (negsuc k) h = ap negative (number-decimal FIVE_DIGITS (suc k) (omega arith) h)

pub literal_read : (bs : List ℕ) (r : Option ℤ) → r ≡ literal bs → LiteralRead bs r
literal_read bs None e = λ l h is. let some = literal-signed_decimal l h in grind arith
literal_read bs (Some l) e = read_written bs l (sym e)
