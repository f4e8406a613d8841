-- The three numbers of a level weight by two cuts.
use Rattle.std.proofs.Common.{◌≡◌, ℕ, ◌-◌, ◌^◌, ◌<◌, true, List, [], ◌∷◌, ◌++◌, Some, None, Option, refl, sym, ap, ◌∙◌, arith}
use Rattle.std.specs.Fmt.{decimal}
use Rattle.std.specs.Str.{all_ascii_digits}
use Rattle.std.proofs.lemmas.Bool.Decides.{nat_tests}
use Rattle.std.proofs.lemmas.Fmt.{digits_decimal}
use Rattle.texts.specs.Cuts.{pieces, cut}
use Rattle.texts.specs.WeightForms.{Three, amount, all_three, three_of}
use Rattle.texts.proofs.Cutting.{by_cut, pieces_by_cut}
use Rattle.texts.proofs.Decimal.{own, number_read}

-- ---- a number has no comma in it
pub digits_alone : (ds : List ℕ) → all_ascii_digits ds ≡ true → pieces 44 ds ≡ ds ∷ []
digits_alone [] h = refl
digits_alone (d ∷ ds) h = grind (arith, nat_tests, digits_alone ds)

pub digits_first : (ds bs : List ℕ) → all_ascii_digits ds ≡ true → pieces 44 (ds ++ 44 ∷ bs) ≡ ds ∷ pieces 44 bs
digits_first [] bs h = refl
digits_first (d ∷ ds) bs h = grind (arith, nat_tests, digits_first ds bs)

pub amount_read : (bs : List ℕ) (n : ℕ) → amount bs ≡ Some n → (n < 2 ^ 64) × (bs ≡ decimal n)
amount_read bs n e = let r = number_read (2 ^ 64 - 1) bs (Some n) (omega arith) (sym e) in (omega arith, r.1)

amount_alone : (bs : List ℕ) (n : ℕ) → amount bs ≡ Some n → pieces 44 bs ≡ bs ∷ []
amount_alone bs n e = let r = amount_read bs n e in rw r.1 (digits_alone (decimal n) (digits_decimal own n r.0))

-- ---- the three numbers by two cuts
abbrev pub by_second : List ℕ → Option (List ℕ × List ℕ) → Option Three
by_second a None = None
by_second a (Some r) = all_three (amount a) (amount r.0) (amount r.1)

abbrev pub by_first : Option (List ℕ × List ℕ) → Option Three
by_first None = None
by_first (Some r) = by_second r.0 (cut 44 r.1)

all_three_none : (a b : Option ℕ) → all_three a b None ≡ None
all_three_none None b = refl
all_three_none (Some n) None = refl
all_three_none (Some n) (Some m) = refl

some_piece : (c : ℕ) (bs : List ℕ) → pieces c bs ≡ [] → ⊥
some_piece c bs e = by_case (cut c bs) (sym (pieces_by_cut c bs) ∙ e)
  where
    by_case : (r : Option (List ℕ × List ℕ)) → by_cut c bs r ≡ [] → ⊥
    by_case None e = grind arith
    by_case (Some r) e = grind arith

four_pieces : (a b c : List ℕ) (ps : List (List ℕ)) → (ps ≡ [] → ⊥) → three_of (a ∷ b ∷ c ∷ ps) ≡ None
four_pieces a b c [] h = absurd (h refl)
four_pieces a b c (p ∷ ps) h = refl

third : (a b bs : List ℕ) → three_of (a ∷ b ∷ pieces 44 bs) ≡ all_three (amount a) (amount b) (amount bs)
third a b bs = by_case (cut 44 bs) (amount bs) refl (pieces_by_cut 44 bs)
  where
    by_case : (r : Option (List ℕ × List ℕ)) (n : Option ℕ) → amount bs ≡ n → pieces 44 bs ≡ by_cut 44 bs r
        → three_of (a ∷ b ∷ pieces 44 bs) ≡ all_three (amount a) (amount b) n
    by_case None n e p = rw p (ap (all_three (amount a) (amount b)) e)
    by_case (Some r) None e p = rw p (four_pieces a b r.0 (pieces 44 r.1) (some_piece 44 r.1) ∙ sym (all_three_none (amount a) (amount b)))
    by_case (Some r) (Some n) e p = let one = amount_alone bs n e in let some = some_piece 44 r.1 in absurd (grind arith)

after_first : (a bs : List ℕ) → three_of (a ∷ pieces 44 bs) ≡ by_second a (cut 44 bs)
after_first a bs = by_case (cut 44 bs) (pieces_by_cut 44 bs)
  where
    by_case : (r : Option (List ℕ × List ℕ)) → pieces 44 bs ≡ by_cut 44 bs r → three_of (a ∷ pieces 44 bs) ≡ by_second a r
    by_case None p = rw p
    by_case (Some r) p = rw p (third a r.0 r.1)

pub levels_by_cut : (field : List ℕ) → three_of (pieces 44 field) ≡ by_first (cut 44 field)
levels_by_cut field = by_case (cut 44 field) (pieces_by_cut 44 field)
  where
    by_case : (r : Option (List ℕ × List ℕ)) → pieces 44 field ≡ by_cut 44 field r → three_of (pieces 44 field) ≡ by_first r
    by_case None p = rw p
    by_case (Some r) p = rw p (after_first r.0 r.1)
