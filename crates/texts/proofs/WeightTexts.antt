-- What is read as a weight is the weight in the form, and nothing else.
use Rattle.std.proofs.Common.{◌≡◌, ℕ, ◌-◌, ◌^◌, ◌<◌, List, ◌∷◌, ◌++◌, Some, None, Option, refl, sym, ap, ◌∙◌, arith}
use Rattle.std.specs.Fmt.{decimal}
use Rattle.std.specs.Option.{option_map}
use Rattle.std.proofs.lemmas.Fmt.{digits_decimal}
use Rattle.texts.specs.Cuts.{cut}
use Rattle.texts.specs.WeightForms.{Three, amount, all_three, weight_numbers, weight_text, Writable, WeightRead}
use Rattle.texts.specs.declared.weight_forms.WeightForm.{WeightForm}
use Rattle.texts.specs.declared.weight_forms.WeightForm.TheVariants.{Plain, Levels}
use Rattle.texts.proofs.Cutting.{cut_joined}
use Rattle.texts.proofs.Decimal.{own, number-decimal}
use Rattle.texts.proofs.Levels.{digits_alone, digits_first, amount_read, by_first, by_second, levels_by_cut}

-- ---- what is read is written so
three_written : (t : Three) (a b c : List ℕ) (x y z : Option ℕ) → amount a ≡ x → amount b ≡ y → amount c ≡ z
    → all_three x y z ≡ Some t
    → Writable Levels t × (a ++ 44 ∷ (b ++ 44 ∷ c) ≡ weight_text Levels t)
three_written t a b c None y z p q r e = grind arith
three_written t a b c (Some x) None z p q r e = grind arith
three_written t a b c (Some x) (Some y) None p q r e = grind arith
three_written t a b c (Some x) (Some y) (Some z) p q r e =
    grind (arith, amount_read a x p, amount_read b y q, amount_read c z r)

read_written : (form : WeightForm) (field : List ℕ) (t : Three) → weight_numbers form field ≡ Some t → Writable form t × (field ≡ weight_text form t)
read_written Plain field t e = by_amount (amount field) refl e
  where
    by_amount : (n : Option ℕ) → amount field ≡ n → option_map (λ n. (n, 0, 0)) n ≡ Some t → Writable Plain t × (field ≡ weight_text Plain t)
    by_amount None p e = grind arith
    by_amount (Some n) p e = grind (arith, amount_read field n p)
read_written Levels field t e = by_cut (cut 44 field) refl (sym (levels_by_cut field) ∙ e)
  where
    by_cut : (r : Option (List ℕ × List ℕ)) → cut 44 field ≡ r → by_first r ≡ Some t → Writable Levels t × (field ≡ weight_text Levels t)
    by_cut None p e = grind arith
    by_cut (Some r) p e = by_second_cut (cut 44 r.1) refl e
      where
        by_second_cut : (s : Option (List ℕ × List ℕ)) → cut 44 r.1 ≡ s → by_second r.0 s ≡ Some t
            → Writable Levels t × (field ≡ weight_text Levels t)
        by_second_cut None q e = grind arith
        by_second_cut (Some s) q e =
            let w = three_written t r.0 s.0 s.1 _ _ _ refl refl refl e in
            (w.0, cut_joined 44 field r p ∙ ap (λ bs. r.0 ++ 44 ∷ bs) (cut_joined 44 r.1 s q) ∙ w.1)

-- ---- what is written so is read
amount-decimal : (n : ℕ) → n < 2 ^ 64 → amount (decimal n) ≡ Some n
amount-decimal n h = number-decimal (2 ^ 64 - 1) n (omega arith) (omega arith)

written_read : (form : WeightForm) (t : Three) → Writable form t → weight_numbers form (weight_text form t) ≡ Some t
written_read Plain t w = grind (arith, amount-decimal t.0 w.0)
written_read Levels t w =
    let p = digits_first (decimal t.0) (decimal t.1 ++ 44 ∷ decimal t.2) (digits_decimal own t.0 w.0) in
    let q = digits_first (decimal t.1) (decimal t.2) (digits_decimal own t.1 w.1) in
    let r = digits_alone (decimal t.2) (digits_decimal own t.2 w.2) in
    rw (p, q, r, amount-decimal t.0 w.0, amount-decimal t.1 w.1, amount-decimal t.2 w.2)

pub weight_read : (form : WeightForm) (field : List ℕ) (r : Option Three) → r ≡ weight_numbers form field → WeightRead form field r
weight_read form field None e = λ t w is. let some = written_read form t w in grind arith
weight_read form field (Some t) e = read_written form field t (sym e)

pub ruleset weight_laws = (weight_read, amount_read)
