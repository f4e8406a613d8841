-- The soft clauses (-1) and (1) of one variable clash, and neither does by itself.
use Rattle.std.proofs.Common.{◌≡◌, ℕ, zero, suc, ◌^◌, ◌<◌, ◌≤◌, true, false, ltb, List, [], ◌∷◌, sym, refl, ap, ◌∙◌, ⊎_elim, arith}
use Rattle.std.proofs.lemmas.Bool.{cases_lt, and_right, and_parts, both_ways, eqb-true, ltb-true}
use Rattle.terms.specs.Clauses.{Assignment, breaks}
use Rattle.terms.specs.Masks.{member}
use Rattle.terms.proofs.MaskLaws.{member_past, member_one}
use Rattle.finders.specs.Questions.{Core}
use Rattle.worked_examples.specs.Examples.{AdmitsNothing, Clash, NoClash, opposites}

pub admits_nothing : AdmitsNothing
admits_nothing m a = and_right (m.admits a) false refl

-- each assignment breaks one of the two
never_both : (a : List ℕ) → Assignment 1 a → breaks a opposites.softs 0 ≡ false → breaks a opposites.softs 1 ≡ false → ⊥
never_both [] h p q = omega (arith, h.0)
never_both (zero ∷ []) h p q = both_ways true q refl
never_both (suc zero ∷ []) h p q = both_ways true p refl
never_both (suc (suc b) ∷ []) h p q = omega (arith, ltb-true (suc (suc b)) 2 (and_parts (ltb (suc (suc b)) 2) true h.1).0)
never_both (b ∷ c ∷ a) h p q = omega (arith, h.0)

pub both_clash : Clash (0 ∷ 1 ∷ [])
unfolding member
both_clash = record {
  given = λ k h. ⊎_elim (λ (l : k < 2). l) (λ (l : 2 ≤ k). absurd (both_ways (member 3 k) (member_past 2 3 k (omega arith) l) h)) (cases_lt k 2);
  conflict = λ a m. never_both a m.assigns (m.meets 0 refl) (m.meets 1 refl);
}

-- an assignment that breaks no clause but the other one
alone : (i b : ℕ) → Assignment 1 (b ∷ []) → breaks (b ∷ []) opposites.softs i ≡ false → Core opposites (2 ^ i) → ⊥
alone i b h p core =
    core.conflict (b ∷ []) (record {
      assigns = h;
      admitted = refl;
      meets = λ k e. ap (breaks (b ∷ []) opposites.softs) (sym (eqb-true i k (sym (member_one i k) ∙ e))) ∙ p;
    })

pub first_alone : NoClash (0 ∷ [])
first_alone = alone 0 0 (refl, refl) refl

pub second_alone : NoClash (1 ∷ [])
second_alone = alone 1 1 (refl, refl) refl
