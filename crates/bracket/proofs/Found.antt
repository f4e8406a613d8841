-- What is known of a core that a round finds.
use Rattle.std.proofs.Common.{◌≡◌, ℕ, ◌≤◌, Bool, true, false, not, List, [], ◌∷◌, length, Some, eqb, refl, arith}
use Rattle.std.proofs.lemmas.Bool.Decides.{nat_tests}
use Rattle.std.specs.List.{list_all, list_any}
use Rattle.terms.specs.declared.limits.TheConstants.{CORE_PLACES}
use Rattle.terms.specs.Clauses.{Assignment}
use Rattle.terms.specs.Masks.{member, subset, intersect, Subset}
use Rattle.terms.specs.declared.refusals.Refusal.{Refusal}
use Rattle.terms.specs.declared.refusals.Refusal.TheVariants.{NoCorePlace}
use Rattle.terms.proofs.MaskLaws.{subset_members, intersect_members, below_members, none_members}
use Rattle.finders.specs.Meanings.{FinderMeaning}
use Rattle.finders.specs.Questions.{Core}
use Rattle.makers.specs.Meanings.{MakerMeaning, has_part, staying, proper}
use Rattle.makers.specs.Refused.{core_refused}

pub by_contradiction : (b : Bool) → (b ≡ false → ⊥) → b ≡ true
by_contradiction true h = refl
by_contradiction false h = absurd (h refl)

-- where some assignment is admitted, a core has a member, and only given numbers
pub found_is_proper : (f : FinderMeaning) (a : List ℕ) → Assignment f.n a × (f.admits a ≡ true) → (s : ℕ) → s ≡ length f.softs → (core : ℕ) → Core f core → proper s core ≡ true
found_is_proper f a x s n core h =
    let some = by_contradiction (not (eqb core 0)) (λ none. h.conflict a (record {
      assigns = x.0;
      admitted = x.1;
      meets = λ k t. grind (arith, nat_tests, none_members core);
    })) in
    grind (arith, nat_tests, some, below_members s core, h.given, n)

-- so it is refused only where it finds no place
pub refused_is_full : {W : Type 0} (m : MakerMeaning W) (core : ℕ) → proper (length m.weights) core ≡ true → (r : Refusal) → core_refused m core ≡ Some r
    → (r ≡ NoCorePlace) × (CORE_PLACES ≤ length (staying core m.cores))
refused_is_full m core p r e = grind (arith, nat_tests, p, e)

-- outside a cover there is no kept core, so it is new
pub found_is_new : (cover asked core : ℕ) → ((k : ℕ) → member asked k ≡ true → member cover k ≡ false) → Subset core asked
    → (cs : List ℕ) → list_all (intersect cover) cs ≡ true → has_part cs core ≡ false
found_is_new cover asked core o w [] h = refl
found_is_new cover asked core o w (x ∷ cs) h =
    grind (arith, nat_tests, found_is_new cover asked core o w cs, subset_members x core, intersect_members cover x)

pub staying_at_most : (core : ℕ) (cs : List ℕ) → length (staying core cs) ≤ length cs
staying_at_most core [] = omega arith
staying_at_most core (x ∷ cs) = grind (arith, staying_at_most core cs)

-- where as many stay as were there, the core is part of none
pub part_of_none : (core : ℕ) (cs : List ℕ) → length cs ≤ length (staying core cs) → list_any (subset core) cs ≡ false
part_of_none core [] h = refl
part_of_none core (x ∷ cs) h = grind (arith, part_of_none core cs, staying_at_most core cs)
