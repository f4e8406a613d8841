-- Which members of a core can be spared.
use Rattle.std.proofs.Common.{ℕ, not, eqb, List, sym, ◌∙◌}
use Rattle.std.proofs.lemmas.Bool.{and_parts, and_from}
use Rattle.terms.specs.Masks.{member, Subset}
use Rattle.terms.proofs.MaskLaws.{rest_of}
use Rattle.finders.specs.Meanings.{FinderMeaning}
use Rattle.finders.specs.Questions.{Model}
use Rattle.finder_shrinking.specs.Shrinking.{Needed}

-- fewer clauses have the same model
pub fewer : {m : FinderMeaning} {set rest : ℕ} {a : List ℕ} → Subset rest set → Model m set a → Model m rest a
fewer s h = record { assigns = h.assigns; admitted = h.admitted; meets = λ j t. h.meets j (s j t) }

-- what is needed in a set is needed in a smaller one
pub needed_in_less : (m : FinderMeaning) (set less k : ℕ) → Subset less set → Needed m set k → Needed m less k
needed_in_less m set less k s h rest w =
    let other = rest_of set k in
    let model = h other.0 other.1 in (
      model.0,
      fewer (λ j t. let p = and_parts (member less j) (not (eqb k j)) (sym (w j) ∙ t) in
          other.1 j ∙ and_from (member set j) (not (eqb k j)) (s j p.0) p.1) model.1,
    )
