-- The first line of a text, and what it opens.
use Rattle.std.proofs.Common.{◌≡◌, ℕ, ◌+◌, ◌<◌, true, false, List, [], ◌∷◌, All, IfOk, Ok, Err, Result, refl, subst, ◌∙◌, arith, rules}
use Rattle.std.proofs.lemmas.Bool.{both_ways}
use Rattle.std.proofs.lemmas.Bool.Decides.{nat_tests}
use Rattle.std.proofs.lemmas.List.Elements.{All-cons}
use Rattle.bracket.specs.States.{State, opened_on}
use Rattle.makers.specs.Meanings.{MakerMeaning, fresh}
use Rattle.finders.specs.Meanings.{FinderMeaning}
use Rattle.sessions.specs.Outputs.{finder, Opens}
use Rattle.sessions.specs.Instructions.{Later}
use Rattle.sessions.specs.Session.{Session}
use Rattle.terms.specs.declared.limits.TheConstants.{SOFT_PLACES}
use Rattle.texts.specs.Cuts.{numbered}
use Rattle.texts.specs.Lines.{TextLine, opens_job}
use Rattle.texts.specs.declared.lines.Line.{Line}
use Rattle.texts.specs.declared.lines.Line.TheVariants.{Job as JobLine, Hard as HardLine, Soft as SoftLine, Rounds as RoundsLine, Query as QueryLine}
use Rattle.texts.specs.declared.weight_forms.WeightForm.{WeightForm}
use Rattle.weights.specs.Kinds.{Kind}

-- ---- the first line
pub is_job : (line : Line) → opens_job line ≡ true → ((n : ℕ) (f : WeightForm) → line ≡ JobLine n f → ⊥) → ⊥
is_job (JobLine n f) opens other = other n f refl
is_job (HardLine literals) opens other = both_ways false refl opens
is_job (SoftLine weight literals) opens other = both_ways false refl opens
is_job (RoundsLine count) opens other = both_ways false refl opens
is_job QueryLine opens other = both_ways false refl opens

-- ---- numbers of lines
later_from : (k : ℕ) → 1 < k → (ps : List (List ℕ)) → All Later (numbered k ps)
later_from k h [] = search rules
later_from k h (p ∷ ps) = All-cons Later (k, p) (numbered (k + 1) ps) (grind (arith, nat_tests)) (later_from (k + 1) (omega arith) ps)

module _ (ps : List (List ℕ)) (l : TextLine) (rest : List TextLine) (e : numbered 1 ps ≡ l ∷ rest) where
  pub first_is_1 : l.0 ≡ 1
  first_is_1 = by_pieces ps e
    where
      by_pieces : (ps : List (List ℕ)) → numbered 1 ps ≡ l ∷ rest → l.0 ≡ 1
      by_pieces [] e = absurd (search rules)
      by_pieces (p ∷ ps) e = search rules

  pub others_are_later : All Later rest
  others_are_later = by_pieces ps e
    where
      by_pieces : (ps : List (List ℕ)) → numbered 1 ps ≡ l ∷ rest → All Later rest
      by_pieces [] e = absurd (search rules)
      by_pieces (p ∷ ps) e = let others : numbered 2 ps ≡ rest = search rules in subst (All Later) others (later_from 2 (omega arith) ps)

-- ---- the parts of the job
module _ {W : Type 0} {K : Kind W} (form : WeightForm) (n : ℕ) (lines : List TextLine) {T E : Type 0} (text : T → List ℕ) where
  pub opened_with : (f : FinderMeaning) → f ≡ finder n → (m : MakerMeaning W) → m ≡ fresh SOFT_PLACES → (s : State K) → s ≡ opened_on K f m
      → (output : Result T E) → IfOk output (λ o. Session form s lines (text o)) → IfOk output (λ o. Opens K form n lines (text o))
  opened_with f p m q s e (Err x) session = tt
  opened_with f p m q s e (Ok o) session = subst (λ s. Session form s lines (text o)) (e ∙ opened) session
    where
      opened : opened_on K f m ≡ opened_on K (finder n) (fresh SOFT_PLACES)
      opened = subst (λ g. opened_on K f m ≡ opened_on K g (fresh SOFT_PLACES)) p (subst (λ w. opened_on K f m ≡ opened_on K f w) q refl)
