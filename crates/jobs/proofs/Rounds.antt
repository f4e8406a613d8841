-- From what the parts answer to the rounds of a job.
use Rattle.std.proofs.Common.{◌≡◌, ℕ, Bool, true, false, cond, List, length, take, Some, None, Ok, Option, refl, sym, ap, subst, subst₂, ◌∙◌, arith}
use Rattle.std.proofs.lemmas.Bool.Decides.{nat_tests}
use Rattle.terms.specs.Masks.{Subset}
use Rattle.terms.specs.declared.refusals.Refusal.{Refusal}
use Rattle.terms.specs.declared.soft_sets.SoftSet.{SoftSet}
use Rattle.terms.specs.declared.refusals.Refusal.TheVariants.{NotFresh, Finished}
use Rattle.weights.specs.Kinds.{Kind}
use Rattle.finders.specs.Questions.{Asked, Model}
use Rattle.finders.specs.declared.finder.Answer.{Answer}
use Rattle.finders.specs.declared.finder.Answer.TheVariants.{Model as Found, Core as Conflict}
use Rattle.finders.proofs.Asking.{not_refused}
use Rattle.bracket.specs.States.{State, Plan, status, status_at, Ended}
use Rattle.bracket.specs.Changes.{at_floor}
use Rattle.bracket.specs.Steps.{Round, Asks, Takes, not_fresh, has_ended, none_allowed, first_model, floor_reached, model_found, core_added, core_left}
use Rattle.bracket.specs.declared.states.Status.TheVariants.{Void, Unasked, Best, Open}
use Rattle.terms.specs.Earliest.{unless_refused}
use Rattle.jobs.specs.Answers.{after_first, answer_refused, after_answer}
use Rattle.terms.specs.Clauses.{Assignment}
use Rattle.terms.specs.declared.refusals.Refusal.TheVariants.{NoCorePlace}
use Rattle.makers.specs.Refused.{core_refused}
use Rattle.finders.specs.Questions.{Core}
use Rattle.bracket.proofs.Found.{found_is_proper, refused_is_full}
use Rattle.bracket.proofs.Statuses.{is_open}
use Rattle.jobs.specs.Plans.{is_ceiling, admitted_by, kept_admitted_by}

-- ---- where no round goes on
module _ {W : Type 0} {K : Kind W} (s : State K) where
  pub unfresh : s.fresh ≡ false → Round s (Some NotFresh) s
  unfresh = not_fresh

  pub ended : s.fresh ≡ true → Ended s → Round s (Some Finished) s
  ended = has_ended

pub ruleset rests = (unfresh, ended)

-- ---- what the finder answers, and where that leads
pub ruleset questions = (nat_tests, not_refused)

module _ {W : Type 0} {K : Kind W} where
  pub first_rounds : (s t : State K) (set : ℕ) (before after : List ℕ) (a : Answer SoftSet) (o : Option Refusal) → s.fresh ≡ true → status s ≡ Unasked → set ≡ 0
      → Asked s.finder set before (Ok a) after → o ≡ None → t ≡ after_first s a after → Round s o t
  first_rounds s t set before after Found o fresh unasked e told none led =
      subst₂ (Round s) (sym none) (sym led) (first_model fresh unasked (take s.finder.n after) (subst (λ x. Model s.finder x (take s.finder.n after)) e told.0))
  first_rounds s t set before after (Conflict core) o fresh unasked e told none led =
      subst₂ (Round s) (sym none) (sym led) (none_allowed fresh unasked core told.0 (subst (Subset core) e told.1))

  -- a core that is found where something is kept is refused only for want of a place
  only_full : (s : State K) → length s.maker.weights ≡ length s.finder.softs → kept_admitted_by s.finder s.kept ≡ true → status s ≡ Open
      → (core : ℕ) → Core s.finder core → (r : Refusal) → core_refused s.maker core ≡ Some r → r ≡ NoCorePlace
  only_full s paired admitted is core h r refused =
      let k = (is_open s is).1 in
      let a : admitted_by s.finder k.0.values ≡ true = grind (arith, admitted, k.1) in
      let x : Assignment s.finder.n k.0.values × (s.finder.admits k.0.values ≡ true) = grind (arith, nat_tests, a) in
      (refused_is_full s.maker core (found_is_proper s.finder k.0.values x (length s.maker.weights) paired core h) r refused).0

  pub goes_on : (s t : State K) (floor : K.V) (set : ℕ) (before after : List ℕ) (a : Answer SoftSet) (o : Option Refusal) → s.fresh ≡ true
      → length s.maker.weights ≡ length s.finder.softs → kept_admitted_by s.finder s.kept ≡ true → Asks s floor set → Asked s.finder set before (Ok a) after
      → o ≡ answer_refused s a → t ≡ unless_refused o (after_answer s floor a after) s → Round s o t
  goes_on s t floor set before after Found None fresh paired admitted asks told e led =
      subst (Round s None) (sym led) (model_found fresh floor set asks (take s.finder.n after) told.0)
  goes_on s t floor set before after Found (Some r) fresh paired admitted asks told e led = grind arith
  goes_on s t floor set before after (Conflict core) None fresh paired admitted asks told e led =
      subst (Round s None) (sym led) (core_added fresh floor set asks core told.0 told.1 (sym e))
  goes_on s t floor set before after (Conflict core) (Some r) fresh paired admitted asks told e led =
      let full = only_full s paired admitted asks.is_open core told.0 r (sym e) in
      subst₂ (λ x y. Round s (Some x) y) (sym full) (sym led) (core_left fresh floor set asks core told.0 told.1 (sym e ∙ ap (λ x. Some x) full))

-- ---- the floor
module _ {W : Type 0} (K : Kind W) where
  -- the status at another floor
  pub status_at_floor : (void : Bool) (old floor : K.V) (kept : Option (Plan K.V)) → cond void Void (status_at K old kept) ≡ Open
      → cond void Void (status_at K floor kept) ≡ cond (is_ceiling K floor kept) Best Open
  status_at_floor true old floor kept e = cc
  status_at_floor false old floor None e = cc
  status_at_floor false old floor (Some p) e = refl

  pub reaches : (s t : State K) (cover : ℕ) (floor : K.V) (o : Option Refusal) → s.fresh ≡ true → status s ≡ Open → Takes s s.phase cover floor
      → is_ceiling K floor s.kept ≡ true → o ≡ None → t ≡ at_floor s floor → Round s o t
  reaches s t cover floor o fresh is_open takes e none led =
      subst₂ (Round s) (sym none) (sym led)
      (floor_reached fresh is_open cover floor takes (status_at_floor s.void s.floor floor s.kept is_open ∙ ap (λ b. cond b Best Open) e))

pub ruleset next_rounds = (nat_tests, status_at_floor, reaches)
