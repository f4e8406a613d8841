-- The bracket stands on every log: each call keeps what a log keeps, and an accepted round takes at least one from a measure.
use Rattle.std.proofs.Common.{◌≡◌, ℕ, suc, ◌+◌, ◌-◌, ◌*◌, ◌^◌, ◌<◌, ◌≤◌, Bool, true, false, if◌then◌else◌, List, [], ◌∷◌, length, ℤ, Some, None, Option, refl, sym, ap, ap₂, ◌∙◌, subst, arith, pow-suc, inr}
use Rattle.std.proofs.lemmas.Bool.Decides.{nat_tests}
use Rattle.std.proofs.lemmas.List.{length-map}
use Rattle.std.specs.List.{zip}
use Rattle.terms.specs.Masks.{member, Subset}
use Rattle.terms.specs.Earliest.{unless_refused}
use Rattle.terms.specs.declared.refusals.Refusal.{Refusal}
use Rattle.terms.specs.declared.refusals.Refusal.TheVariants.{Finished, NoCorePlace}
use Rattle.weights.specs.Costs.{cost, charge}
use Rattle.weights.specs.Kinds.{Kind, Laws}
use Rattle.weights.proofs.CostLaws.{broken_charge}
use Rattle.finders.specs.Meanings.{FinderMeaning}
use Rattle.finders.specs.Questions.{Model, Core}
use Rattle.makers.specs.Meanings.{MakerMeaning, has_part, staying, proper}
use Rattle.makers.specs.Covers.{is_cover}
use Rattle.makers.specs.Refused.{core_refused}
use Rattle.bracket.specs.States.{State, Plan, opened_on, same, status, Ended}
use Rattle.bracket.specs.Changes.{priced, after_hard, after_soft, after_model, after_core, at_floor, voided}
use Rattle.bracket.specs.Steps.{Call, hard, soft, round, Round, not_fresh, has_ended, none_allowed, first_model, floor_reached, model_found, core_added, core_left, Asks, Takes, Outside, Step}
use Rattle.bracket.specs.Logs.{line, Log, Logged, opened, called, JustOpened, hards, softs, rounds, latest}
use Rattle.bracket.specs.Brackets.{Holds, LineHolds, BracketStands, OpensBracket, KeepsBracket, NoneAllowed}
use Rattle.bracket.specs.declared.states.Phase.{Phase}
use Rattle.bracket.specs.declared.states.Phase.TheVariants.{Quick, Exact}
use Rattle.bracket.specs.declared.states.Status.{Status}
use Rattle.bracket.specs.declared.states.Status.TheVariants.{Void, Unasked, Best, Open}
use Rattle.weights.proofs.SumLaws.{le_self, cost_more}
use Rattle.bracket.proofs.Charges.{same_is_equal, equal_is_same, higher_left, higher_right, cheaper_is, broken_set}
use Rattle.bracket.proofs.FreeSets.{free_sets, free_at_most, some_free, fewer_free}
use Rattle.bracket.proofs.Found.{found_is_proper, refused_is_full, found_is_new, staying_at_most, part_of_none}
use Rattle.bracket.proofs.Sound.{Sound, opens, hard_keeps, soft_keeps, higher_keeps, model_keeps, core_keeps, void_keeps, model_is_allowed, still_admitted, as_many}
use Rattle.bracket.proofs.Statuses.{is_void, is_unasked, is_best, is_open, is_not_void, void_at, best_at, open_goes_on, unasked_goes_on}

-- ---- the measure
abbrev measure_of : Status → Phase → ℕ → ℕ
measure_of Void phase free = 0
measure_of Best phase free = 0
measure_of Open Exact free = 2 * free - 1
measure_of Open Quick free = 2 * free
measure_of Unasked phase free = 2 * free + 1

measure_most : (st : Status) (phase : Phase) (free : ℕ) → measure_of st phase free ≤ 2 * free + 1
measure_most Void phase free = omega arith
measure_most Best phase free = omega arith
measure_most Open Exact free = omega arith
measure_most Open Quick free = omega arith
measure_most Unasked phase free = omega arith

measure_open : (phase : Phase) (free : ℕ) → 2 * free ≤ measure_of Open phase free + 1
measure_open Exact free = omega arith
measure_open Quick free = omega arith

module _ {W : Type 0} {K : Kind W} where
  abbrev free_of : State K → ℕ
  free_of s = free_sets s.maker.cores (length s.maker.weights)

  abbrev measure : State K → ℕ
  measure s = measure_of (status s) s.phase (free_of s)

  measure_is : (s : State K) (st : Status) (phase : Phase) → status s ≡ st → s.phase ≡ phase → measure s ≡ measure_of st phase (free_of s)
  measure_is s st phase e p = ap₂ (λ x y. measure_of x y (free_of s)) e p

  -- with something kept a job is best or open
  measure_kept : (s : State K) (plan : Plan K.V) → s.void ≡ false → s.kept ≡ Some plan → measure s ≤ measure_of Open s.phase (free_of s)
  measure_kept s plan v k = by_test (same K s.floor plan.cost) (grind (arith, v, k))
    where
      by_test : (b : Bool) → status s ≡ (if b then Best else Open) → measure s ≤ measure_of Open s.phase (free_of s)
      by_test true e = grind (arith, ap (λ st. measure_of st s.phase (free_of s)) e)
      by_test false e = grind (arith, ap (λ st. measure_of st s.phase (free_of s)) e)

module _ {W : Type 0} {K : Kind W} (laws : Laws K) (first : State K) where
  -- what a log keeps of the state that it leaves: the facts on clauses and cores, and that enough rounds are left
  abbrev Good : Log K → State K → Type 0
  Good log s = Sound first (hards log) (softs log) s × (rounds log + measure s ≤ 2 * 2 ^ length (softs log) + 1)

  -- and what a line adds
  abbrev Next : Log K → State K → Call W → Option Refusal → State K → Type 0
  Next log s c r t = Good (line c r t ∷ log) t × LineHolds first log s (line c r t)

  -- at the opening, and after an accepted clause, all rounds are left
  all_left : (hs : List (List ℤ)) (xs : List (W × List ℤ)) (s : State K) → Sound first hs xs s → 0 + measure s ≤ 2 * 2 ^ length xs + 1
  all_left hs xs s d =
      let n : length s.maker.weights ≡ length xs = ap length d.accepted.weights ∙ length-map xs (λ x. x.0) in
      grind (arith, measure_most (status s) s.phase (free_of s), free_at_most s.maker.cores (length xs), ap (free_sets s.maker.cores) n)

  some_left : (hs : List (List ℤ)) (xs : List (W × List ℤ)) (s : State K) → Sound first hs xs s → 0 < free_of s
  some_left hs xs s d = some_free s.maker.cores (length s.maker.weights) d.cores.proper

  -- ---- lines
  clause_line : (log : Log K) (s t : State K) (c : Call W) (r : Option Refusal) → (c ≡ round → ⊥) → K.le s.floor t.floor ≡ true → t.void ≡ s.void → LineHolds first log s (line c r t)
  clause_line log s t c r n f v = record {
    floor_never_falls = f;
    void_is_found = λ e. absurd (n e);
    void_stays = λ e. void_at t (v ∙ is_void s e);
    end_is_final = λ e. absurd (n e);
    refused_only = λ _ e. absurd (n e);
  }

  accepted_line : (log : Log K) (s t : State K) → K.le s.floor t.floor ≡ true → (Ended s → ⊥) → (NoneAllowed first log → status t ≡ Void) → LineHolds first log s (line round None t)
  accepted_line log s t f n v = record {
    floor_never_falls = f;
    void_is_found = λ _ _ none. v none;
    void_stays = λ e. absurd (n (inr e));
    end_is_final = λ _ e. absurd (n e);
    refused_only = λ r _ e _. grind arith;
  }

  -- ---- clauses
  hard_next : (log : Log K) (s : State K) → Good log s → (c : List ℤ) (r : Option Refusal) → Next log s (hard c) r (unless_refused r (after_hard s c) s)
  hard_next log s g c None =
      let d = hard_keeps laws first (hards log) (softs log) s g.0 c in
      ((d, all_left _ _ _ d), clause_line log s (after_hard s c) (hard c) None (λ e. grind arith) (le_self laws s.floor) refl)
  hard_next log s g c (Some r) = (g, clause_line log s s (hard c) (Some r) (λ e. grind arith) (le_self laws s.floor) refl)

  soft_next : (log : Log K) (s : State K) → Good log s → (w : W) (c : List ℤ) (r : Option Refusal) → Next log s (soft w c) r (unless_refused r (after_soft s w c) s)
  soft_next log s g w c None =
      let d = soft_keeps laws first (hards log) (softs log) s g.0 w c in
      ((d, all_left _ _ _ d), clause_line log s (after_soft s w c) (soft w c) None (λ e. grind arith) (le_self laws s.floor) refl)
  soft_next log s g w c (Some r) = (g, clause_line log s s (soft w c) (Some r) (λ e. grind arith) (le_self laws s.floor) refl)

  -- ---- covers, and what is found outside them
  module _ (hs : List (List ℤ)) (xs : List (W × List ℤ)) (s : State K) (d : Sound first hs xs s) where
    -- the floor that a round has by then is as sound as the one before, and at least as high
    reached : (phase : Phase) (cover : ℕ) (floor : K.V) → Takes s phase cover floor
        → (is_cover s.maker cover ≡ true) × Sound first hs xs (at_floor s floor) × (K.le s.floor floor ≡ true)
    reached Quick cover floor t = (t.0, subst (λ f. Sound first hs xs (at_floor s f)) (sym t.1) d, subst (λ f. K.le s.floor f ≡ true) (sym t.1) (le_self laws s.floor))
    reached Exact cover floor t = (
      t.0.cover,
      subst (λ f. Sound first hs xs (at_floor s f)) (sym t.1) (higher_keeps laws first hs xs s d cover t.0),
      subst (λ f. K.le s.floor f ≡ true) (sym t.1) (higher_left laws s.floor (cost K s.maker.weights cover)),
    )

    -- a model breaks only members of the cover
    model_cost : (cover asked : ℕ) → Outside s cover asked → (a : List ℕ) → Model s.finder asked a
        → K.le (charge K (zip s.maker.weights s.finder.softs) a) (cost K s.maker.weights cover) ≡ true
    model_cost cover asked o a m =
        let b = broken_set a s.finder.softs in
        let n = as_many laws first hs xs s d in
        subst (λ v. K.le v (cost K s.maker.weights cover) ≡ true) (broken_charge K s.maker.weights s.finder.softs a b.0 n b.1)
        (cost_more laws s.maker.weights (member b.0) (member cover) 0 (λ k t. grind (arith, nat_tests, b.1 k, o k, m.meets k, n)))

    -- a model found outside a least cover is best
    exact_is_best : s.void ≡ false → (cover : ℕ) (floor : K.V) → Takes s Exact cover floor → (asked : ℕ) → Outside s cover asked → (a : List ℕ) → Model s.finder asked a
        → status (after_model (at_floor s floor) a Exact) ≡ Best
    exact_is_best v cover floor t asked o a m =
        let new = priced s a in
        let kept = cheaper_is laws s.kept new in
        let up = model_keeps laws first hs xs (at_floor s floor) (reached Exact cover floor t).1 v asked a m Exact in
        let allowed = up.kept_is_allowed kept.0 kept.1 in
        let low : K.le floor kept.0.cost ≡ true = grind (arith, up.floor_is_low kept.0.values allowed.0, allowed.1) in
        let dear : K.le new.cost (cost K s.maker.weights cover) ≡ true = model_cost cover asked o a m in
        let high : K.le (cost K s.maker.weights cover) floor ≡ true =
        subst (λ f. K.le (cost K s.maker.weights cover) f ≡ true) (sym t.1) (higher_right laws s.floor (cost K s.maker.weights cover)) in
        let top : K.le kept.0.cost floor ≡ true = laws.trans kept.0.cost new.cost floor kept.2 (laws.trans new.cost (cost K s.maker.weights cover) floor dear high) in
        best_at (after_model (at_floor s floor) a Exact) kept.0 v kept.1 (grind (arith, low, top))

  -- ---- rounds
  module _ (log : Log K) (s : State K) (g : Good log s) where
    fewer_left : (t : State K) → measure t < measure s → suc (rounds log) + measure t ≤ 2 * 2 ^ length (softs log) + 1
    fewer_left t l = omega (arith, g.1)

    -- a model that is found, whatever the floor and the phase by then
    model_next : (t : State K) → Sound first (hards log) (softs log) t → s.void ≡ false → (Ended s → ⊥) → (set : ℕ) (a : List ℕ) → Model s.finder set a
        → K.le s.floor t.floor ≡ true → measure t < measure s → Next log s round None t
    model_next t d v n set a m f l =
        ((d, fewer_left t l), accepted_line log s t f n (λ none. absurd (none a (model_is_allowed laws first (hards log) (softs log) s g.0 set a m))))

    ended_next : Ended s → Next log s round (Some Finished) s
    ended_next e = (
      g,
      record {
        floor_never_falls = le_self laws s.floor;
        void_is_found = λ _ e. grind arith;
        void_stays = λ v. v;
        end_is_final = λ _ _. (refl, refl);
        refused_only = λ _ _ _ n. absurd (n e);
      },
    )

    -- a model in the quick phase is a step on; one in the exact phase is best
    model_less : (phase : Phase) → s.phase ≡ phase → status s ≡ Open → (cover : ℕ) (floor : K.V) → Takes s phase cover floor → (asked : ℕ) → Outside s cover asked
        → (a : List ℕ) → Model s.finder asked a → measure (after_model (at_floor s floor) a Exact) < measure s
    model_less Quick p o cover floor takes asked out a m =
        let kept = cheaper_is laws s.kept (priced s a) in
        omega (
          arith,
          measure_is s Open Quick o p,
          some_left (hards log) (softs log) s g.0,
          measure_kept (after_model (at_floor s floor) a Exact) kept.0 (is_open s o).0 kept.1,
        )
    model_less Exact p o cover floor takes asked out a m =
        let best = exact_is_best (hards log) (softs log) s g.0 (is_open s o).0 cover floor takes asked out a m in
        omega (arith, measure_is s Open Exact o p, some_left (hards log) (softs log) s g.0, measure_is (after_model (at_floor s floor) a Exact) Best Exact best refl)

    open_less : (t : State K) → status s ≡ Open → measure t + 2 ≤ 2 * free_of s → measure t < measure s
    open_less t o l = omega (arith, l, measure_is s Open s.phase o refl, measure_open s.phase (free_of s))

    -- what is kept in an open job is allowed
    some_allowed : status s ≡ Open → NoneAllowed first log → ⊥
    some_allowed o none = let k = (is_open s o).1 in none k.0.values (g.0.kept_is_allowed k.0 k.1).0

    -- a core that is found in an open job
    is_proper : status s ≡ Open → (core : ℕ) → Core s.finder core → proper (length s.maker.weights) core ≡ true
    is_proper o core h =
        let k = (is_open s o).1 in
        let admitted = still_admitted laws first (hards log) (softs log) s g.0 k.0.values (g.0.kept_is_allowed k.0 k.1).0 in
        found_is_proper s.finder k.0.values admitted (length s.maker.weights) (as_many laws first (hards log) (softs log) s g.0) core h

    is_new : (floor : K.V) (asked : ℕ) → Asks s floor asked → (core : ℕ) → Subset core asked → has_part s.maker.cores core ≡ false
    is_new floor asked x core w =
        let covers = (reached (hards log) (softs log) s g.0 s.phase x.cover floor x.takes).0 in
        found_is_new x.cover asked core (λ k t. grind (arith, x.outside k, t)) w s.maker.cores (grind (arith, covers))

    found_next : (floor : K.V) (asked : ℕ) → Asks s floor asked → (core : ℕ) → Core s.finder core → Subset core asked
        → (r : Option Refusal) → core_refused s.maker core ≡ r → Next log s round r (unless_refused r (after_core (at_floor s floor) core) s)
    found_next floor asked x core h w None e =
        let d = reached (hards log) (softs log) s g.0 s.phase x.cover floor x.takes in
        let p = is_proper x.is_open core h in
        let t = after_core (at_floor s floor) core in
        let less = fewer_free s.maker.cores core (length s.maker.weights) (grind (arith, p)) (is_new floor asked x core w) in
        let l = open_less t x.is_open (omega (arith, measure_is t Open Quick x.stays_open refl, less)) in (
          (core_keeps laws first (hards log) (softs log) (at_floor s floor) d.1 core h p e, fewer_left t l),
          accepted_line log s t d.2 (open_goes_on s x.is_open) (λ none. absurd (some_allowed x.is_open none)),
        )
    found_next floor asked x core h w (Some r) e =
        let d = reached (hards log) (softs log) s g.0 s.phase x.cover floor x.takes in
        let full = refused_is_full s.maker core (is_proper x.is_open core h) r e in
        let few : length s.maker.cores ≤ length (staying core s.maker.cores) = omega (arith, g.0.cores.few, full.1) in (
          g,
          record {
            floor_never_falls = le_self laws s.floor;
            void_is_found = λ _ i. grind arith;
            void_stays = λ v. v;
            end_is_final = λ _ i. absurd (open_goes_on s x.is_open i);
            refused_only = λ z _ i _. (
              grind (arith, full.0),
              record {
                all_taken = omega (arith, g.0.cores.few, full.1, staying_at_most core s.maker.cores);
                cover = x.cover;
                covers = d.0;
                asked = asked;
                outside = x.outside;
                found = core;
                conflicts = h;
                within = w;
                part_of_none = part_of_none core s.maker.cores few;
              },
              refl,
            );
          },
        )

  round_next : (log : Log K) (s : State K) → Good log s → {r : Option Refusal} {t : State K} → Round s r t → Next log s round r t
  round_next log s g (not_fresh e) = grind (arith, g.0.accepted.is_fresh)
  round_next log s g (has_ended f e) = ended_next log s g e
  round_next log s g (none_allowed f u core h e) = (
    (
      void_keeps laws first (hards log) (softs log) s g.0 (is_unasked s u).1 core h e,
      fewer_left log s g (voided s) (omega (arith, measure_is s Unasked s.phase u refl)),
    ),
    accepted_line log s (voided s) (le_self laws s.floor) (unasked_goes_on s u) (λ _. refl),
  )
  round_next log s g (first_model f u a m) =
      let v = (is_unasked s u).0 in
      let kept = cheaper_is laws s.kept (priced s a) in
      let t = after_model s a Quick in
      model_next log s g t (model_keeps laws first (hards log) (softs log) s g.0 v 0 a m Quick) v (unasked_goes_on s u) 0 a m (le_self laws s.floor)
      (omega (arith, measure_is s Unasked s.phase u refl, measure_kept t kept.0 v kept.1))
  round_next log s g (floor_reached f o cover floor takes b) =
      let d = reached (hards log) (softs log) s g.0 s.phase cover floor takes in
      let t = at_floor s floor in
      let l = open_less log s g t o (omega (arith, measure_is t Best s.phase b refl, some_left (hards log) (softs log) s g.0)) in
      ((d.1, fewer_left log s g t l), accepted_line log s t d.2 (open_goes_on s o) (λ none. absurd (some_allowed log s g o none)))
  round_next log s g (model_found f floor asked x a m) =
      let d = reached (hards log) (softs log) s g.0 s.phase x.cover floor x.takes in
      let v = (is_open s x.is_open).0 in
      model_next log s g (after_model (at_floor s floor) a Exact) (model_keeps laws first (hards log) (softs log) (at_floor s floor) d.1 v asked a m Exact) v (open_goes_on s x.is_open) asked a m d.2
      (model_less log s g s.phase refl x.is_open x.cover floor x.takes asked x.outside a m)
  round_next log s g (core_added f floor asked x core h w n) = found_next log s g floor asked x core h w None n
  round_next log s g (core_left f floor asked x core h w n) = found_next log s g floor asked x core h w (Some NoCorePlace) n

  -- ---- every call
  step_next : (log : Log K) (s : State K) → Good log s → (c : Call W) (r : Option Refusal) (t : State K) → Step s c r t → Next log s c r t
  step_next log s g (hard c) r t e = subst (Next log s (hard c) r) (sym e.1) (hard_next log s g c r)
  step_next log s g (soft w c) r t e = subst (Next log s (soft w c) r) (sym e.1) (soft_next log s g w c r)
  step_next log s g round r t e = round_next log s g e

  good : (log : Log K) (s : State K) → Logged first log s → Good log s
  good log s (opened o) = let d = opens laws first o in (d, all_left [] [] first d)
  good log s (called {log = past} {s = before} {t = t} {c = c} {r = r} l e) = (step_next past before (good past before l) c r t e).0

  latest_is : (log : Log K) (s : State K) → Logged first log s → latest first log ≡ s
  latest_is log s (opened o) = refl
  latest_is log s (called l e) = refl

  good_holds : (log : Log K) (s : State K) → Good log s → Holds first log s
  good_holds log s g = record {
    floor_is_low = g.0.floor_is_low;
    kept_is_allowed = g.0.kept_is_allowed;
    best_exactly = (
      λ e. let b = (is_best s e).1 in (b.0, b.1, same_is_equal laws s.floor b.0.cost b.2),
      λ e. best_at s e.0 (is_not_void s e.0 g.0.void_keeps_none e.1) e.1 (equal_is_same laws s.floor e.0.cost e.2),
    );
    void_only = λ v. g.0.void_only (is_void s v);
    rounds_are_few = grind (arith, g.1, pow-suc 2 (length (softs log)));
  }

  pub stands : (log : Log K) (s : State K) → Logged first log s → BracketStands first log
  stands log s (opened o) = good_holds [] first (good [] first (opened o))
  stands log s (called {log = past} {s = before} {t = t} {c = c} {r = r} l e) =
      let n = step_next past before (good past before l) c r t e in (
        good_holds (line c r t ∷ past) t n.0,
        subst (λ b. LineHolds first past b (line c r t)) (sym (latest_is past before l)) n.1,
        stands past before l,
      )

-- ---- what calls promise
module _ {W : Type 0} {K : Kind W} (laws : Laws K) where
  -- a step keeps the bracket
  pub step_keeps : (s : State K) (c : Call W) (r : Option Refusal) (t : State K) → Step s c r t → KeepsBracket s c r t
  step_keeps s c r t e first log l = let m = called l e in (m, stands laws first (line c r t ∷ log) t m)

  -- a job that was opened on fresh parts has the bracket
  pub opening_has : (f : FinderMeaning) (m : MakerMeaning W) (s : State K) → s ≡ opened_on K f m → OpensBracket f m s
  opening_has f m s e u = let l = opened (subst JustOpened (sym e) (u, refl)) in (l, stands laws s [] s l)
