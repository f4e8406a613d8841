-- What every log keeps of a job's state, and that each move of a job keeps it.
use Rattle.std.proofs.Common.{◌≡◌, ℕ, zero, suc, ◌<◌, ◌≤◌, Bool, true, false, not, ◌&&◌, if◌then◌else◌, List, [], ◌∷◌, ◌++◌, length, map, ℤ, Some, None, Option, All, refl, sym, ap, ap₂, ◌∙◌, subst, arith, length-append}
use Rattle.std.proofs.lemmas.Bool.Decides.{nat_tests}
use Rattle.std.proofs.lemmas.List.{map-append, length-map, get_or_append_left, nil_from_length}
use Rattle.std.proofs.lemmas.List.Elements.{All-append, All-filter}
use Rattle.std.proofs.lemmas.List.Folds.{list_all-append}
use Rattle.std.proofs.lemmas.List.Sums.{list_all-from_AllPass}
use Rattle.std.specs.List.{list_all, zip}
use Rattle.std.specs.Prelude.{option_map}
use Rattle.terms.specs.declared.limits.TheConstants.{CORE_PLACES}
use Rattle.terms.specs.Clauses.{satisfied_by, breaks, Assignment}
use Rattle.terms.specs.Masks.{member, intersect, subset, below, Subset}
use Rattle.terms.proofs.MaskLaws.{below_members, intersect_members, none_members}
use Rattle.weights.specs.Costs.{cost, charge}
use Rattle.weights.specs.Kinds.{Kind, Laws}
use Rattle.weights.proofs.CostLaws.{broken_charge}
use Rattle.finders.specs.Meanings.{FinderMeaning, with_hard, with_soft}
use Rattle.finders.specs.Questions.{Model, Core}
use Rattle.makers.specs.Meanings.{cores_with, has_part, staying, proper}
use Rattle.makers.specs.Covers.{Least}
use Rattle.makers.specs.Refused.{core_refused}
use Rattle.makers.proofs.MakerLaws.{proper_kept, proper_more}
use Rattle.bracket.specs.States.{State, Plan}
use Rattle.bracket.specs.Changes.{priced, unbroken, higher, after_hard, after_soft, after_model, after_core, at_floor, voided}
use Rattle.bracket.specs.Logs.{AllowedBy, JustOpened}
use Rattle.bracket.specs.declared.states.Phase.{Phase}
use Rattle.bracket.proofs.Found.{by_contradiction}
use Rattle.weights.proofs.SumLaws.{le_self}
use Rattle.bracket.proofs.Charges.{higher_low, of_cheaper, charge_more, zip_of_parts, broken_set}

-- ---- the parts of a job after a log, by its accepted hard clauses and its accepted soft clauses
-- the finder's clauses and the maker's weights are the accepted ones
pub record Accepted {W : Type 0} {K : Kind W} (first : State K) (hards : List (List ℤ)) (softs : List (W × List ℤ)) (fresh : Bool) (f : FinderMeaning) (ws : List W) : Type 0 where
  pub is_fresh : fresh ≡ true
  pub same_n : f.n ≡ first.finder.n
  pub admits : (a : List ℕ) → f.admits a ≡ (first.finder.admits a && list_all (satisfied_by a) hards)
  pub clauses : f.softs ≡ map (λ x. x.1) softs
  pub weights : ws ≡ map (λ x. x.0) softs

-- kept cores are cores of the finder, of so many soft numbers
pub record Cores (f : FinderMeaning) (s : ℕ) (cores : List ℕ) : Type 0 where
  pub conflict : All (Core f) cores
  pub proper : list_all (proper s) cores ≡ true
  pub few : length cores ≤ CORE_PLACES

-- and what is known of cheap plans is true
pub record Sound {W : Type 0} {K : Kind W} (first : State K) (hards : List (List ℤ)) (softs : List (W × List ℤ)) (s : State K) : Type 0 where
  pub accepted : Accepted first hards softs s.fresh s.finder s.maker.weights
  pub cores : Cores s.finder (length s.maker.weights) s.maker.cores
  pub floor_is_low : (a : List ℕ) → AllowedBy first.finder hards a → K.le s.floor (charge K softs a) ≡ true
  pub kept_is_allowed : (plan : Plan K.V) → s.kept ≡ Some plan → AllowedBy first.finder hards plan.values × (plan.cost ≡ charge K softs plan.values)
  pub void_keeps_none : s.void ≡ true → s.kept ≡ None
  pub void_only : s.void ≡ true → (a : List ℕ) → AllowedBy first.finder hards a → ⊥

-- ---- single facts
unbroken_is : {A : Type 0} (c : List ℤ) (kept : Option (Plan A)) (plan : Plan A) → unbroken c kept ≡ Some plan → (kept ≡ Some plan) × (satisfied_by plan.values c ≡ true)
unbroken_is c None plan e = grind arith
unbroken_is {A} c (Some old) plan e = by_test (satisfied_by old.values c) refl e
  where
    by_test : (b : Bool) → satisfied_by old.values c ≡ b → (if b then Some old else None) ≡ Some plan → (◌≡◌ {A = Option (Plan A)} (Some old) (Some plan)) × (satisfied_by plan.values c ≡ true)
    by_test true t e = grind arith
    by_test false t e = grind arith

-- a core stays one when fewer assignments are admitted, and when clauses are added
hard_core : (f : FinderMeaning) (c : List ℤ) (core : ℕ) → Core f core → Core (with_hard f c) core
hard_core f c core h = record {
  given = h.given;
  conflict = λ a m. h.conflict a (record { assigns = m.assigns; admitted = grind (arith, m.admitted); meets = m.meets });
}

still_broken : (a : List ℕ) (cs ds : List (List ℤ)) (k : ℕ) → k < length cs → breaks a (cs ++ ds) k ≡ breaks a cs k
still_broken a cs ds k l = grind (arith, nat_tests, get_or_append_left cs ds [] k l, length-append cs ds)

soft_core : (f : FinderMeaning) (c : List ℤ) (core : ℕ) → Core f core → Core (with_soft f c) core
soft_core f c core h = record {
  given = λ k t. grind (arith, h.given k t, length-append f.softs (c ∷ []));
  conflict = λ a m. h.conflict a (record {
    assigns = m.assigns;
    admitted = m.admitted;
    meets = λ k t. sym (still_broken a f.softs (c ∷ []) k (h.given k t)) ∙ m.meets k t;
  });
}

-- what holds of the kept cores and of the new one holds of those that are kept then
all_one : {A : Type 0} (P : A → Type 0) (x : A) → P x → All P (x ∷ [])
all_one P x p zero d l = p
all_one P x p (suc k) d l = absurd (omega arith)

kept_all : (P : ℕ → Type 0) (cs : List ℕ) (core : ℕ) → All P cs → P core → All P (cores_with cs core)
kept_all P cs core h p = by_test (has_part cs core)
  where
    by_test : (b : Bool) → All P (if b then cs else staying core cs ++ core ∷ [])
    by_test true = h
    by_test false = All-append P (staying core cs) (core ∷ []) (All-filter (λ kept. not (subset core kept)) P cs h) (all_one P core p)

-- what an admitted assignment breaks meets each core
meets_core : (f : FinderMeaning) (a : List ℕ) → Assignment f.n a × (f.admits a ≡ true) → (set : ℕ) → ((k : ℕ) → member set k ≡ breaks a f.softs k)
    → (core : ℕ) → Core f core → intersect set core ≡ true
meets_core f a x set b core h = by_contradiction (intersect set core) (λ apart. h.conflict a (record {
  assigns = x.0;
  admitted = x.1;
  meets = λ k t. grind (arith, nat_tests, intersect_members set core, b k);
}))

module _ {W : Type 0} {K : Kind W} (laws : Laws K) (first : State K) where
  -- ---- the opening
  pub opens : JustOpened first → Sound first [] [] first
  opens o =
      let u = o.0 in
      let fs = nil_from_length first.finder.softs (grind (arith, nat_tests, u)) in
      let ws = nil_from_length first.maker.weights (grind (arith, nat_tests, u)) in
      let cores = nil_from_length first.maker.cores (grind (arith, nat_tests, u)) in
      record {
        accepted = record {
          is_fresh = ap (λ s. s.fresh) o.1 ∙ o.0;
          same_n = refl;
          admits = λ a. grind arith;
          clauses = fs;
          weights = ws;
        };
        floor_is_low = λ a h. grind (arith, ap (λ s. s.floor) o.1, le_self laws K.zero);
        kept_is_allowed = λ plan e. grind (arith, ap (λ s. s.kept) o.1);
        void_keeps_none = λ e. ap (λ s. s.kept) o.1;
        void_only = λ e. grind (arith, ap (λ s. s.void) o.1);
        cores = record {
          conflict = subst (All (Core first.finder)) (sym cores) (λ k d l. absurd (omega arith));
          proper = ap (list_all (proper (length first.maker.weights))) cores;
          few = grind (arith, cores);
        };
      }

  module _ (hards : List (List ℤ)) (softs : List (W × List ℤ)) (s : State K) (d : Sound first hards softs s) where
    -- ---- clauses
    pub hard_keeps : (c : List ℤ) → Sound first (hards ++ c ∷ []) softs (after_hard s c)
    hard_keeps c = record {
      accepted = record {
        is_fresh = d.accepted.is_fresh;
        same_n = d.accepted.same_n;
        admits = λ a. grind (arith, d.accepted.admits a, list_all-append (satisfied_by a) hards (c ∷ []));
        clauses = d.accepted.clauses;
        weights = d.accepted.weights;
      };
      floor_is_low = λ a h. d.floor_is_low a (h.0, h.1, grind (arith, h.2, list_all-append (satisfied_by a) hards (c ∷ [])));
      kept_is_allowed = λ plan e.
          let u = unbroken_is c s.kept plan e in
          let k = d.kept_is_allowed plan u.0 in
          ((k.0.0, k.0.1, grind (arith, k.0.2, u.1, list_all-append (satisfied_by plan.values) hards (c ∷ []))), k.1);
      void_keeps_none = λ v. grind (arith, d.void_keeps_none v);
      void_only = λ v a h. d.void_only v a (h.0, h.1, grind (arith, h.2, list_all-append (satisfied_by a) hards (c ∷ [])));
      cores = record {
        conflict = λ k x l. hard_core s.finder c _ (d.cores.conflict k x l);
        proper = d.cores.proper;
        few = d.cores.few;
      };
    }

    -- what an assignment costs by what the job has is what it pays for the accepted clauses
    pub price_is : (a : List ℕ) → charge K (zip s.maker.weights s.finder.softs) a ≡ charge K softs a
    price_is a = ap₂ (λ ws cs. charge K (zip ws cs) a) d.accepted.weights d.accepted.clauses ∙ ap (λ xs. charge K xs a) (zip_of_parts softs)

    pub as_many : length s.maker.weights ≡ length s.finder.softs
    as_many = grind (arith, ap length d.accepted.weights, ap length d.accepted.clauses, length-map softs (λ x. x.0), length-map softs (λ x. x.1))

    soft_price : (w : W) (c : List ℤ) (a : List ℕ)
        → charge K (zip (s.maker.weights ++ w ∷ []) (s.finder.softs ++ c ∷ [])) a ≡ charge K (softs ++ (w, c) ∷ []) a
    soft_price w c a =
        ap₂ (λ ws cs. charge K (zip (ws ++ w ∷ []) (cs ++ c ∷ [])) a) d.accepted.weights d.accepted.clauses
        ∙ ap₂ (λ ws cs. charge K (zip ws cs) a) (sym (map-append (λ x. x.0) softs ((w, c) ∷ []))) (sym (map-append (λ x. x.1) softs ((w, c) ∷ [])))
        ∙ ap (λ xs. charge K xs a) (zip_of_parts (softs ++ (w, c) ∷ []))

    pub soft_keeps : (w : W) (c : List ℤ) → Sound first hards (softs ++ (w, c) ∷ []) (after_soft s w c)
    soft_keeps w c = record {
      accepted = record {
        is_fresh = d.accepted.is_fresh;
        same_n = d.accepted.same_n;
        admits = d.accepted.admits;
        clauses = ap (λ cs. cs ++ c ∷ []) d.accepted.clauses ∙ sym (map-append (λ x. x.1) softs ((w, c) ∷ []));
        weights = ap (λ ws. ws ++ w ∷ []) d.accepted.weights ∙ sym (map-append (λ x. x.0) softs ((w, c) ∷ []));
      };
      floor_is_low = λ a h. laws.trans s.floor (charge K softs a) _ (d.floor_is_low a h) (charge_more laws softs ((w, c) ∷ []) a);
      kept_is_allowed = λ plan e. repriced_is w c s.kept plan d.kept_is_allowed e;
      void_keeps_none = λ v. ap (option_map (λ plan. priced (after_soft s w c) plan.values)) (d.void_keeps_none v);
      void_only = d.void_only;
      cores = record {
        conflict = λ k x l. soft_core s.finder c _ (d.cores.conflict k x l);
        proper = grind (arith, proper_more (length s.maker.weights) s.maker.cores d.cores.proper, length-append s.maker.weights (w ∷ []));
        few = d.cores.few;
      };
    }
      where
        repriced_is : (w : W) (c : List ℤ) (kept : Option (Plan K.V)) (plan : Plan K.V)
            → ((old : Plan K.V) → kept ≡ Some old → AllowedBy first.finder hards old.values × (old.cost ≡ charge K softs old.values))
            → option_map (λ p. priced (after_soft s w c) p.values) kept ≡ Some plan
            → AllowedBy first.finder hards plan.values × (plan.cost ≡ charge K (softs ++ (w, c) ∷ []) plan.values)
        repriced_is w c None plan h e = grind arith
        repriced_is w c (Some old) plan h e =
            let i : ◌≡◌ {A = Plan K.V} (priced (after_soft s w c) old.values) plan = grind arith in
            subst (λ p. AllowedBy first.finder hards p.values × (p.cost ≡ charge K (softs ++ (w, c) ∷ []) p.values)) i ((h old refl).0, soft_price w c old.values)

    -- ---- the floor
    pub still_admitted : (a : List ℕ) → AllowedBy first.finder hards a → Assignment s.finder.n a × (s.finder.admits a ≡ true)
    still_admitted a h = (subst (λ n. Assignment n a) (sym d.accepted.same_n) h.0, grind (arith, d.accepted.admits a, h.1, h.2))

    pub model_is_allowed : (set : ℕ) (a : List ℕ) → Model s.finder set a → AllowedBy first.finder hards a
    model_is_allowed set a m = (subst (λ n. Assignment n a) d.accepted.same_n m.assigns, grind (arith, d.accepted.admits a, m.admitted), grind (arith, d.accepted.admits a, m.admitted))

    -- the soft clauses that an allowed assignment breaks are a cover, at its cost
    pub least_is_low : (cover : ℕ) → Least K s.maker cover → (a : List ℕ) → AllowedBy first.finder hards a → K.le (cost K s.maker.weights cover) (charge K softs a) ≡ true
    least_is_low cover least a h =
        let b = broken_set a s.finder.softs in
        let few : below (length s.maker.weights) b.0 ≡ true = grind (arith, nat_tests, below_members (length s.maker.weights) b.0, b.1, as_many) in
        let meets = list_all-from_AllPass (intersect b.0) s.maker.cores (λ k x l. meets_core s.finder a (still_admitted a h) b.0 b.1 _ (d.cores.conflict k x l)) in
        let pays = broken_charge K s.maker.weights s.finder.softs a b.0 as_many b.1 ∙ price_is a in
        subst (λ v. K.le (cost K s.maker.weights cover) v ≡ true) pays (least.least b.0 (grind (arith, few, meets)))

    pub higher_keeps : (cover : ℕ) → Least K s.maker cover → Sound first hards softs (at_floor s (higher K s.floor (cost K s.maker.weights cover)))
    higher_keeps cover least = record {
      accepted = d.accepted;
      floor_is_low = λ a h. higher_low laws s.floor (cost K s.maker.weights cover) (charge K softs a) (d.floor_is_low a h) (least_is_low cover least a h);
      kept_is_allowed = d.kept_is_allowed;
      void_keeps_none = d.void_keeps_none;
      void_only = d.void_only;
      cores = d.cores;
    }

    -- ---- answers
    pub model_keeps : s.void ≡ false → (set : ℕ) (a : List ℕ) → Model s.finder set a → (phase : Phase) → Sound first hards softs (after_model s a phase)
    model_keeps v set a m phase = record {
      accepted = d.accepted;
      floor_is_low = d.floor_is_low;
      kept_is_allowed =
          of_cheaper laws (λ plan. AllowedBy first.finder hards plan.values × (plan.cost ≡ charge K softs plan.values)) s.kept (priced s a)
          d.kept_is_allowed (model_is_allowed set a m, price_is a);
      void_keeps_none = λ t. grind (arith, v, t);
      void_only = d.void_only;
      cores = d.cores;
    }

    pub core_keeps : (core : ℕ) → Core s.finder core → proper (length s.maker.weights) core ≡ true → core_refused s.maker core ≡ None
        → Sound first hards softs (after_core s core)
    core_keeps core h p r = record {
      accepted = d.accepted;
      floor_is_low = d.floor_is_low;
      kept_is_allowed = d.kept_is_allowed;
      void_keeps_none = d.void_keeps_none;
      void_only = d.void_only;
      cores = record {
        conflict = kept_all (Core s.finder) s.maker.cores core d.cores.conflict h;
        proper = grind (arith, proper_kept core s.maker.cores (length s.maker.weights) d.cores.proper p);
        few = grind (arith, nat_tests, d.cores.few, length-append (staying core s.maker.cores) (core ∷ []));
      };
    }

    pub void_keeps : s.kept ≡ None → (core : ℕ) → Core s.finder core → Subset core 0 → Sound first hards softs (voided s)
    void_keeps n core h e = record {
      accepted = d.accepted;
      floor_is_low = d.floor_is_low;
      kept_is_allowed = d.kept_is_allowed;
      void_keeps_none = λ t. n;
      void_only = λ t a x. let y = still_admitted a x in h.conflict a (record { assigns = y.0; admitted = y.1; meets = λ k m. grind (arith, nat_tests, none_members 0, e k m) });
      cores = d.cores;
    }
