-- Putting an amount on all numbers of a set, one after another.
use Rattle.std.proofs.Common.{◌≡◌, ℕ, Bool, true, false, cond, ◌&&◌, ◌||◌, List, [], ◌∷◌, sym, ap, ◌∙◌, subst, arith, eqb-true}
use Rattle.std.specs.Prelude.{◌==◌}
use Rattle.std.specs.List.{list_any}
use Rattle.terms.specs.Masks.{member, intersect}
use Rattle.terms.proofs.MaskLaws.{intersect_members}
use Rattle.std.proofs.lemmas.Bool.Decides.{nat_tests}
use Rattle.weights.specs.Costs.{cost}
use Rattle.weights.specs.Kinds.{Kind, Laws}
use Rattle.maker_branch.specs.Loads.{AllMeet, AllWithin, Bears, Borne}
use Rattle.weights.proofs.SumLaws.{le_self, more_both}

-- a set that meets another has one of the other's members
listed : (ks : List ℕ) (p : ℕ → Bool) (k : ℕ) → list_any (λ j. j == k) ks ≡ true → p k ≡ true → list_any p ks ≡ true
listed [] p k h t = grind arith
listed (j ∷ ks) p k h t = grind (arith, nat_tests, listed ks p k, eqb-true j k)

any_member : (set other : ℕ) (ks : List ℕ) → ((k : ℕ) → member set k ≡ list_any (λ j. j == k) ks) → intersect set other ≡ true → list_any (member other) ks ≡ true
any_member set other ks e h = let common = (intersect_members set other).0 h in listed ks (member other) common.0 (sym (e common.0) ∙ common.1) common.2

module _ {W : Type 0} (K : Kind W) (weights : List W) (these : ℕ → Bool) (amount : W) where
  -- the amount is owed by those covers that have one of the numbers to come
  pub record Owing (total : W) (rest : List ℕ) (loads : List W) : Type 0 where
    pub within : AllWithin K loads weights
    pub owed : (set : ℕ) → these set ≡ true → K.le (cond (list_any (member set) rest) (K.value total) (K.plus (K.value total) (K.value amount))) (cost K loads set) ≡ true

  pub raising : (total : W) (set : ℕ) (ks : List ℕ) (loads : List W) → ((k : ℕ) → member set k ≡ list_any (λ j. j == k) ks) → AllMeet set these
      → Bears K weights these loads total → Owing total ks loads
  raising total set ks loads e meet b = record {
    within = b.within;
    owed = λ other t. subst (λ owes. K.le (cond owes (K.value total) (K.plus (K.value total) (K.value amount))) (cost K loads other) ≡ true) (sym (any_member set other ks e (meet other t))) (b.enough other t);
  }

module _ {W : Type 0} (K : Kind W) (laws : Laws K) (weights : List W) (these : ℕ → Bool) (amount : W) where
  -- the total is no more than it is with the amount
  less : (x : K.V) → K.le x (K.plus x (K.value amount)) ≡ true
  less x = subst (λ y. K.le y (K.plus x (K.value amount)) ≡ true) (laws.comm x K.zero ∙ laws.unit x) (more_both laws x x K.zero (K.value amount) (le_self laws x) (laws.least (K.value amount)))

  either : (owes : Bool) (x y : K.V) → K.le (cond owes x (K.plus x (K.value amount))) y ≡ true → K.le x y ≡ true
  either true x y h = h
  either false x y h = laws.trans x (K.plus x (K.value amount)) y (less x) h

  step : (has owes : Bool) (x y z : K.V) → z ≡ cond has (K.plus y (K.value amount)) y → K.le (cond (has || owes) x (K.plus x (K.value amount))) y ≡ true → K.le (cond owes x (K.plus x (K.value amount))) z ≡ true
  step false owes x y z e h = subst (λ v. K.le (cond owes x (K.plus x (K.value amount))) v ≡ true) (sym e) h
  step true owes x y z e h =
      subst (λ v. K.le (cond owes x (K.plus x (K.value amount))) v ≡ true) (sym e)
      (laws.trans (cond owes x (K.plus x (K.value amount))) (K.plus x (K.value amount)) (K.plus y (K.value amount)) (most owes) (laws.mono x y (K.value amount) h))
    where
      most : (b : Bool) → K.le (cond b x (K.plus x (K.value amount))) (K.plus x (K.value amount)) ≡ true
      most true = less x
      most false = le_self laws (K.plus x (K.value amount))

  module _ (total : W) (loads new : List W) where
    pub raised_one : (r : Bool) (number : ℕ) (items rest : List ℕ) → items ≡ number ∷ rest → r ≡ true → Borne K weights number amount r loads new
        → Owing K weights these amount total items loads → Owing K weights these amount total rest new
    raised_one r number items rest i s b o = record {
      within = b.within o.within;
      owed = λ set t. step (member set number) (list_any (member set) rest) (K.value total) (cost K loads set) (cost K new set)
          (subst (λ r. cost K new set ≡ cond (r && member set number) (K.plus (cost K loads set) (K.value amount)) (cost K loads set)) s (b.costs set))
          (subst (λ ks. K.le (cond (list_any (member set) ks) (K.value total) (K.plus (K.value total) (K.value amount))) (cost K loads set) ≡ true) i (o.owed set t));
    }

    -- where it stops early, the total stays
    pub raised_none : (r : Bool) (number : ℕ) (items : List ℕ) → r ≡ false → Borne K weights number amount r loads new
        → Owing K weights these amount total items loads → Bears K weights these new total
    raised_none r number items s b o = record {
      within = b.within o.within;
      enough = λ set t. subst (λ v. K.le (K.value total) v ≡ true)
          (sym (subst (λ r. cost K new set ≡ cond (r && member set number) (K.plus (cost K loads set) (K.value amount)) (cost K loads set)) s (b.costs set)))
          (either (list_any (member set) items) (K.value total) (cost K loads set) (o.owed set t));
    }

    pub raised_all : (sum now : W) (items : List ℕ) → items ≡ [] → now ≡ total → K.value sum ≡ K.plus (K.value now) (K.value amount) → Owing K weights these amount total items loads → Bears K weights these loads sum
    raised_all sum now items i same e o = record {
      within = o.within;
      enough = λ set t. subst (λ v. K.le v (cost K loads set) ≡ true) (sym (e ∙ ap (λ t. K.plus (K.value t) (K.value amount)) same))
          (subst (λ ks. K.le (cond (list_any (member set) ks) (K.value total) (K.plus (K.value total) (K.value amount))) (cost K loads set) ≡ true) i (o.owed set t));
    }

    pub not_raised : (items : List ℕ) → Owing K weights these amount total items loads → Bears K weights these loads total
    not_raised items o = record {
      within = o.within;
      enough = λ set t. either (list_any (member set) items) (K.value total) (cost K loads set) (o.owed set t);
    }
