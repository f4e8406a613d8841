-- When a cover is the best of a branch.
use Rattle.std.proofs.Common.{◌≡◌, ℕ, true, false, sym, ⊎_elim, subst, arith}
use Rattle.std.proofs.lemmas.Bool.{and_from, both_ways, cases_Bool}
use Rattle.terms.specs.Masks.{member, subset, intersect}
use Rattle.terms.proofs.MaskLaws.{none_members, subset_members}
use Rattle.weights.specs.Costs.{cost}
use Rattle.weights.specs.Kinds.{Kind, Laws}
use Rattle.weights.proofs.SumLaws.{le_self, cost_more}
use Rattle.makers.specs.Meanings.{MakerMeaning}
use Rattle.makers.specs.Covers.{is_cover, Least}
use Rattle.core_store.specs.BetterCovers.{NoDearer}
use Rattle.maker_branch.specs.Branches.{in_branch, Forced, NoneOf, With}
use Rattle.maker_branch.specs.Loads.{BearIn}
use Rattle.maker_branch.specs.LowerBounds.{NoneBelow}
use Rattle.maker_branch.specs.Narrowing.{Best, LeftOut}
use Rattle.maker_branch.specs.declared.branches.Branch.{Branch}
use Rattle.maker_branch.specs.declared.loads.Loads.{Loads}
use Rattle.maker_branch.proofs.BranchLaws.{in_parts, in_from}
use Rattle.maker_branch.proofs.SetLaws.{none_within, none_apart, within_with, apart_with}
use Rattle.maker_branch.proofs.LoadLaws.{bound_under}

module _ {W : Type 0} (K : Kind W) (laws : Laws K) (m : MakerMeaning W) where
  module _ (branch : Branch) (best : ℕ) where
    -- ---- the best in hand
    pub best_kept : is_cover m best ≡ true → NoneBelow K m (in_branch m branch) (cost K m.weights best) → Best K m branch best best
    best_kept c l = record { cover = c; than_best = le_self laws (cost K m.weights best); than_others = l }

    pub best_alone : is_cover m best ≡ true → NoneOf (in_branch m branch) → Best K m branch best best
    best_alone c none = best_kept c (λ set h. absurd (both_ways (in_branch m branch set) (none set) h))

    pub best_bound : (loads : Loads W) (best_cost : W) → is_cover m best ≡ true → BearIn K m branch loads → K.value best_cost ≡ cost K m.weights best
        → K.le (K.value best_cost) (K.value loads.total) ≡ true → Best K m branch best best
    best_bound loads best_cost c b e l =
        best_kept c (λ set h. subst (λ v. K.le v (cost K m.weights set) ≡ true) e
        (bound_under K laws m.weights loads.loads loads.total (in_branch m branch) set (K.value best_cost) b h l))

    -- ---- the chosen numbers
    pub best_chosen : (r : ℕ) → is_cover m best ≡ true → is_cover m branch.chosen ≡ true → NoDearer K m branch.chosen best r → Best K m branch best r
    best_chosen r c h n = record {
      cover = n.covers c;
      than_best = n.than_other;
      than_others = λ set i. laws.trans (cost K m.weights r) (cost K m.weights branch.chosen) (cost K m.weights set) (n.than_set h)
          (cost_more laws m.weights (member branch.chosen) (member set) 0 ((subset_members branch.chosen set).0 (in_parts m branch set i).1));
    }

    -- ---- what a narrower branch gives
    pub best_forced : (more : Branch) (r : ℕ) → Forced (in_branch m branch) branch more → Best K m more best r → Best K m branch best r
    best_forced more r f b = record {
      cover = b.cover;
      than_best = b.than_best;
      than_others = λ set h. let parts = in_parts m branch set h in
          b.than_others set (in_from m more set parts.0 (f.forced set h) (subst (λ x. intersect x set ≡ false) (sym f.out) parts.2));
    }

    pub best_wider : (narrower : Branch) (r : ℕ) (best_cost : W) → K.value best_cost ≡ cost K m.weights best → LeftOut K m branch (K.value best_cost) narrower
        → Best K m narrower best r → Best K m branch best r
    best_wider narrower r best_cost e o b = record {
      cover = b.cover;
      than_best = b.than_best;
      than_others = λ set h. let parts = in_parts m branch set h in ⊎_elim
          (λ meets. laws.trans (cost K m.weights r) (cost K m.weights best) (cost K m.weights set) b.than_best
          (subst (λ v. K.le v (cost K m.weights set) ≡ true) e (o.dear set (and_from (in_branch m branch set) (intersect narrower.out set) h meets))))
          (λ apart. b.than_others set (in_from m narrower set parts.0 (subst (λ x. subset x set ≡ true) (sym o.chosen) parts.1) apart))
          (cases_Bool (intersect narrower.out set));
    }

    pub best_both : (number : ℕ) (with without : Branch) (mid r : ℕ) → With branch.chosen number with.chosen → with.out ≡ branch.out → without.chosen ≡ branch.chosen → With branch.out number without.out
        → Best K m with best mid → Best K m without mid r → Best K m branch best r
    best_both number with without mid r e o c f a b = record {
      cover = b.cover;
      than_best = laws.trans (cost K m.weights r) (cost K m.weights mid) (cost K m.weights best) b.than_best a.than_best;
      than_others = λ set h. let parts = in_parts m branch set h in ⊎_elim
          (λ has. laws.trans (cost K m.weights r) (cost K m.weights mid) (cost K m.weights set) b.than_best
          (a.than_others set (in_from m with set parts.0 (within_with branch.chosen with.chosen number e set parts.1 has) (subst (λ x. intersect x set ≡ false) (sym o) parts.2))))
          (λ lacks. b.than_others set
          (in_from m without set parts.0 (subst (λ x. subset x set ≡ true) (sym c) parts.1) (apart_with branch.out without.out number f set parts.2 lacks)))
          (cases_Bool (member set number));
    }

  -- where nothing is chosen and nothing left out, every cover is in the branch
  pub best_of_all : (branch : Branch) (best r : ℕ) → branch.chosen ≡ 0 → branch.out ≡ 0 → Best K m branch best r → Least K m r
  best_of_all branch best r c o b = record {
    cover = b.cover;
    least = λ set h. b.than_others set (in_from m branch set h (none_within branch.chosen set (none c)) (none_apart branch.out set (none o)));
  }
    where
      none : {x : ℕ} → x ≡ 0 → NoneOf (member x)
      none e = grind (arith, e, none_members 0)
