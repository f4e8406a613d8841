-- What comes of a branch.
use Rattle.std.specs.Prelude.{◌≡◌, ℕ, true}
use Rattle.terms.specs.Masks.{subset}
use Rattle.weights.specs.Costs.{cost}
use Rattle.weights.specs.Kinds.{Kind}
use Rattle.makers.specs.Meanings.{MakerMeaning}
use Rattle.makers.specs.Covers.{is_cover}
use Rattle.maker_branch.specs.Branches.{in_branch, in_branch_meeting}
use Rattle.maker_branch.specs.LowerBounds.{NoneBelow}
use Rattle.maker_branch.specs.declared.branches.Branch.{Branch}

module _ {W : Type 0} (K : Kind W) (m : MakerMeaning W) where
  -- r is a cover that costs no more than the best in hand, and no more than any of the branch
  pub record Best (branch : Branch) (best r : ℕ) : Type 0 where
    pub cover : is_cover m r ≡ true
    pub than_best : K.le (cost K m.weights r) (cost K m.weights best) ≡ true
    pub than_others : NoneBelow K m (in_branch m branch) (cost K m.weights r)

  -- more numbers are left out, and no cover of the branch that has one of them costs less than v
  pub record LeftOut (branch : Branch) (v : K.V) (narrower : Branch) : Type 0 where
    pub chosen : narrower.chosen ≡ branch.chosen
    pub out : subset branch.out narrower.out ≡ true
    pub dear : NoneBelow K m (in_branch_meeting m branch narrower.out) v
