-- Lower bounds of what sets cost.
use Rattle.std.specs.Prelude.{◌≡◌, ℕ, Bool, true}
use Rattle.weights.specs.Costs.{cost}
use Rattle.weights.specs.Kinds.{Kind}
use Rattle.makers.specs.Meanings.{MakerMeaning}
use Rattle.maker_branch.specs.Branches.{in_branch_with}
use Rattle.maker_branch.specs.declared.branches.Branch.{Branch}

module _ {W : Type 0} (K : Kind W) (m : MakerMeaning W) where
  -- none of these sets costs less than v
  abbrev pub NoneBelow : (ℕ → Bool) → K.V → Type 0
  NoneBelow these v = (set : ℕ) → these set ≡ true → K.le v (cost K m.weights set) ≡ true

  -- no cover of the branch that has number k costs less than the weight
  abbrev pub DearWith : Branch → ℕ → W → Type 0
  DearWith branch k w = NoneBelow (in_branch_with m branch k) (K.value w)
