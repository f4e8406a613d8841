-- Loads on the soft numbers, and what they say of sets.
use Rattle.std.specs.Prelude.{◌≡◌, ℕ, zero, suc, ◌<◌, Bool, true, ◌&&◌, if◌then◌else◌, List, [], ◌∷◌, length}
use Rattle.terms.specs.Masks.{member, intersect}
use Rattle.weights.specs.Costs.{cost}
use Rattle.weights.specs.Kinds.{Kind}
use Rattle.makers.specs.Meanings.{MakerMeaning}
use Rattle.maker_branch.specs.Branches.{in_branch}
use Rattle.maker_branch.specs.declared.branches.Branch.{Branch}
use Rattle.maker_branch.specs.declared.loads.Loads.{Loads}

-- ---- sets with something in common: a number, or that they meet the same set
abbrev pub AllHave : ℕ → (ℕ → Bool) → Type 0
AllHave k these = (set : ℕ) → these set ≡ true → member set k ≡ true

abbrev pub AllMeet : ℕ → (ℕ → Bool) → Type 0
AllMeet x these = (set : ℕ) → these set ≡ true → intersect x set ≡ true

module _ {W : Type 0} (K : Kind W) where
  -- the value at index k, and zero past the end
  abbrev pub value_at : List W → ℕ → K.V
  value_at [] k = K.zero
  value_at (w ∷ ws) zero = K.value w
  value_at (w ∷ ws) (suc k) = value_at ws k

  -- no load is more than the weight
  abbrev pub AllWithin : List W → List W → Type 0
  AllWithin loads weights = (k : ℕ) → K.le (value_at loads k) (value_at weights k) ≡ true

  -- this is the load of number k with the amount more, and its weight allows that
  pub record Raised (weights loads : List W) (k : ℕ) (amount load : W) : Type 0 where
    pub fits : k < length loads
    pub sum : K.value load ≡ K.plus (value_at loads k) (K.value amount)
    pub within : K.le (K.value load) (value_at weights k) ≡ true

  -- number k bears the amount more, or does not
  pub record Borne (weights : List W) (k : ℕ) (amount : W) (does : Bool) (before after : List W) : Type 0 where
    pub within : AllWithin before weights → AllWithin after weights
    pub costs : (set : ℕ) → cost K after set ≡
        (if does && member set k then K.plus (cost K before set) (K.value amount) else cost K before set)

  -- no load is more than the weight, and the loads of each of these sets come to the total at least
  pub record Bears (weights : List W) (these : ℕ → Bool) (loads : List W) (total : W) : Type 0 where
    pub within : AllWithin loads weights
    pub enough : (set : ℕ) → these set ≡ true → K.le (K.value total) (cost K loads set) ≡ true

  abbrev pub BearFor : List W → (ℕ → Bool) → Loads W → Type 0
  BearFor weights these x = Bears weights these x.loads x.total

  -- so for the covers of the branch
  abbrev pub BearIn : MakerMeaning W → Branch → Loads W → Type 0
  BearIn m branch x = BearFor m.weights (in_branch m branch) x

  -- if so before, then after
  abbrev pub KeepBearing : MakerMeaning W → Branch → Loads W → Loads W → Type 0
  KeepBearing m branch before after = BearIn m branch before → BearIn m branch after

  -- the same of all such sets, whichever branch they are in
  abbrev pub StillBear : List W → ((ℕ → Bool) → Type 0) → Loads W → Loads W → Type 0
  StillBear weights Such before after =
      (these : ℕ → Bool) → BearFor weights these before → Such these → BearFor weights these after
