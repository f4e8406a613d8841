-- Covers of the kept cores, and those of least cost.
use Rattle.std.specs.Prelude.{◌≡◌, ℕ, Bool, true, ◌&&◌, length}
use Rattle.std.specs.List.{list_all}
use Rattle.terms.specs.Masks.{member, subset, intersect, below}
use Rattle.weights.specs.Costs.{cost}
use Rattle.weights.specs.Kinds.{Kind}
use Rattle.makers.specs.Meanings.{MakerMeaning}

-- a set of given numbers that has a member in common with each kept core
abbrev pub is_cover : {W : Type 0} → MakerMeaning W → ℕ → Bool
is_cover m set = below (length m.weights) set && list_all (intersect set) m.cores

-- the weight is what the members of the set weigh together
abbrev pub Costs : {W : Type 0} → Kind W → MakerMeaning W → ℕ → W → Type 0
Costs K m set w = K.value w ≡ cost K m.weights set

-- each cover that is part of the set has the number k
abbrev pub Needed : {W : Type 0} → MakerMeaning W → ℕ → ℕ → Type 0
Needed m set k = (other : ℕ) → is_cover m other ≡ true → subset other set ≡ true → member other k ≡ true

-- no member can be spared
abbrev pub Minimal : {W : Type 0} → MakerMeaning W → ℕ → Type 0
Minimal m set = (k : ℕ) → member set k ≡ true → Needed m set k

-- a cover that every other one costs at least as much as
pub record Least {W : Type 0} (K : Kind W) (m : MakerMeaning W) (set : ℕ) : Type 0 where
  pub cover : is_cover m set ≡ true
  pub least : (other : ℕ) → is_cover m other ≡ true → K.le (cost K m.weights set) (cost K m.weights other) ≡ true

-- a set covers the cores after exactly when it covered those before and has a member in common with the new one
abbrev pub AlsoMeets : {W : Type 0} → MakerMeaning W → ℕ → MakerMeaning W → Type 0
AlsoMeets before core after = (set : ℕ) → is_cover after set ≡ (is_cover before set && intersect set core)
