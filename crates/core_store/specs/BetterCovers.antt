-- Covers that are smaller by a number, and the cheaper one of two sets.
use Rattle.std.specs.Prelude.{◌≡◌, ℕ, Bool, true, not, ◌&&◌, if◌then◌else◌}
use Rattle.terms.specs.Masks.{member, subset, Without}
use Rattle.weights.specs.Costs.{cost}
use Rattle.weights.specs.Kinds.{Kind}
use Rattle.makers.specs.Meanings.{MakerMeaning}
use Rattle.makers.specs.Covers.{is_cover, Needed}

-- a cover within another one, which needs number k if it has it
pub record Smaller {W : Type 0} (m : MakerMeaning W) (whole k smaller : ℕ) : Type 0 where
  pub covers : is_cover m smaller ≡ true
  pub within : subset smaller whole ≡ true
  pub needed : member smaller k ≡ true → Needed m smaller k

-- the rest without the number, where it is a cover, and the whole cover if not
abbrev pub Spared : {W : Type 0} → MakerMeaning W → ℕ → ℕ → ℕ → Type 0
Spared m cover k r = (rest : ℕ) → Without cover k rest → r ≡ (if is_cover m rest then rest else cover)

abbrev pub costs_less : {W : Type 0} → Kind W → MakerMeaning W → ℕ → ℕ → Bool
costs_less K m set other = not (K.le (cost K m.weights other) (cost K m.weights set))

-- the set, where it is a cover and costs less than the other, and the other if not
abbrev pub cheaper_of : {W : Type 0} → Kind W → MakerMeaning W → ℕ → ℕ → ℕ
cheaper_of K m set other = if is_cover m set && costs_less K m set other then set else other

-- r is a cover if the other is. It costs no more than that, nor than the set if this is a cover. It is the other, unless the
-- set costs less.
pub record NoDearer {W : Type 0} (K : Kind W) (m : MakerMeaning W) (set other r : ℕ) : Type 0 where
  pub covers : is_cover m other ≡ true → is_cover m r ≡ true
  pub than_other : K.le (cost K m.weights r) (cost K m.weights other) ≡ true
  pub stays : K.le (cost K m.weights other) (cost K m.weights set) ≡ true → r ≡ other
  pub than_set : is_cover m set ≡ true → K.le (cost K m.weights r) (cost K m.weights set) ≡ true
