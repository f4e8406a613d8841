-- Which refusal a call to a cover maker gets, by tests of the maker's meaning and of what is handed in.
use Rattle.std.specs.Prelude.{ℕ, Bool, not, ◌&&◌, [], ◌∷◌, ◌++◌, length, Option, ◌==◌, nat_le}
use Rattle.terms.specs.Masks.{below}
use Rattle.terms.specs.declared.limits.TheConstants.{CORE_PLACES}
use Rattle.terms.specs.Earliest.{earliest}
use Rattle.terms.specs.declared.refusals.Part.TheVariants.{CoverMaker}
use Rattle.terms.specs.declared.refusals.Refusal.{Refusal}
use Rattle.terms.specs.declared.refusals.Refusal.TheVariants.{ZeroWeight, NoSoftPlace, TotalNotHeld, UnknownSoft, EmptyCore, NoCorePlace}
use Rattle.weights.specs.Costs.{total}
use Rattle.weights.specs.Kinds.{Kind}
use Rattle.makers.specs.Meanings.{MakerMeaning, has_part, staying}

-- ---- adding a weight
module _ {W : Type 0} (K : Kind W) where
  -- zero is the least, so what is at most zero is zero
  abbrev pub weighs_nothing : W → Bool
  weighs_nothing w = K.le (K.value w) K.zero

  abbrev pub not_held : MakerMeaning W → W → Bool
  not_held m w = not (K.holds (total K (m.weights ++ w ∷ [])))

  abbrev pub weight_refused : MakerMeaning W → W → Option Refusal
  weight_refused m w =
      earliest ((weighs_nothing w, ZeroWeight) ∷ (m.free_softs == 0, NoSoftPlace CoverMaker) ∷ (not_held m w, TotalNotHeld) ∷ [])

-- ---- sets
module _ {W : Type 0} (m : MakerMeaning W) where
  abbrev pub not_given : ℕ → Bool
  not_given set = not (below (length m.weights) set)

  -- the core takes a place, and as many others stay as there are places
  abbrev pub no_core_place : ℕ → Bool
  no_core_place core = not (has_part m.cores core) && nat_le CORE_PLACES (length (staying core m.cores))

  abbrev pub core_refused : ℕ → Option Refusal
  core_refused core = earliest ((not_given core, UnknownSoft) ∷ (core == 0, EmptyCore) ∷ (no_core_place core, NoCorePlace) ∷ [])

  abbrev pub cost_refused : ℕ → Option Refusal
  cost_refused set = earliest ((not_given set, UnknownSoft) ∷ [])
