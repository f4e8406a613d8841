-- What a core store keeps, and what is always so of that; the total of its weights with one more.
use Rattle.std.specs.Prelude.{◌≡◌, ◌-◌, ◌≤◌}
use Rattle.std.specs.Vec.{vec_len, vec_capacity}
use Rattle.terms.specs.declared.limits.TheConstants.{CORE_PLACES}
use Rattle.weights.specs.Costs.{total}
use Rattle.weights.specs.Kinds.{Kind}
use Rattle.makers.specs.Meanings.{MakerMeaning, Limited, with_weight}
use Rattle.core_store.specs.declared.store.Store.TheInside.{Inside}

abbrev pub meaning_of : {W : Type 0} → Inside W → MakerMeaning W
meaning_of s = record { weights = s.weights.items; cores = s.cores.items; free_softs = s.places - vec_len s.weights }

pub record IsValid {W : Type 0} (K : Kind W) (s : Inside W) : Type 0 where
  pub limited : Limited K (meaning_of s)
  -- the running total is that of all weights
  pub summed : K.value s.total ≡ total K s.weights.items
  -- there is room for all weights and cores that can come
  pub fitting : vec_len s.weights ≤ s.places
  pub weight_room : s.places ≤ vec_capacity s.weights
  pub core_room : CORE_PLACES ≤ vec_capacity s.cores

-- the total of all weights once this one has come
abbrev pub total_with : {W : Type 0} (K : Kind W) → MakerMeaning W → W → K.V
total_with K m w = total K (with_weight m w).weights
