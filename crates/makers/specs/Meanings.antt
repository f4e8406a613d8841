-- What a cover maker means, and how a weight and a core change that.
use Rattle.std.specs.Prelude.{ℕ, ◌+◌, ◌-◌, ◌≤◌, Bool, true, not, ◌&&◌, if◌then◌else◌, IsTrue, List, [], ◌∷◌, ◌++◌, length, ◌==◌}
use Rattle.std.specs.List.{filter, list_all, list_any}
use Rattle.terms.specs.Masks.{subset, below}
use Rattle.terms.specs.declared.limits.TheConstants.{CORE_PLACES, SOFT_PLACES}
use Rattle.weights.specs.Costs.{total}
use Rattle.weights.specs.Kinds.{Kind}

pub record MakerMeaning (W : Type 0) : Type 0 where
  -- the weights: number k is the one at place k
  pub weights : List W
  -- the kept cores, each by its mask
  pub cores : List ℕ
  pub free_softs : ℕ

-- no weight and no core yet
abbrev pub fresh : {W : Type 0} → ℕ → MakerMeaning W
fresh places = record { weights = []; cores = []; free_softs = places }

-- the weight comes last
abbrev pub with_weight : {W : Type 0} → MakerMeaning W → W → MakerMeaning W
with_weight m w = record m { weights = m.weights ++ w ∷ []; free_softs = m.free_softs - 1 }

-- ---- the cores that are kept
-- a kept core is part of the new one, or is equal to it
abbrev pub has_part : List ℕ → ℕ → Bool
has_part cores core = list_any (λ kept. subset kept core) cores

-- the kept cores that stay when the new one comes, as they do not contain it
abbrev pub staying : ℕ → List ℕ → List ℕ
staying core cores = filter (λ kept. not (subset core kept)) cores

-- the kept cores once the new one has come
abbrev pub cores_with : List ℕ → ℕ → List ℕ
cores_with cores core = if has_part cores core then cores else staying core cores ++ core ∷ []

abbrev pub with_core : {W : Type 0} → MakerMeaning W → ℕ → MakerMeaning W
with_core m core = record m { cores = cores_with m.cores core }

-- ---- what holds of every cover maker
-- a core has a member, and only given numbers
abbrev pub proper : ℕ → ℕ → Bool
proper softs core = not (core == 0) && below softs core

-- neither is part of the other
abbrev pub apart : ℕ → ℕ → Bool
apart x y = not (subset x y) && not (subset y x)

-- no core is part of another
abbrev pub all_apart : List ℕ → Bool
all_apart [] = true
all_apart (x ∷ xs) = list_all (apart x) xs && all_apart xs

-- the soft places, taken and free, are no more than a set has numbers for; the total can be held; the cores are not too many,
-- each has a member and only given numbers, and none is part of another
abbrev pub Limited : {W : Type 0} → Kind W → MakerMeaning W → Type 0
Limited K m =
    (length m.weights + m.free_softs ≤ SOFT_PLACES)
    × IsTrue (K.holds (total K m.weights))
    × (length m.cores ≤ CORE_PLACES)
    × IsTrue (list_all (proper (length m.weights)) m.cores)
    × IsTrue (all_apart m.cores)
