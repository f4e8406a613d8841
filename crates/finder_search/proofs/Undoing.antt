-- A loop that sweeps the trail.
use Rattle.std.proofs.Common.{◌≡◌, ℕ, ◌+◌, ◌<◌, List, ◌++◌, length, map, get_or, set, take, drop}
use Rattle.std.proofs.lemmas.List.Edits.{map_over_more}
use Rattle.finder_search.specs.Trail.{undone}
use Rattle.finder_search.specs.declared.trail.Slot.{Slot}

pub undone_more : (level : ℕ) (ss ts : List Slot) (i : ℕ) (s : Slot) → i < length ss → ts ≡ map (undone level) (take i ss) ++ drop i ss → s ≡ get_or ts i s
    → set ts i (undone level s) ≡ map (undone level) (take (i + 1) ss) ++ drop (i + 1) ss
undone_more level = map_over_more (undone level)
