-- Which numbers have a score, and which has the highest one.
use Rattle.std.specs.Prelude.{◌≡◌, ℕ, ◌≤◌, Bool, true, not, ◌&&◌, List, slice_index_or}
use Rattle.std.specs.List.{list_any}
use Rattle.terms.specs.Masks.{member, intersect}
use Rattle.makers.specs.Meanings.{MakerMeaning}
use Rattle.maker_branch.specs.declared.branches.Branch.{Branch}

-- the core has number k, and is open: no chosen number is in it
abbrev pub open_with : ℕ → ℕ → ℕ → Bool
open_with chosen k core = not (intersect core chosen) && member core k

-- an open core has number k, and it was not left out
abbrev pub is_left : {W : Type 0} → MakerMeaning W → Branch → ℕ → Bool
is_left m branch k = list_any (open_with branch.chosen k) m.cores && not (member branch.out k)

-- no member of the set has a higher score
abbrev pub Highest : List ℕ → ℕ → ℕ → Type 0
Highest scores set k = (j : ℕ) → member set j ≡ true → slice_index_or scores j 0 ≤ slice_index_or scores k 0
