-- The branches of a search for a least cover, and which sets are in one.
use Rattle.std.specs.Prelude.{◌≡◌, ℕ, Bool, true, false, not, ◌&&◌, ◌||◌, ◌==◌}
use Rattle.terms.specs.Masks.{member, subset, intersect}
use Rattle.terms.specs.Sets.{fits}
use Rattle.makers.specs.Meanings.{MakerMeaning}
use Rattle.makers.specs.Covers.{is_cover}
use Rattle.maker_branch.specs.declared.branches.Branch.{Branch}

-- every chosen number is in the set, and none that was left out
abbrev pub has_settled : Branch → ℕ → Bool
has_settled branch set = subset branch.chosen set && not (intersect branch.out set)

-- the covers of the branch
abbrev pub in_branch : {W : Type 0} → MakerMeaning W → Branch → ℕ → Bool
in_branch m branch set = is_cover m set && has_settled branch set

-- those covers that have number k
abbrev pub in_branch_with : {W : Type 0} → MakerMeaning W → Branch → ℕ → ℕ → Bool
in_branch_with m branch k set = in_branch m branch set && member set k

-- those covers that have a member of x
abbrev pub in_branch_meeting : {W : Type 0} → MakerMeaning W → Branch → ℕ → ℕ → Bool
in_branch_meeting m branch x set = in_branch m branch set && intersect x set

-- the sets that meet the core and in which all is settled so, be they covers or not
abbrev pub meets_in : Branch → ℕ → ℕ → Bool
meets_in branch core set = intersect set core && has_settled branch set

-- there is no such set or number
abbrev pub NoneOf : (ℕ → Bool) → Type 0
NoneOf these = (x : ℕ) → these x ≡ false

-- the set with number k as well, if a set can have it
abbrev pub With : ℕ → ℕ → ℕ → Type 0
With set k more = (j : ℕ) → member more j ≡ (member set j || (k == j && fits j))

-- more numbers are chosen, all of which each of these sets has
pub record Forced (these : ℕ → Bool) (branch more : Branch) : Type 0 where
  pub out : more.out ≡ branch.out
  pub chosen : subset branch.chosen more.chosen ≡ true
  pub forced : (set : ℕ) → these set ≡ true → subset more.chosen set ≡ true
