-- Cores with no member to spare.
use Rattle.std.specs.Prelude.{◌≡◌, ℕ, true, List, Some, None, Ok, Err, Option, Result}
use Rattle.terms.specs.Masks.{member, Subset, Without}
use Rattle.terms.specs.declared.refusals.Refusal.{Refusal}
use Rattle.terms.specs.declared.soft_sets.SoftSet.{SoftSet}
use Rattle.finders.specs.Meanings.{FinderMeaning}
use Rattle.finders.specs.Questions.{Model, Core}
use Rattle.finders.specs.declared.finder.Answer.{Answer}
use Rattle.finders.specs.declared.finder.Answer.TheVariants.{Model as Found, Core as Conflict}

abbrev pub HasModel : FinderMeaning → ℕ → Type 0
HasModel m set = (a : List ℕ) × Model m set a

-- without number k the set has a model
abbrev pub Needed : FinderMeaning → ℕ → ℕ → Type 0
Needed m set k = (rest : ℕ) → Without set k rest → HasModel m rest

-- with any one of its members left out the set has a model
abbrev pub Minimal : FinderMeaning → ℕ → Type 0
Minimal m set = (k : ℕ) → member set k ≡ true → Needed m set k

-- an answer's core is minimal
abbrev pub Shrunk : FinderMeaning → Result (Answer SoftSet) Refusal → Type 0
Shrunk m (Ok Found) = Unit {0}
Shrunk m (Ok (Conflict core)) = Minimal m core
Shrunk m (Err r) = Unit {0}

-- a core within another, in which number k is needed if it is there
pub record Smaller (m : FinderMeaning) (whole k smaller : ℕ) : Type 0 where
  pub core : Core m smaller
  pub within : Subset smaller whole
  pub needed : member smaller k ≡ true → Needed m smaller k

-- a core within the set, or none where the set has a model
abbrev pub Cored : FinderMeaning → ℕ → Option SoftSet → Type 0
Cored m set (Some core) = Core m core × Subset core set
Cored m set None = HasModel m set
