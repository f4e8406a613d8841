-- What a finder answers when it is asked.
use Rattle.std.specs.Prelude.{◌≡◌, ℕ, true, false, List, length, take, drop, Ok, Err, Result}
use Rattle.terms.specs.Clauses.{Assignment, breaks}
use Rattle.terms.specs.Masks.{member, Subset, Below}
use Rattle.terms.specs.declared.refusals.Refusal.{Refusal}
use Rattle.terms.specs.declared.soft_sets.SoftSet.{SoftSet}
use Rattle.finders.specs.Meanings.{FinderMeaning}
use Rattle.finders.specs.declared.finder.Answer.{Answer}
use Rattle.finders.specs.declared.finder.Answer.TheVariants.{Model as Found, Core as Conflict}

-- an admitted assignment that breaks no soft clause of the set
pub record Model (m : FinderMeaning) (set : ℕ) (a : List ℕ) : Type 0 where
  pub assigns : Assignment m.n a
  pub admitted : m.admits a ≡ true
  pub meets : (k : ℕ) → member set k ≡ true → breaks a m.softs k ≡ false

-- given soft numbers of which every admitted assignment breaks at least one
pub record Core (m : FinderMeaning) (core : ℕ) : Type 0 where
  pub given : Below (length m.softs) core
  pub conflict : (a : List ℕ) → Model m core a → ⊥

-- a model stands in the first n bytes and the others are as before; at a core, or where the call is refused, all of them are
abbrev pub Asked : FinderMeaning → ℕ → List ℕ → Result (Answer SoftSet) Refusal → List ℕ → Type 0
Asked m set before (Ok Found) after = Model m set (take m.n after) × (drop m.n after ≡ drop m.n before)
Asked m set before (Ok (Conflict core)) after = Core m core × Subset core set × (after ≡ before)
Asked m set before (Err r) after = after ≡ before

-- exactly the soft clauses that the assignment in the first n bytes breaks
abbrev pub ToldBroken : FinderMeaning → List ℕ → Result SoftSet Refusal → Type 0
ToldBroken m a (Ok set) = (k : ℕ) → member set k ≡ breaks (take m.n a) m.softs k
ToldBroken m a (Err r) = Unit {0}
