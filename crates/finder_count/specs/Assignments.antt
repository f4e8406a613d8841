-- What it is to try assignments one after another.
use Rattle.std.specs.Prelude.{ℕ, zero, suc, ◌/◌, ◌%◌, List, [], ◌∷◌, Some, None, Option}
use Rattle.finders.specs.Meanings.{FinderMeaning}
use Rattle.finders.specs.Questions.{Model}

-- the binary digits of a number, lowest first
abbrev pub digits : ℕ → ℕ → List ℕ
digits zero j = []
digits (suc n) j = j % 2 ∷ digits n (j / 2)

-- the number of an assignment that is a model, or none where no assignment is
abbrev pub Found : FinderMeaning → ℕ → Option ℕ → Type 0
Found m set (Some j) = Model m set (digits m.n j)
Found m set None = (a : List ℕ) → Model m set a → ⊥
