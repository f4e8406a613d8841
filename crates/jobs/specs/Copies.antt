-- Copying the kept assignment out.
use Rattle.std.specs.Prelude.{ℕ, not, List, [], ◌∷◌, ◌++◌, length, drop, Some, None, Option, is_some, nat_lt}
use Rattle.terms.specs.Earliest.{earliest}
use Rattle.terms.specs.declared.refusals.Refusal.{Refusal}
use Rattle.terms.specs.declared.refusals.Refusal.TheVariants.{TooShort, NothingKept}
use Rattle.weights.specs.Kinds.{Kind}
use Rattle.bracket.specs.States.{Plan, State}

abbrev pub copy_refused : {W : Type 0} {K : Kind W} → State K → List ℕ → Option Refusal
copy_refused s buffer = earliest ((nat_lt (length buffer) s.finder.n, TooShort) ∷ (not (is_some s.kept), NothingKept) ∷ [])

-- a buffer with the kept values in front
abbrev pub copied_over : {V : Type 0} → Option (Plan V) → List ℕ → List ℕ
copied_over None buffer = buffer
copied_over (Some p) buffer = p.values ++ drop (length p.values) buffer
