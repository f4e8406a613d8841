-- Which refusal a call to a finder gets, by tests of the finder's meaning and of what is handed in.
use Rattle.std.specs.Prelude.{ℕ, Bool, not, ◌||◌, List, [], ◌∷◌, length, take, ℤ, is_some, Option, ◌==◌, nat_lt}
use Rattle.terms.specs.Clauses.{binary, first_bad}
use Rattle.terms.specs.Masks.{below}
use Rattle.terms.specs.declared.limits.TheConstants.{MOST_LITERALS}
use Rattle.terms.specs.Earliest.{earliest}
use Rattle.terms.specs.declared.refusals.Part.TheVariants.{Finder}
use Rattle.terms.specs.declared.refusals.Refusal.{Refusal}
use Rattle.terms.specs.declared.refusals.Refusal.TheVariants.{TooManyVariables, ClauseTooLong, BadLiteral, NoSoftPlace, NoClausePlace, TooShort, BadByte, UnknownSoft}
use Rattle.finders.specs.Meanings.{FinderMeaning}

-- ---- making a finder that takes so many variables
abbrev pub too_many : ℕ → ℕ → Bool
too_many most n = nat_lt most n

abbrev pub variables_refused : ℕ → ℕ → Option Refusal
variables_refused most n = earliest ((too_many most n, TooManyVariables) ∷ [])

-- ---- adding a clause
abbrev pub too_long : List ℤ → Bool
too_long c = nat_lt MOST_LITERALS (length c)

abbrev pub has_bad : ℕ → List ℤ → Bool
has_bad n c = is_some (first_bad n c)

abbrev pub no_soft_place : FinderMeaning → Bool
no_soft_place m = m.free_softs == 0

abbrev pub no_place : FinderMeaning → List ℤ → Bool
no_place m c = m.free_clauses == 0 || nat_lt m.free_literals (length c)

-- what is tested of every clause
abbrev pub clause_tests : FinderMeaning → List ℤ → List (Bool × Refusal)
clause_tests m c = (too_long c, ClauseTooLong) ∷ (has_bad m.n c, BadLiteral) ∷ (no_place m c, NoClausePlace) ∷ []

abbrev pub hard_refused : FinderMeaning → List ℤ → Option Refusal
hard_refused m c = earliest (clause_tests m c)

abbrev pub soft_refused : FinderMeaning → List ℤ → Option Refusal
soft_refused m c = earliest ((no_soft_place m, NoSoftPlace Finder) ∷ clause_tests m c)

-- ---- questions
abbrev pub too_short : FinderMeaning → List ℕ → Bool
too_short m bytes = nat_lt (length bytes) m.n

abbrev pub ask_refused : FinderMeaning → ℕ → List ℕ → Option Refusal
ask_refused m set buffer = earliest ((too_short m buffer, TooShort) ∷ (not (below (length m.softs) set), UnknownSoft) ∷ [])

abbrev pub broken_refused : FinderMeaning → List ℕ → Option Refusal
broken_refused m a = earliest ((too_short m a, TooShort) ∷ (not (binary (take m.n a)), BadByte) ∷ [])
