-- Literals by their variables and signs: variable v has index v - 1.
use Rattle.std.specs.Prelude.{ℕ, zero, suc, ◌+◌, ◌-◌, ◌*◌, Bool, true, false, not, if◌then◌else◌, ℤ, pos, negsuc}
use Rattle.terms.specs.Clauses.{variable}

abbrev pub index : ℤ → ℕ
index l = variable l - 1

-- the literal is a variable's own, and not its opposite
abbrev pub positive : ℤ → Bool
positive (pos v) = true
positive (negsuc k) = false

-- the literal of the same variable with the other sign
abbrev pub negated : ℤ → ℤ
negated (pos zero) = pos zero
negated (pos (suc k)) = negsuc k
negated (negsuc k) = pos (suc k)

-- a variable's two literals have neighbouring rows, the positive one first
abbrev pub row : ℤ → ℕ
row l = 2 * index l + (if positive l then 0 else 1)

-- the value that the literal has where its variable has this one
abbrev pub same : Bool → Bool → Bool
same true b = b
same false b = not b
