use Rattle.std.proofs.Common.{◌≡◌, ℕ, take, ◌==◌, ◌&&◌}
use Rattle.std.specs.List.{list_any}
use Rattle.terms.specs.Masks.{member}
use Rattle.terms.specs.Sets.{fits}
use Rattle.terms.proofs.soft_sets.SoftSet.of.Given as goal

-- the set of the numbers so far
abbrev pub invariant-loop-number : goal.invariant-loop-number
invariant-loop-number l = (k : ℕ) → member l.set k ≡ (list_any (λ number. number == k) (take l.number-index l.numbers) && fits k)
