-- Which numbers a set of soft numbers can have, and the list of those that it has.
use Rattle.std.specs.Prelude.{ℕ, Bool, List, nat_lt}
use Rattle.std.specs.List.{filter, range_with_len}
use Rattle.terms.specs.Masks.{member}
use Rattle.terms.specs.declared.limits.TheConstants.{SOFT_PLACES}

-- those that a soft clause can have
abbrev pub fits : ℕ → Bool
fits k = nat_lt k SOFT_PLACES

-- the members, lowest first
unfoldable pub members_of : ℕ → List ℕ
members_of m = filter (member m) (range_with_len 0 SOFT_PLACES)
