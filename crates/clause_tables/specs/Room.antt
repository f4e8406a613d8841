-- What a finder has room for.
use Rattle.std.specs.Prelude.{ℕ, if◌then◌else◌}
use Rattle.terms.specs.declared.limits.TheConstants.{SOFT_PLACES, TABLE_PLACES}
use Rattle.finders.specs.Refused.{too_many}
use Rattle.clause_tables.specs.declared.room.Room.{Room}

-- for n variables, where the finder takes so many at most; no room at all with more
abbrev pub room : ℕ → ℕ → Room
room most n =
    if too_many most n then record { variables = 0; softs = 0; places = 0 }
    else record { variables = n; softs = SOFT_PLACES; places = TABLE_PLACES }
