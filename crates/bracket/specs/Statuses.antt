-- How a status is written.
use Rattle.std.specs.Prelude.{ℕ, List, codes}
use Rattle.bracket.specs.declared.states.Status.{Status}
use Rattle.bracket.specs.declared.states.Status.TheVariants.{Void, Unasked, Best, Open}

abbrev pub name_of : Status → List ℕ
name_of Void = codes "void"
name_of Unasked = codes "unasked"
name_of Best = codes "best"
name_of Open = codes "open"
