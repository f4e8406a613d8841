-- A clause is read literal by literal.
use Rattle.std.proofs.Common.{List, ◌++◌, ℤ, Ok, Err, Result}
use Rattle.texts.specs.declared.faults.LineFault.{LineFault}

-- literals before those that are still to be read
abbrev pub after : List ℤ → Result (List ℤ) LineFault → Result (List ℤ) LineFault
after ls (Ok rest) = Ok (ls ++ rest)
after ls (Err fault) = Err fault
