-- What holds of the fault at which the playing of a line stopped.
use Rattle.sessions.specs.declared.faults.SessionFault.{SessionFault}
use Rattle.sessions.specs.declared.faults.SessionFault.TheVariants.{Memory, Line}
use Rattle.texts.specs.declared.faults.LineFault.{LineFault}

-- unless memory ran out, the line has a fault of which this holds
abbrev pub UnlessMemory : (LineFault → Type 0) → SessionFault → Type 0
UnlessMemory P (Line fault) = P fault
UnlessMemory P Memory = Unit {0}
