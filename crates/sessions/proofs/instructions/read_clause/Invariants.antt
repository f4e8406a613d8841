use Rattle.std.proofs.Common.{◌≡◌}
use Rattle.sessions.specs.Instructions.{clause}
use Rattle.texts.specs.Pieces.{left}
use Rattle.sessions.proofs.Clauses.{after}
use Rattle.sessions.proofs.instructions.read_clause.Given as goal

abbrev pub invariant-loop-field : goal.invariant-loop-field
invariant-loop-field l = clause l.fn.line (left l.fn.fields) ≡ after l.clause.items (clause l.fn.line (left l.field-iterator))
