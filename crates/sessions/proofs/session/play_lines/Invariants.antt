use Rattle.std.proofs.Common.{string_bytes}
use Rattle.jobs.specs.Jobs.{state}
use Rattle.sessions.proofs.Played.{SoFar}
use Rattle.sessions.proofs.session.play_lines.Given as goal
use Rattle.texts.specs.Pieces.{left}

abbrev pub invariant-loop-line : goal.invariant-loop-line
invariant-loop-line g l =
    SoFar g.C.Weight.WrittenWeight.form (state l.fn.job) (left l.fn.lines) (left l.line-iterator) (state l.job) (string_bytes l.output)
