use Rattle.std.proofs.Common.{rules}
use Rattle.jobs.specs.Jobs.{state}
use Rattle.sessions.proofs.Played.{begun, one_line_more, done}
use Rattle.sessions.proofs.session.play_lines.Goals as goal
use Rattle.texts.specs.Pieces.{left, as_numbered}

pub loop-line-init : goal.loop-line-init
loop-line-init g c =
    begun g.C.Weight.WrittenWeight.form (state c.args.job) (left c.args.lines) c.requires.begins c.requires.later _ (search rules) _ (search rules)

pub loop-line-preserved : goal.loop-line-preserved
loop-line-preserved g c =
    one_line_more g.C.Weight.WrittenWeight.form (state c.args.job) (left c.args.lines)
    (as_numbered c.in-Some.line) (left c.next.new.self) (left c.loop-line.line-iterator) (search rules)
    (state c.loop-line.job) (state c.play_line-played.new.job)
    c.loop-line.output c.play_line-played.new.out c.print_fault.new.output c.loop-line.invariant _ c.play_line-played.ensures (search rules)

pub returns : goal.returns
returns g c = done g.C.Weight.WrittenWeight.form (state c.args.job) (left c.args.lines) (left c.loop-line.line-iterator) (search rules)
    (state c.loop-line.job) _ c.loop-line.invariant
