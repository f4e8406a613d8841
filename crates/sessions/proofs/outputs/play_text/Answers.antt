use Rattle.std.proofs.Common.{rules}
use Rattle.sessions.proofs.Opening.{is_job, first_is_1, others_are_later}
use Rattle.sessions.proofs.outputs.play_text.Goals as goal
use Rattle.texts.specs.Cuts.{lines}
use Rattle.texts.specs.Pieces.{left, as_numbered}

pub unreachable-requires : goal.unreachable-requires
unreachable-requires c =
    let one = first_is_1 (lines c.args.text.now) (as_numbered c.in-Some.first) (left c.next.new.self) (search rules) in
    is_job c.in_ok-n.field-0 (search rules) c.in_default-2.not-Job

pub play_job-requires-clause-later : goal.play_job-requires-clause-later
play_job-requires-clause-later c =
    others_are_later (lines c.args.text.now) (as_numbered c.in-Some.first) (left c.next.new.self) (search rules)
