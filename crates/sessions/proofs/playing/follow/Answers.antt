use Rattle.std.proofs.Common.{rules, Ok, Err}
use Rattle.bracket.specs.Steps.{hard, soft}
use Rattle.jobs.specs.Jobs.{state}
use Rattle.sessions.specs.Instructions.{told_by}
use Rattle.sessions.proofs.HandedUp.{faulted, silent}
use Rattle.sessions.proofs.Performing.{call_made, rounds_made, state_shown}
use Rattle.sessions.proofs.playing.follow.Goals as goal

pub returns-in_err-add_hard-in-Hard : goal.returns-in_err-add_hard-in-Hard
returns-in_err-add_hard-in-Hard g c =
    faulted _ c.args.out.now _ c.in_err-add_hard-in-Hard.field-0.0 (search rules) (
    call_made g.C.Weight.WrittenWeight.form c.args.line (state c.args.job.now) (told_by c.args.instruction) (hard c.in-Hard.clause.items) (search rules)
    (state c.add_hard.new.job) (Err c.in_err-add_hard-in-Hard.field-0.0) (search rules)
    )

pub returns-in_ok-add_hard-in-Hard : goal.returns-in_ok-add_hard-in-Hard
returns-in_ok-add_hard-in-Hard g c =
    silent _ c.args.out.now (
    call_made g.C.Weight.WrittenWeight.form c.args.line (state c.args.job.now) (told_by c.args.instruction) (hard c.in-Hard.clause.items) (search rules)
    (state c.add_hard.new.job) (Ok tt) (search rules)
    )

pub returns-in_err-add_soft-in-Soft : goal.returns-in_err-add_soft-in-Soft
returns-in_err-add_soft-in-Soft g c =
    faulted _ c.args.out.now _ c.in_err-add_soft-in-Soft.field-0.0 (search rules) (
    call_made g.C.Weight.WrittenWeight.form c.args.line (state c.args.job.now) (told_by c.args.instruction) (soft c.in-Soft.weight c.in-Soft.clause.items) (search rules)
    (state c.add_soft.new.job) (Err c.in_err-add_soft-in-Soft.field-0.0) (search rules)
    )

pub returns-in_ok-add_soft-in-Soft : goal.returns-in_ok-add_soft-in-Soft
returns-in_ok-add_soft-in-Soft g c =
    silent _ c.args.out.now (
    call_made g.C.Weight.WrittenWeight.form c.args.line (state c.args.job.now) (told_by c.args.instruction) (soft c.in-Soft.weight c.in-Soft.clause.items) (search rules)
    (state c.add_soft.new.job) (Ok tt) (search rules)
    )

pub returns-in_err-play_rounds-in-Rounds : goal.returns-in_err-play_rounds-in-Rounds
returns-in_err-play_rounds-in-Rounds g c =
    faulted _ c.args.out.now _ c.in_err-play_rounds-in-Rounds.field-0.0 (search rules) (
    rounds_made g.C.Weight.WrittenWeight.form c.args.line (state c.args.job.now) (told_by c.args.instruction) c.in-Rounds.count (search rules)
    (state c.play_rounds.new.job) (Err c.in_err-play_rounds-in-Rounds.field-0.0) (search rules)
    )

pub returns-in_ok-play_rounds-in-Rounds : goal.returns-in_ok-play_rounds-in-Rounds
returns-in_ok-play_rounds-in-Rounds g c =
    silent _ c.args.out.now (
    rounds_made g.C.Weight.WrittenWeight.form c.args.line (state c.args.job.now) (told_by c.args.instruction) c.in-Rounds.count (search rules)
    (state c.play_rounds.new.job) (Ok tt) (search rules)
    )

pub returns-in_ok-show-in-Query : goal.returns-in_ok-show-in-Query
returns-in_ok-show-in-Query g c =
    (_, state_shown g.C.Weight.WrittenWeight.form c.args.line (state c.args.job.now) (told_by c.args.instruction) (search rules), search rules)
