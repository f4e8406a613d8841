use Rattle.std.proofs.Common.{rules, arith}
use Rattle.jobs.specs.Jobs.{state}
use Rattle.sessions.proofs.Rounds.{fails, begun, ended, finished, one_round_more, round_refused}
use Rattle.sessions.proofs.calls.play_rounds.Goals as goal

pub loop-init : goal.loop-init
loop-init g c = begun c.args.line c.args.count 0 (state c.args.job.now) (state c.args.job.now)

pub returns-then-has_ended : goal.returns-then-has_ended
returns-then-has_ended g c =
    ended c.args.line c.args.count c.loop.counter _ _ c.loop.invariant (omega (arith, c.loop-test.true)) (c.has_ended.ensures.0 c.if-has_ended.true)

pub returns-in_err-play_round : goal.returns-in_err-play_round
returns-in_err-play_round g c =
    round_refused c.args.line c.args.count c.loop.counter _ _ (fails _ c.has_ended.ensures c.if-has_ended.false) c.loop.invariant _ _
    c.play_round.ensures _ c.in_err-play_round.was (omega (arith, c.loop-test.true)) _ (search rules)

pub loop-preserved : goal.loop-preserved
loop-preserved g c =
    one_round_more c.args.line c.args.count c.loop.counter _ _ (fails _ c.has_ended.ensures c.if-has_ended.false) c.loop.invariant _ _
    c.play_round.ensures _ c.in_ok-play_round.was

pub returns : goal.returns
returns g c = finished c.args.line c.args.count c.loop.counter _ _ c.loop.invariant (omega (arith, c.loop-test.false))
