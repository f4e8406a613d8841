use Rattle.jobs.specs.Jobs.{state}
use Rattle.sessions.proofs.Rounds.{RoundsSoFar}
use Rattle.sessions.proofs.calls.play_rounds.Given as goal

abbrev pub invariant-loop : goal.invariant-loop
invariant-loop g l = RoundsSoFar l.counter (state l.fn.job) (state l.job)
