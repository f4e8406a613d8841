use Rattle.std.proofs.Common.{refl}
use Rattle.jobs.proofs.Rounds.{goes_on}
use Rattle.jobs.proofs.play.Play.ask_outside.Goals as goal

pub returns : goal.returns
returns g c = goes_on _ _ _ _ _ _ _ _ refl c.args.self.now.paired c.args.self.now.admitted c.requires c.in_ok-answer.ensures.answer c.take_answer.ensures.refusal c.take_answer.ensures.state
