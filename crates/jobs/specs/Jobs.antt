-- What a job means.
use Rattle.std.specs.Prelude.{false}
use Rattle.bracket.specs.States.{State, opened_on}
use Rattle.jobs.specs.Plays.{state as played}
use Rattle.jobs.specs.declared.job.Job.{Job}
use Rattle.jobs.specs.declared.job.Parts.{Parts}
use Rattle.jobs.specs.declared.job.Parts.TheVariants.{Fresh, Used}

-- on parts that were in use a job stays as it was opened; the types have what is known of the parts and of the weight kind as arguments too
abbrev pub state_of : {F C W : Type 0} {finder : _} {maker : _} {kind : _} {ord : _} {eq : _} {partial : _} → Parts F C W finder maker kind ord eq partial → State kind.kind
state_of (Fresh play) = played play
state_of {finder = finder} {maker = maker} {kind = kind} (Used f m) = record (opened_on kind.kind (finder.meaning f) (maker.meaning m)) { fresh = false }

abbrev pub state : {F C W : Type 0} {finder : _} {maker : _} {kind : _} {ord : _} {eq : _} {partial : _} → Job F C W finder maker kind ord eq partial → State kind.kind
state job = state_of job.parts
