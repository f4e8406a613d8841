-- What a job on fresh parts means.
use Rattle.std.specs.Prelude.{true}
use Rattle.bracket.specs.States.{State}
use Rattle.jobs.specs.Plans.{plan}
use Rattle.jobs.specs.declared.play.Play.{Play}

-- the type has what is known of the parts and of the weight kind as arguments too
abbrev pub state : {F C W : Type 0} {finder : _} {maker : _} {kind : _} {ord : _} {eq : _} {partial : _} → Play F C W finder maker kind ord eq partial → State kind.kind
state {finder = finder} {maker = maker} {kind = kind} play = record {
  fresh = true;
  finder = finder.meaning play.finder;
  maker = maker.meaning play.maker;
  floor = kind.kind.value play.floor;
  kept = plan kind.kind (finder.meaning play.finder).n play.kept;
  phase = play.phase;
  void = play.void;
}
