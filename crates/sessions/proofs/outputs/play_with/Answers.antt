use Rattle.std.proofs.Common.{rules, string_bytes}
use Rattle.finder_search.specs.Finder.{finder_meaning}
use Rattle.jobs.specs.Jobs.{state}
use Rattle.sessions.proofs.Opening.{opened_with}
use Rattle.sessions.proofs.outputs.play_with.Goals as goal
use Rattle.texts.specs.Pieces.{left}

pub returns : goal.returns
returns g c =
    opened_with g.C.Weight.WrittenWeight.form c.args.n (left c.args.lines) string_bytes
    (finder_meaning c.make_finder-finder.result) (search rules) (g.C.CoverMaker.meaning c.args.maker) c.requires.fresh
    (state c.open.result) c.open.ensures.state c.play_lines.result c.play_lines.ensures
