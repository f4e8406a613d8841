use Rattle.std.proofs.Common.{sym, subst, w32}
use Rattle.std.proofs.lemmas.Int.{to_z-of_z}
use Rattle.clause_tables.specs.Entries.{as_entry}
use Rattle.finder_search.specs.Trail.{Unassigned}
use Rattle.finder_search.proofs.Implying.{last_unassigned, last_implied}
use Rattle.finder_search.specs.Question.{query}
use Rattle.finder_search.proofs.question.Question.imply_last.Goals as goal

pub imply-requires : goal.imply-requires
imply-requires c =
    subst (Unassigned c.args.trail.now) (sym (to_z-of_z w32 c.args.literal c.ranges.literal))
    (last_unassigned (query c.args.self.now) c.args.trail.now (as_entry c.args.clause) c.args.literal c.requires.asked.0 c.requires.sound c.requires.unit)

pub returns : goal.returns
returns c =
    last_implied (query c.args.self.now) c.args.level c.args.trail.now c.imply.new.trail (as_entry c.args.clause) c.of-reason.result c.args.literal
    c.requires.sound c.requires.asked c.requires.unit (simp (to_z-of_z, c.ranges.literal) at c.imply.ensures) c.args.self.now.known c.of-reason.ensures
