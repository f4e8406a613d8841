use Rattle.std.proofs.Common.{replicate}
use Rattle.terms.proofs.RefusalLaws.{never}
use Rattle.finders.proofs.Asking.{not_refused}
use Rattle.finder_shrinking.proofs.shrinking.Shrinking.core_within.Goals as goal

-- with 256 bytes the question is not refused
pub returns-in-Err : goal.returns-in-Err
returns-in-Err g c =
    let below = c.args.self.now in
    let accepted = not_refused (g.F.Finder.meaning below) c.args.set (replicate 256 0) (g.met.F.Finder.limited below).0 c.requires in
    absurd (never _ _ c.in-Err.ensures.refusal (rw c.self.view_is accepted))
