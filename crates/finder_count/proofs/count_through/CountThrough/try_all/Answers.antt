use Rattle.std.proofs.Common.{refl}
use Rattle.finders.proofs.Asking.{asked_well}
use Rattle.clause_tables.specs.Table.{meaning_of}
use Rattle.finder_count.proofs.count_through.CountThrough.try_all.Goals as goal

pub returns-in-None : goal.returns-in-None
returns-in-None c =
    let fine = asked_well (meaning_of c.args.self.now.tables) c.args.set c.args.buffer.now c.requires in
    (record { given = fine.1; conflict = c.in-None.ensures }, (λ k h. h), refl)
