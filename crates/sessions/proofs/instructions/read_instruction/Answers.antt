use Rattle.std.proofs.Common.{rules, ◌≡◌, Ok, Err, sym, subst}
use Rattle.sessions.specs.Instructions.{told_by, Tells, ReadAs}
use Rattle.sessions.proofs.HandedUp.{passed_on}
use Rattle.sessions.proofs.Instructing.{soft_read}
use Rattle.sessions.proofs.instructions.read_instruction.Goals as goal
use Rattle.texts.specs.Lines.{line_said}
use Rattle.texts.specs.Pieces.{left, as_numbered}

pub returns-in_err-clause-in-Soft : goal.returns-in_err-clause-in-Soft
returns-in_err-clause-in-Soft g c =
    let said = soft_read g.W.WeightKind.kind g.W.WrittenWeight.form c.args.line.number (as_numbered c.in-Soft.weight) (left c.in-Soft.literals)
    (line_said (as_numbered c.args.line)) (search rules) c.in_ok-weight-in-Soft.weight c.in_ok-weight-in-Soft.ensures in
    let is : c.from_residual-in_err-clause-in-Soft.result ≡ Err c.in_err-clause-in-Soft.field-0.0 = search rules in
    subst (λ r. ReadAs told_by (Tells g.W.WeightKind.kind g.W.WrittenWeight.form c.args.line.number (line_said (as_numbered c.args.line))) r) (sym is)
    (passed_on _ _ (λ fault e. said (Err fault) e) c.in_err-clause-in-Soft.field-0.0 c.in_err-clause-in-Soft.ensures)

pub returns-in_ok-clause-in-Soft : goal.returns-in_ok-clause-in-Soft
returns-in_ok-clause-in-Soft g c =
    soft_read g.W.WeightKind.kind g.W.WrittenWeight.form c.args.line.number (as_numbered c.in-Soft.weight) (left c.in-Soft.literals) _ (search rules)
    c.in_ok-weight-in-Soft.weight c.in_ok-weight-in-Soft.ensures (Ok c.in_ok-clause-in-Soft.clause.items) (search rules)
