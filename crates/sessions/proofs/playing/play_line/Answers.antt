use Rattle.std.proofs.Common.{rules, ◌≡◌, Err, append-nil, sym, subst, string_bytes}
use Rattle.jobs.specs.Jobs.{state}
use Rattle.sessions.specs.Playing.{Answered, LinePlayed}
use Rattle.sessions.proofs.HandedUp.{passed_on}
use Rattle.sessions.proofs.Performing.{unread}
use Rattle.sessions.proofs.playing.play_line.Goals as goal
use Rattle.texts.specs.Pieces.{as_numbered}

pub returns-in_err-instruction : goal.returns-in_err-instruction
returns-in_err-instruction g c =
    let is : c.from_residual.result ≡ Err c.in_err-instruction.field-0.0 = search rules in
    let form = g.C.Weight.WrittenWeight.form in
    let l = as_numbered c.args.line in
    let s = state c.args.job.now in
    let old = c.args.out.now in
    subst (λ r. Answered (LinePlayed form l s s) old old r) (sym is)
    (passed_on _ _ (λ fault told. (unread form l s fault told, sym (append-nil (string_bytes old)))) c.in_err-instruction.field-0.0 c.in_err-instruction.ensures)
