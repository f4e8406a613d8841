use Rattle.std.proofs.Common.{◌≡◌, sym, ◌∙◌}
use Rattle.terms.proofs.MaskLaws.{same_mask}
use Rattle.core_store.proofs.store.Store.spare.Goals as goal

pub returns-clause-value : goal.returns-clause-value
returns-clause-value g c rest w =
    let e : c.remove.result ≡ rest = same_mask c.remove.result rest (λ k. c.remove.ensures k ∙ sym (w k)) in
    rw (← e) c.cover_or.ensures
