-- When asking is refused, and when it is not.
use Rattle.std.proofs.Common.{◌≡◌, ℕ, ◌≤◌, not, List, length, None, arith}
use Rattle.std.proofs.lemmas.Bool.{ltb-false, not-false}
use Rattle.std.proofs.lemmas.Bool.Decides.{nat_tests}
use Rattle.terms.specs.Masks.{below, Below}
use Rattle.terms.proofs.MaskLaws.{below_members}
use Rattle.terms.proofs.RefusalLaws.{passes}
use Rattle.finders.specs.Meanings.{FinderMeaning}
use Rattle.finders.specs.Refused.{ask_refused, too_short}

pub asked_well : (m : FinderMeaning) (set : ℕ) (buffer : List ℕ) → ask_refused m set buffer ≡ None → (m.n ≤ length buffer) × Below (length m.softs) set
asked_well m set buffer e =
    let short = passes (too_short m buffer) _ _ e in
    let known = passes (not (below (length m.softs) set)) _ _ short.1 in
    (ltb-false (length buffer) m.n short.0, (below_members (length m.softs) set).0 (not-false (below (length m.softs) set) known.0))

pub not_refused : (m : FinderMeaning) (set : ℕ) (buffer : List ℕ) → m.n ≤ length buffer → Below (length m.softs) set → ask_refused m set buffer ≡ None
not_refused m set buffer long given = grind (arith, nat_tests, below_members (length m.softs) set)
