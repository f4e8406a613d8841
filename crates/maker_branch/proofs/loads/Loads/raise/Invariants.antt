use Rattle.std.proofs.Common.{◌≡◌, ℕ, Bool}
use Rattle.maker_branch.specs.Loads.{AllMeet, BearFor}
use Rattle.maker_branch.proofs.Raising.{Owing}
use Rattle.maker_branch.proofs.loads.Loads.raise.Given as goal

-- the numbers to come still owe the amount
abbrev pub invariant-loop-number : goal.invariant-loop-number
invariant-loop-number g l =
    let K = g.W.WeightKind.kind in
    (l.self.total ≡ l.fn.self.total)
    × ((these : ℕ → Bool) → BearFor K l.store.weights these l.fn.self → AllMeet l.fn.set these
    → Owing K l.store.weights these l.amount l.fn.self.total l.number-iterator l.self.loads)
