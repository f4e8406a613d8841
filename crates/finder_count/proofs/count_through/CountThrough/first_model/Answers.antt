use Rattle.std.proofs.Common.{◌≡◌, ℕ, ◌*◌, ◌%◌, ◌^◌, ◌<◌, ◌≤◌, Some, None, Option, MatchOption, ap, subst, arith, pow_mono, rules}
use borrow.Author.Tests.{tests}
use Rattle.std.proofs.lemmas.Iterator.{first_from_Range}
use Rattle.finders.specs.Meanings.{FinderMeaning}
use Rattle.clause_tables.specs.Table.{meaning_of}
use Rattle.clause_tables.specs.Wanted.{Meets}
use Rattle.finder_count.specs.Assignments.{Found, digits}
use Rattle.finder_count.proofs.Digits.{digits_assign, each_counted}
use Rattle.finder_count.proofs.count_through.CountThrough.first_model.Goals as goal

-- all assignments have their turn
all_turns : (n e : ℕ) → n ≤ 16 → e ≡ 1 * 2 ^ n % 4294967296 → e ≡ 2 ^ n
all_turns n e h is = let low = pow_mono {i = n} {j = 16} h in omega arith

-- what is found among the numbers of all assignments is a model, and where none is found no assignment is one
found : (m : FinderMeaning) (set e : ℕ) (r : Option ℕ) → m.n ≤ 16 → e ≡ 1 * 2 ^ m.n % 4294967296
    → MatchOption r ((k : ℕ) → 0 ≤ k → k < e → Meets m set (digits m.n k) → ⊥)
    (λ i. (0 ≤ i) × (i < e) × Meets m set (digits m.n i) × ((k : ℕ) → 0 ≤ k → k < i → Meets m set (digits m.n k) → ⊥))
    → Found m set r
found m set e None few is h = λ a model.
    let turn = each_counted m.n a model.assigns in
    h turn.0 (omega arith) (omega (arith, all_turns m.n e few is, turn.1)) (subst (Meets m set) turn.2 (model.admitted, model.meets))
found m set e (Some j) few is h = record { assigns = digits_assign m.n j; admitted = h.2.0; meets = h.2.1 }

pub returns : goal.returns
returns c =
    let m = meaning_of c.args.self.now.tables in
    let set = c.args.set in
    let cases = first_from_Range _ _ _ c.find.result (λ (j : ℕ). Meets m set (digits m.n j)) (λ (j : ℕ). Meets m set (digits m.n j) → ⊥) c.find.ensures.ran
    (λ x q k. search (rules, tests)) (λ x q k. search (rules, tests)) in
    found m set _ c.find.result c.args.self.now.few (ap (λ n. 1 * 2 ^ n % 4294967296) c.variables.ensures) cases
