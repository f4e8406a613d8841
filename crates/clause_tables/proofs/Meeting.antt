-- Whether an assignment meets the hard clauses and those of a set, clause by clause through the tables.
use Rattle.std.proofs.Common.{◌≡◌, ℕ, ◌+◌, ◌-◌, ◌<◌, Bool, true, false, not, ◌&&◌, ◌||◌, eqb, List, [], ◌∷◌, length, ℤ, Decides, sym, refl, ap, ◌∙◌, arith}
use Rattle.std.specs.Bool.{MatchBool}
use Rattle.std.specs.List.{AllWithin, HoldsAt}
use Rattle.std.proofs.lemmas.List.Elements.{All-from_all_within}
use Rattle.std.proofs.lemmas.List.Sums.{list_all-from_AllPass}
use Rattle.std.proofs.lemmas.List.Folds.{list_all_at, list_all-append}
use Rattle.std.proofs.lemmas.Bool.{and_parts, and_from, or_parts, or_from}
use Rattle.std.proofs.lemmas.Bool.Decides.{Decides-and, Decides-like, nat_tests}
use Rattle.terms.specs.Clauses.{satisfied_by, breaks}
use Rattle.terms.specs.Masks.{member}
use Rattle.clause_tables.specs.Entries.{Entry, hards, softs, hard_part, satisfied_all, numbered}
use Rattle.clause_tables.specs.Wanted.{met, all_met}
use Rattle.clause_tables.specs.declared.records.ClauseKind.{ClauseKind}
use Rattle.clause_tables.specs.declared.records.ClauseKind.TheVariants.{Hard, Soft}
use Rattle.clause_tables.proofs.Breaking.{broken_as, broken_in, none_below, broken_at}

-- what a run over the clauses answered, as one test of them all
pub all_met_from_cases : (set : ℕ) (a : List ℕ) (es : List Entry) (r : Bool)
    → MatchBool r (AllWithin (λ e. met set a e.kind e.clause ≡ true) es 0 (length es)) ((k : ℕ) × (k < length es) × HoldsAt (λ e. met set a e.kind e.clause ≡ false) es k)
    → r ≡ all_met set a es
all_met_from_cases set a es true h = sym (list_all-from_AllPass _ es (All-from_all_within (λ e. met set a e.kind e.clause ≡ true) es h))
all_met_from_cases set a es false h = let none : Entry = record { kind = Hard; clause = [] } in sym (list_all_at _ es h.0 none h.1 (h.2 none))

-- a soft clause is met exactly where no number of the set has it broken
soft_met : (wanted : ℕ → Bool) (i : ℕ) (b : Bool) → Decides (not (wanted i) || b) ((j : ℕ) → wanted j ≡ true → (eqb i j && not b) ≡ false)
soft_met wanted i b = ((λ e j h. grind (arith, nat_tests)), (λ f. let own = f i in grind (arith, nat_tests, own)))

-- a clause of either kind is met exactly where it is satisfied if it is hard, and no number of the set has it broken
one_unbroken : (set : ℕ) (a : List ℕ) (k : ClauseKind) (c : List ℤ)
    → Decides (met set a k c) ((satisfied_all (hard_part k c) a ≡ true) × ((j : ℕ) → member set j ≡ true → broken_as a j k c ≡ false))
one_unbroken set a Hard c = (λ e. (and_from (satisfied_by a c) true e refl, λ j h. refl), λ u. (and_parts (satisfied_by a c) true u.0).0)
one_unbroken set a (Soft i) c = let s = soft_met (member set) i (satisfied_by a c) in (λ e. (refl, s.0 e), λ u. s.1 u.1)

-- all clauses are met exactly where the hard ones are satisfied and none of the set is broken
pub all_unbroken : (set : ℕ) (a : List ℕ) (es : List Entry)
    → Decides (all_met set a es) ((satisfied_all (hards es) a ≡ true) × ((j : ℕ) → member set j ≡ true → broken_in es a j ≡ false))
all_unbroken set a [] = (λ e. (refl, λ j h. refl), λ u. refl)
all_unbroken set a (e ∷ es) =
    let hard = list_all-append (satisfied_by a) (hard_part e.kind e.clause) (hards es) in
    Decides-like (all_met set a (e ∷ es))
    (λ u. (
      hard ∙ and_from _ (satisfied_all (hards es) a) u.0.0 u.1.0,
      λ j h. or_from (broken_as a j e.kind e.clause) (broken_in es a j) (u.0.1 j h) (u.1.1 j h),
    ))
    (λ u. let p = and_parts (satisfied_all (hard_part e.kind e.clause) a) (satisfied_all (hards es) a) (sym hard ∙ u.0) in
    let none = λ (j : ℕ) (h : member set j ≡ true). or_parts (broken_as a j e.kind e.clause) (broken_in es a j) (u.1 j h) in
    ((p.0, λ j h. (none j h).0), (p.1, λ j h. (none j h).1)))
    (Decides-and (met set a e.kind e.clause) (all_met set a es) (one_unbroken set a e.kind e.clause) (all_unbroken set a es))

-- the same by what the soft clauses are, where their numbers begin with s
abbrev Unbroken : ℕ → ℕ → List ℕ → List (List ℤ) → List (List ℤ) → Type 0
Unbroken s set a hs cs = (satisfied_all hs a ≡ true) × ((k : ℕ) → member set (s + k) ≡ true → breaks a cs k ≡ false)

decided : (s set : ℕ) (a : List ℕ) (es : List Entry) → numbered s es ≡ true → Decides (all_met set a es) (Unbroken s set a (hards es) (softs es))
decided s set a es n =
    Decides-like (all_met set a es)
    (λ u. (u.0, λ k h. sym (broken_at s es a k n) ∙ u.1 (s + k) h))
    (λ u. (u.0, λ j h. grind (arith, nat_tests, none_below s es a j n, broken_at s es a (j - s) n, u.1 (j - s), h)))
    (all_unbroken set a es)

-- the same where the numbers begin with 0, as in the tables
pub met_decides : (set : ℕ) (a : List ℕ) (es : List Entry) → numbered 0 es ≡ true
    → Decides (all_met set a es) ((satisfied_all (hards es) a ≡ true) × ((j : ℕ) → member set j ≡ true → breaks a (softs es) j ≡ false))
met_decides set a es n =
    let zero_more : (j : ℕ) → 0 + j ≡ j = λ (j : ℕ). omega arith in
    Decides-like (all_met set a es)
    (λ u. (u.0, λ j h. u.1 j (ap (member set) (zero_more j) ∙ h)))
    (λ u. (u.0, λ j h. u.1 j (ap (member set) (sym (zero_more j)) ∙ h)))
    (decided 0 set a es n)
