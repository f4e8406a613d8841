-- Which soft clauses an assignment breaks, clause by clause through the tables.
use Rattle.std.proofs.Common.{◌≡◌, ℕ, zero, suc, ◌+◌, ◌<◌, Bool, true, false, not, ◌&&◌, ◌||◌, eqb, ltb, List, [], ◌∷◌, ◌++◌, length, get_or, ℤ, sym, refl, ap, ◌∙◌, ap₂, arith}
use Rattle.std.proofs.lemmas.Bool.{and_parts, and_left, or_from, eq-eqb, ne_eqb, eqb-true, lt-ltb, le-ltb}
use Rattle.std.proofs.Math.Bool.{or-false}
use Rattle.std.proofs.lemmas.Bool.Decides.{nat_tests}
use Rattle.terms.specs.Clauses.{satisfied_by, breaks}
use Rattle.clause_tables.specs.Entries.{Entry, softs, soft_part, numbered, well_numbered, softs_after}
use Rattle.clause_tables.specs.declared.records.ClauseKind.{ClauseKind}
use Rattle.clause_tables.specs.declared.records.ClauseKind.TheVariants.{Hard, Soft}

-- soft number j is the clause's, and the clause is broken
abbrev pub broken_as : List ℕ → ℕ → ClauseKind → List ℤ → Bool
broken_as a j Hard c = false
broken_as a j (Soft i) c = eqb i j && not (satisfied_by a c)

abbrev pub broken_in : List Entry → List ℕ → ℕ → Bool
broken_in [] a j = false
broken_in (e ∷ es) a j = broken_as a j e.kind e.clause || broken_in es a j

-- ---- an assignment breaks the first clause, or one of the others
pub breaks-nil : (a : List ℕ) (k : ℕ) → breaks a [] k ≡ false
breaks-nil a k = and_left (ltb k 0) _ (le-ltb k 0 (omega arith))

pub breaks-zero : (a : List ℕ) (c : List ℤ) (cs : List (List ℤ)) → breaks a (c ∷ cs) 0 ≡ not (satisfied_by a c)
breaks-zero a c cs = ap (λ b. b && not (satisfied_by a c)) (lt-ltb 0 (suc (length cs)) (omega arith))

pub breaks-suc : (a : List ℕ) (c : List ℤ) (cs : List (List ℤ)) (k : ℕ) → breaks a (c ∷ cs) (suc k) ≡ breaks a cs k
breaks-suc a c cs k = ap (λ b. b && not (satisfied_by a (get_or cs k []))) (let e : ltb (suc k) (suc (length cs)) ≡ ltb k (length cs) = grind (arith, nat_tests) in e)

-- ---- where the numbers begin with s, none below s is broken, and number s + k is where the soft clause at k is
pub none_below : (s : ℕ) (es : List Entry) (a : List ℕ) (j : ℕ) → numbered s es ≡ true → j < s → broken_in es a j ≡ false
none_below s [] a j h l = refl
none_below s (e ∷ es) a j h l =
    by_kind e.kind (and_parts (well_numbered s e.kind) (numbered (softs_after s e.kind) es) h) (λ t. none_below t es a j)
  where
    by_kind : (k : ClauseKind) → (well_numbered s k ≡ true) × (numbered (softs_after s k) es ≡ true)
        → ((t : ℕ) → numbered t es ≡ true → j < t → broken_in es a j ≡ false) → (broken_as a j k e.clause || broken_in es a j) ≡ false
    by_kind Hard w ih = ih s w.1 l
    by_kind (Soft i) w ih =
        let other = ne_eqb i j (λ z. omega (arith, eqb-true i s w.0)) in
        or_from (eqb i j && not (satisfied_by a e.clause)) (broken_in es a j) (and_left (eqb i j) _ other) (ih (suc s) w.1 (omega arith))

pub broken_at : (s : ℕ) (es : List Entry) (a : List ℕ) (k : ℕ) → numbered s es ≡ true → broken_in es a (s + k) ≡ breaks a (softs es) k
broken_at s [] a k h = sym (breaks-nil a k)
broken_at s (e ∷ es) a k h =
    by_kind e.kind (and_parts (well_numbered s e.kind) (numbered (softs_after s e.kind) es) h) (λ t j. broken_at t es a j)
  where
    by_place : (i k : ℕ) → i ≡ s → numbered (suc s) es ≡ true → ((j : ℕ) → broken_in es a (suc s + j) ≡ breaks a (softs es) j)
        → ((eqb i (s + k) && not (satisfied_by a e.clause)) || broken_in es a (s + k)) ≡ breaks a (e.clause ∷ softs es) k
    by_place i zero same n ih =
        ap₂ (λ x y. (x && not (satisfied_by a e.clause)) || y) (eq-eqb i (s + 0) (omega arith)) (none_below (suc s) es a (s + 0) n (omega arith))
        ∙ or-false (not (satisfied_by a e.clause)) ∙ sym (breaks-zero a e.clause (softs es))
    by_place i (suc k) same n ih =
        let further : s + suc k ≡ suc s + k = omega arith in
        ap₂ (λ x y. (x && not (satisfied_by a e.clause)) || y) (ne_eqb i (s + suc k) (λ z. omega arith)) (ap (broken_in es a) further ∙ ih k)
        ∙ sym (breaks-suc a e.clause (softs es) k)

    by_kind : (x : ClauseKind) → (well_numbered s x ≡ true) × (numbered (softs_after s x) es ≡ true)
        → ((t j : ℕ) → numbered t es ≡ true → broken_in es a (t + j) ≡ breaks a (softs es) j)
        → (broken_as a (s + k) x e.clause || broken_in es a (s + k)) ≡ breaks a (soft_part x e.clause ++ softs es) k
    by_kind Hard w ih = ih s k w.1
    by_kind (Soft i) w ih = by_place i k (eqb-true i s w.0) w.1 (λ j. ih (suc s) j w.1)

pub broken_is : (es : List Entry) (a : List ℕ) (j : ℕ) → numbered 0 es ≡ true → broken_in es a j ≡ breaks a (softs es) j
broken_is es a j h = ap (broken_in es a) (let z : j ≡ 0 + j = omega arith in z) ∙ broken_at 0 es a j h
