-- What a clause says under the trail, of the assignments that a reason speaks of.
use Rattle.std.proofs.Common.{◌≡◌, ℕ, ◌<◌, Bool, true, false, not, ◌||◌, List, [], ◌∷◌, length, get_or, drop, All, ℤ, Option, sym, refl, ap, ◌∙◌, subst, ⊎_elim, arith}
use Rattle.std.specs.List.{list_any, filter}
use Rattle.std.proofs.Math.ListN.{get_or-map}
use Rattle.std.proofs.lemmas.Bool.{both_ways, and_parts, and_from, or_parts, or_from, or_left, or_right, cases_Bool, cond-true, cond-false, eq-eqb}
use Rattle.std.proofs.lemmas.List.Elements.{All-head, All-rest}
use Rattle.terms.specs.Clauses.{true_in, satisfied_by, bad_literal}
use Rattle.terms.specs.Masks.{member, Subset}
use Rattle.clause_tables.specs.Entries.{Entry}
use Rattle.clause_tables.specs.Table.{Table}
use Rattle.clause_tables.specs.Wanted.{wanted, met, all_met}
use Rattle.clause_tables.specs.declared.records.ClauseKind.{ClauseKind}
use Rattle.clause_tables.specs.declared.records.ClauseKind.TheVariants.{Hard, Soft}
use Rattle.finder_search.specs.ClauseStatus.{truth, is_so, is_true}
use Rattle.finder_search.specs.Literals.{index, positive, same}
use Rattle.finder_search.specs.Propagation.{Sound}
use Rattle.finder_search.specs.Query.{Satisfies, Query}
use Rattle.finder_search.specs.Reasons.{clause_decisions, bit, Agrees, Follows, Backed}
use Rattle.finder_search.specs.Trail.{slot_at, value_of, is_unset, rests_on_decision, rests_on_soft, is_unassigned, decision_of, decisions}
use Rattle.finder_search.specs.VariableSets.{has}
use Rattle.finder_search.specs.declared.reasons.Reason.{Reason}
use Rattle.finder_search.specs.declared.trail.Slot.{Slot}
use Rattle.finder_search.specs.declared.trail.Slot.TheVariants.{Unset, Decided, Implied}
use Rattle.finder_search.specs.declared.variable_sets.VariableSet.{VariableSet}
use Rattle.finder_search.proofs.LiteralLaws.{index_within, true_is}

-- ---- fewer soft clauses and fewer decisions
-- a clause that is wanted and met is satisfied
pub wanted_met : (w b : Bool) → w ≡ true → (not w || b) ≡ true → b ≡ true
wanted_met true b e h = h
wanted_met false b e h = absurd (both_ways false refl e)

met_fewer : (x y : ℕ) (a : List ℕ) (k : ClauseKind) (b : Bool) → Subset x y → (not (wanted y k) || b) ≡ true → (not (wanted x k) || b) ≡ true
met_fewer x y a Hard b s h = h
met_fewer x y a (Soft j) b s h =
    ⊎_elim
    (λ (in_x : member x j ≡ true). or_right (not (member x j)) b (wanted_met (member y j) b (s j in_x) h))
    (λ out. or_left (not (member x j)) b (ap not out))
    (cases_Bool (member x j))

all_met_fewer : (x y : ℕ) (a : List ℕ) (es : List Entry) → Subset x y → all_met y a es ≡ true → all_met x a es ≡ true
all_met_fewer x y a [] s h = refl
all_met_fewer x y a (e ∷ es) s h =
    let p = and_parts (met y a e.kind e.clause) (all_met y a es) h in
    and_from (met x a e.kind e.clause) (all_met x a es) (met_fewer x y a e.kind (satisfied_by a e.clause) s p.0) (all_met_fewer x y a es s p.1)

pub satisfies_fewer : (t : Table) (x y : ℕ) (a : List ℕ) → Subset x y → Satisfies t y a → Satisfies t x a
satisfies_fewer t x y a s h = (h.0, all_met_fewer x y a t.entries s h.1)

follows_part : (cs : List (Option Bool)) (x y : VariableSet) (a : List ℕ) → ((v : ℕ) → has x v ≡ true → has y v ≡ true) → Follows cs y a → Follows cs x a
unfolding Follows
follows_part cs x y a s f v h = f v (s v h)

follows_at : (ss : List Slot) (E : VariableSet) (a : List ℕ) (v : ℕ) → has E v ≡ true → Follows (decisions ss) E a → Agrees (decision_of (slot_at ss v)) (bit a v)
unfolding Follows
follows_at ss E a v h f = subst (λ o. Agrees o (bit a v)) (get_or-map decision_of ss v Unset) (f v h)

-- ---- the reason has all that the literals of the clause rest on
abbrev pub Rested : List Slot → Reason → List ℤ → Type 0
Rested ss r c = ((u : ℕ) → clause_decisions ss c u ≡ true → has r.decisions u ≡ true) × ((k : ℕ) → list_any (λ l. rests_on_soft (slot_at ss (index l)) k) c ≡ true → member r.softs k ≡ true)

rest : (ss : List Slot) (r : Reason) (l : ℤ) (c : List ℤ) → Rested ss r (l ∷ c) → Rested ss r c
rest ss r l c on = (λ u h. on.0 u (or_right _ (clause_decisions ss c u) h), λ k h. on.1 k (or_right _ (list_any (λ l. rests_on_soft (slot_at ss (index l)) k) c) h))

-- ---- one assignment that the reason speaks of
module _ (q : Query) (ss : List Slot) (r : Reason) (a : List ℕ) (sound : Sound q ss) (serves : Satisfies q.table r.softs a) (follows : Follows (decisions ss) r.decisions a) where
  -- by the slot of its variable
  false_by : (l : ℤ) (s : Slot) → index l < length ss → slot_at ss (index l) ≡ s
      → ((u : ℕ) → rests_on_decision s (index l) u ≡ true → has r.decisions u ≡ true) → ((k : ℕ) → rests_on_soft s k ≡ true → member r.softs k ≡ true)
      → is_so (truth (value_of s) l) ≡ false → is_unset s ≡ false → same (bit a (index l)) (positive l) ≡ false
  false_by l Unset m e onc ons untrue closed = absurd (both_ways true closed refl)
  false_by l (Decided b d) m e onc ons untrue closed =
      let kept = subst (λ s. Agrees (decision_of s) (bit a (index l))) e (follows_at ss r.decisions a (index l) (onc (index l) (eq-eqb (index l) (index l) refl)) follows) in
      ap (λ x. same x (positive l)) kept ∙ untrue
  false_by l (Implied b d o) m e onc ons untrue closed =
      let h = subst (Backed q (decisions ss) (index l)) e (sound.backed (index l) m) in
      let kept = h.1 a (satisfies_fewer q.table o.softs r.softs a ons serves) (follows_part (decisions ss) o.decisions r.decisions a onc follows) in
      ap (λ x. same x (positive l)) kept ∙ untrue

  -- a literal that is false under the trail, by what the reason has
  false_literal : (l : ℤ) → bad_literal q.table.n l ≡ false → ((u : ℕ) → rests_on_decision (slot_at ss (index l)) (index l) u ≡ true → has r.decisions u ≡ true)
      → ((k : ℕ) → rests_on_soft (slot_at ss (index l)) k ≡ true → member r.softs k ≡ true) → is_true ss l ≡ false → is_unassigned ss l ≡ false → true_in a l ≡ false
  false_literal l good onc ons untrue closed =
      true_is q.table.n a l serves.0 good
      ∙ false_by l (slot_at ss (index l)) (omega (arith, index_within q.table.n l good, sound.wide)) refl onc ons untrue closed

  closed_literal : (l : ℤ) (c : List ℤ) → All (λ x. bad_literal q.table.n x ≡ false) (l ∷ c) → Rested ss r (l ∷ c) → is_true ss l ≡ false → is_unassigned ss l ≡ false → true_in a l ≡ false
  closed_literal l c good on =
      false_literal l (All-head (λ x. bad_literal q.table.n x ≡ false) l c good)
      (λ u h. on.0 u (or_left _ (clause_decisions ss c u) h)) (λ k h. on.1 k (or_left _ (list_any (λ x. rests_on_soft (slot_at ss (index x)) k) c) h))

  -- where no literal is true or open the assignment breaks the clause
  pub broken_clause : (c : List ℤ) → All (λ x. bad_literal q.table.n x ≡ false) c → Rested ss r c → list_any (is_true ss) c ≡ false → filter (is_unassigned ss) c ≡ [] → satisfied_by a c ≡ false
  broken_clause [] good on untrue none = refl
  broken_clause (l ∷ c) good on untrue none =
      let p = or_parts (is_true ss l) (list_any (is_true ss) c) untrue in
      ⊎_elim
      (λ (o : is_unassigned ss l ≡ true). absurd (let e = ap length (sym (cond-true (is_unassigned ss l) (l ∷ filter (is_unassigned ss) c) (filter (is_unassigned ss) c) o) ∙ none) in omega arith))
      (λ n. or_from (true_in a l) (satisfied_by a c) (closed_literal l c good on p.0 n)
      (broken_clause c (All-rest (λ x. bad_literal q.table.n x ≡ false) l c _ refl good) (rest ss r l c on) p.1
      (sym (cond-false (is_unassigned ss l) (l ∷ filter (is_unassigned ss) c) (filter (is_unassigned ss) c) n) ∙ none)))
      (cases_Bool (is_unassigned ss l))

  -- where one is open the assignment makes it true, if it satisfies the clause
  pub unit_clause : (c : List ℤ) (u : ℤ) → All (λ x. bad_literal q.table.n x ≡ false) c → Rested ss r c → list_any (is_true ss) c ≡ false → filter (is_unassigned ss) c ≡ u ∷ []
      → satisfied_by a c ≡ true → true_in a u ≡ true
  unit_clause [] u good on untrue one sat = absurd (both_ways false refl sat)
  unit_clause (l ∷ c) u good on untrue one sat =
      let p = or_parts (is_true ss l) (list_any (is_true ss) c) untrue in
      let good_rest = All-rest (λ x. bad_literal q.table.n x ≡ false) l c _ refl good in
      ⊎_elim
      (λ (o : is_unassigned ss l ≡ true).
      let e : (l ∷ filter (is_unassigned ss) c) ≡ (u ∷ []) = sym (cond-true (is_unassigned ss l) (l ∷ filter (is_unassigned ss) c) (filter (is_unassigned ss) c) o) ∙ one in
      let none = broken_clause c good_rest (rest ss r l c on) p.1 (ap (drop 1) e) in
      subst (λ x. true_in a x ≡ true) (ap (λ xs. get_or xs 0 l) e) (or_first (true_in a l) (satisfied_by a c) none sat))
      (λ n. unit_clause c u good_rest (rest ss r l c on) p.1 (sym (cond-false (is_unassigned ss l) (l ∷ filter (is_unassigned ss) c) (filter (is_unassigned ss) c) n) ∙ one)
      (or_other (true_in a l) (satisfied_by a c) (closed_literal l c good on p.0 n) sat))
      (cases_Bool (is_unassigned ss l))
    where
      or_first : (x y : Bool) → y ≡ false → (x || y) ≡ true → x ≡ true
      or_first true y n h = refl
      or_first false y n h = absurd (both_ways y n h)

      or_other : (x y : Bool) → x ≡ false → (x || y) ≡ true → y ≡ true
      or_other true y n h = absurd (both_ways true n refl)
      or_other false y n h = h
