-- Which clauses stay quiet when a literal is made true.
use Rattle.std.proofs.Common.{◌≡◌, ◌≢◌, ◌⊎◌, inl, inr, ℕ, zero, suc, Bool, true, false, not, ◌||◌, cond, List, [], ◌∷◌, length, get_or, set, All, ℤ, pos, negsuc, Some, sym, refl, ap, ap₂, ◌∙◌, subst, ⊎_elim, arith}
use Rattle.std.specs.List.{list_any, filter}
use Rattle.std.specs.Ordering.{int_eq}
use Rattle.std.proofs.lemmas.Bool.{both_ways, or_parts, or_cases, or_left, or_right, cases_Bool, cases_eq, cond-true, cond-false}
use Rattle.std.proofs.lemmas.Bool.Decides.{Decides-int_eq}
use Rattle.std.proofs.lemmas.List.{get_or-set_same, get_or-set_other}
use Rattle.std.proofs.lemmas.List.Elements.{All-head, All-rest}
use Rattle.terms.specs.Clauses.{bad_literal}
use Rattle.clause_tables.specs.Entries.{Entry, IsProper}
use Rattle.clause_tables.specs.Wanted.{wanted}
use Rattle.finder_search.specs.ClauseStatus.{truth, is_so, is_true}
use Rattle.finder_search.specs.Literals.{index, positive, negated, same}
use Rattle.finder_search.specs.Occurrences.{occurs_in}
use Rattle.finder_search.specs.Propagation.{is_met, is_quiet, is_several}
use Rattle.finder_search.specs.Query.{Query}
use Rattle.finder_search.specs.Trail.{slot_at, value_of, is_unset, is_unassigned, Unassigned}
use Rattle.finder_search.specs.declared.trail.Slot.{Slot}
use Rattle.finder_search.specs.declared.trail.Slot.TheVariants.{Unset}
use Rattle.finder_search.proofs.LiteralLaws.{index_within}

-- ---- a literal of the same variable is the literal or its opposite
same_index : (n : ℕ) (l u : ℤ) → bad_literal n l ≡ false → bad_literal n u ≡ false → index l ≡ index u → (l ≡ u) ⊎ (l ≡ negated u)
same_index n (pos zero) u lp up e = absurd (both_ways true lp refl)
same_index n (negsuc j) (pos zero) lp up e = absurd (both_ways true up refl)
same_index n (pos (suc j)) (pos zero) lp up e = absurd (both_ways true up refl)
same_index n (pos (suc j)) (pos (suc k)) lp up e = inl (let z : j ≡ k = omega (arith, e) in ap (λ i. pos (suc i)) z)
same_index n (pos (suc j)) (negsuc k) lp up e = inr (let z : j ≡ k = omega (arith, e) in ap (λ i. pos (suc i)) z)
same_index n (negsuc j) (pos (suc k)) lp up e = inr (let z : j ≡ k = omega (arith, e) in ap negsuc z)
same_index n (negsuc j) (negsuc k) lp up e = inl (let z : j ≡ k = omega (arith, e) in ap negsuc z)

same_self : (b : Bool) → same b b ≡ true
same_self true = refl
same_self false = refl

-- ---- one slot is set so that the literal u is true
module _ (n : ℕ) (ss us : List Slot) (u : ℤ) (s : Slot) (unassigned : Unassigned ss u) (wide : length ss ≡ n) (value : value_of s ≡ Some (positive u)) (made : us ≡ set ss (index u) s) where
  slot_here : slot_at us (index u) ≡ s
  slot_here = ap (λ xs. slot_at xs (index u)) made ∙ get_or-set_same ss (index u) s Unset (index_within (length ss) u unassigned.0)

  slot_elsewhere : (v : ℕ) → v ≢ index u → slot_at us v ≡ slot_at ss v
  slot_elsewhere v ne = ap (λ xs. slot_at xs v) made ∙ get_or-set_other ss (index u) v s Unset ne

  u_true : is_true us u ≡ true
  u_true = ap (λ x. is_so (truth (value_of x) u)) slot_here ∙ ap (λ o. is_so (truth o u)) value ∙ same_self (positive u)

  -- any other literal but the opposite is as it was
  as_before : (l : ℤ) → bad_literal n l ≡ false → int_eq l (negated u) ≡ false → (l ≡ u) ⊎ ((is_true us l ≡ is_true ss l) × (is_unassigned us l ≡ is_unassigned ss l))
  as_before l proper other =
      ⊎_elim
      (λ (e : index l ≡ index u).
      ⊎_elim (λ (here : l ≡ u). inl here)
      (λ opposite. absurd (both_ways (int_eq l (negated u)) other ((Decides-int_eq l (negated u)).1 opposite)))
      (same_index n l u proper (subst (λ m. bad_literal m u ≡ false) wide unassigned.0) e))
      (λ ne. inr (ap (λ x. is_so (truth (value_of x) l)) (slot_elsewhere (index l) ne), ap is_unset (slot_elsewhere (index l) ne)))
      (cases_eq (index l) (index u))

  -- a clause without the opposite becomes true, or stays as it was
  clause_kept : (c : List ℤ) → All (λ l. bad_literal n l ≡ false) c → list_any (λ x. int_eq x (negated u)) c ≡ false
      → (list_any (is_true us) c ≡ true) ⊎ ((list_any (is_true us) c ≡ list_any (is_true ss) c) × (filter (is_unassigned us) c ≡ filter (is_unassigned ss) c))
  clause_kept [] proper without = inr (refl, refl)
  clause_kept (l ∷ c) proper without =
      let p = or_parts (int_eq l (negated u)) (list_any (λ x. int_eq x (negated u)) c) without in
      ⊎_elim
      (λ (here : l ≡ u). inl (or_left (is_true us l) (list_any (is_true us) c) (ap (is_true us) here ∙ u_true)))
      (λ same_l.
      ⊎_elim
      (λ (sat : list_any (is_true us) c ≡ true). inl (or_right (is_true us l) (list_any (is_true us) c) sat))
      (λ same_c. inr (
        ap₂ (λ x y. x || y) same_l.0 same_c.0,
        ap₂ (λ b xs. cond b (l ∷ xs) xs) same_l.1 same_c.1,
      ))
      (clause_kept c (All-rest (λ x. bad_literal n x ≡ false) l c _ refl proper) p.1))
      (as_before l (All-head (λ x. bad_literal n x ≡ false) l c proper) p.0)

  -- a clause with the literal becomes true
  clause_made : (c : List ℤ) → list_any (λ x. int_eq x u) c ≡ true → list_any (is_true us) c ≡ true
  clause_made [] h = absurd (both_ways false refl h)
  clause_made (l ∷ c) h =
      ⊎_elim
      (λ e. or_left (is_true us l) (list_any (is_true us) c) (ap (is_true us) ((Decides-int_eq l u).0 e) ∙ u_true))
      (λ e. or_right (is_true us l) (list_any (is_true us) c) (clause_made c e))
      (or_cases (int_eq l u) (list_any (λ x. int_eq x u) c) h)

  pub quiet_kept : (q : Query) (e : Entry) → IsProper n e → is_quiet q ss e ≡ true → occurs_in (negated u) e ≡ false → is_quiet q us e ≡ true
  quiet_kept q e proper quiet without =
      ⊎_elim
      (λ (sat : list_any (is_true us) e.clause ≡ true). or_left (is_met q us e) _ (or_right (not (wanted q.set e.kind)) (list_any (is_true us) e.clause) sat))
      (λ as_was. ap₂ (λ x xs. (not (wanted q.set e.kind) || x) || is_several xs) as_was.0 as_was.1 ∙ quiet)
      (clause_kept e.clause proper without)

  pub quiet_made : (q : Query) (e : Entry) → occurs_in u e ≡ true → is_quiet q us e ≡ true
  quiet_made q e h = or_left (is_met q us e) _ (or_right (not (wanted q.set e.kind)) (list_any (is_true us) e.clause) (clause_made e.clause h))

-- the literals without a value stand in the clause
pub stands_of_open : (ss : List Slot) (c : List ℤ) (u : ℤ) → filter (is_unassigned ss) c ≡ u ∷ [] → list_any (λ x. int_eq x u) c ≡ true
stands_of_open ss [] u h = absurd (let e = ap length h in omega arith)
stands_of_open ss (l ∷ c) u h =
    ⊎_elim
    (λ (o : is_unassigned ss l ≡ true).
    let e : (l ∷ filter (is_unassigned ss) c) ≡ (u ∷ []) = sym (cond-true (is_unassigned ss l) (l ∷ filter (is_unassigned ss) c) (filter (is_unassigned ss) c) o) ∙ h in
    or_left (int_eq l u) _ ((Decides-int_eq l u).1 (ap (λ xs. get_or xs 0 l) e)))
    (λ n. or_right (int_eq l u) _ (stands_of_open ss c u (sym (cond-false (is_unassigned ss l) (l ∷ filter (is_unassigned ss) c) (filter (is_unassigned ss) c) n) ∙ h)))
    (cases_Bool (is_unassigned ss l))
