-- Where each clause that is wanted has a true literal, the values that are set are a model.
use Rattle.std.proofs.Common.{◌≡◌, ℕ, true, false, not, eqb, List, [], ◌∷◌, length, map, All, ℤ, refl, ap, ◌∙◌, ⊎_elim}
use Rattle.std.specs.List.{list_all, list_any}
use Rattle.std.proofs.Math.ListN.{get_or-map}
use Rattle.std.proofs.lemmas.Bool.{both_ways, and_parts, and_from, or_cases, or_left, or_right}
use Rattle.std.proofs.lemmas.List.{length-map}
use Rattle.std.proofs.lemmas.List.Elements.{All-head, All-rest}
use Rattle.terms.specs.Clauses.{Assignment, binary, true_in, satisfied_by, bad_literal}
use Rattle.clause_tables.specs.Entries.{Entry, IsProper}
use Rattle.clause_tables.specs.Wanted.{wanted, met, all_met}
use Rattle.finder_search.specs.ClauseStatus.{truth, is_so, is_true}
use Rattle.finder_search.specs.Literals.{index, positive, same}
use Rattle.finder_search.specs.Propagation.{is_met}
use Rattle.finder_search.specs.Query.{Satisfies, Query}
use Rattle.finder_search.specs.Trail.{slot_at, value_of, byte_of}
use Rattle.finder_search.specs.declared.trail.Slot.{Slot}
use Rattle.finder_search.specs.declared.trail.Slot.TheVariants.{Unset, Decided, Implied}
use Rattle.finder_search.proofs.LiteralLaws.{true_is}

bytes_binary : (ss : List Slot) → binary (map byte_of ss) ≡ true
bytes_binary [] = refl
bytes_binary (Unset ∷ ss) = bytes_binary ss
bytes_binary (Decided true d ∷ ss) = bytes_binary ss
bytes_binary (Decided false d ∷ ss) = bytes_binary ss
bytes_binary (Implied true d r ∷ ss) = bytes_binary ss
bytes_binary (Implied false d r ∷ ss) = bytes_binary ss

bytes_assign : (n : ℕ) (ss : List Slot) → length ss ≡ n → Assignment n (map byte_of ss)
bytes_assign n ss e = (length-map ss byte_of ∙ e, bytes_binary ss)

-- a true literal is true in what is byte_of
byte_value : (s : Slot) (l : ℤ) → is_so (truth (value_of s) l) ≡ true → same (eqb (byte_of s) 1) (positive l) ≡ true
byte_value Unset l h = absurd (both_ways false refl h)
byte_value (Decided true d) l h = h
byte_value (Decided false d) l h = h
byte_value (Implied true d r) l h = h
byte_value (Implied false d r) l h = h

module _ (n : ℕ) (ss : List Slot) (wide : length ss ≡ n) where
  bytes_true : (l : ℤ) → bad_literal n l ≡ false → is_true ss l ≡ true → true_in (map byte_of ss) l ≡ true
  bytes_true l good h =
      true_is n (map byte_of ss) l (bytes_assign n ss wide) good
      ∙ ap (λ x. same (eqb x 1) (positive l)) (get_or-map byte_of ss (index l) Unset)
      ∙ byte_value (slot_at ss (index l)) l h

  bytes_satisfy : (c : List ℤ) → All (λ l. bad_literal n l ≡ false) c → list_any (is_true ss) c ≡ true → satisfied_by (map byte_of ss) c ≡ true
  bytes_satisfy [] good h = absurd (both_ways false refl h)
  bytes_satisfy (l ∷ c) good h =
      ⊎_elim
      (λ e. or_left (true_in (map byte_of ss) l) _ (bytes_true l (All-head (λ x. bad_literal n x ≡ false) l c good) e))
      (λ e. or_right (true_in (map byte_of ss) l) _ (bytes_satisfy c (All-rest (λ x. bad_literal n x ≡ false) l c _ refl good) e))
      (or_cases (is_true ss l) (list_any (is_true ss) c) h)

  bytes_meet : (q : Query) (es : List Entry) → All (IsProper n) es → list_all (is_met q ss) es ≡ true → all_met q.set (map byte_of ss) es ≡ true
  bytes_meet q [] good h = refl
  bytes_meet q (e ∷ es) good h =
      let p = and_parts (is_met q ss e) (list_all (is_met q ss) es) h in
      and_from (met q.set (map byte_of ss) e.kind e.clause) (all_met q.set (map byte_of ss) es)
      (⊎_elim
      (λ out. or_left (not (wanted q.set e.kind)) _ out)
      (λ sat. or_right (not (wanted q.set e.kind)) _ (bytes_satisfy e.clause (All-head (IsProper n) e es good) sat))
      (or_cases (not (wanted q.set e.kind)) (list_any (is_true ss) e.clause) p.0))
      (bytes_meet q es (All-rest (IsProper n) e es _ refl good) p.1)

pub bytes_model : (q : Query) (ss : List Slot) → length ss ≡ q.table.n → All (IsProper q.table.n) q.table.entries → list_all (is_met q ss) q.table.entries ≡ true → Satisfies q.table q.set (map byte_of ss)
bytes_model q ss wide good h = (bytes_assign q.table.n ss wide, bytes_meet q.table.n ss wide q q.table.entries good h)
