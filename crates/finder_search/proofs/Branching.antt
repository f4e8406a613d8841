-- What follows from the reasons why the two truths of a variable have no model.
use Rattle.std.proofs.Common.{◌≡◌, ◌≢◌, ◌⊎◌, inl, inr, ℕ, ◌<◌, Bool, true, false, not, ◌||◌, eqb, List, length, get_or, set, Some, None, Option, sym, refl, ap, ◌∙◌, subst, ⊎_elim}
use Rattle.std.proofs.lemmas.Bool.{both_ways, and_from, or_cases, or_left, or_right, cases_eq, ne_eqb}
use Rattle.std.proofs.lemmas.List.{get_or-set_same, get_or-set_other}
use Rattle.terms.specs.Masks.{member, Subset}
use Rattle.finder_search.specs.Query.{Satisfies, Query}
use Rattle.finder_search.specs.Reasons.{bit, Agrees, Follows, Excludes, IsJoined}
use Rattle.finder_search.specs.VariableSets.{has}
use Rattle.finder_search.specs.declared.reasons.Reason.{Reason}
use Rattle.finder_search.proofs.Soundness.{follows_more}
use Rattle.finder_search.proofs.Reasoning.{satisfies_fewer}

module _ (q : Query) (cs : List (Option Bool)) (k : ℕ) (l : k < length cs) where
  -- a reason without the decision excludes as much where the decision is not made
  pub excludes_unused : (b : Bool) (r : Reason) → has r.decisions k ≡ false → Excludes q (set cs k (Some b)) r → Excludes q cs r
  excludes_unused b r unused h = record {
    among = h.among;
    none = λ a s f. h.none a s (follows_more cs k b r.decisions a l (λ e. absurd (both_ways (has r.decisions k) unused e)) f);
  }

  -- without the decision itself, the reason is of those assignments that have this value
  excludes_with : (b : Bool) (o r : Reason) → Subset o.softs r.softs → ((v : ℕ) → has o.decisions v ≡ true → k ≢ v → has r.decisions v ≡ true)
      → Excludes q (set cs k (Some b)) o → (a : List ℕ) → Satisfies q.table r.softs a → Follows cs r.decisions a → bit a k ≡ b → ⊥
  unfolding Follows
  excludes_with b o r softs more h a s f own =
      h.none a (satisfies_fewer q.table o.softs r.softs a softs s) (λ v e.
      ⊎_elim
      (λ (same : v ≡ k). follows_here v same)
      (λ ne. subst (λ o. Agrees o (bit a v)) (sym (get_or-set_other cs k v (Some b) None ne)) (f v (more v e (λ z. ne (sym z)))))
      (cases_eq v k))
    where
      follows_here : (v : ℕ) → v ≡ k → Agrees (get_or (set cs k (Some b)) v None) (bit a v)
      follows_here v same = subst (λ j. Agrees (get_or (set cs k (Some b)) j None) (bit a j)) (sym same)
          (subst (λ o. Agrees o (bit a k)) (sym (get_or-set_same cs k (Some b) None l)) own)

  -- both reasons together, without the decision
  pub excludes_both : (b c : Bool) (p o r : Reason) → not b ≡ c → IsJoined p o k r
      → Excludes q (set cs k (Some b)) p → Excludes q (set cs k (Some c)) o → Excludes q cs r
  excludes_both b c p o r other joined hp ho = record {
    among = λ j e. ⊎_elim (hp.among j) (ho.among j) (or_cases (member p.softs j) (member o.softs j) (sym (joined.1 j) ∙ e));
    none = λ a s f.
        ⊎_elim
        (λ e. excludes_with b p r (λ j m. joined.1 j ∙ or_left (member p.softs j) (member o.softs j) m)
        (λ v m ne. joined.0 v ∙ and_from (has p.decisions v || has o.decisions v) (not (eqb k v)) (or_left (has p.decisions v) (has o.decisions v) m) (ap not (ne_eqb k v ne))) hp a s f e)
        (λ e. excludes_with c o r (λ j m. joined.1 j ∙ or_right (member p.softs j) (member o.softs j) m)
        (λ v m ne. joined.0 v ∙ and_from (has p.decisions v || has o.decisions v) (not (eqb k v)) (or_right (has p.decisions v) (has o.decisions v) m) (ap not (ne_eqb k v ne))) ho a s f e)
        (either (bit a k) b c other);
  }
    where
      either : (x b c : Bool) → not b ≡ c → (x ≡ b) ⊎ (x ≡ c)
      either true true c e = inl refl
      either true false c e = inr e
      either false true c e = inr e
      either false false c e = inl refl
