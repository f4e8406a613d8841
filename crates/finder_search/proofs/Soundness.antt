-- What was implied stays so when one variable more is set.
use Rattle.std.proofs.Common.{◌≡◌, ℕ, ◌<◌, Bool, true, List, length, set, get_or, Some, None, Option, sym, ap, ◌∙◌, subst, ⊎_elim, arith}
use Rattle.std.proofs.lemmas.Bool.{cases_eq}
use Rattle.std.proofs.lemmas.List.{length-set, get_or-set_same, get_or-set_other}
use Rattle.std.proofs.Math.ListN.{get_or-map}
use Rattle.finder_search.specs.Propagation.{Sound}
use Rattle.finder_search.specs.Reasons.{bit, Agrees, Follows, Backed}
use Rattle.finder_search.specs.Trail.{slot_at, is_unset, decision_of, decisions}
use Rattle.finder_search.specs.VariableSets.{has}
use Rattle.finder_search.specs.declared.reasons.Reason.{Reason}
use Rattle.finder_search.specs.declared.trail.Slot.{Slot}
use Rattle.finder_search.specs.declared.trail.Slot.TheVariants.{Unset, Decided, Implied}
use Rattle.finder_search.specs.declared.variable_sets.VariableSet.{VariableSet}
use Rattle.finder_search.proofs.Extending.{unset_is, decisions_implied, decisions_decided}
use Rattle.finder_search.specs.Query.{Query}

-- no decision for the variable that has no value
decision_at : (ss : List Slot) (k : ℕ) → is_unset (slot_at ss k) ≡ true → get_or (decisions ss) k None ≡ None
decision_at ss k free = get_or-map decision_of ss k Unset ∙ ap decision_of (unset_is (slot_at ss k) free)

-- ---- choosing for a variable more leaves fewer assignments
follows_fewer : (cs : List (Option Bool)) (k : ℕ) (b : Bool) (E : VariableSet) (a : List ℕ) → get_or cs k None ≡ None → Follows (set cs k (Some b)) E a → Follows cs E a
unfolding Follows
follows_fewer cs k b E a none f v h =
    ⊎_elim
    (λ (e : v ≡ k). subst (λ o. Agrees o (bit a v)) (sym (ap (λ j. get_or cs j None) e ∙ none)) tt)
    (λ ne. subst (λ o. Agrees o (bit a v)) (get_or-set_other cs k v (Some b) None ne) (f v h))
    (cases_eq v k)

-- and no fewer of those that give it this value, or where it is not visited at
pub follows_more : (cs : List (Option Bool)) (k : ℕ) (b : Bool) (E : VariableSet) (a : List ℕ) → k < length cs → (has E k ≡ true → bit a k ≡ b) → Follows cs E a → Follows (set cs k (Some b)) E a
unfolding Follows
follows_more cs k b E a l own f v h =
    ⊎_elim
    (λ (e : v ≡ k). subst (λ j. Agrees (get_or (set cs k (Some b)) j None) (bit a j)) (sym e)
    (subst (λ o. Agrees o (bit a k)) (sym (get_or-set_same cs k (Some b) None l)) (own (subst (λ j. has E j ≡ true) e h))))
    (λ ne. subst (λ o. Agrees o (bit a v)) (sym (get_or-set_other cs k v (Some b) None ne)) (f v h))
    (cases_eq v k)

backed_fewer : (q : Query) (cs ds : List (Option Bool)) (v : ℕ) (s : Slot) → ((E : VariableSet) (a : List ℕ) → Follows ds E a → Follows cs E a) → Backed q cs v s → Backed q ds v s
backed_fewer q cs ds v Unset f h = tt
backed_fewer q cs ds v (Decided b d) f h = tt
backed_fewer q cs ds v (Implied b d r) f h = (h.0, λ a s g. h.1 a s (f r.decisions a g))

-- ---- the trail with one changed
backed_set : (q : Query) (cs : List (Option Bool)) (ss : List Slot) (k : ℕ) (s : Slot) → k < length ss
    → ((v : ℕ) → v < length ss → Backed q cs v (slot_at ss v)) → Backed q cs k s
    → (v : ℕ) → v < length (set ss k s) → Backed q cs v (slot_at (set ss k s) v)
backed_set q cs ss k s l old new v h =
    ⊎_elim
    (λ (e : v ≡ k). subst (λ j. Backed q cs j (slot_at (set ss k s) j)) (sym e) (subst (Backed q cs k) (sym (get_or-set_same ss k s Unset l)) new))
    (λ ne. subst (Backed q cs v) (sym (get_or-set_other ss k v s Unset ne)) (old v (omega (arith, h, length-set ss k s))))
    (cases_eq v k)

pub sound_implied : (q : Query) (ss : List Slot) (k : ℕ) (b : Bool) (d : ℕ) (r : Reason) → k < length ss → is_unset (slot_at ss k) ≡ true
    → Sound q ss → Backed q (decisions ss) k (Implied b d r) → Sound q (set ss k (Implied b d r))
sound_implied q ss k b d r l free s new = record {
  wide = length-set ss k (Implied b d r) ∙ s.wide;
  backed = subst (λ cs. (v : ℕ) → v < length (set ss k (Implied b d r)) → Backed q cs v (slot_at (set ss k (Implied b d r)) v)) (sym (decisions_implied ss k b d r free))
      (backed_set q (decisions ss) ss k (Implied b d r) l s.backed new);
}

pub sound_decided : (q : Query) (ss : List Slot) (k : ℕ) (b : Bool) (d : ℕ) → k < length ss → is_unset (slot_at ss k) ≡ true
    → Sound q ss → Sound q (set ss k (Decided b d))
sound_decided q ss k b d l free s = record {
  wide = length-set ss k (Decided b d) ∙ s.wide;
  backed = subst (λ cs. (v : ℕ) → v < length (set ss k (Decided b d)) → Backed q cs v (slot_at (set ss k (Decided b d)) v)) (sym (decisions_decided ss k b d))
      (backed_set q (set (decisions ss) k (Some b)) ss k (Decided b d) l
      (λ v m. backed_fewer q (decisions ss) (set (decisions ss) k (Some b)) v (slot_at ss v) (λ E a. follows_fewer (decisions ss) k b E a (decision_at ss k free)) (s.backed v m))
      tt);
}
