-- At the beginning of a search no variable has a value; at its end the answer is told by what the finder means.
use Rattle.std.proofs.Common.{Result, Ok, Err, ◌≡◌, ℕ, zero, suc, ◌≤◌, true, List, ◌++◌, length, replicate, take, drop, refl, sym, ap, ◌∙◌, subst, arith}
use Rattle.std.proofs.Math.ListN.{get_or-map}
use Rattle.std.proofs.Math.Seq.{take-append_seam}
use Rattle.std.proofs.lemmas.List.{take-append-drop, take-replicate}
use Rattle.std.proofs.lemmas.Slice.{drop-append-drop}
use Rattle.terms.specs.Masks.{Below, below}
use Rattle.terms.proofs.MaskLaws.{below_members}
use Rattle.finders.specs.Questions.{Asked, Model, Core}
use Rattle.clause_tables.specs.Entries.{numbered, softs}
use Rattle.clause_tables.specs.Table.{Table, meaning_of}
use Rattle.clause_tables.proofs.Meeting.{met_decides}
use Rattle.finder_search.specs.Query.{Satisfies, Query}
use Rattle.finder_search.specs.Question.{answer_to}
use Rattle.finder_search.specs.Reasons.{Agrees, Follows, Excludes, bit}
use Rattle.finder_search.specs.Splitting.{Solved}
use Rattle.finder_search.specs.Trail.{slot_at, unset, decision_of, decisions, Within, level_of}
use Rattle.finder_search.specs.declared.reasons.Reason.{Reason}
use Rattle.finder_search.specs.declared.trail.Slot.TheVariants.{Unset}
use Rattle.finder_search.specs.declared.variable_sets.VariableSet.{VariableSet}
use Rattle.terms.specs.declared.limits.TheConstants.{MOST_VARIABLES, SOFT_PLACES}

-- ---- the trail without any value
unset_at : (n v : ℕ) → slot_at (replicate n Unset) v ≡ Unset
unset_at zero v = refl
unset_at (suc n) zero = refl
unset_at (suc n) (suc v) = unset_at n v

pub root_trail : (n m : ℕ) → n ≤ MOST_VARIABLES → n ≡ m → take n (replicate MOST_VARIABLES Unset) ≡ replicate m Unset
root_trail n m few e = take-replicate n MOST_VARIABLES Unset few ∙ ap (λ k. replicate k Unset) e

pub root_within : (n : ℕ) → Within 0 (replicate n Unset)
unfolding Within
root_within n v l = omega (arith, ap level_of (unset_at n v))

pub root_unset : (n : ℕ) → unset (replicate n Unset) ≡ n
unfolding unset
root_unset zero = refl
root_unset (suc n) = omega (arith, root_unset n)

root_follows : (n : ℕ) (E : VariableSet) (a : List ℕ) → Follows (decisions (replicate n Unset)) E a
unfolding Follows
root_follows n E a v h = subst (λ o. Agrees o (bit a v)) (sym (get_or-map decision_of (replicate n Unset) v Unset ∙ ap decision_of (unset_at n v))) tt

-- ---- the answer
satisfies_model : (t : Table) (set : ℕ) (a : List ℕ) → numbered 0 t.entries ≡ true → Satisfies t set a → Model (meaning_of t) set a
satisfies_model t set a order h =
    let met = (met_decides set a t.entries order).0 h.1 in
    record { assigns = h.0; admitted = met.0; meets = met.1 }

model_satisfies : (t : Table) (set : ℕ) (a : List ℕ) → numbered 0 t.entries ≡ true → Model (meaning_of t) set a → Satisfies t set a
model_satisfies t set a order h = (h.assigns, (met_decides set a t.entries order).1 (h.admitted, h.meets))

excludes_core : (q : Query) (r : Reason) → numbered 0 q.table.entries ≡ true → Below (length (softs q.table.entries)) q.set
    → Excludes q (decisions (replicate q.table.n Unset)) r → Core (meaning_of q.table) r.softs
excludes_core q r order given h = record {
  given = λ k m. given k (h.among k m);
  conflict = λ a model. h.none a (model_satisfies q.table r.softs a order model) (root_follows q.table.n r.decisions a);
}

-- at a core the buffer is as it was, and at a model behind the first n bytes
pub asked : (q : Query) (n : ℕ) (before after : List ℕ) (r : Result Unit Reason) → n ≡ q.table.n → numbered 0 q.table.entries ≡ true → Below (length (softs q.table.entries)) q.set
    → Solved q (replicate q.table.n Unset) (take n before) r after → Asked (meaning_of q.table) q.set before (Ok (answer_to r)) (after ++ drop n before)
asked q n before after (Ok u) e order given h = (
  subst (Model (meaning_of q.table) q.set) (sym (ap (λ k. take k (after ++ drop n before)) (sym h.0.0) ∙ take-append_seam after (drop n before))) (satisfies_model q.table q.set after order h),
  drop-append-drop n before after q.table.n (omega (arith, e)) (h.0.0 ∙ sym e),
)
asked q n before after (Err r) e order given h = (excludes_core q r order given h.0, h.0.among, ap (λ a. a ++ drop n before) h.1 ∙ take-append-drop n before)

pub few_known : (t : Table) (set : ℕ) → length (softs t.entries) ≤ SOFT_PLACES → Below (length (softs t.entries)) set → below SOFT_PLACES set ≡ true
few_known t set few given = (below_members SOFT_PLACES set).1 (λ k m. omega (arith, few, given k m))
