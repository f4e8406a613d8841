-- Clauses that are visited at one after another: which of them are quiet, and which are still to be visited at.
use Rattle.std.proofs.Common.{◌≡◌, ℕ, zero, suc, ◌+◌, ◌<◌, Bool, true, false, not, ◌&&◌, ◌||◌, eqb, ltb, List, [], ◌∷◌, length, slice_get, All, ℤ, Some, Ok, Err, Result, sym, ap, ◌∙◌, subst, ⊎_elim, arith}
use Rattle.std.proofs.lemmas.Bool.{or_parts, or_from, or_left, and_cases, cases_Bool, eqb-true}
use Rattle.std.proofs.lemmas.Bool.Decides.{nat_tests}
use Rattle.std.proofs.lemmas.Option.{slice_get_within, same_Some}
use Rattle.clause_tables.specs.Entries.{Entry, IsProper}
use Rattle.clause_tables.specs.Wanted.{wanted}
use Rattle.finder_search.specs.Literals.{negated}
use Rattle.finder_search.specs.Occurrences.{has_number, occurs_in, occurs_among}
use Rattle.finder_search.specs.Propagation.{Quiet, Propagated, Keeps, is_met, is_quiet, losing, one_clause}
use Rattle.finder_search.specs.Reasons.{Excludes}
use Rattle.finder_search.specs.Trail.{Extends}
use Rattle.finder_search.specs.declared.reasons.Reason.{Reason}
use Rattle.finder_search.specs.declared.trail.Slot.{Slot}
use Rattle.finder_search.proofs.Belonging.{listed_belongs}
use Rattle.finder_search.specs.Query.{Query}

-- those to be visited at from ss on are quiet in ts but for the rest of them
abbrev pub Visited : Query → (ℕ → Bool) → (ℕ → Bool) → List Slot → List Slot → Type 0
Visited q visited rest ss ts = (pending : ℕ → Bool) → Quiet q (λ k. pending k || visited k) ss → Quiet q (λ k. pending k || rest k) ts

pub visited_none : (q : Query) (visited rest : ℕ → Bool) (ss : List Slot) → ((k : ℕ) → rest k ≡ visited k) → Visited q visited rest ss ss
visited_none q visited rest ss e pending quiet k x at w =
    let p = or_parts (pending k) (rest k) w in
    quiet k x at (or_from (pending k) (visited k) p.0 (sym (e k) ∙ p.1))

-- one more is visited at
pub visited_more : (q : Query) (n : ℕ) (visited rest more : ℕ → Bool) (ss ts us : List Slot) → ((k : ℕ) → rest k ≡ (eqb n k || more k))
    → Visited q visited rest ss ts → Propagated q (one_clause n) ts (Ok tt) us → Visited q visited more ss us
visited_more q n visited rest more ss ts us e so_far visit pending quiet =
    visit (λ k. pending k || more k) (λ k x at w.
    let p = or_parts (pending k || more k) (eqb n k) w in
    let q = or_parts (pending k) (more k) p.0 in
    so_far pending quiet k x at (or_from (pending k) (rest k) q.0 (e k ∙ or_from (eqb n k) (more k) p.1 q.1)))

-- none is left
pub visited_all : (q : Query) (visited rest : ℕ → Bool) (ss ts : List Slot) → ((k : ℕ) → k < length q.table.entries → rest k ≡ false)
    → Visited q visited rest ss ts → Propagated q visited ss (Ok tt) ts
visited_all q visited rest ss ts none so_far pending quiet k x at w =
    so_far pending quiet k x at (or_from (pending k) (rest k) w (none k (slice_get_within q.table.entries k x at)))

-- ---- one clause of which the last literal is made true, and what follows from that
occurs_here : (set : ℕ) (l : ℤ) (es : List Entry) (k : ℕ) (e : Entry) → slice_get es k ≡ Some e → occurs_among set l es k ≡ (wanted set e.kind && occurs_in l e)
occurs_here set l [] k e at = absurd (omega (arith, slice_get_within [] k e at))
occurs_here set l (x ∷ es) zero e at = ap (λ y. wanted set y.kind && occurs_in l y) (same_Some x e at)
occurs_here set l (x ∷ es) (suc k) e at = occurs_here set l es k e at

-- a clause that stays quiet, or in which the opposite stands
pub kept_quiet : (q : Query) (k : ℕ) (u : ℤ) (x : Entry) (ss us : List Slot) → All (IsProper q.table.n) q.table.entries → slice_get q.table.entries k ≡ Some x → Keeps q u ss us → is_quiet q ss x ≡ true
    → losing q u k ≡ false → is_quiet q us x ≡ true
kept_quiet q k u x ss us proper at keeps was without =
    ⊎_elim
    (λ (out : wanted q.set x.kind ≡ false). or_left (is_met q us x) _ (or_left (not (wanted q.set x.kind)) _ (ap not out)))
    (λ none. keeps x (listed_belongs q.table x k proper at).0 was none)
    (and_cases (wanted q.set x.kind) (occurs_in (negated u) x) (sym (occurs_here q.set (negated u) q.table.entries k x at) ∙ without))

pub visited_last : (q : Query) (number level : ℕ) (u : ℤ) (e : Entry) (ss us ts : List Slot) (r : Result Unit Reason) → All (IsProper q.table.n) q.table.entries → slice_get q.table.entries number ≡ Some e
    → Extends level ss us → Keeps q u ss us → is_quiet q us e ≡ true → Propagated q (losing q u) us r ts → Propagated q (one_clause number) ss r ts
visited_last q number level u e ss us ts (Err r) proper this extends keeps own propagated = subst (λ cs. Excludes q cs r) extends.decided propagated
visited_last q number level u e ss us ts (Ok x) proper this extends keeps own propagated = λ pending quiet.
    propagated pending (λ k y at w.
    let p = or_parts (pending k) (losing q u k) w in
    ⊎_elim
    (λ (here : eqb number k ≡ true).
    subst (λ z. is_quiet q us z ≡ true) (same_Some e y (sym this ∙ ap (slice_get q.table.entries) (eqb-true number k here) ∙ at)) own)
    (λ elsewhere. kept_quiet q k u y ss us proper at keeps (quiet k y at (or_from (pending k) (eqb number k) p.0 elsewhere)) p.1)
    (cases_Bool (eqb number k)))

-- ---- the rest by a list of numbers, and by the number that is next
pub number_more : (ns rest : List ℕ) (k m n : ℕ) → ns ≡ m ∷ rest → n ≡ m → has_number ns k ≡ (eqb n k || has_number rest k)
number_more ns rest k m n e same = ap (λ js. has_number js k) e ∙ ap (λ j. eqb j k || has_number rest k) (sym same)

pub number_none : (ns : List ℕ) (k : ℕ) → ns ≡ [] → has_number ns k ≡ false
number_none ns k e = ap (λ js. has_number js k) e

abbrev pub from_on : ℕ → ℕ → Bool
from_on i k = not (ltb k i)

pub from_on_more : (i k : ℕ) → from_on i k ≡ (eqb i k || from_on (i + 1) k)
from_on_more i k = grind (arith, nat_tests)

pub from_on_all : (i k : ℕ) → k < i → from_on i k ≡ false
from_on_all i k l = grind (arith, nat_tests)
