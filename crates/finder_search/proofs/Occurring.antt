-- Chains of nodes and how one grows, and the clauses that have been read so far.
use Rattle.std.proofs.Common.{◌≡◌, ◌≢◌, ℕ, zero, suc, ◌+◌, ◌-◌, ◌<◌, ◌≤◌, Bool, true, false, ◌&&◌, ◌||◌, ◌⊎◌, eqb, ltb, if◌then◌else◌, List, [], ◌∷◌, ◌++◌, length, reverse, take, drop, slice_range, get_or, set, All, ℤ, pos, negsuc, w32, SFits, to_z, of_z, Decides, sym, refl, ap, ◌∙◌, ap₂, subst, arith}
use Rattle.std.proofs.Math.Bool.{or-false, or_assoc}
use Rattle.std.proofs.lemmas.Bool.{both_ways, or_parts, or_from, eq-eqb, ne_eqb, ltb-false, le-ltb}
use Rattle.std.proofs.lemmas.Bool.Decides.{Decides-int_eq}
use Rattle.std.proofs.lemmas.List.{length-append, length-reverse, length-take-le, reverse-append, take-append-drop, take_more_set, get_or-set_same, get_or-set_other}
use Rattle.std.proofs.lemmas.List.Elements.{All-head, All-rest, All-weaker}
use Rattle.std.proofs.lemmas.List.Sums.{sum_by-cons}
use Rattle.std.proofs.lemmas.List.Folds.{list_any_more}
use Rattle.std.proofs.lemmas.Int.{to_z-of_z}
use Rattle.std.specs.List.{IsLastAndRest, list_any}
use Rattle.std.specs.Ordering.{int_eq}
use Rattle.terms.specs.Clauses.{bad_literal, variable}
use Rattle.clause_tables.specs.Entries.{Entry, IsProper, literal_count}
use Rattle.clause_tables.specs.Wanted.{wanted}
use Rattle.finder_search.specs.Literals.{row}
use Rattle.finder_search.specs.Occurrences.{AddsClause, chain, has_number, numbers_with, occurs, occurs_in, occurs_among}
use Rattle.finder_search.specs.declared.occurrences.Node.{Node}
use Rattle.finder_search.specs.declared.occurrences.Occurrences.{Occurrences}
use Rattle.finder_search.proofs.LiteralLaws.{index_within}
use Rattle.finder_search.specs.Query.{Query}
use Rattle.finder_search.specs.declared.literals.TheConstants.{LITERAL_ROWS}
use Rattle.terms.specs.declared.limits.TheConstants.{MOST_VARIABLES, TABLE_PLACES}

-- ---- a chain
chain_none : (ns : List Node) (h : ℕ) → h ≡ 0 → chain ns h ≡ []
unfolding chain
chain_none [] h e = refl
chain_none (n ∷ ns) h e =
    ap (λ b. if b then n.number ∷ chain ns n.next else chain ns h) (ne_eqb h (suc (length ns)) (λ z. omega arith)) ∙ chain_none ns h e

chain_past : (ns : List Node) (h : ℕ) → length ns < h → chain ns h ≡ []
unfolding chain
chain_past [] h l = refl
chain_past (n ∷ ns) h l =
    ap (λ b. if b then n.number ∷ chain ns n.next else chain ns h) (ne_eqb h (suc (length ns)) (λ e. omega arith)) ∙ chain_past ns h (omega arith)

chain_newest : (n : Node) (ns : List Node) (h : ℕ) → h ≡ suc (length ns) → chain (n ∷ ns) h ≡ n.number ∷ chain ns n.next
unfolding chain
chain_newest n ns h e = ap (λ b. if b then n.number ∷ chain ns n.next else chain ns h) (eq-eqb h (suc (length ns)) e)

chain_older : (n : Node) (ns : List Node) (h : ℕ) → h ≤ length ns → chain (n ∷ ns) h ≡ chain ns h
unfolding chain
chain_older n ns h l = ap (λ b. if b then n.number ∷ chain ns n.next else chain ns h) (ne_eqb h (suc (length ns)) (λ e. omega arith))

chain_among : (xs ys : List Node) (h : ℕ) → h ≤ length ys → chain (xs ++ ys) h ≡ chain ys h
chain_among [] ys h l = refl
chain_among (x ∷ xs) ys h l = chain_older x (xs ++ ys) h (omega (arith, length-append xs ys)) ∙ chain_among xs ys h l

-- ---- a step along a chain
pub past_along : (ns : List Node) (h : ℕ) → (h < 0) ⊎ (length ns < h) → chain (reverse ns) h ≡ []
past_along ns h l = chain_past (reverse ns) h (omega (arith, length-reverse ns, l))

pub none_along : (ns part : List Node) (h : ℕ) → length part + 0 ≡ h → length part ≡ 0 → chain (reverse ns) h ≡ []
none_along ns part h long none = chain_none (reverse ns) h (omega arith)

pub one_along : (ns part older : List Node) (n : Node) (h : ℕ) → part ≡ slice_range ns 0 h → length part + 0 ≡ h → IsLastAndRest part n older
    → chain (reverse ns) h ≡ n.number ∷ chain (reverse older) n.next
one_along ns part older n h e long last =
    let end = length-reverse older in
    let front = ap (λ k. take k ns) (let z : h ≡ h - 0 = omega arith in z) ∙ sym e ∙ last.0 in
    ap (λ xs. chain (reverse xs) h) (sym (take-append-drop h ns) ∙ ap (λ xs. xs ++ drop h ns) front)
    ∙ ap (λ xs. chain xs h) (reverse-append (older ++ n ∷ []) (drop h ns) ∙ ap (λ xs. reverse (drop h ns) ++ xs) (reverse-append older (n ∷ [])))
    ∙ chain_among (reverse (drop h ns)) (n ∷ reverse older) h (omega (arith, end, last.1))
    ∙ chain_newest n (reverse older) h (omega (arith, end, last.1))

-- ---- rows
row_within : (l : ℤ) → bad_literal MOST_VARIABLES l ≡ false → row l < LITERAL_ROWS
row_within (pos k) h = omega (arith, index_within MOST_VARIABLES (pos k) h)
row_within (negsuc k) h = omega (arith, index_within MOST_VARIABLES (negsuc k) h)

row_one : (n : ℕ) (x l : ℤ) → bad_literal n x ≡ false → bad_literal n l ≡ false → row x ≡ row l → x ≡ l
row_one n (pos zero) l g h e = absurd (both_ways true g refl)
row_one n (pos (suc a)) (pos zero) g h e = absurd (both_ways true h refl)
row_one n (pos (suc a)) (pos (suc b)) g h e = ap (λ k. pos (suc k)) (let z : a ≡ b = omega arith in z)
row_one n (pos (suc a)) (negsuc b) g h e = absurd (omega arith)
row_one n (negsuc a) (pos zero) g h e = absurd (both_ways true h refl)
row_one n (negsuc a) (pos (suc b)) g h e = absurd (omega arith)
row_one n (negsuc a) (negsuc b) g h e = ap negsuc (let z : a ≡ b = omega arith in z)

-- ---- one more node, in front of the chain of the literal x
-- a chain is longer by the node where it is that of x, and else as before
longer : (hs : List ℕ) (older : List Node) (newest : Node) (x l : ℤ) → bad_literal MOST_VARIABLES x ≡ false → bad_literal MOST_VARIABLES l ≡ false → LITERAL_ROWS ≤ length hs
    → newest.next ≡ get_or hs (row x) 0 → All (λ h. h ≤ length older) hs
    → chain (newest ∷ older) (get_or (set hs (row x) (suc (length older))) (row l) 0)
    ≡ (if int_eq x l then newest.number ∷ chain older (get_or hs (row l) 0) else chain older (get_or hs (row l) 0))
longer hs older newest x l good fine long next rooted = by (int_eq x l) (Decides-int_eq x l)
  where
    by : (b : Bool) → Decides b (x ≡ l)
        → chain (newest ∷ older) (get_or (set hs (row x) (suc (length older))) (row l) 0) ≡ (if b then newest.number ∷ chain older (get_or hs (row l) 0) else chain older (get_or hs (row l) 0))
    by true d =
        let same = d.0 refl in
        ap (λ z. chain (newest ∷ older) (get_or (set hs (row x) (suc (length older))) (row z) 0)) (sym same)
        ∙ chain_newest newest older _ (get_or-set_same hs (row x) (suc (length older)) 0 (omega (arith, row_within x good, long)))
        ∙ ap (λ z. newest.number ∷ chain older z) (next ∙ ap (λ z. get_or hs (row z) 0) same)
    by false d =
        let differ : row l ≢ row x = λ e. both_ways false refl (d.1 (row_one MOST_VARIABLES x l good fine (sym e))) in
        ap (chain (newest ∷ older)) (get_or-set_other hs (row x) (row l) (suc (length older)) 0 differ)
        ∙ chain_older newest older (get_or hs (row l) 0) (rooted (row l) 0 (omega (arith, row_within l fine, long)))

pub pushed : (hs : List ℕ) (ns : List Node) (used number r : ℕ) (x l : ℤ) → r ≡ row x → bad_literal MOST_VARIABLES x ≡ false → bad_literal MOST_VARIABLES l ≡ false
    → LITERAL_ROWS ≤ length hs → used < length ns → All (λ h. h ≤ used) hs
    → chain (reverse (take (used + 1) (set ns used (record { number = number; next = get_or hs r 0 })))) (get_or (set hs r (used + 1)) (row l) 0)
    ≡ (if int_eq x l then number ∷ chain (reverse (take used ns)) (get_or hs (row l) 0) else chain (reverse (take used ns)) (get_or hs (row l) 0))
pushed hs ns used number r x l is good fine long room rooted =
    let newest : Node = record { number = number; next = get_or hs r 0 } in
    let older = reverse (take used ns) in
    let count : used ≡ length older = sym (length-reverse (take used ns) ∙ length-take-le used ns (omega arith)) in
    let head : used + 1 ≡ suc (length older) = omega (arith, count) in
    ap₂ (λ zs k. chain zs (get_or (set hs r k) (row l) 0)) (ap reverse (take_more_set ns used newest room) ∙ reverse-append (take used ns) (newest ∷ [])) head
    ∙ ap (λ z. chain (newest ∷ older) (get_or (set hs z (suc (length older))) (row l) 0)) is
    ∙ longer hs older newest x l good fine long (ap (λ z. get_or hs z 0) is) (subst (λ k. All (λ h. h ≤ k) hs) count rooted)

-- ---- the clauses that are still to come, where the first of them has this number
abbrev pub occurs_from : ℕ → ℕ → ℤ → List Entry → ℕ → Bool
occurs_from first set l [] k = false
occurs_from first set l (e ∷ es) k = (eqb first k && (wanted set e.kind && occurs_in l e)) || occurs_from (suc first) set l es k

none_before : (s set : ℕ) (l : ℤ) (es : List Entry) (k : ℕ) → k < s → occurs_from s set l es k ≡ false
none_before s set l [] k h = refl
none_before s set l (e ∷ es) k h =
    ap₂ (λ b c. (b && (wanted set e.kind && occurs_in l e)) || c) (ne_eqb s k (λ z. omega arith)) (none_before (suc s) set l es k (omega arith))

occurs_at : (s set : ℕ) (l : ℤ) (es : List Entry) (k : ℕ) → occurs_from s set l es (s + k) ≡ occurs_among set l es k
occurs_at s set l [] k = refl
occurs_at s set l (e ∷ es) zero =
    ap₂ (λ b c. (b && (wanted set e.kind && occurs_in l e)) || c) (eq-eqb s (s + 0) (omega arith)) (none_before (suc s) set l es (s + 0) (omega arith))
    ∙ or-false (wanted set e.kind && occurs_in l e)
occurs_at s set l (e ∷ es) (suc k) =
    let further : s + suc k ≡ suc s + k = omega arith in
    ap₂ (λ b c. (b && (wanted set e.kind && occurs_in l e)) || c) (ne_eqb s (s + suc k) (λ z. omega arith)) (ap (occurs_from (suc s) set l es) further ∙ occurs_at (suc s) set l es k)

occurs_all : (set : ℕ) (l : ℤ) (es : List Entry) (k : ℕ) → occurs_from 0 set l es k ≡ occurs_among set l es k
occurs_all set l es k = ap (occurs_from 0 set l es) (let z : k ≡ 0 + k = omega arith in z) ∙ occurs_at 0 set l es k

-- ---- one literal more of the clause with this number
one_more : (n old b c : Bool) (number k : ℕ) (js : List ℕ) → n ≡ eqb number k → has_number js k ≡ (old || (n && b))
    → has_number (if c then number ∷ js else js) k ≡ (old || (n && (b || c)))
one_more n old b true number k js e h = ap₂ (λ x y. x || y) (sym e) h ∙ by n old b
  where
    by : (n old b : Bool) → (n || (old || (n && b))) ≡ (old || (n && (b || true)))
    by true true b = refl
    by true false true = refl
    by true false false = refl
    by false true b = refl
    by false false b = refl
one_more n old b false number k js e h = h ∙ ap (λ x. old || (n && x)) (sym (or-false b))

pub literal_added : (old : Bool) (xs : List ℤ) (i number k : ℕ) (x : ℤ) (js : List ℕ) {ks : List ℕ} → i < length xs → SFits w32 (get_or xs i (pos 0))
    → has_number js k ≡ (old || (eqb number k && list_any (λ y. int_eq y x) (take i xs)))
    → ks ≡ (if int_eq (to_z w32 (of_z w32 (get_or xs i (pos 0)))) x then number ∷ js else js)
    → has_number ks k ≡ (old || (eqb number k && list_any (λ y. int_eq y x) (take (i + 1) xs)))
literal_added old xs i number k x js l fits before e =
    ap (λ ms. has_number ms k) (e ∙ ap (λ y. if int_eq y x then number ∷ js else js) (to_z-of_z w32 (get_or xs i (pos 0)) fits))
    ∙ one_more (eqb number k) old (list_any (λ y. int_eq y x) (take i xs)) (int_eq (get_or xs i (pos 0)) x) number k js refl before
    ∙ ap (λ b. old || (eqb number k && b)) (sym (list_any_more (λ y. int_eq y x) xs i (pos 0) l))

-- a literal that is not bad among few variables is not bad among more
good_more : (m n : ℕ) (l : ℤ) → m ≤ n → bad_literal m l ≡ false → bad_literal n l ≡ false
good_more m n l wider h =
    let p = or_parts (eqb (variable l) 0) (ltb m (variable l)) h in
    or_from (eqb (variable l) 0) (ltb n (variable l)) p.0 (le-ltb n (variable l) (omega (arith, ltb-false m (variable l) p.1)))

-- ---- what holds while clauses are still to come, the first of them with this number
pub record Coming (q : Query) (number : ℕ) (o : Occurrences) (rest : List Entry) : Type 0 where
  pub proper : All (IsProper MOST_VARIABLES) rest
  pub few : number + length rest ≤ TABLE_PLACES
  pub short : o.used + literal_count rest ≤ TABLE_PLACES
  pub told : (l : ℤ) → bad_literal q.table.n l ≡ false → (k : ℕ) → (has_number (numbers_with o l) k || occurs_from number q.set l rest k) ≡ occurs q l k

pub coming_first : (q : Query) (o : Occurrences) (es : List Entry) → es ≡ q.table.entries → q.table.n ≤ MOST_VARIABLES → All (IsProper q.table.n) q.table.entries → length q.table.entries ≤ TABLE_PLACES → literal_count q.table.entries ≤ TABLE_PLACES
    → o.used ≡ 0 → ((l : ℤ) → numbers_with o l ≡ []) → Coming q 0 o es
coming_first q o es all narrow proper few short unused none = subst (Coming q 0 o) (sym all) (record {
  proper = All-weaker (IsProper q.table.n) (IsProper MOST_VARIABLES) (λ e. All-weaker (λ x. bad_literal q.table.n x ≡ false) (λ x. bad_literal MOST_VARIABLES x ≡ false) (λ x. good_more q.table.n MOST_VARIABLES x narrow) e.clause) q.table.entries proper;
  few = omega arith;
  short = omega arith;
  told = λ l good k. ap (λ js. has_number js k || occurs_from 0 q.set l q.table.entries k) (none l) ∙ occurs_all q.set l q.table.entries k;
})

pub coming_here : (q : Query) (number : ℕ) (o : Occurrences) (e : Entry) (rest es : List Entry) → Coming q number o es → es ≡ e ∷ rest
    → IsProper MOST_VARIABLES e × (o.used + length e.clause ≤ TABLE_PLACES) × (number < TABLE_PLACES)
coming_here q number o e rest es so is =
    let here = subst (Coming q number o) is so in
    (All-head (IsProper MOST_VARIABLES) e rest here.proper, omega (arith, here.short, sum_by-cons (λ x. length x.clause) e rest), omega (arith, here.few))

pub coming_more : (q : Query) (number next : ℕ) (o p : Occurrences) (e : Entry) (rest es : List Entry) → q.table.n ≤ MOST_VARIABLES → Coming q number o es → es ≡ e ∷ rest → next ≡ number + 1
    → p.used ≤ o.used + length e.clause
    → AddsClause o p q.set number e → Coming q next p rest
coming_more q number next o p e rest es narrow coming first is used added = let so = subst (Coming q number o) first coming in record {
  proper = All-rest (IsProper MOST_VARIABLES) e rest (e ∷ rest) refl so.proper;
  few = omega (arith, so.few);
  short = omega (arith, so.short, sum_by-cons (λ x. length x.clause) e rest);
  told = λ l good k.
      ap₂ (λ b j. b || occurs_from j q.set l rest k) (added l (good_more q.table.n MOST_VARIABLES l narrow good) k) (let z : next ≡ suc number = omega arith in z)
      ∙ or_assoc (has_number (numbers_with o l) k) (eqb number k && (wanted q.set e.kind && occurs_in l e)) (occurs_from (suc number) q.set l rest k)
      ∙ so.told l good k;
}

pub all_told : (q : Query) (number : ℕ) (o : Occurrences) (es : List Entry) → Coming q number o es → es ≡ []
    → (l : ℤ) → bad_literal q.table.n l ≡ false → (k : ℕ) → has_number (numbers_with o l) k ≡ occurs q l k
all_told q number o es so none l good k = sym (or-false (has_number (numbers_with o l) k)) ∙ (subst (Coming q number o) none so).told l good k
