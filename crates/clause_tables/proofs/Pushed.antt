-- What the tables hold and mean with one clause more.
use Rattle.std.proofs.Common.{◌≡◌, ℕ, ◌+◌, ◌-◌, ◌<◌, ◌≤◌, true, ◌&&◌, eqb, ltb, List, [], ◌∷◌, ◌++◌, map, length, take, drop, All, ℤ, None, sym, refl, ap, ◌∙◌, ap₂, arith}
use mathlib.Core.Path.{fun_ext}
use Rattle.std.proofs.lemmas.List.{map-append, append-nil, length-append, length-drop, drop-append-le, take-append-le}
use Rattle.std.proofs.lemmas.List.Elements.{All-head, All-tail, All-same, All-weaker, All-push}
use Rattle.std.specs.List.{list_all}
use Rattle.std.proofs.lemmas.List.Folds.{list_all-append}
use Rattle.std.proofs.lemmas.Grind.{flat_map-append}
use Rattle.std.proofs.Math.Seq.{drop-append_seam, take-length}
use Rattle.std.proofs.Math.Bool.{and-true}
use Rattle.std.proofs.lemmas.Bool.{or_parts, and_from, and_parts, ltb-false, eqb-false}
use Rattle.terms.specs.Clauses.{satisfied_by, FirstBad}
use Rattle.terms.specs.Earliest.{earliest}
use Rattle.terms.specs.declared.limits.TheConstants.{MOST_LITERALS}
use Rattle.terms.proofs.ClauseLaws.{all_good}
use Rattle.terms.proofs.RefusalLaws.{passes}
use Rattle.finders.specs.Meanings.{FinderMeaning, Limited}
use Rattle.finders.specs.Refused.{too_long, has_bad, no_soft_place, no_place, clause_tests}
use Rattle.clause_tables.specs.Entries.{Entry, entry, hards, softs, hard_part, soft_part, satisfied_all, well_numbered, softs_after, numbered, LiesWithin}
use Rattle.clause_tables.specs.Table.{Table, meaning_of, refused_as, with_clause, with_entry}
use Rattle.clause_tables.specs.declared.records.ClauseKind.{ClauseKind}
use Rattle.clause_tables.specs.declared.records.ClauseKind.TheVariants.{Hard, Soft}
use Rattle.clause_tables.specs.declared.records.ClauseRecord.{ClauseRecord}

-- ---- what an accepted clause is known to be
pub record Accepted (k : ClauseKind) (m : FinderMeaning) (c : List ℤ) : Type 0 where
  pub short : length c ≤ MOST_LITERALS
  pub proper : FirstBad m.n c None
  pub place : 0 < m.free_clauses
  pub literals : length c ≤ m.free_literals
  pub soft_place : softs_after 0 k ≤ m.free_softs

-- where the tests of every clause passed, and there is a soft place for a soft one
passed : (k : ClauseKind) (m : FinderMeaning) (c : List ℤ) → earliest (clause_tests m c) ≡ None → softs_after 0 k ≤ m.free_softs → Accepted k m c
passed k m c e soft =
    let long = passes (too_long c) _ _ e in
    let bad = passes (has_bad m.n c) _ _ long.1 in
    let room = or_parts (eqb m.free_clauses 0) (ltb m.free_literals (length c)) (passes (no_place m c) _ _ bad.1).0 in
    record {
      short = ltb-false MOST_LITERALS (length c) long.0;
      proper = all_good m.n c bad.0;
      place = omega (arith, eqb-false m.free_clauses 0 room.0);
      literals = ltb-false m.free_literals (length c) room.1;
      soft_place = soft;
    }

pub accepted : (k : ClauseKind) (m : FinderMeaning) (c : List ℤ) → refused_as k m c ≡ None → Accepted k m c
accepted Hard m c e = passed Hard m c e (omega arith)
accepted (Soft i) m c e = let p = passes (no_soft_place m) _ _ e in passed (Soft i) m c p.1 (omega (arith, eqb-false m.free_softs 0 p.0))

-- ---- the clauses with the literals of one more behind those in use
-- a clause within the literals in use reads as before
entry_kept : (ls xs : List ℤ) (r : ClauseRecord) → LiesWithin (length ls) r → entry (ls ++ xs) r ≡ entry ls r
entry_kept ls xs r h =
    let start : r.place ≤ length ls = omega arith in
    let rest : r.size ≤ length (drop r.place ls) = simp length-drop (omega arith) in
    ap (λ c. record { kind = r.kind; clause = c }) (ap (take r.size) (drop-append-le r.place ls xs start) ∙ take-append-le r.size (drop r.place ls) xs rest)

entries_kept : (rs : List ClauseRecord) (ls xs : List ℤ) → All (LiesWithin (length ls)) rs → map (entry (ls ++ xs)) rs ≡ map (entry ls) rs
entries_kept [] ls xs h = refl
entries_kept (r ∷ rs) ls xs h =
    ap₂ (λ e es. e ∷ es) (entry_kept ls xs r (All-head (LiesWithin (length ls)) r rs h)) (entries_kept rs ls xs (All-tail (LiesWithin (length ls)) r rs h))

-- the clause that was written reads as it was
entry_new : (ls xs : List ℤ) (k : ClauseKind) → entry (ls ++ xs) (record { place = length ls; size = length xs; kind = k }) ≡ record { kind = k; clause = xs }
entry_new ls xs k = ap (λ c. record { kind = k; clause = c }) (ap (take (length xs)) (drop-append_seam ls xs) ∙ take-length xs)

pub entries_push : (rs : List ClauseRecord) {rs' : List ClauseRecord} (ls : List ℤ) {ls' : List ℤ} (xs : List ℤ) (k : ClauseKind) {n : ℕ}
    → All (LiesWithin (length ls)) rs → n ≡ length ls → rs' ≡ rs ++ (record { place = n; size = length xs; kind = k } ∷ []) → ls' ≡ ls ++ xs
    → map (entry ls') rs' ≡ map (entry ls) rs ++ (record { kind = k; clause = xs } ∷ [])
entries_push rs ls xs k {n} inside start e f =
    ap₂ (λ ns ts. map (entry ns) ts) f e
    ∙ map-append (entry (ls ++ xs)) rs (record { place = n; size = length xs; kind = k } ∷ [])
    ∙ ap₂ (λ es x. es ++ x ∷ []) (entries_kept rs ls xs inside)
    (ap (λ n. entry (ls ++ xs) (record { place = n; size = length xs; kind = k })) start ∙ entry_new ls xs k)

-- the records with one more that lies within the longer literals
pub inside_push : (rs : List ClauseRecord) {rs' : List ClauseRecord} (f g : ℕ) (r : ClauseRecord)
    → All (LiesWithin f) rs → f ≤ g → LiesWithin g r → rs' ≡ rs ++ r ∷ [] → All (LiesWithin g) rs'
inside_push rs f g r inside longer one e =
    let more : (x : ClauseRecord) → LiesWithin f x → LiesWithin g x = λ (x : ClauseRecord) l. omega (arith, l) in
    All-same (LiesWithin g) _ _ e (All-push (LiesWithin g) rs r (All-weaker (LiesWithin f) (LiesWithin g) more rs inside) one)

-- ---- lists of clauses with one more at the end
hards_push : (es : List Entry) (e : Entry) → hards (es ++ e ∷ []) ≡ hards es ++ hard_part e.kind e.clause
hards_push es e = flat_map-append (λ x. hard_part x.kind x.clause) es (e ∷ []) ∙ ap (λ cs. hards es ++ cs) (append-nil (hard_part e.kind e.clause))

softs_push : (es : List Entry) (e : Entry) → softs (es ++ e ∷ []) ≡ softs es ++ soft_part e.kind e.clause
softs_push es e = flat_map-append (λ x. soft_part x.kind x.clause) es (e ∷ []) ∙ ap (λ cs. softs es ++ cs) (append-nil (soft_part e.kind e.clause))

pub length-softs_push : (es : List Entry) (e : Entry) → length (softs (es ++ e ∷ [])) ≡ softs_after (length (softs es)) e.kind
length-softs_push es e = ap length (softs_push es e) ∙ length-append (softs es) (soft_part e.kind e.clause) ∙ one e.kind
  where
    one : (k : ClauseKind) → length (softs es) + length (soft_part k e.clause) ≡ softs_after (length (softs es)) k
    one Hard = omega arith
    one (Soft i) = omega arith

pub numbered_push : (s : ℕ) (es : List Entry) (e : Entry) → numbered s es ≡ true → well_numbered (s + length (softs es)) e.kind ≡ true
    → numbered s (es ++ e ∷ []) ≡ true
numbered_push s [] e h w = and_from (well_numbered s e.kind) true (ap (λ t. well_numbered t e.kind) (let z : s ≡ s + 0 = omega arith in z) ∙ w) refl
numbered_push s (x ∷ es) e h w =
    let p = and_parts (well_numbered s x.kind) (numbered (softs_after s x.kind) es) h in
    and_from (well_numbered s x.kind) (numbered (softs_after s x.kind) (es ++ e ∷ [])) p.0
    (numbered_push (softs_after s x.kind) es e p.1 (ap (λ t. well_numbered t e.kind) (sym (further x.kind)) ∙ w))
  where
    further : (k : ClauseKind) → s + length (soft_part k x.clause ++ softs es) ≡ softs_after s k + length (softs es)
    further Hard = refl
    further (Soft i) = omega arith

pub counted_push : (k : ClauseKind) (s limit : ℕ) → softs_after 0 k ≤ limit - s → s ≤ limit → (limit - softs_after s k ≡ limit - s - softs_after 0 k) × (softs_after s k ≤ limit)
counted_push Hard s limit h l = (omega arith, l)
counted_push (Soft i) s limit h l = (omega arith, omega arith)

pub limited_push : (t : Table) (k : ClauseKind) (xs : List ℤ) → Limited (meaning_of t) → refused_as k (meaning_of t) xs ≡ None
    → Limited (meaning_of (with_entry t (record { kind = k; clause = xs })))
limited_push t Hard xs l fine = (l.0, omega (arith, length-softs_push t.entries (record { kind = Hard; clause = xs }), l.1))
limited_push t (Soft i) xs l fine =
    (l.0, omega (arith, length-softs_push t.entries (record { kind = Soft i; clause = xs }), l.1, (accepted (Soft i) (meaning_of t) xs fine).soft_place))

-- ---- and what they mean
pub means_with_clause : (t : Table) (k : ClauseKind) (xs : List ℤ) → with_clause k (meaning_of t) xs ≡ meaning_of (with_entry t (record { kind = k; clause = xs }))
means_with_clause t Hard xs =
    let hs = hards_push t.entries (record { kind = Hard; clause = xs }) in
    let ss = softs_push t.entries (record { kind = Hard; clause = xs }) ∙ append-nil (softs t.entries) in
    let same : t.free_softs - 0 ≡ t.free_softs = omega arith in
    let admits = λ (a : List ℕ). ap (list_all (satisfied_by a)) hs ∙ list_all-append (satisfied_by a) (hards t.entries) (xs ∷ [])
    ∙ ap (λ b. satisfied_all (hards t.entries) a && b) (and-true (satisfied_by a xs)) in
    sym (λ j. record {
      n = t.n;
      admits = fun_ext admits j;
      softs = ss j;
      free_softs = same j;
      free_clauses = t.free_clauses - 1;
      free_literals = t.free_literals - length xs;
    })
means_with_clause t (Soft i) xs =
    let hs = hards_push t.entries (record { kind = Soft i; clause = xs }) ∙ append-nil (hards t.entries) in
    let ss = softs_push t.entries (record { kind = Soft i; clause = xs }) in
    sym (λ j. record {
      n = t.n;
      admits = satisfied_all (hs j);
      softs = ss j;
      free_softs = t.free_softs - 1;
      free_clauses = t.free_clauses - 1;
      free_literals = t.free_literals - length xs;
    })
