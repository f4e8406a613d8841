use Rattle.std.proofs.Common.{◌≡◌, ◌+◌, ◌-◌, ◌≤◌, true, false, List, All, map, length, pos, ℤ, None, sym, ap, ◌∙◌, subst, arith}
use Rattle.std.proofs.lemmas.List.{length-append}
use Rattle.std.proofs.lemmas.List.Sums.{sum_by_push}
use Rattle.std.proofs.lemmas.List.Elements.{All-append, All-from_get_or}
use Rattle.terms.specs.Clauses.{bad_literal}
use Rattle.clause_tables.specs.Entries.{Entry, entry, literal_count, softs, numbered, well_numbered, softs_after}
use Rattle.clause_tables.specs.Table.{Table, meaning_of, refused_as, with_entry}
use Rattle.clause_tables.proofs.Pushed.{Accepted, accepted, entries_push, inside_push, numbered_push, length-softs_push, counted_push}
use Rattle.clause_tables.proofs.tables.Tables.push.Goals as goal

-- what is known of the clause, said of what the tables hold
accepted_by : {s t : Table} (k : _) (xs : List ℤ) → t ≡ s → refused_as k (meaning_of s) xs ≡ None → well_numbered (length (softs s.entries)) k ≡ true
    → Accepted k (meaning_of t) xs × (well_numbered (0 + length (softs t.entries)) k ≡ true)
accepted_by {s} {t} k xs e fine number = (
  accepted k (meaning_of t) xs (ap (λ s. refused_as k (meaning_of s) xs) e ∙ fine),
  ap (λ n. well_numbered n k) (let z : 0 + length (softs t.entries) ≡ length (softs t.entries) = omega arith in z) ∙ ap (λ s. well_numbered (length (softs s.entries)) k) e ∙ number,
)

pub invariant_of-self : goal.invariant_of-self
invariant_of-self c =
    let t = c.self.inside in
    let v = c.self.invariant in
    let k = c.args.kind in
    let xs = c.args.clause.now in
    let e : Entry = record { kind = k; clause = xs } in
    let es = map (entry t.literals.items) t.records.items in
    let known = accepted_by k xs c.self.view_is c.requires.fine c.requires.number in
    let start = ap length c.items.ensures in
    let long = ap length c.extend.ensures.items ∙ length-append t.literals.items xs in
    let held = entries_push t.records.items t.literals.items xs k v.inside start c.push.ensures.items c.extend.ensures.items in
    let count = counted_push k t.softs t.limit known.0.soft_place v.fitting in
    let more = ap (λ s. length (softs s)) held ∙ length-softs_push es e ∙ ap (λ s. softs_after s k) v.counted ∙ sym c.softs_after-self-inside.ensures in
    let fitting : c.softs_after-self-inside.result ≤ t.limit = subst (λ s. s ≤ t.limit) (sym c.softs_after-self-inside.ensures) count.1 in
    record {
      limited = (v.limited.0, omega (arith, more, fitting, v.limited.1, v.counted, v.fitting));
      roomy = omega (arith, long);
      few = omega (arith, ap length c.push.ensures.items ∙ length-append t.records.items _, v.few);
      short = omega (arith, ap literal_count held ∙ sum_by_push (λ x. length x.clause) es e, v.short, long);
      inside = inside_push t.records.items (length t.literals.items) _ _ v.inside (omega (arith, long)) (omega (arith, long, start)) c.push.ensures.items;
      proper = subst (All (λ l. bad_literal t.n l ≡ false)) (sym c.extend.ensures.items)
          (All-append (λ l. bad_literal t.n l ≡ false) t.literals.items xs v.proper (All-from_get_or (λ l. bad_literal t.n l ≡ false) xs (pos 0) known.0.proper));
      numbered = ap (numbered 0) held ∙ numbered_push 0 es e v.numbered known.1;
      counted = more;
      fitting = fitting;
    }

pub returns : goal.returns
returns c =
    let t = c.self.inside in
    let k = c.args.kind in
    let xs = c.args.clause.now in
    let held = entries_push t.records.items t.literals.items xs k c.self.invariant.inside (ap length c.items.ensures) c.push.ensures.items c.extend.ensures.items in
    let known = accepted_by k xs c.self.view_is c.requires.fine c.requires.number in
    let softs_left = ap (λ s. t.limit - s) c.softs_after-self-inside.ensures ∙ (counted_push k t.softs t.limit known.0.soft_place c.self.invariant.fitting).0 in
    let clauses_left : c.push.new.self.free ≡ t.records.free - 1 = omega arith in
    let literals_left : c.extend.new.self.free ≡ t.literals.free - length xs = omega arith in
    (λ j. record { n = t.n; entries = held j; free_softs = softs_left j; free_clauses = clauses_left j; free_literals = literals_left j })
    ∙ ap (λ s. with_entry s (record { kind = k; clause = xs })) c.self.view_is
