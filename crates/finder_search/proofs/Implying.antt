-- What is implied from a clause by its status: a reason why it is broken, or a value for its last literal.
use Rattle.std.proofs.Common.{◌≡◌, ℕ, ◌<◌, Bool, true, false, not, eqb, ltb, List, [], ◌∷◌, length, get_or, set, All, ℤ, Option, sym, refl, ap, ◌∙◌, subst, ⊎_elim, arith}
use Rattle.std.specs.List.{list_any, filter}
use Rattle.std.proofs.lemmas.Bool.{both_ways, and_parts, and_from, or_cases, or_from, or_left, or_right, eq-eqb, eqb-true, lt-ltb}
use Rattle.std.proofs.lemmas.List.Elements.{All-head, All-rest, All-filter, filter_passes}
use Rattle.terms.specs.Clauses.{satisfied_by, bad_literal}
use Rattle.terms.specs.Masks.{member, Subset, below}
use Rattle.terms.proofs.MaskLaws.{below_members}
use Rattle.clause_tables.specs.Entries.{Entry, IsProper}
use Rattle.clause_tables.specs.Wanted.{wanted}
use Rattle.clause_tables.specs.declared.records.ClauseKind.{ClauseKind}
use Rattle.clause_tables.specs.declared.records.ClauseKind.TheVariants.{Hard, Soft}
use Rattle.finder_search.specs.ClauseStatus.{is_true, status}
use Rattle.finder_search.specs.Literals.{index, positive, same}
use Rattle.finder_search.specs.Propagation.{Sound, Belongs, is_met, IsAsked, ImpliesLast}
use Rattle.finder_search.specs.Query.{Satisfies, Query}
use Rattle.finder_search.specs.Reasons.{is_number, bit, Excludes, Backed, IsReason}
use Rattle.finder_search.specs.Trail.{slot_at, unset, rests_on_soft, is_unassigned, decisions, Unassigned, Extends}
use Rattle.finder_search.specs.declared.reasons.Reason.{Reason}
use Rattle.finder_search.specs.declared.trail.Slot.{Slot}
use Rattle.finder_search.specs.declared.trail.Slot.TheVariants.{Unset, Decided, Implied}
use Rattle.finder_search.specs.declared.clause_status.ClauseStatus.TheVariants.{Broken, Unit as UnitClause, Open}
use Rattle.finder_search.proofs.ClauseStatus.{broken_status, open_status, unit_status}
use Rattle.finder_search.proofs.Extending.{extends_implied, unset_set}
use Rattle.finder_search.proofs.Soundness.{sound_implied}
use Rattle.finder_search.proofs.LiteralLaws.{index_within, true_is}
use Rattle.finder_search.proofs.Quietness.{quiet_kept, quiet_made, stands_of_open}
use Rattle.finder_search.proofs.Reasoning.{Rested, broken_clause, unit_clause, wanted_met}
use Rattle.terms.specs.declared.limits.TheConstants.{SOFT_PLACES}

-- ---- a literal among those without a value
unassigned_among : (n : ℕ) (ss : List Slot) (c : List ℤ) (u : ℤ) → length ss ≡ n → All (λ l. bad_literal n l ≡ false) c → 0 < length (filter (is_unassigned ss) c)
    → get_or (filter (is_unassigned ss) c) 0 u ≡ u → Unassigned ss u
unassigned_among n ss c u wide good some e = (
  subst (λ x. bad_literal (length ss) x ≡ false) e
      (subst (λ m. bad_literal m (get_or (filter (is_unassigned ss) c) 0 u) ≡ false) (sym wide) (All-filter (is_unassigned ss) (λ l. bad_literal n l ≡ false) c good 0 u some)),
  subst (λ x. is_unassigned ss x ≡ true) e (filter_passes (is_unassigned ss) c 0 u some),
)

-- the last literal of a clause has no value
pub last_unassigned : (q : Query) (ss : List Slot) (e : Entry) (u : ℤ) → Belongs q.table e → Sound q ss → status ss e.clause ≡ UnitClause u → Unassigned ss u
last_unassigned q ss e u belongs sound h =
    let p = unit_status ss e.clause u h in
    let one : 0 < length (filter (is_unassigned ss) e.clause) = let z = ap length p.1 in omega arith in
    unassigned_among q.table.n ss e.clause u sound.wide belongs.0 one (ap (λ ls. get_or ls 0 u) p.1)

-- so has the first of several
pub open_unassigned : (n : ℕ) (ss : List Slot) (e : Entry) (u : ℤ) → length ss ≡ n → IsProper n e → status ss e.clause ≡ Open u → Unassigned ss u
open_unassigned n ss e u wide proper h =
    let p = open_status ss e.clause u h in
    unassigned_among n ss e.clause u wide proper p.1 p.0

-- and the clause has no true literal
pub open_unmet : (q : Query) (ss : List Slot) (e : Entry) (u : ℤ) → wanted q.set e.kind ≡ true → status ss e.clause ≡ Open u → is_met q ss e ≡ false
open_unmet q ss e u w h =
    or_from (not (wanted q.set e.kind)) (list_any (is_true ss) e.clause) (ap not w) (open_status ss e.clause u h).2

-- ---- the reason that a clause gives
rested : (ss : List Slot) (e : Entry) (r : Reason) → IsReason ss e r → Rested ss r e.clause
rested ss e r of = (λ u h. of.0 u ∙ h, λ k h. of.1 k ∙ or_right (is_number e.kind k) (list_any (λ l. rests_on_soft (slot_at ss (index l)) k) e.clause) h)

-- the clause itself is wanted by the reason
wanted_by : (wish : ℕ) (kind : ClauseKind) (r : Reason) → below SOFT_PLACES wish ≡ true → wanted wish kind ≡ true → ((k : ℕ) → is_number kind k ≡ true → member r.softs k ≡ true) → wanted r.softs kind ≡ true
wanted_by wish Hard r few w own = refl
wanted_by wish (Soft j) r few w own = own j (and_from (eqb j j) (ltb j SOFT_PLACES) (eq-eqb j j refl) (lt-ltb j SOFT_PLACES ((below_members SOFT_PLACES wish).0 few j w)))

-- a soft clause that the value of a literal rests on is of the set
soft_among : (q : Query) (cs : List (Option Bool)) (v k : ℕ) (s : Slot) → Backed q cs v s → rests_on_soft s k ≡ true → member q.set k ≡ true
soft_among q cs v k Unset h e = absurd (both_ways false refl e)
soft_among q cs v k (Decided b d) h e = absurd (both_ways false refl e)
soft_among q cs v k (Implied b d r) h e = h.0 k e

softs_among : (q : Query) (k : ℕ) (ss : List Slot) (c : List ℤ) → Sound q ss → All (λ l. bad_literal q.table.n l ≡ false) c
    → list_any (λ l. rests_on_soft (slot_at ss (index l)) k) c ≡ true → member q.set k ≡ true
softs_among q k ss [] sound good h = absurd (both_ways false refl h)
softs_among q k ss (l ∷ c) sound good h =
    ⊎_elim
    (λ e. let within = index_within q.table.n l (All-head (λ x. bad_literal q.table.n x ≡ false) l c good) in
    soft_among q (decisions ss) (index l) k (slot_at ss (index l)) (sound.backed (index l) (omega (arith, within, sound.wide))) e)
    (λ e. softs_among q k ss c sound (All-rest (λ x. bad_literal q.table.n x ≡ false) l c _ refl good) e)
    (or_cases (rests_on_soft (slot_at ss (index l)) k) (list_any (λ x. rests_on_soft (slot_at ss (index x)) k) c) h)

number_among : (wish k : ℕ) (kind : ClauseKind) → wanted wish kind ≡ true → is_number kind k ≡ true → member wish k ≡ true
number_among wish k Hard w h = absurd (both_ways false refl h)
number_among wish k (Soft j) w h = subst (λ i. member wish i ≡ true) (eqb-true j k (and_parts (eqb j k) (ltb k SOFT_PLACES) h).0) w

module _ (q : Query) (ss : List Slot) (e : Entry) (r : Reason) (sound : Sound q ss) (asked : IsAsked q e)
    (few : below SOFT_PLACES q.set ≡ true) (of : IsReason ss e r) where
  among : Subset r.softs q.set
  among k h =
      ⊎_elim (number_among q.set k e.kind asked.1) (softs_among q k ss e.clause sound asked.0.0)
      (or_cases (is_number e.kind k) (list_any (λ l. rests_on_soft (slot_at ss (index l)) k) e.clause) (sym (of.1 k) ∙ h))

  satisfied : (a : List ℕ) → Satisfies q.table r.softs a → satisfied_by a e.clause ≡ true
  satisfied a s = wanted_met (wanted r.softs e.kind) (satisfied_by a e.clause) (wanted_by q.set e.kind r few asked.1 (λ k own. of.1 k ∙ or_left (is_number e.kind k) _ own)) (asked.0.1 r.softs a s.1)

  -- a broken clause shows that no assignment is left
  pub excludes_broken : status ss e.clause ≡ Broken → Excludes q (decisions ss) r
  excludes_broken h =
      let p = broken_status ss e.clause h in
      record {
        among = among;
        none = λ a s f. both_ways (satisfied_by a e.clause)
            (broken_clause q ss r a sound s f e.clause asked.0.0 (rested ss e r of) p.0 p.1)
            (satisfied a s);
      }

  -- the last literal of a clause is true in each assignment that is left
  backed_last : (u : ℤ) (level : ℕ) → status ss e.clause ≡ UnitClause u → Backed q (decisions ss) (index u) (Implied (positive u) level r)
  backed_last u level h =
      let p = unit_status ss e.clause u h in
      let unassigned = last_unassigned q ss e u asked.0 sound h in (
        among,
        λ a s f.
            let made = unit_clause q ss r a sound s f e.clause u asked.0.0 (rested ss e r of) p.0 p.1 (satisfied a s) in
            same_sign (bit a (index u)) (positive u)
            (sym (true_is q.table.n a u s.0 (subst (λ n. bad_literal n u ≡ false) sound.wide unassigned.0)) ∙ made),
      )
    where
      same_sign : (x y : Bool) → same x y ≡ true → x ≡ y
      same_sign true true h = refl
      same_sign true false h = sym h
      same_sign false true h = h
      same_sign false false h = refl

-- ---- what is left once the last literal is made true
pub last_implied : (q : Query) (level : ℕ) (ss ts : List Slot) (e : Entry) (r : Reason) (u : ℤ) → Sound q ss → IsAsked q e → status ss e.clause ≡ UnitClause u
    → ts ≡ set ss (index u) (Implied (positive u) level r) → below SOFT_PLACES q.set ≡ true → IsReason ss e r → ImpliesLast q level ss ts e u
last_implied q level ss ts e r u sound asked last implied few of =
    let value = Implied (positive u) level r in
    let unassigned = last_unassigned q ss e u asked.0 sound last in
    let within = index_within (length ss) u unassigned.0 in
    let alone = (unit_status ss e.clause u last).1 in
    record {
      extends = subst (Extends level ss) (sym implied) (extends_implied level ss (index u) (positive u) r within unassigned.1);
      sound = subst (Sound q) (sym implied)
          (sound_implied q ss (index u) (positive u) level r within unassigned.1 sound (backed_last q ss e r sound asked few of u level last));
      fewer = omega (arith, ap unset implied, unset_set ss (index u) value within unassigned.1 refl);
      proper = subst (λ n. bad_literal n u ≡ false) sound.wide unassigned.0;
      keeps = quiet_kept q.table.n ss ts u value unassigned sound.wide refl implied q;
      own = quiet_made q.table.n ss ts u value unassigned sound.wide refl implied q e (stands_of_open ss e.clause u alone);
    }
