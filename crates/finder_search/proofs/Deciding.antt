-- What holds once a literal is made true by decision, and once this is undone.
use Rattle.std.proofs.Common.{false, ◌≡◌, ℕ, ◌+◌, ◌<◌, ◌^◌, List, All, length, map, set, Some, ℤ, Ok, not, refl, sym, ap, ap₂, ◌∙◌, subst, arith}
use Rattle.std.proofs.lemmas.List.{length-map}
use Rattle.terms.specs.Clauses.{bad_literal}
use Rattle.clause_tables.specs.Entries.{IsProper}
use Rattle.finder_search.specs.Literals.{index, positive, negated}
use Rattle.finder_search.specs.Propagation.{Propagated, Sound, no_clause, losing}
use Rattle.finder_search.specs.Splitting.{JustDecided, Ready, with_decision}
use Rattle.finder_search.specs.Trail.{unset, undone, decision_of, decisions, Within, Extends, Unassigned}
use Rattle.finder_search.specs.declared.trail.Slot.{Slot}
use Rattle.finder_search.specs.declared.trail.Slot.TheVariants.{Decided}
use Rattle.finder_search.proofs.Extending.{unset_set, within_set, within_deeper, decisions_decided, restored}
use Rattle.finder_search.proofs.LiteralLaws.{index_within, index_negated, positive_negated}
use Rattle.finder_search.proofs.Soundness.{sound_decided}
use Rattle.finder_search.proofs.Quietness.{quiet_kept}
use Rattle.finder_search.proofs.Visiting.{kept_quiet}
use Rattle.finder_search.specs.Query.{Query}

unassigned_fewer : (ss : List Slot) (u : ℤ) (level : ℕ) → Unassigned ss u → unset (set ss (index u) (Decided (positive u) level)) + 1 ≡ unset ss
unassigned_fewer ss u level unassigned = unset_set ss (index u) (Decided (positive u) level) (index_within (length ss) u unassigned.0) unassigned.1 refl

-- there is room for a trial, one deeper
pub unassigned_room : (ss : List Slot) (u : ℤ) (level : ℕ) → Unassigned ss u → level + unset ss < 2 ^ 16 → level + 1 < 2 ^ 16
unassigned_room ss u level unassigned room = omega (arith, unassigned_fewer ss u 0 unassigned)

-- there is a decision to be made for its variable
pub unassigned_index : (ss : List Slot) (u : ℤ) → bad_literal (length ss) u ≡ false → index u < length (decisions ss)
unassigned_index ss u proper = omega (arith, index_within (length ss) u proper, length-map ss decision_of)

-- the decisions with the opposite one more
pub opposite_decision : (ss : List Slot) (u : ℤ) → bad_literal (length ss) u ≡ false → with_decision ss (negated u) ≡ set (decisions ss) (index u) (Some (not (positive u)))
opposite_decision ss u proper = ap₂ (λ p b. set (decisions ss) p (Some b)) (index_negated u) (positive_negated (length ss) u proper)

module _ (level : ℕ) (ss us : List Slot) (u : ℤ) (unassigned : Unassigned ss u) (decided : us ≡ set ss (index u) (Decided (positive u) (level + 1))) where
  pub decided_decisions : decisions us ≡ with_decision ss u
  decided_decisions = ap decisions decided ∙ decisions_decided ss (index u) (positive u) (level + 1)

  pub decided_fewer : unset us + 1 ≡ unset ss
  decided_fewer = omega (arith, ap unset decided, unassigned_fewer ss u (level + 1) unassigned)

  decided_within : Within level ss → Within (level + 1) us
  decided_within within =
      subst (Within (level + 1)) (sym decided)
      (within_set (level + 1) ss (index u) (Decided (positive u) (level + 1)) (within_deeper level (level + 1) ss (omega arith) within) (omega arith))

  pub just_decided : (q : Query) (buffer : List ℕ) → All (IsProper q.table.n) q.table.entries → Ready q level ss buffer → JustDecided q u (level + 1) us buffer
  just_decided q buffer proper ready = (
    subst (λ n. bad_literal n u ≡ false) ready.sound.wide unassigned.0,
    record {
      sound = subst (Sound q) (sym decided)
          (sound_decided q ss (index u) (positive u) (level + 1) (index_within (length ss) u unassigned.0) unassigned.1 ready.sound);
      quiet = λ k x at without.
          kept_quiet q k u x ss us proper at (quiet_kept q.table.n ss us u (Decided (positive u) (level + 1)) unassigned ready.sound.wide refl decided q)
          (ready.quiet k x at refl) without;
      within = decided_within ready.within;
      room = omega (arith, decided_fewer, ready.room);
      long = ready.long;
    },
  )

  pub all_restored : (ts xs : List Slot) → Within level ss → Extends (level + 1) us ts → xs ≡ map (undone level) ts → xs ≡ ss
  all_restored ts xs within extends h =
      h ∙ restored level ss ts (index u) (positive u) within unassigned.1 (subst (λ vs. Extends (level + 1) vs ts) decided extends)

-- what was decided is propagated
pub propagated_ready : (q : Query) (u : ℤ) (level : ℕ) (ss ts : List Slot) (buffer : List ℕ) → JustDecided q u level ss buffer
    → Extends level ss ts → Sound q ts → Propagated q (losing q u) ss (Ok tt) ts → Ready q level ts buffer
propagated_ready q u level ss ts buffer before extends sound propagated = record {
  sound = sound;
  quiet = propagated no_clause before.1.quiet;
  within = extends.within before.1.within;
  room = omega (arith, extends.fewer, before.1.room);
  long = before.1.long;
}
