-- What it leaves of the trail to set one variable that has no value.
use Rattle.std.proofs.Common.{◌≡◌, ℕ, zero, suc, ◌+◌, ◌<◌, ◌≤◌, Bool, true, false, List, [], ◌∷◌, length, map, set, Some, sym, refl, ap, ap₂, ◌∙◌, arith}
use Rattle.std.proofs.Math.Seq.{map-set_same}
use Rattle.std.proofs.lemmas.Bool.{both_ways, cond-true, cond-false, lt-ltb, le-ltb}
use Rattle.std.proofs.lemmas.List.{map-set, get_or-set_other}
use Rattle.finder_search.specs.Trail.{slot_at, is_unset, unset, undone, decision_of, decisions, level_of, Within, Extends}
use Rattle.finder_search.specs.declared.reasons.Reason.{Reason}
use Rattle.finder_search.specs.declared.trail.Slot.{Slot}
use Rattle.finder_search.specs.declared.trail.Slot.TheVariants.{Unset, Decided, Implied}

pub unset_is : (s : Slot) → is_unset s ≡ true → s ≡ Unset
unset_is Unset h = refl
unset_is (Decided b d) h = absurd (both_ways false refl h)
unset_is (Implied b d r) h = absurd (both_ways false refl h)

-- ---- the number of variables without a value
pub unset_set : (ss : List Slot) (k : ℕ) (s : Slot) → k < length ss → is_unset (slot_at ss k) ≡ true → is_unset s ≡ false → unset (set ss k s) + 1 ≡ unset ss
unfolding unset
unset_set [] k s l free held = absurd (omega arith)
unset_set (x ∷ ss) zero s l free held = omega (arith, cond-true {A = ℕ} (is_unset x) 1 0 free, cond-false {A = ℕ} (is_unset s) 1 0 held)
unset_set (x ∷ ss) (suc k) s l free held = omega (arith, unset_set ss k s (omega arith) free held)

-- ---- depths
pub within_set : (level : ℕ) (ss : List Slot) (k : ℕ) (s : Slot) → Within level ss → level_of s ≤ level → Within level (set ss k s)
unfolding Within
within_set level [] k s w h v l = w v l
within_set level (x ∷ ss) zero s w h zero l = h
within_set level (x ∷ ss) zero s w h (suc v) l = w (suc v) l
within_set level (x ∷ ss) (suc k) s w h zero l = w zero (omega arith)
within_set level (x ∷ ss) (suc k) s w h (suc v) l = within_set level ss k s (λ j m. w (suc j) (omega arith)) h v (omega arith)

pub within_deeper : (d e : ℕ) (ss : List Slot) → d ≤ e → Within d ss → Within e ss
unfolding Within
within_deeper d e ss h w v l = omega (arith, w v l)

undone_low : (d : ℕ) (s : Slot) → level_of s ≤ d → undone d s ≡ s
undone_low d Unset h = refl
undone_low d (Decided b e) h = cond-false _ Unset (Decided b e) (le-ltb d e h)
undone_low d (Implied b e r) h = cond-false _ Unset (Implied b e r) (le-ltb d e h)

-- where nothing is deeper a undo changes nothing
undone_same : (d : ℕ) (ss : List Slot) → Within d ss → map (undone d) ss ≡ ss
unfolding Within
undone_same d [] w = refl
undone_same d (s ∷ ss) w = ap₂ (λ x xs. x ∷ xs) (undone_low d s (w 0 (omega arith))) (undone_same d ss (λ v l. w (suc v) (omega arith)))

-- ---- propagated
pub extends_same : (level : ℕ) (ss : List Slot) → Extends level ss ss
extends_same level ss = record { decided = refl; below = λ d l. refl; kept = λ v h. refl; fewer = omega arith; within = λ w. w }

pub extends_more : {level : ℕ} {ss ts us : List Slot} → Extends level ss ts → Extends level ts us → Extends level ss us
extends_more g h = record {
  decided = h.decided ∙ g.decided;
  below = λ d l. h.below d l ∙ g.below d l;
  kept = λ v held. h.kept v (ap is_unset (g.kept v held) ∙ held) ∙ g.kept v held;
  fewer = omega (arith, g.fewer, h.fewer);
  within = λ w. h.within (g.within w);
}

pub decisions_implied : (ss : List Slot) (k : ℕ) (b : Bool) (d : ℕ) (r : Reason) → is_unset (slot_at ss k) ≡ true → decisions (set ss k (Implied b d r)) ≡ decisions ss
decisions_implied ss k b d r free = map-set_same decision_of ss k (Implied b d r) Unset (sym (ap decision_of (unset_is (slot_at ss k) free)))

pub extends_implied : (level : ℕ) (ss : List Slot) (k : ℕ) (b : Bool) (r : Reason) → k < length ss → is_unset (slot_at ss k) ≡ true → Extends level ss (set ss k (Implied b level r))
extends_implied level ss k b r l free =
    let e = unset_is (slot_at ss k) free in
    record {
      decided = decisions_implied ss k b level r free;
      below = λ d h. map-set_same (undone d) ss k (Implied b level r) Unset (cond-true _ Unset (Implied b level r) (lt-ltb d level h) ∙ sym (ap (undone d) e));
      kept = λ v held. get_or-set_other ss k v (Implied b level r) Unset (λ here. both_ways (is_unset (slot_at ss v)) held (ap (λ j. is_unset (slot_at ss j)) here ∙ free));
      fewer = omega (arith, unset_set ss k (Implied b level r) l free refl);
      within = λ w. within_set level ss k (Implied b level r) w (omega arith);
    }

-- ---- choosing
pub decisions_decided : (ss : List Slot) (k : ℕ) (b : Bool) (d : ℕ) → decisions (set ss k (Decided b d)) ≡ set (decisions ss) k (Some b)
decisions_decided ss k b d = map-set decision_of ss k (Decided b d)

-- what was implied after a decision is undone away together with it
pub restored : (level : ℕ) (ss ts : List Slot) (k : ℕ) (b : Bool) → Within level ss → is_unset (slot_at ss k) ≡ true
    → Extends (level + 1) (set ss k (Decided b (level + 1))) ts → map (undone level) ts ≡ ss
restored level ss ts k b w free g =
    g.below level (omega arith)
    ∙ map-set_same (undone level) ss k (Decided b (level + 1)) Unset
    (cond-true _ Unset (Decided b (level + 1)) (lt-ltb level (level + 1) (omega arith)) ∙ sym (ap (undone level) (unset_is (slot_at ss k) free)))
    ∙ undone_same level ss w
