-- Leaving numbers out one after another.
use Rattle.std.proofs.Common.{◌≡◌, ℕ, ◌<◌, true, false, not, ◌&&◌, eqb, ap, arith}
use Rattle.std.proofs.lemmas.Bool.Decides.{nat_tests}
use Rattle.terms.specs.Masks.{member, subset}
use Rattle.maker_branch.proofs.SetLaws.{part_at_most}
use Rattle.terms.proofs.MaskLaws.{subset_members, subset_trans}
use Rattle.makers.specs.Meanings.{MakerMeaning}
use Rattle.makers.specs.Covers.{Needed}
use Rattle.core_store.specs.BetterCovers.{Smaller}

-- a set is greater than what it is without a member
pub fewer : (rest set k : ℕ) → ((j : ℕ) → member rest j ≡ (member set j && not (eqb k j))) → member set k ≡ true → rest < set
fewer rest set k w h = grind (arith, nat_tests, w, part_at_most rest set, subset_members rest set, ap (λ x. member x k))

-- once a number is tried, each that was tried is needed where it is still there
pub tried : {W : Type 0} (m : MakerMeaning W) (left rest before after number : ℕ) → ((j : ℕ) → member rest j ≡ (member left j && not (eqb number j))) → Smaller m before number after
    → ((k : ℕ) → member left k ≡ false → member before k ≡ true → Needed m before k) → (k : ℕ) → member rest k ≡ false → member after k ≡ true → Needed m after k
tried m left rest before after number w smaller needed k r a other o s =
    let last : member after number ≡ true → member other number ≡ true = λ h. smaller.needed h other o s in
    let earlier : member left k ≡ false → member before k ≡ true → subset other before ≡ true → member other k ≡ true = λ l b. needed k l b other o in
    grind (arith, nat_tests, w k, last, earlier, smaller.within, subset_trans other after before, subset_members after before)
