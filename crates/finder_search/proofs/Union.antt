-- The union of two sets of variables, part by part.
use Rattle.std.proofs.Common.{◌≡◌, ℕ, ◌+◌, ◌<◌, ◌≤◌, true, ◌&&◌, ◌||◌, ltb, List, length, get_or, set, refl, sym, ap, ap₂, ◌∙◌, subst, ⊎_elim, arith}
use Rattle.std.proofs.Math.Bool.{or-false}
use Rattle.std.proofs.lemmas.Bool.{cases_Bool, cases_eq, lt-ltb, le-ltb, ltb-false}
use Rattle.std.proofs.lemmas.Bool.Decides.{nat_tests}
use Rattle.std.proofs.lemmas.List.{length-set, get_or_default, get_or_past, get_or-set_same, get_or-set_other}
use Rattle.terms.specs.Masks.{member}
use Rattle.terms.proofs.MaskLaws.{none_members}

-- the first n parts have the members of both, and the others are as they were
pub record United (n : ℕ) (xs ys zs : List ℕ) : Type 0 where
  pub wide : length zs ≡ length xs
  pub members : (i k : ℕ) → member (get_or zs i 0) k ≡ (member (get_or xs i 0) k || (ltb i n && member (get_or ys i 0) k))

pub united_none : (xs ys : List ℕ) → United 0 xs ys xs
united_none xs ys = record { wide = refl; members = λ i k. sym (ap (λ b. member (get_or xs i 0) k || (b && member (get_or ys i 0) k)) (le-ltb i 0 (omega arith)) ∙ or-false (member (get_or xs i 0) k)) }

-- a part more
pub united_more : (n : ℕ) (xs ys zs : List ℕ) (x y u : ℕ) → n < length xs → n < length ys
    → ((k : ℕ) → member u k ≡ (member (get_or zs n x) k || member (get_or ys n y) k)) → United n xs ys zs → United (n + 1) xs ys (set zs n u)
united_more n xs ys zs x y u lx ly joined so_far = record {
  wide = length-set zs n u ∙ so_far.wide;
  members = λ i k.
      ⊎_elim
      (λ (e : i ≡ n). subst (λ j. member (get_or (set zs n u) j 0) k ≡ (member (get_or xs j 0) k || (ltb j (n + 1) && member (get_or ys j 0) k))) (sym e) (here k))
      (λ ne. ap (λ p. member p k) (get_or-set_other zs n i u 0 ne) ∙ so_far.members i k
      ∙ ap (λ b. member (get_or xs i 0) k || (b && member (get_or ys i 0) k)) (further i ne))
      (cases_eq i n);
}
  where
    here : (k : ℕ) → member (get_or (set zs n u) n 0) k ≡ (member (get_or xs n 0) k || (ltb n (n + 1) && member (get_or ys n 0) k))
    here k =
        let lz : n < length zs = omega (arith, so_far.wide) in
        let old = so_far.members n k ∙ ap (λ b. member (get_or xs n 0) k || (b && member (get_or ys n 0) k)) (le-ltb n n (omega arith)) ∙ or-false (member (get_or xs n 0) k) in
        ap (λ p. member p k) (get_or-set_same zs n u 0 lz) ∙ joined k
        ∙ ap₂ (λ p q. member p k || member q k) (get_or_default zs n x 0 lz) (get_or_default ys n y 0 ly)
        ∙ ap₂ (λ b t. b || (t && member (get_or ys n 0) k)) old (sym (lt-ltb n (n + 1) (omega arith)))

    further : (i : ℕ) → (i ≡ n → ⊥) → ltb i n ≡ ltb i (n + 1)
    further i ne = grind (arith, nat_tests)

-- all of them
pub united_all : (n : ℕ) (xs ys zs : List ℕ) → length ys ≤ n → United n xs ys zs → (i k : ℕ) → member (get_or zs i 0) k ≡ (member (get_or xs i 0) k || member (get_or ys i 0) k)
united_all n xs ys zs most united i k = united.members i k ∙ ap (λ b. member (get_or xs i 0) k || b) (⊎_elim
    (λ (few : ltb i n ≡ true). ap (λ b. b && member (get_or ys i 0) k) few)
    (λ past. ap (λ b. b && member (get_or ys i 0) k) past
    ∙ sym (ap (λ p. member p k) (get_or_past ys i 0 (omega (arith, most, ltb-false i n past))) ∙ (none_members 0).0 refl k))
    (cases_Bool (ltb i n)))
