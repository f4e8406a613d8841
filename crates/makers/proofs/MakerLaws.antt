-- What holds of every cover maker stays so: a weight or a core that is not refused keeps it.
use Rattle.std.proofs.Common.{◌≡◌, ℕ, ◌+◌, Bool, true, false, not, List, [], ◌∷◌, ◌++◌, length, refl, None, arith, length-append}
use Rattle.std.proofs.lemmas.Bool.Decides.{nat_tests}
use Rattle.std.proofs.lemmas.List.Folds.{list_all-append}
use Rattle.std.specs.List.{filter, list_all}
use Rattle.terms.specs.Masks.{subset}
use Rattle.terms.proofs.MaskLaws.{below_members}
use Rattle.weights.specs.Kinds.{Kind}
use Rattle.makers.specs.Meanings.{MakerMeaning, with_weight, has_part, staying, proper, apart, all_apart, Limited}
use Rattle.makers.specs.Refused.{weight_refused}

-- ---- a list of cores of which some are left out
module _ (q p : ℕ → Bool) where
  all_left : (cs : List ℕ) → list_all q cs ≡ true → list_all q (filter p cs) ≡ true
  all_left [] a = refl
  all_left (x ∷ cs) a = grind (arith, nat_tests, all_left cs)

apart_left : (p : ℕ → Bool) (cs : List ℕ) → all_apart cs ≡ true → all_apart (filter p cs) ≡ true
apart_left p [] a = refl
apart_left p (x ∷ cs) a = grind (arith, nat_tests, apart_left p cs, all_left (apart x) p cs)

apart_push : (cs : List ℕ) (core : ℕ) → all_apart cs ≡ true → list_all (apart core) cs ≡ true → all_apart (cs ++ core ∷ []) ≡ true
apart_push [] core a c = refl
apart_push (x ∷ cs) core a c = grind (arith, nat_tests, apart_push cs core, list_all-append (apart x) cs (core ∷ []))

-- the core and those that neither are part of it nor contain it
staying_apart : (core : ℕ) (cs : List ℕ) → has_part cs core ≡ false → list_all (apart core) (staying core cs) ≡ true
staying_apart core [] h = refl
staying_apart core (x ∷ cs) h = grind (arith, nat_tests, staying_apart core cs)

module _ (core : ℕ) (cs : List ℕ) where
  pub apart_kept : all_apart cs ≡ true → has_part cs core ≡ false → all_apart (staying core cs ++ core ∷ []) ≡ true
  apart_kept a n =
      grind (arith, nat_tests, apart_push (staying core cs) core, apart_left (λ kept. not (subset core kept)) cs, staying_apart core cs)

  pub proper_kept : (s : ℕ) → list_all (proper s) cs ≡ true → proper s core ≡ true → list_all (proper s) (staying core cs ++ core ∷ []) ≡ true
  proper_kept s a b =
      grind (arith, nat_tests, list_all-append (proper s) (staying core cs) (core ∷ []), all_left (proper s) (λ kept. not (subset core kept)) cs)

-- a number more changes nothing for the cores
pub proper_more : (s : ℕ) (cs : List ℕ) → list_all (proper s) cs ≡ true → list_all (proper (s + 1)) cs ≡ true
proper_more s [] a = refl
proper_more s (x ∷ cs) a = grind (arith, nat_tests, proper_more s cs, below_members s x, below_members (s + 1) x)

module _ {W : Type 0} (K : Kind W) (m : MakerMeaning W) where
  pub limited_weight : (w : W) → Limited K m → None ≡ weight_refused K m w → Limited K (with_weight m w)
  limited_weight w h r = grind (arith, nat_tests, proper_more (length m.weights) m.cores, length-append m.weights (w ∷ []))
