-- Laws of the list of a set's members.
use Rattle.std.proofs.Common.{◌≡◌, ℕ, zero, suc, ◌+◌, ◌^◌, ◌<◌, ◌≤◌, [], ◌∷◌, Bool, true, false, not, ◌&&◌, eqb, ltb, leb, refl, arith, length}
use Rattle.std.specs.List.{filter, list_any, range_with_len, All}
use Rattle.std.proofs.lemmas.Bool.Decides.{nat_tests}
use Rattle.std.proofs.lemmas.List.Elements.{All-filter}
use Rattle.std.proofs.lemmas.List.FromFn.{length-range_with_len, get_or-range_with_len}
use Rattle.std.proofs.lemmas.List.Sums.{length-filter, count_by-le-length}
use Rattle.terms.specs.Masks.{member}
use Rattle.terms.specs.declared.limits.TheConstants.{SOFT_PLACES}
use Rattle.terms.proofs.MaskLaws.{member_past}
use Rattle.terms.specs.Sets.{members_of}

module _ (m : ℕ) where
  none_listed : (a n : ℕ) → ((k : ℕ) → member m k ≡ false) → filter (member m) (range_with_len a n) ≡ []
  none_listed a zero none = refl
  none_listed a (suc n) none = rw (none a) (none_listed (a + 1) n none)

  pub members_of_none : ((k : ℕ) → member m k ≡ false) → members_of m ≡ []
  unfolding members_of
  members_of_none = none_listed 0 SOFT_PLACES

  -- r is m without t
  module _ (r t : ℕ) (without : (k : ℕ) → member r k ≡ (member m k && not (eqb t k))) where
    listed_past : (a n : ℕ) → t < a → filter (member m) (range_with_len a n) ≡ filter (member r) (range_with_len a n)
    listed_past a zero past = refl
    listed_past a (suc n) past = grind (arith, nat_tests, without a, listed_past (a + 1) n)

    -- where t is the least member
    module _ (is : member m t ≡ true) (least : (k : ℕ) → member m k ≡ true → t ≤ k) where
      listed_from : (a n : ℕ) → a ≤ t → t < a + n → filter (member m) (range_with_len a n) ≡ t ∷ filter (member r) (range_with_len a n)
      listed_from a zero from within = absurd (omega arith)
      listed_from a (suc n) from within = grind (arith, nat_tests, without a, least a, listed_past (a + 1) n, listed_from (a + 1) n)

      pub members_of_least : t < SOFT_PLACES → members_of m ≡ t ∷ members_of r
      unfolding members_of
      members_of_least = listed_from 0 SOFT_PLACES (omega arith)

-- ---- all of them
module _ (p : ℕ → Bool) (k : ℕ) where
  listed_only : (a n : ℕ) → list_any (λ j. eqb j k) (filter p (range_with_len a n)) ≡ (p k && (leb a k && ltb k (a + n)))
  listed_only a zero = grind (arith, nat_tests)
  listed_only a (suc n) = grind (arith, nat_tests, listed_only (a + 1) n)

pub members_of_all : (m k : ℕ) → m < 2 ^ SOFT_PLACES → member m k ≡ list_any (λ j. eqb j k) (members_of m)
unfolding members_of
members_of_all m k l = grind (arith, nat_tests, listed_only (member m) k 0 SOFT_PLACES, member_past SOFT_PLACES m k)

-- ---- how great, and how many
module _ (m n : ℕ) where
  listed_fit : All (λ k. k < n) (filter (member m) (range_with_len 0 n))
  listed_fit = All-filter (member m) (λ k. k < n) (range_with_len 0 n) (λ i d l. omega (arith, get_or-range_with_len 0 n i d, length-range_with_len 0 n))

  listed_length : length (filter (member m) (range_with_len 0 n)) ≤ n
  listed_length = omega (arith, length-filter (member m), count_by-le-length (member m), length-range_with_len 0 n)

pub members_of_fit : (m : ℕ) → All (λ k. k < SOFT_PLACES) (members_of m)
unfolding members_of
members_of_fit m = listed_fit m SOFT_PLACES

pub length-members_of : (m : ℕ) → length (members_of m) ≤ SOFT_PLACES
unfolding members_of
length-members_of m = listed_length m SOFT_PLACES

pub ruleset listed_laws = (members_of_all, members_of_fit, length-members_of)
