-- A value taken several times, by the binary digits of the number of times.
use Rattle.std.proofs.Common.{◌≡◌, ℕ, zero, suc, ◌+◌, ◌-◌, ◌/◌, ◌%◌, ◌^◌, ◌<◌, ap, ◌∙◌, arith}
use Rattle.std.proofs.lemmas.Nat.{shr-shr}
use Rattle.weights.specs.Kinds.{Kind, Laws}
use Rattle.maker_branch.specs.Multiples.{times}

-- the digits down to a digit are twice those before it, and the one at the digit
halves : (count digit : ℕ) → 0 < digit → count / 2 ^ digit ≡ count / 2 ^ (digit - 1) / 2
halves count digit h =
    let next : digit - 1 + 1 ≡ digit = omega arith in
    omega (arith, shr-shr count (digit - 1) 1, ap (λ k. count / 2 ^ k) next)

module _ {W : Type 0} (K : Kind W) (laws : Laws K) (v : K.V) where
  times_sum : (m n : ℕ) → K.plus (times K v m) (times K v n) ≡ times K v (m + n)
  times_sum zero n =
      let same : n ≡ 0 + n = omega arith in
      laws.unit (times K v n) ∙ ap (times K v) same
  times_sum (suc m) n =
      let same : suc (m + n) ≡ suc m + n = omega arith in
      laws.assoc v (times K v m) (times K v n) ∙ ap (K.plus v) (times_sum m n) ∙ ap (times K v) same

  module _ (count digit : ℕ) (some : 0 < digit) (p two : K.V) (sofar : p ≡ times K v (count / 2 ^ digit)) (twice : two ≡ K.plus p p) where
    doubled : two ≡ times K v (count / 2 ^ digit + count / 2 ^ digit)
    doubled = twice ∙ ap (λ x. K.plus x x) sofar ∙ times_sum (count / 2 ^ digit) (count / 2 ^ digit)

    pub digit_zero : (count / 2 ^ (digit - 1) % 2 ≡ 1 → ⊥) → two ≡ times K v (count / 2 ^ (digit - 1))
    digit_zero r =
        let same : count / 2 ^ digit + count / 2 ^ digit ≡ count / 2 ^ (digit - 1) = omega (arith, halves count digit some) in
        doubled ∙ ap (times K v) same

    pub digit_one : (sum : K.V) → sum ≡ K.plus two v → count / 2 ^ (digit - 1) % 2 ≡ 1 → sum ≡ times K v (count / 2 ^ (digit - 1))
    digit_one sum e r =
        let same : suc (count / 2 ^ digit + count / 2 ^ digit) ≡ count / 2 ^ (digit - 1) = omega (arith, halves count digit some) in
        e ∙ laws.comm two v ∙ ap (K.plus v) doubled ∙ ap (times K v) same
