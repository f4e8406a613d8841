-- The laws of masks for the operations of a word of 64 bits.
use Rattle.std.proofs.Common.{◌≡◌, ℕ, ◌-◌, ◌/◌, ◌^◌, ◌<◌, ◌≤◌, true, false, not, ◌&&◌, bit_and, eqb, ltb, arith, pow_pos}
use Rattle.std.specs.Int.{trailing_zeros, w64}
use Rattle.std.proofs.Math.Nat.{div-eq_of_lt}
use Rattle.std.proofs.lemmas.Nat.{le-div}
use Rattle.std.proofs.lemmas.Nat.Bits.{bit_at-trailing_zeros}
use Rattle.std.proofs.lemmas.Grind.{one_shifted}
use Rattle.std.proofs.lemmas.Bool.Decides.{nat_tests}
use Rattle.terms.specs.Masks.{member, below}
use Rattle.terms.proofs.MaskLaws.{member_bit, member_past, member_minus, member_one, member_full, member-or, none_members, subset_members, below_members, intersect_members, size-ones}
use Rattle.terms.proofs.MemberLaws.{members_of_none, members_of_least, members_of_fit, length-members_of}

-- a word has no member from 64 on
pub past_word : (w k : ℕ) → w < 2 ^ 64 → 64 ≤ k → member w k ≡ false
past_word = member_past 64

pub member_complement : (x y k : ℕ) → x < 2 ^ 64 → y < 2 ^ 64 → member (bit_and x (2 ^ 64 - 1 - y)) k ≡ (member x k && not (member y k))
member_complement = member_minus 64

pub member_ones : (k : ℕ) → member (2 ^ 64 - 1) k ≡ ltb k 64
member_ones = member_full 64

pub below_quotient : (s w : ℕ) → eqb (w / 2 ^ s) 0 ≡ below s w
unfolding below
below_quotient s w = grind (arith, nat_tests, pow_pos, div-eq_of_lt, le-div 1 w (2 ^ s))

-- the lowest one of a word that is not 0 stands at its least member
module _ (w : ℕ) (some : 0 < w) (fits : w < 2 ^ 64) where
  pub trailing_member : member w (trailing_zeros w64 w) ≡ true
  trailing_member = grind (arith, nat_tests, member_bit, bit_at-trailing_zeros w64 w)

  pub trailing_least : (k : ℕ) → member w k ≡ true → trailing_zeros w64 w ≤ k
  trailing_least k is = grind (arith, nat_tests, member_bit, bit_at-trailing_zeros w64 w)

pub ruleset word_laws = (member-or, past_word, member_complement, one_shifted, member_one, member_full, member_ones, below_quotient, none_members, subset_members, below_members, intersect_members, size-ones, trailing_member, trailing_least, members_of_none, members_of_least, members_of_fit, length-members_of)
