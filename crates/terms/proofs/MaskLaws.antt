-- Laws of masks, for sets of any width.
use Rattle.std.proofs.Common.{◌≡◌, ℕ, zero, suc, ◌+◌, ◌-◌, ◌/◌, ◌^◌, ◌<◌, ◌≤◌, true, false, not, ◌&&◌, ◌||◌, bit_and, bit_or, bit_xor, eqb, ltb, Decides, refl, ap, ◌∙◌, arith, pow_pos, pow_mono}
use Rattle.std.specs.Int.{bit_at}
use Rattle.std.specs.Int.Bits.{xor_add_and}
use Rattle.std.specs.Int.Count.{ones, ones_step}
use Rattle.std.proofs.Math.Nat.{mod-eq_of_lt, div-eq_of_lt, div-one, pow-suc}
use Rattle.std.proofs.lemmas.Bool.{eq-eqb}
use Rattle.std.proofs.lemmas.Bool.Decides.{nat_tests}
use Rattle.std.proofs.lemmas.Nat.{and_mask, ones-le, le-div, div_below, leading_top, shr-shr}
use Rattle.std.proofs.lemmas.Nat.Bits.{bit_at_and, bit_at_or, bit_at_xor, bit_at-zero, bit_at-pow_same, bit_at-pow_other, bit_at_ones, bit_at_ones_above, bit_at_above, same_from_bits}
use Rattle.terms.specs.Masks.{member, subset, intersect, below, Subset, Intersect, Below, Without, size}

-- a member is a bit that is one, and the library says which bits the operations make
pub member_bit : (m k : ℕ) → member m k ≡ eqb (bit_at m k) 1
unfolding member
member_bit m k = refl

ruleset bit_laws = (nat_tests, member_bit, bit_at_and, bit_at_or, bit_at_xor, bit_at-zero, bit_at-pow_same, bit_at-pow_other, bit_at_ones, bit_at_ones_above, bit_at_above)

-- a mask below 2 ^ n has no member from n on
pub member_past : (n m k : ℕ) → m < 2 ^ n → n ≤ k → member m k ≡ false
member_past n m k h l = grind (arith, bit_laws)

-- ---- the members of what the operations make
pub member-or : (x y k : ℕ) → member (bit_or x y) k ≡ (member x k || member y k)
member-or x y k = grind (arith, bit_laws)

pub member_one : (i k : ℕ) → member (2 ^ i) k ≡ eqb i k
member_one i k = grind (arith, bit_laws)

pub member_full : (s k : ℕ) → member (2 ^ s - 1) k ≡ ltb k s
member_full s k = grind (arith, bit_laws)

-- the other numbers below n
complement : (n m : ℕ) → m < 2 ^ n → 2 ^ n - 1 - m ≡ bit_xor m (2 ^ n - 1)
complement n m h = omega (arith, xor_add_and m (2 ^ n - 1), and_mask m n, mod-eq_of_lt h)

-- what x has and y lacks
pub member_minus : (n x y k : ℕ) → x < 2 ^ n → y < 2 ^ n → member (bit_and x (2 ^ n - 1 - y)) k ≡ (member x k && not (member y k))
member_minus n x y k hx hy = grind (arith, bit_laws, complement n y)

-- a mask is its members
pub same_mask : (x y : ℕ) → ((k : ℕ) → member x k ≡ member y k) → x ≡ y
same_mask x y h = same_from_bits x y (λ k. grind (arith, bit_laws, h k))

pub below_pow : (n : ℕ) → n < 2 ^ n
below_pow zero = omega arith
below_pow (suc n) = omega (arith, below_pow n, pow-suc 2 n)

-- each set has a rest without the number
pub rest_of : (x k : ℕ) → (rest : ℕ) × Without x k rest
rest_of x k =
    let n = x + 2 ^ k in
    let few = below_pow n in
    let one = pow_pos k in
    (bit_and x (2 ^ n - 1 - 2 ^ k), λ j. member_minus n x (2 ^ k) j (omega arith) (omega arith) ∙ ap (λ b. member x j && not b) (member_one k j))

-- a mask that is not zero has a greatest member
greatest_member : (m : ℕ) → 0 < m → (k : ℕ) × (member m k ≡ true) × (m < 2 ^ suc k)
greatest_member m some = let t = leading_top m m some (below_pow m) in (t.0, grind (arith, bit_laws, le-div, div_below, pow_pos, pow-suc), omega arith)

-- ---- the tests, by members
pub none_members : (m : ℕ) → Decides (eqb m 0) ((k : ℕ) → member m k ≡ false)
none_members m = grind (arith, bit_laws, greatest_member m)

pub subset_members : (x y : ℕ) → Decides (subset x y) (Subset x y)
unfolding subset
subset_members x y = (
  (λ e k h. grind (arith, bit_laws, bit_at_and x y k)),
  (λ f. eq-eqb _ x (same_mask _ x (λ k. grind (arith, bit_laws, f k)))),
)

pub subset_self : (x : ℕ) → subset x x ≡ true
subset_self x = grind (arith, nat_tests, subset_members x x)

pub subset_trans : (x y z : ℕ) → subset x y ≡ true → subset y z ≡ true → subset x z ≡ true
subset_trans x y z a b = grind (arith, nat_tests, a, b, subset_members x y, subset_members y z, subset_members x z)

pub below_members : (n m : ℕ) → Decides (below n m) (Below n m)
unfolding below
below_members n m = grind (arith, bit_laws, greatest_member m, pow_mono, pow_pos)

pub intersect_members : (x y : ℕ) → Decides (intersect x y) (Intersect x y)
unfolding intersect
intersect_members x y = (λ e. grind (arith, bit_laws, greatest_member (bit_and x y)), λ w. grind (arith, bit_laws, bit_at_and x y w.0))

-- sets that meet still do when they have more members
pub intersect_more : (x y u v : ℕ) → subset x u ≡ true → subset y v ≡ true → intersect x y ≡ true → intersect u v ≡ true
intersect_more x y u v a b = grind (arith, nat_tests, a, b, subset_members x u, subset_members y v, intersect_members x y, intersect_members u v)

-- ---- how many
-- a shift by n drops the members below n
ones_above : (n m : ℕ) → ones m ≡ ones (m / 2 ^ n) + size n m
unfolding size
ones_above zero m = omega (arith, ap ones (div-one m))
ones_above (suc n) m = grind (arith, bit_laws, ones_above n m, ones_step (m / 2 ^ n), shr-shr m n 1)

pub size-ones : (n m : ℕ) → m < 2 ^ n → ones m ≡ size n m
size-ones n m h = omega (arith, ones_above n m, ones-le 0 (m / 2 ^ n), div-eq_of_lt h)
