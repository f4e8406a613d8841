-- A set of numbers as one number, its mask: k is a member where bit k of the mask is one. No set is too wide for this.
use Rattle.std.specs.Prelude.{◌≡◌, ℕ, zero, suc, ◌+◌, ◌/◌, ◌%◌, ◌^◌, ◌<◌, Bool, true, if◌then◌else◌, not, ◌&&◌, ◌==◌, bit_and, nat_lt}

unfoldable pub member : ℕ → ℕ → Bool
member m k = m / 2 ^ k % 2 == 1

-- each member of x is one of y
abbrev pub Subset : ℕ → ℕ → Type 0
Subset x y = (k : ℕ) → member x k ≡ true → member y k ≡ true

-- x and y have a member in common
abbrev pub Intersect : ℕ → ℕ → Type 0
Intersect x y = (k : ℕ) × (member x k ≡ true) × (member y k ≡ true)

-- the rest has the members of x but for k
abbrev pub Without : ℕ → ℕ → ℕ → Type 0
Without x k rest = (j : ℕ) → member rest j ≡ (member x j && not (k == j))

-- each member is below n
abbrev pub Below : ℕ → ℕ → Type 0
Below n m = (k : ℕ) → member m k ≡ true → k < n

-- the same three as tests
unfoldable pub subset : ℕ → ℕ → Bool
subset x y = bit_and x y == x

unfoldable pub intersect : ℕ → ℕ → Bool
intersect x y = not (bit_and x y == 0)

unfoldable pub below : ℕ → ℕ → Bool
below n m = nat_lt m (2 ^ n)

-- how many of the numbers below n are members
unfoldable pub size : ℕ → ℕ → ℕ
size zero m = 0
size (suc n) m = size n m + (if member m n then 1 else 0)
