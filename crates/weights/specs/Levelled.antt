-- Level weights: three whole numbers, each held below 2 ^ 32 and summed by itself. The first counts before the second, and the second before the third.
use Rattle.std.specs.Prelude.{◌≡◌, ℕ, ◌+◌, ◌^◌, Bool, ◌&&◌, ◌||◌, List, ◌∷◌, ◌++◌, decimal, ◌==◌, nat_le, nat_lt}
use Rattle.weights.specs.Kinds.{Kind}
use Rattle.weights.specs.declared.levels.Levels.{Levels}

pub record Three : Type 0 where
  pub first : ℕ
  pub second : ℕ
  pub third : ℕ

abbrev pub three : ℕ → ℕ → ℕ → Three
three a b c = record { first = a; second = b; third = c }

-- values of equal levels are equal
pub same_three : {a b c d e f : ℕ} → a ≡ d → b ≡ e → c ≡ f → three a b c ≡ three d e f
same_three p q r = λ i. three (p i) (q i) (r i)

abbrev pub at_most : Three → Three → Bool
at_most x y =
    nat_lt x.first y.first
    || (x.first == y.first && (nat_lt x.second y.second || (x.second == y.second && nat_le x.third y.third)))

abbrev pub levels_kind : Kind Levels
levels_kind = record {
  V = Three;
  value = λ w. three w.first w.second w.third;
  zero = three 0 0 0;
  plus = λ x y. three (x.first + y.first) (x.second + y.second) (x.third + y.third);
  le = at_most;
  holds = λ x. nat_lt x.first (2 ^ 32) && (nat_lt x.second (2 ^ 32) && nat_lt x.third (2 ^ 32));
  numbers = λ x. (x.first, x.second, x.third);
}

-- the three numbers in base ten, parted by commas
abbrev pub with_commas : ℕ × ℕ × ℕ → List ℕ
with_commas t = decimal t.0 ++ 44 ∷ (decimal t.1 ++ 44 ∷ decimal t.2)
