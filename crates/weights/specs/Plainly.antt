-- Plain weights: whole numbers, held below 2 ^ 64; the first of the three numbers is the weight, the others are 0.
use Rattle.std.specs.Prelude.{ℕ, ◌+◌, ◌^◌, nat_le, nat_lt}
use Rattle.weights.specs.Kinds.{Kind}
use Rattle.weights.specs.declared.plain.Plain.{Plain}

abbrev pub plain_kind : Kind Plain
plain_kind = record {
  V = ℕ;
  value = λ w. w.amount;
  zero = 0;
  plus = λ x y. x + y;
  le = nat_le;
  holds = λ x. nat_lt x (2 ^ 64);
  numbers = λ x. (x, 0, 0);
}
