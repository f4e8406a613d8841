-- A value taken several times.
use Rattle.std.specs.Prelude.{◌≡◌, ℕ, zero, suc}
use Rattle.weights.specs.Kinds.{Kind}

module _ {W : Type 0} (K : Kind W) where
  -- the sum of n such values
  abbrev pub times : K.V → ℕ → K.V
  times v zero = K.zero
  times v (suc n) = K.plus v (times v n)

  -- what the weight means, n times
  abbrev pub Multiple : W → ℕ → W → Type 0
  Multiple w n product = K.value product ≡ times (K.value w) n
