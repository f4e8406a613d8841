-- Places that are filled from the front.
use Rattle.std.specs.Prelude.{ℕ, List}

-- the items that have been put in, how many places are free behind them, and what stands in these
pub record Filled (T : Type 0) : Type 0 where
  pub items : List T
  pub free : ℕ
  pub behind : List T
