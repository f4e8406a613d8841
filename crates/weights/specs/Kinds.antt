-- What a weight kind means: values without limit of size, and which of them a weight can hold.
use Rattle.std.specs.Prelude.{◌≡◌, ℕ, Bool, true, false, if◌then◌else◌, Some, None, Option}
use Rattle.std.specs.declared.cmp.Ordering.TheVariants.{Less, Equal, Greater}
use Rattle.std.specs.declared.cmp.Ordering.{Ordering}
use Rattle.std.specs.Option.{option_map}

pub record Kind (W : Type 0) : Type 1 where
  pub V : Type 0
  -- what a weight means
  pub value : W → V
  pub zero : V
  pub plus : V → V → V
  -- at most
  pub le : V → V → Bool
  -- whether a weight can mean it
  pub holds : V → Bool
  -- the three numbers that stand for it
  pub numbers : V → ℕ × ℕ × ℕ

pub record Laws {W : Type 0} (K : Kind W) : Type 0 where
  -- the order is total and transitive, and tells different values apart
  pub total : (x y : K.V) → K.le x y ≡ false → K.le y x ≡ true
  pub trans : (x y z : K.V) → K.le x y ≡ true → K.le y z ≡ true → K.le x z ≡ true
  pub antisym : (x y : K.V) → K.le x y ≡ true → K.le y x ≡ true → x ≡ y
  -- neither grouping nor order matters to a sum, and zero adds nothing
  pub assoc : (x y z : K.V) → K.plus (K.plus x y) z ≡ K.plus x (K.plus y z)
  pub comm : (x y : K.V) → K.plus x y ≡ K.plus y x
  pub unit : (x : K.V) → K.plus K.zero x ≡ x
  -- zero is the least, and a sum grows with its parts
  pub least : (x : K.V) → K.le K.zero x ≡ true
  pub mono : (x y z : K.V) → K.le x y ≡ true → K.le (K.plus x z) (K.plus y z) ≡ true
  -- zero can be held, and so can the parts of what can be held
  pub none : K.holds K.zero ≡ true
  pub parts : (x y : K.V) → K.holds (K.plus x y) ≡ true → (K.holds x ≡ true) × (K.holds y ≡ true)

module _ {W : Type 0} (K : Kind W) where
  -- r is the weight that means v, and none where v cannot be held
  abbrev pub Totals : K.V → Option W → Type 0
  Totals v None = K.holds v ≡ false
  Totals v (Some w) = (K.holds v ≡ true) × (K.value w ≡ v)

  abbrev pub ordering : K.V → K.V → Ordering
  ordering x y = if K.le x y then if K.le y x then Equal else Less else Greater

  -- the three numbers of a value that can be held give that value back
  abbrev pub ComesBack : ℕ × ℕ × ℕ → Option W → Type 0
  ComesBack three r = (v : K.V) → K.holds v ≡ true → K.numbers v ≡ three → option_map K.value r ≡ Some v

  -- and a weight that comes can be held, and its three numbers are those that it came from
  abbrev pub StandsFor : ℕ × ℕ × ℕ → Option W → Type 0
  StandsFor three None = Unit {0}
  StandsFor three (Some w) = (K.holds (K.value w) ≡ true) × (K.numbers (K.value w) ≡ three)
