-- How a weight is written: in plain form one number, in level form three numbers with commas between them.
use Rattle.std.specs.Prelude.{◌≡◌, ℕ, true, ◌-◌, ◌^◌, ◌<◌, List, [], ◌∷◌, Some, None, Option, option_map, decimal}
use Rattle.texts.specs.Numbers.{number}
use Rattle.texts.specs.Cuts.{pieces}
use Rattle.texts.specs.declared.weight_forms.WeightForm.{WeightForm}
use Rattle.texts.specs.declared.weight_forms.WeightForm.TheVariants.{Plain, Levels}
use Rattle.weights.specs.Kinds.{Kind}
use Rattle.weights.specs.Levelled.{with_commas}

-- the three numbers of a weight, of which a plain one has the first alone
abbrev pub Three : Type 0
Three = ℕ × ℕ × ℕ

abbrev pub weight_text : WeightForm → Three → List ℕ
weight_text Plain t = decimal t.0
weight_text Levels t = with_commas t

-- ---- reading
-- one of the numbers of a weight
abbrev pub amount : List ℕ → Option ℕ
amount field = number (2 ^ 64 - 1) field

abbrev pub all_three : Option ℕ → Option ℕ → Option ℕ → Option Three
all_three (Some a) (Some b) (Some c) = Some (a, b, c)
all_three a b c = None

abbrev pub three_of : List (List ℕ) → Option Three
three_of (a ∷ b ∷ c ∷ []) = all_three (amount a) (amount b) (amount c)
three_of fields = None

abbrev pub weight_numbers : WeightForm → List ℕ → Option Three
weight_numbers Plain field = option_map (λ n. (n, 0, 0)) (amount field)
weight_numbers Levels field = three_of (pieces 44 field)

-- ---- the same told by what is written
-- numbers that can be written in a form
abbrev pub Writable : WeightForm → Three → Type 0
Writable Plain t = (t.0 < 2 ^ 64) × (t.1 ≡ 0) × (t.2 ≡ 0)
Writable Levels t = (t.0 < 2 ^ 64) × (t.1 < 2 ^ 64) × (t.2 < 2 ^ 64)

abbrev pub WeightRead : WeightForm → List ℕ → Option Three → Type 0
WeightRead form field None = (t : Three) → Writable form t → field ≡ weight_text form t → ⊥
WeightRead form field (Some t) = Writable form t × (field ≡ weight_text form t)

-- ---- the weights of a kind
module _ {W : Type 0} (K : Kind W) (form : WeightForm) where
  -- the weight that a field says, or none if it says no weight that the kind can hold
  abbrev pub WeightSaid : List ℕ → Option W → Type 0
  WeightSaid field None = (v : K.V) → K.holds v ≡ true → weight_numbers form field ≡ Some (K.numbers v) → ⊥
  WeightSaid field (Some w) = weight_numbers form field ≡ Some (K.numbers (K.value w))

  -- the kind displays its weights in the form
  abbrev pub DisplaysIn : (W → Option (List ℕ)) → Type 0
  DisplaysIn output = (w : W) → output w ≡ Some (weight_text form (K.numbers (K.value w)))
