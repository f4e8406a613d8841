-- What is printed: the state of a job, and the fault of a line.
use Rattle.std.specs.Prelude.{◌≡◌, ℕ, List, [], ◌∷◌, ◌++◌, Some, None, Option, option_map, String, string_bytes, codes, decimal}
use Rattle.std.specs.List.{join_with_byte, flat_map}
use Rattle.bracket.specs.States.{State, Plan, status}
use Rattle.bracket.specs.Statuses.{name_of}
use Rattle.texts.specs.Faults.{fault_text}
use Rattle.texts.specs.WeightForms.{weight_text}
use Rattle.texts.specs.declared.faults.LineFault.{LineFault}
use Rattle.texts.specs.declared.weight_forms.WeightForm.{WeightForm}
use Rattle.weights.specs.Kinds.{Kind}

-- a line ends with byte 10
abbrev pub ended : List ℕ → List ℕ
ended line = line ++ 10 ∷ []

abbrev pub printed : LineFault → List ℕ
printed fault = ended (fault_text fault)

-- the text comes to the end of what was printed
abbrev pub Adds : {Z : Type 0} → List ℕ → String Z → String Z → Type 0
Adds text old new = string_bytes new ≡ string_bytes old ++ text

abbrev pub kept_values : {W : Type 0} {K : Kind W} → State K → Option (List ℕ)
kept_values s = option_map (λ p. p.values) s.kept

module _ {W : Type 0} (K : Kind W) (form : WeightForm) where
  -- a dash stands for what is absent
  abbrev pub ceiling_text : Option (Plan K.V) → List ℕ
  ceiling_text None = codes "-"
  ceiling_text (Some p) = weight_text form (K.numbers p.cost)

  -- the value of each variable in turn
  abbrev pub plan_text : Option (Plan K.V) → List ℕ
  plan_text None = codes "-"
  plan_text (Some p) = flat_map decimal p.values

-- q, the status, the floor, the ceiling and the assignment, with tabs between them
abbrev pub state_text : {W : Type 0} {K : Kind W} → WeightForm → State K → List ℕ
state_text {K = K} form s = ended (join_with_byte 9 (
    codes "q" ∷ name_of (status s) ∷ weight_text form (K.numbers s.floor) ∷ ceiling_text K form s.kept ∷ plan_text K form s.kept ∷ []
    ))
