-- What a line of a session tells to do.
use Rattle.std.specs.Prelude.{◌≡◌, ℕ, false, ◌==◌, List, [], ◌∷◌, ℤ, Some, None, Option, Ok, Err, Result}
use Rattle.bracket.specs.Steps.{Call, hard, soft}
use Rattle.sessions.specs.Faults.{UnlessMemory}
use Rattle.sessions.specs.declared.faults.SessionFault.{SessionFault}
use Rattle.sessions.specs.declared.instructions.Instruction.{Instruction}
use Rattle.sessions.specs.declared.instructions.Instruction.TheVariants.{Hard, Soft, Rounds, Query}
use Rattle.texts.specs.Faults.{field_fault}
use Rattle.texts.specs.Lines.{TextLine, Field, Said, job, hard as hard_line, soft as soft_line, rounds as rounds_line, query, malformed_field, line_said}
use Rattle.texts.specs.Numbers.{literal}
use Rattle.texts.specs.WeightForms.{WeightSaid}
use Rattle.texts.specs.declared.faults.FieldFault.{FieldFault}
use Rattle.texts.specs.declared.faults.LineFault.{LineFault}
use Rattle.texts.specs.declared.weight_forms.WeightForm.{WeightForm}
use Rattle.weights.specs.Kinds.{Kind}

-- not the first line of a text
abbrev pub Later : TextLine → Type 0
Later l = (l.0 == 1) ≡ false

-- a call, a number of rounds at most, or the printing of the state
pub data Told (W : Type 0) : Type 0 where
  calls : Call W → Told W
  rounds : ℕ → Told W
  shows : Told W

abbrev pub told_by : {W : Type 0} → Instruction W → Told W
told_by (Hard c) = calls (hard c.items)
told_by (Soft w c) = calls (soft w c.items)
told_by (Rounds count) = rounds count
told_by Query = shows

-- ---- literals
abbrev pub with_literal : ℕ → Field → Option ℤ → Result (List ℤ) LineFault → Result (List ℤ) LineFault
with_literal line field None rest = Err (malformed_field line field)
with_literal line field (Some l) (Ok ls) = Ok (l ∷ ls)
with_literal line field (Some l) (Err fault) = Err fault

-- the literals that the fields say, or the first field that says none
abbrev pub clause : ℕ → List Field → Result (List ℤ) LineFault
clause line [] = Ok []
clause line (field ∷ fields) = with_literal line field (literal field.1) (clause line fields)

-- ---- what a line tells
module _ {W : Type 0} where
  abbrev pub hard_told : Result (List ℤ) LineFault → Result (Told W) LineFault
  hard_told (Ok c) = Ok (calls (hard c))
  hard_told (Err fault) = Err fault

  -- the weight stands before the literals
  abbrev pub soft_told : ℕ → Field → Option W → Result (List ℤ) LineFault → Result (Told W) LineFault
  soft_told line field None c = Err (malformed_field line field)
  soft_told line field (Some w) (Ok c) = Ok (calls (soft w c))
  soft_told line field (Some w) (Err fault) = Err fault

module _ {W : Type 0} (K : Kind W) (form : WeightForm) where
  -- what the said tells to do, or what is wrong with it; no line but the first opens a job
  abbrev pub Tells : ℕ → Result Said LineFault → Result (Told W) LineFault → Type 0
  Tells line (Err fault) i = i ≡ Err fault
  Tells line (Ok (job n f)) i = ⊥
  Tells line (Ok (hard_line fields)) i = i ≡ hard_told (clause line fields)
  Tells line (Ok (soft_line weight fields)) i =
      (w : Option W) × WeightSaid K form weight.1 w × (i ≡ soft_told line weight w (clause line fields))
  Tells line (Ok (rounds_line count)) i = i ≡ Ok (rounds count)
  Tells line (Ok query) i = i ≡ Ok shows

  abbrev pub Instructs : TextLine → Result (Told W) LineFault → Type 0
  Instructs l i = Tells l.0 (line_said l) i

  -- ---- reading
  abbrev pub WeightOrFault : ℕ → Field → Result W FieldFault → Type 0
  WeightOrFault line field (Ok w) = WeightSaid K form field.1 (Some w)
  WeightOrFault line field (Err fault) = WeightSaid K form field.1 None × (fault ≡ field_fault line field)

-- what was read is so, or the fault to which the reading came, unless memory ran out
abbrev pub ReadAs : {A T : Type 0} → (T → A) → (Result A LineFault → Type 0) → Result T SessionFault → Type 0
ReadAs view Says (Ok t) = Says (Ok (view t))
ReadAs view Says (Err f) = UnlessMemory (λ fault. Says (Err fault)) f
