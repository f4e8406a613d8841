-- What is wrong with a field or a line, and how that is written.
use Rattle.std.specs.Prelude.{ℕ, List, [], ◌∷◌, Some, None, Option, decimal}
use Rattle.std.specs.List.{join_with_byte}
use Rattle.terms.specs.Refusals.{number_of, layer_of, letter_of}
use Rattle.terms.specs.declared.refusals.Layer.{Layer}
use Rattle.terms.specs.declared.refusals.Refusal.{Refusal}
use Rattle.terms.specs.declared.refusals.Refusal.TheVariants.{MalformedField}
use Rattle.texts.specs.declared.faults.FieldFault.{FieldFault}
use Rattle.texts.specs.declared.faults.LineFault.{LineFault}

-- a field of a line, by its number
abbrev pub field_fault : ℕ → ℕ × List ℕ → FieldFault
field_fault line field = record { line = line; field = field.0 }

-- a line that is refused as a whole
abbrev pub whole_line : ℕ → Refusal → LineFault
whole_line line refusal = record { line = line; field = 0; refusal = refusal }

-- a field that is not written as asked
abbrev pub malformed : FieldFault → LineFault
malformed fault = record { line = fault.line; field = fault.field; refusal = MalformedField }

abbrev pub letter_or_dash : Option Layer → ℕ
letter_or_dash None = 45
letter_or_dash (Some layer) = letter_of layer

-- x, the line, the field, the layer and the number, with tabs between them
abbrev pub fault_text : LineFault → List ℕ
fault_text fault = join_with_byte 9 (
    (120 ∷ []) ∷ decimal fault.line ∷ decimal fault.field ∷ (letter_or_dash (layer_of fault.refusal) ∷ []) ∷ decimal (number_of fault.refusal) ∷ []
    )
