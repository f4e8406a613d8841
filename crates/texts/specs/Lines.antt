-- What a line of a session says, or what is wrong with it.
use Rattle.std.specs.Prelude.{ℕ, Bool, true, false, if◌then◌else◌, List, [], ◌∷◌, Some, None, Option, Ok, Err, Result, ok_or, ◌==◌}
use Rattle.terms.specs.declared.limits.TheConstants.{MOST_ROUNDS}
use Rattle.terms.specs.declared.refusals.Refusal.{Refusal}
use Rattle.terms.specs.declared.refusals.Refusal.TheVariants.{WrongLetter, WrongFieldCount}
use Rattle.texts.specs.Cuts.{fields, numbered}
use Rattle.texts.specs.Faults.{field_fault, whole_line, malformed}
use Rattle.texts.specs.Pieces.{left, as_numbered}
use Rattle.texts.specs.Numbers.{number}
use Rattle.texts.specs.declared.faults.FieldFault.{FieldFault}
use Rattle.texts.specs.declared.faults.LineFault.{LineFault}
use Rattle.texts.specs.declared.lines.Letter.{Letter}
use Rattle.texts.specs.declared.lines.Letter.TheVariants.{Job, Hard, Soft, Rounds, Query}
use Rattle.texts.specs.declared.lines.Line.{Line}
use Rattle.texts.specs.declared.lines.Line.TheVariants.{Job as JobLine, Hard as HardLine, Soft as SoftLine, Rounds as RoundsLine, Query as QueryLine}
use Rattle.texts.specs.declared.numbers.TheConstants.{FIVE_DIGITS}
use Rattle.texts.specs.declared.weight_forms.WeightForm.{WeightForm}
use Rattle.texts.specs.declared.weight_forms.WeightForm.TheVariants.{Plain, Levels}

-- a line of a text, and a field of a line, with its number
abbrev pub TextLine : Type 0
TextLine = ℕ × List ℕ

abbrev pub Field : Type 0
Field = ℕ × List ℕ

-- what a line says, its weight and literals still being fields
pub data Said : Type 0 where
  job : ℕ → WeightForm → Said
  hard : List Field → Said
  soft : Field → List Field → Said
  rounds : ℕ → Said
  query : Said

abbrev pub said_by : Line → Said
said_by (JobLine n form) = job n form
said_by (HardLine literals) = hard (left literals)
said_by (SoftLine weight literals) = soft (as_numbered weight) (left literals)
said_by (RoundsLine count) = rounds count
said_by QueryLine = query

-- line j opens a job, and no other line does
abbrev pub opens_job : Line → Bool
opens_job (JobLine n form) = true
opens_job line = false

abbrev pub said_in : Result Line LineFault → Result Said LineFault
said_in (Ok line) = Ok (said_by line)
said_in (Err fault) = Err fault

-- ---- letters
abbrev pub letter_of : ℕ → Option Letter
letter_of b =
    if b == 106 then Some Job else if b == 104 then Some Hard else if b == 115 then Some Soft else if b == 114 then Some Rounds else if b == 113 then Some Query
    else None

-- j, h, s, r and q
abbrev pub letter : List ℕ → Option Letter
letter (b ∷ []) = letter_of b
letter field = None

-- p and l
abbrev pub form : List ℕ → Option WeightForm
form (b ∷ []) = if b == 112 then Some Plain else if b == 108 then Some Levels else None
form field = None

-- ---- the fields after the letter
abbrev pub refused_whole : ℕ → Refusal → Result Said LineFault
refused_whole line refusal = Err (whole_line line refusal)

-- what a field says, or its fault
abbrev pub field_said : {A : Type 0} → ℕ → Field → Option A → Result A FieldFault
field_said line field said = ok_or said (field_fault line field)

-- a field that is not written as asked
abbrev pub malformed_field : ℕ → Field → LineFault
malformed_field line field = malformed (field_fault line field)

abbrev pub job_by : ℕ → Field → Field → Option ℕ → Option WeightForm → Result Said LineFault
job_by line n kind None f = Err (malformed_field line n)
job_by line n kind (Some v) None = Err (malformed_field line kind)
job_by line n kind (Some v) (Some f) = Ok (job v f)

abbrev pub job_said : ℕ → List Field → Result Said LineFault
job_said line (n ∷ kind ∷ []) = job_by line n kind (number FIVE_DIGITS n.1) (form kind.1)
job_said line fields = refused_whole line WrongFieldCount

abbrev pub soft_said : ℕ → List Field → Result Said LineFault
soft_said line [] = refused_whole line WrongFieldCount
soft_said line (weight ∷ literals) = Ok (soft weight literals)

abbrev pub rounds_by : ℕ → Field → Option ℕ → Result Said LineFault
rounds_by line count None = Err (malformed_field line count)
rounds_by line count (Some k) = Ok (rounds k)

abbrev pub rounds_said : ℕ → List Field → Result Said LineFault
rounds_said line (count ∷ []) = rounds_by line count (number MOST_ROUNDS count.1)
rounds_said line fields = refused_whole line WrongFieldCount

abbrev pub query_said : ℕ → List Field → Result Said LineFault
query_said line [] = Ok query
query_said line (f ∷ fields) = refused_whole line WrongFieldCount

-- ---- a whole line: j stands on the first line, and only there
abbrev pub said_after : ℕ → Option Letter → Bool → List Field → Result Said LineFault
said_after line (Some Job) true fields = job_said line fields
said_after line (Some Hard) false fields = Ok (hard fields)
said_after line (Some Soft) false fields = soft_said line fields
said_after line (Some Rounds) false fields = rounds_said line fields
said_after line (Some Query) false fields = query_said line fields
said_after line letter first fields = refused_whole line WrongLetter

abbrev pub said_by_fields : ℕ → List Field → Result Said LineFault
said_by_fields line [] = refused_whole line WrongLetter
said_by_fields line (tag ∷ fields) = said_after line (letter tag.1) (line == 1) fields

abbrev pub line_said : TextLine → Result Said LineFault
line_said l = said_by_fields l.0 (numbered 1 (fields l.1))
