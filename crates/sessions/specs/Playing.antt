-- What a line leads to when it is played.
use Rattle.std.specs.Prelude.{ℕ, List, [], ◌∷◌, Option, Ok, Err, Result, String}
use Rattle.bracket.specs.Logs.{Log, line}
use Rattle.bracket.specs.States.{State}
use Rattle.bracket.specs.Steps.{Call, round, Step}
use Rattle.sessions.specs.Calls.{RoundsPlayed, Continues, call_result, result_text}
use Rattle.sessions.specs.Faults.{UnlessMemory}
use Rattle.sessions.specs.Instructions.{Told, told_by, calls, rounds, shows, Instructs}
use Rattle.sessions.specs.Printing.{state_text, printed, Adds}
use Rattle.sessions.specs.declared.faults.SessionFault.{SessionFault}
use Rattle.sessions.specs.declared.instructions.Instruction.{Instruction}
use Rattle.terms.specs.declared.refusals.Refusal.{Refusal}
use Rattle.texts.specs.Lines.{TextLine}
use Rattle.texts.specs.Pieces.{as_numbered}
use Rattle.texts.specs.declared.faults.LineFault.{LineFault}
use Rattle.texts.specs.declared.pieces.Piece.{Piece}
use Rattle.texts.specs.declared.weight_forms.WeightForm.{WeightForm}
use Rattle.weights.specs.Kinds.{Kind}

module _ {W : Type 0} {K : Kind W} (form : WeightForm) where
  -- what an instruction, or the fault to which its reading came, leads to: the calls that were made, newest first, the state
  -- that they left, and what was printed
  pub data Played (number : ℕ) (s : State K) : Result (Told W) LineFault → Log K → State K → List ℕ → Type 0 where
    not_read : {fault : LineFault} → Played number s (Err fault) [] s (printed fault)
    called : {c : Call W} {r : Option Refusal} {t : State K} → Step s c r t
        → Played number s (Ok (calls c)) (line c r t ∷ []) t (result_text (call_result number s.finder.n c r))
    played : {count : ℕ} {log : Log K} {t : State K} {r : Option Refusal} → RoundsPlayed count s log t r
        → Played number s (Ok (rounds count)) log t (result_text (call_result {W = W} number 0 round r))
    shown : Played number s (Ok shows) [] s (state_text form s)

  -- a line was played by such calls, and the bracket stands on the log that they go on to
  abbrev pub Performed : ℕ → Result (Told W) LineFault → State K → State K → List ℕ → Type 0
  Performed number i s t text = (more : Log K) × Played number s i more t text × Continues s more t

  abbrev pub LinePlayed : TextLine → State K → State K → List ℕ → Type 0
  LinePlayed l s t text = (i : Result (Told W) LineFault) × Instructs K form l i × Performed l.0 i s t text

-- a text was printed, the fault at its end being left to print, unless memory ran out
abbrev pub Answered : {Z : Type 0} → (List ℕ → Type 0) → String Z → String Z → Result (Unit {0}) SessionFault → Type 0
Answered Prints old new (Ok u) = (text : List ℕ) × Prints text × Adds text old new
Answered Prints old new (Err f) = UnlessMemory (λ fault. Prints (printed fault) × Adds [] old new) f

module _ {W : Type 0} {K : Kind W} (form : WeightForm) where
  -- the instruction of a line was followed
  abbrev pub Follows : {Z : Type 0} → ℕ → Instruction W → State K → State K → String Z → String Z → Result (Unit {0}) SessionFault → Type 0
  Follows number i s t old new result = Answered (Performed form number (Ok (told_by i)) s t) old new result

  -- a line was read, and its instruction followed
  abbrev pub Plays : {Z : Type 0} → Piece → State K → State K → String Z → String Z → Result (Unit {0}) SessionFault → Type 0
  Plays l s t old new result = Answered (LinePlayed form (as_numbered l) s t) old new result
