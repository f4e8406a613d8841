-- A session: lines that are played against one job, one after another.
use Rattle.std.specs.Prelude.{ℕ, List, [], ◌∷◌, ◌++◌, Ok, Err, Result, String}
use Rattle.bracket.specs.Brackets.{BracketStands}
use Rattle.bracket.specs.Logs.{Log, Logged}
use Rattle.bracket.specs.States.{State}
use Rattle.sessions.specs.Instructions.{Told, Instructs}
use Rattle.sessions.specs.Playing.{Played}
use Rattle.sessions.specs.Printing.{printed, Adds}
use Rattle.sessions.specs.declared.faults.SessionFault.{SessionFault}
use Rattle.sessions.specs.declared.faults.SessionFault.TheVariants.{Memory, Line}
use Rattle.texts.specs.Lines.{TextLine}
use Rattle.texts.specs.declared.faults.LineFault.{LineFault}
use Rattle.texts.specs.declared.weight_forms.WeightForm.{WeightForm}
use Rattle.weights.specs.Kinds.{Kind}

module _ {W : Type 0} {K : Kind W} (form : WeightForm) where
  -- what lines lead to, one after another
  pub data Lines (first : State K) : List TextLine → Log K → State K → List ℕ → Type 0 where
    none : Lines first [] [] first []
    one_more : {lines : List TextLine} {log : Log K} {s : State K} {text : List ℕ} → (l : TextLine) → {i : Result (Told W) LineFault}
        {more : Log K} {t : State K} {new : List ℕ} → Lines first lines log s text
        → Instructs K form l i → Played form l.0 s i more t new → Lines first (lines ++ l ∷ []) (more ++ log) t (text ++ new)

  -- lines that are played from a state on print a text, and the bracket stands on the whole log of the job
  pub record Session (first : State K) (lines : List TextLine) (text : List ℕ) : Type 0 where
    pub log : Log K
    pub last : State K
    pub lines_played : Lines first lines log last text
    pub logged : Logged first log last
    pub bracket : BracketStands first log

-- a job has just been opened, and the bracket stands
abbrev pub Begins : {W : Type 0} {K : Kind W} → State K → Type 0
Begins s = Logged s [] s × BracketStands s []

-- the fault to which a line came was printed
abbrev pub FaultPrinted : {Z : Type 0} → Result (Unit {0}) SessionFault → String Z → String Z → Type 0
FaultPrinted (Ok u) old new = Adds [] old new
FaultPrinted (Err (Line fault)) old new = Adds (printed fault) old new
FaultPrinted (Err Memory) old new = ⊥
