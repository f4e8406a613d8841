-- What a session text prints.
use Rattle.std.specs.Prelude.{◌≡◌, ℕ, Bool, true, false, List, [], ◌∷◌, length, Some, None, Option, Ok, Err, Result, nat_lt}
use Rattle.bracket.specs.States.{opened_on}
use Rattle.finders.specs.Meanings.{FinderMeaning, fresh as fresh_finder}
use Rattle.finders.specs.Refused.{variables_refused}
use Rattle.makers.specs.Meanings.{fresh as fresh_maker}
use Rattle.sessions.specs.Faults.{UnlessMemory}
use Rattle.sessions.specs.Printing.{printed}
use Rattle.sessions.specs.Session.{Session}
use Rattle.sessions.specs.declared.faults.SessionFault.{SessionFault}
use Rattle.terms.specs.declared.limits.TheConstants.{MOST_BYTES, MOST_VARIABLES, SOFT_PLACES, SESSION_CLAUSES, SESSION_LITERALS}
use Rattle.terms.specs.declared.refusals.Refusal.{Refusal}
use Rattle.terms.specs.declared.refusals.Refusal.TheVariants.{TextTooLong}
use Rattle.texts.specs.Cuts.{lines, numbered}
use Rattle.texts.specs.Faults.{whole_line}
use Rattle.texts.specs.Lines.{TextLine, Said, job, line_said}
use Rattle.texts.specs.declared.faults.LineFault.{LineFault}
use Rattle.texts.specs.declared.weight_forms.WeightForm.{WeightForm}
use Rattle.texts.specs.declared.weight_forms.WeightForm.TheVariants.{Plain, Levels}
use Rattle.weights.specs.Kinds.{Kind}
use Rattle.weights.specs.Levelled.{levels_kind}
use Rattle.weights.specs.Plainly.{plain_kind}

-- the finder of a session with n variables
abbrev pub finder : ℕ → FinderMeaning
finder n = fresh_finder n SOFT_PLACES SESSION_CLAUSES SESSION_LITERALS

-- the lines are played against a job with n variables and weights of a kind
abbrev pub Opens : {W : Type 0} → Kind W → WeightForm → ℕ → List TextLine → List ℕ → Type 0
Opens K form n lines output = Session form (opened_on K (finder n) (fresh_maker SOFT_PLACES)) lines output

-- by the form in which the weights are written
abbrev pub Opened : ℕ → WeightForm → List TextLine → List ℕ → Type 0
Opened n Plain lines output = Opens plain_kind Plain n lines output
Opened n Levels lines output = Opens levels_kind Levels n lines output

-- the first line asks for a number of variables that is refused; n is its second field
abbrev pub n_fault : Refusal → LineFault
n_fault refusal = record { line = 1; field = 2; refusal = refusal }

abbrev pub OpenedUnless : Option Refusal → ℕ → WeightForm → List TextLine → List ℕ → Type 0
OpenedUnless (Some refusal) n form lines output = output ≡ printed (n_fault refusal)
OpenedUnless None n form lines output = Opened n form lines output

-- by what the first line says, with the lines after it
abbrev pub Begun : Result Said LineFault → List TextLine → List ℕ → Type 0
Begun (Ok (job n form)) lines output = OpenedUnless (variables_refused MOST_VARIABLES n) n form lines output
Begun (Err fault) lines output = output ≡ printed fault
Begun said lines output = ⊥

abbrev pub PrintsLines : List TextLine → List ℕ → Type 0
PrintsLines [] output = output ≡ []
PrintsLines (l ∷ lines) output = Begun (line_said l) lines output

abbrev pub PrintsWithin : Bool → List ℕ → List ℕ → Type 0
PrintsWithin true text output = output ≡ printed (whole_line 0 TextTooLong)
PrintsWithin false text output = PrintsLines (numbered 1 (lines text)) output

-- a text with too many bytes is not read
abbrev pub Prints : List ℕ → List ℕ → Type 0
Prints text output = PrintsWithin (nat_lt MOST_BYTES (length text)) text output

-- a text prints no more than a fault
abbrev pub PrintsFault : List ℕ → SessionFault → Type 0
PrintsFault text f = UnlessMemory (λ fault. Prints text (printed fault)) f
