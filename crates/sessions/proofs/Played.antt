-- Lines that are played one after another.
use Rattle.std.proofs.Common.{◌≡◌, ℕ, List, [], ◌∷◌, ◌++◌, All, Ok, Err, Result, refl, sym, subst, ◌∙◌, append_assoc, append-nil}
use Rattle.std.specs.Prelude.{String, string_bytes}
use Rattle.std.proofs.lemmas.List.Elements.{All-rest}
use Rattle.bracket.specs.Brackets.{BracketStands}
use Rattle.bracket.specs.Logs.{Log, Logged}
use Rattle.bracket.specs.States.{State}
use Rattle.sessions.specs.Instructions.{Later}
use Rattle.sessions.specs.Playing.{Answered, LinePlayed}
use Rattle.sessions.specs.Printing.{printed, Adds}
use Rattle.sessions.specs.Session.{Lines, none, one_more, Session, Begins, FaultPrinted}
use Rattle.sessions.specs.declared.faults.SessionFault.{SessionFault}
use Rattle.sessions.specs.declared.faults.SessionFault.TheVariants.{Memory, Line}
use Rattle.texts.specs.Lines.{TextLine}
use Rattle.texts.specs.declared.weight_forms.WeightForm.{WeightForm}
use Rattle.weights.specs.Kinds.{Kind}

-- the fault at the end of a line belongs to what the line prints
pub in_full : {Z : Type 0} (P : List ℕ → Type 0) (old middle new : String Z) (played : Result (Unit {0}) SessionFault) → Answered P old middle played
    → FaultPrinted played middle new → (text : List ℕ) × P text × Adds text old new
in_full P old middle new (Ok u) a e = (a.0, a.1, e ∙ append-nil (string_bytes middle) ∙ a.2)
in_full P old middle new (Err (Line fault)) a e =
    (printed fault, a.0, e ∙ subst (λ m. m ++ printed fault ≡ string_bytes old ++ printed fault) (sym (a.1 ∙ append-nil (string_bytes old))) refl)
in_full P old middle new (Err Memory) a e = absurd e

module _ {W : Type 0} {K : Kind W} (form : WeightForm) (first : State K) (all : List TextLine) where
  -- of all lines these are left, and the others have led to this state and printed this text
  abbrev pub SoFar : List TextLine → State K → List ℕ → Type 0
  SoFar rest s text =
      (done : List TextLine) × (log : Log K) × (all ≡ done ++ rest) × Lines form first done log s text
      × Logged first log s × BracketStands first log × All Later rest

  pub begun : Begins first → All Later all → (rest : List TextLine) → rest ≡ all → (text : List ℕ) → text ≡ [] → SoFar rest first text
  begun begins later rest e text empty =
      subst (λ rest. SoFar rest first text) (sym e) (subst (λ text. SoFar all first text) (sym empty) ([], [], refl, none, begins.0, begins.1, later))

  pub one_line_more : {Z : Type 0} (l : TextLine) (next rest : List TextLine) → rest ≡ l ∷ next → (s t : State K) (text middle new : String Z)
      → SoFar rest s (string_bytes text) → (played : Result (Unit {0}) SessionFault) → Answered (LinePlayed form l s t) text middle played
      → FaultPrinted played middle new → SoFar next t (string_bytes new)
  one_line_more l next rest e s t text middle new far played answered fault =
      let before : SoFar (l ∷ next) s (string_bytes text) = subst (λ rest. SoFar rest s (string_bytes text)) e far in
      let a = in_full (LinePlayed form l s t) text middle new played answered fault in
      let line = a.1 in
      let on = line.2.2 first before.1 before.4 before.5 in (
        before.0 ++ l ∷ [],
        line.2.0 ++ before.1,
        before.2 ∙ sym (append_assoc before.0 (l ∷ []) next),
        subst (λ text. Lines form first (before.0 ++ l ∷ []) (line.2.0 ++ before.1) t text) (sym a.2) (one_more l before.3 line.1 line.2.1),
        on.0,
        on.1,
        All-rest Later l next (l ∷ next) refl before.6,
      )

  pub done : (rest : List TextLine) → rest ≡ [] → (s : State K) (text : List ℕ) → SoFar rest s text → Session form first all text
  done rest e s text far =
      let at : SoFar [] s text = subst (λ rest. SoFar rest s text) e far in
      record {
        log = at.1;
        last = s;
        lines_played = subst (λ ls. Lines form first ls at.1 s text) (sym (at.2 ∙ append-nil at.0)) at.3;
        logged = at.4;
        bracket = at.5;
      }
