-- An instruction that is performed, from the result of its calls to what is printed.
use Rattle.std.proofs.Common.{◌≡◌, ℕ, [], ◌∷◌, Ok, Err, Result, sym, subst, ap}
use Rattle.bracket.specs.Logs.{line}
use Rattle.bracket.specs.States.{State}
use Rattle.bracket.specs.Steps.{Call}
use Rattle.sessions.specs.Calls.{Called, PlayedRounds, result_text}
use Rattle.sessions.specs.Instructions.{Told, calls, rounds, shows, Instructs}
use Rattle.sessions.specs.Playing.{Played, called, played, shown, not_read, Performed, LinePlayed}
use Rattle.sessions.specs.Printing.{state_text, printed}
use Rattle.sessions.proofs.Rounds.{stays, goes_on}
use Rattle.texts.specs.Lines.{TextLine}
use Rattle.texts.specs.declared.faults.LineFault.{LineFault}
use Rattle.texts.specs.declared.weight_forms.WeightForm.{WeightForm}
use Rattle.weights.specs.Kinds.{Kind}

module _ {W : Type 0} {K : Kind W} (form : WeightForm) (number : ℕ) (s : State K) (i : Told W) where
  pub call_made : (c : Call W) → i ≡ calls c → (t : State K) (result : Result (Unit {0}) LineFault) → Called number c s t result
      → Performed form number (Ok i) s t (result_text result)
  call_made c is t result (r, step, keeps, e) = (
    line c r t ∷ [],
    subst (λ i. Played form number s (Ok i) (line c r t ∷ []) t (result_text result)) (sym is)
        (subst (λ text. Played form number s (Ok (calls c)) (line c r t ∷ []) t text) (ap result_text (sym e)) (called step)),
    goes_on [] (stays s) keeps,
  )

  pub rounds_made : (count : ℕ) → i ≡ rounds count → (t : State K) (result : Result (Unit {0}) LineFault) → PlayedRounds number count s t result
      → Performed form number (Ok i) s t (result_text result)
  rounds_made count is t result (log, r, rs, continues, e) = (
    log,
    subst (λ i. Played form number s (Ok i) log t (result_text result)) (sym is)
        (subst (λ text. Played form number s (Ok (rounds count)) log t text) (ap result_text (sym e)) (played rs)),
    continues,
  )

  pub state_shown : i ≡ shows → Performed form number (Ok i) s s (state_text form s)
  state_shown is = ([], subst (λ i. Played form number s (Ok i) [] s (state_text form s)) (sym is) shown, stays s)

module _ {W : Type 0} {K : Kind W} (form : WeightForm) (l : TextLine) (s : State K) where
  pub unread : (fault : LineFault) → Instructs K form l (Err fault) → LinePlayed form l s s (printed fault)
  unread fault told = (Err fault, told, ([], not_read, stays s))
