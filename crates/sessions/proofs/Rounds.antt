-- Rounds that are played one after another.
use Rattle.std.proofs.Common.{◌≡◌, ℕ, ◌+◌, ◌<◌, ◌≤◌, [], ◌∷◌, ◌++◌, Some, None, Option, Ok, Err, Result, refl, sym, subst, ◌∙◌, add-one, rules, Bool, IsTrue, IsFalse, ◌↔◌}
use Rattle.std.proofs.lemmas.Bool.{both_ways}
use Rattle.terms.specs.declared.refusals.Refusal.{Refusal}
use Rattle.sessions.specs.Calls.{Rounds, none, one_more, all_played, has_ended, refused, Continues, Called, PlayedRounds, call_result}
use Rattle.texts.specs.declared.faults.LineFault.{LineFault}
use Rattle.bracket.specs.Brackets.{KeepsBracket}
use Rattle.bracket.specs.Logs.{Log, line}
use Rattle.bracket.specs.States.{State, Ended}
use Rattle.bracket.specs.Steps.{Call, round, Step}
use Rattle.weights.specs.Kinds.{Kind}

pub fails : {E : Type 0} (b : Bool) → (IsTrue b ↔ E) → IsFalse b → E → ⊥
fails b test e end = both_ways b e (test.1 end)

module _ {W : Type 0} {K : Kind W} where
  -- no call leads nowhere else, and a call more goes on
  pub stays : (s : State K) → Continues s [] s
  stays s first log logged stands = (logged, stands)

  pub goes_on : {s t u : State K} (more : Log K) {c : Call W} {r : Option Refusal} → Continues s more t → KeepsBracket t c r u
      → Continues s (line c r u ∷ more) u
  goes_on more before keeps first log logged stands = keeps first (more ++ log) (before first log logged stands).0

  -- so many rounds have been played
  abbrev pub RoundsSoFar : ℕ → State K → State K → Type 0
  RoundsSoFar k s t = (log : Log K) × Rounds s k log t × Continues s log t

  module _ (number count k : ℕ) (s t : State K) where
    pub begun : RoundsSoFar 0 s s
    begun = ([], none, stays s)

    pub ended : RoundsSoFar k s t → k ≤ count → Ended t → PlayedRounds number count s t (Ok tt)
    ended far few end = (far.0, None, has_ended far.1 few end, far.2, refl)

    pub finished : RoundsSoFar k s t → k ≡ count → PlayedRounds number count s t (Ok tt)
    finished far e = (far.0, None, all_played (subst (λ n. Rounds s n far.0 t) e far.1), far.2, refl)

    module _ (goes : Ended t → ⊥) (far : RoundsSoFar k s t) (u : State K) (result : Result (Unit {0}) LineFault) (next : Called number round t u result) where
      pub one_round_more : (x : Unit {0}) → result ≡ Ok x → RoundsSoFar (k + 1) s u
      one_round_more x e = by_refusal next.0 next.1 next.2 next.3
        where
          by_refusal : (r : Option Refusal) → Step t round r u → KeepsBracket t round r u → result ≡ call_result {W = W} number t.finder.n round r
              → RoundsSoFar (k + 1) s u
          by_refusal None step keeps is = (
            line round None u ∷ far.0,
            subst (λ n. Rounds s n (line round None u ∷ far.0) u) (sym (add-one k)) (one_more far.1 goes step),
            goes_on far.0 far.2 keeps,
          )
          by_refusal (Some r) step keeps is = absurd (search rules)

      pub round_refused : (fault : LineFault) → result ≡ Err fault → k < count → (last : Result (Unit {0}) LineFault) → last ≡ Err fault
          → PlayedRounds number count s u last
      round_refused fault e few last same = by_refusal next.0 next.1 next.2 next.3
        where
          by_refusal : (r : Option Refusal) → Step t round r u → KeepsBracket t round r u → result ≡ call_result {W = W} number t.finder.n round r
              → PlayedRounds number count s u last
          by_refusal None step keeps is = absurd (search rules)
          by_refusal (Some r) step keeps is =
              (line round (Some r) u ∷ far.0, Some r, refused far.1 few goes step, goes_on far.0 far.2 keeps, same ∙ sym e ∙ is)
