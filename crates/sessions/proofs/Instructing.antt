-- What a line tells to do, from what it says.
use Rattle.std.proofs.Common.{◌≡◌, ℕ, List, ℤ, Some, Ok, Result, sym, subst, ap}
use Rattle.sessions.specs.Instructions.{clause, Tells, soft_told}
use Rattle.texts.specs.Lines.{Field, Said, soft as soft_line}
use Rattle.texts.specs.WeightForms.{WeightSaid}
use Rattle.texts.specs.declared.faults.LineFault.{LineFault}
use Rattle.texts.specs.declared.weight_forms.WeightForm.{WeightForm}
use Rattle.weights.specs.Kinds.{Kind}

module _ {W : Type 0} (K : Kind W) (form : WeightForm) (number : ℕ) (weight : Field) (fields : List Field) where
  pub soft_read : (said : Result Said LineFault) → said ≡ Ok (soft_line weight fields) → (w : W) → WeightSaid K form weight.1 (Some w)
      → (c : Result (List ℤ) LineFault) → clause number fields ≡ c → Tells K form number said (soft_told number weight (Some w) c)
  soft_read said is w read c e =
      subst (λ said. Tells K form number said (soft_told number weight (Some w) c)) (sym is) (Some w, read, sym (ap (soft_told number weight (Some w)) e))
