-- The fault at which a line stopped is handed up, to be printed after it.
use Rattle.std.proofs.Common.{◌≡◌, ℕ, List, [], Err, Result, sym, subst, append-nil}
use Rattle.std.specs.Prelude.{String, string_bytes}
use Rattle.sessions.specs.Faults.{UnlessMemory}
use Rattle.sessions.specs.Playing.{Answered}
use Rattle.sessions.specs.Printing.{printed, Adds}
use Rattle.sessions.specs.declared.faults.SessionFault.{SessionFault}
use Rattle.sessions.specs.declared.faults.SessionFault.TheVariants.{Memory, Line}
use Rattle.texts.specs.declared.faults.LineFault.{LineFault}

-- a fault of a part is that of the whole
pub passed_on : (P Q : LineFault → Type 0) → ((fault : LineFault) → P fault → Q fault) → (f : SessionFault) → UnlessMemory P f → UnlessMemory Q f
passed_on P Q on (Line fault) p = on fault p
passed_on P Q on Memory p = tt

pub faulted : {Z : Type 0} (P : List ℕ → Type 0) (old : String Z) (last : Result (Unit {0}) SessionFault) (fault : LineFault) → last ≡ Err (Line fault)
    → P (printed fault) → Answered P old old last
faulted P old last fault e p = subst (λ x. Answered P old old x) (sym e) (p, sym (append-nil (string_bytes old)))

pub silent : {Z : Type 0} (P : List ℕ → Type 0) (old : String Z) → P [] → (text : List ℕ) × P text × Adds text old old
silent P old p = ([], p, sym (append-nil (string_bytes old)))
