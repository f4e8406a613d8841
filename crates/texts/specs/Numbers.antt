-- What a field says as a number, and as a literal.
use Rattle.std.specs.Prelude.{◌≡◌, ℕ, zero, suc, ◌+◌, ◌-◌, ◌*◌, ◌≤◌, ◌&&◌, if◌then◌else◌, List, [], ◌∷◌, ℤ, pos, negsuc, Some, None, Option, option_map, decimal, ◌==◌, nat_le}
use Rattle.std.specs.Char.{is_ascii_digit}
use Rattle.std.specs.Fmt.{signed_decimal}
use Rattle.terms.specs.Clauses.{variable}
use Rattle.texts.specs.declared.numbers.TheConstants.{FIVE_DIGITS}

-- ---- numbers
-- n with these digits after it, up to a greatest number
abbrev pub with_digits : ℕ → ℕ → List ℕ → Option ℕ
with_digits most n [] = Some n
with_digits most n (c ∷ cs) =
    if is_ascii_digit c && nat_le (n * 10 + (c - 48)) most then with_digits most (n * 10 + (c - 48)) cs else None

-- a number in base ten without a leading zero, up to a greatest number
abbrev pub number : ℕ → List ℕ → Option ℕ
number most [] = None
number most (c ∷ []) = with_digits most 0 (c ∷ [])
number most (c ∷ d ∷ cs) = if c == 48 then None else with_digits most 0 (c ∷ d ∷ cs)

-- the same told by what is written: the field is the number in base ten, or no number up to that one is written so
abbrev pub NumberRead : ℕ → List ℕ → Option ℕ → Type 0
NumberRead most field None = (n : ℕ) → n ≤ most → field ≡ decimal n → ⊥
NumberRead most field (Some n) = (n ≤ most) × (field ≡ decimal n)

-- ---- literals
-- there is no minus before zero
abbrev pub negative : Option ℕ → Option ℤ
negative None = None
negative (Some zero) = None
negative (Some (suc k)) = Some (negsuc k)

-- a number of at most five digits, with or without a minus
abbrev pub literal : List ℕ → Option ℤ
literal [] = None
literal (c ∷ cs) = if c == 45 then negative (number FIVE_DIGITS cs) else option_map pos (number FIVE_DIGITS (c ∷ cs))

-- the same told by what is written
abbrev pub LiteralRead : List ℕ → Option ℤ → Type 0
LiteralRead field None = (l : ℤ) → variable l ≤ FIVE_DIGITS → field ≡ signed_decimal l → ⊥
LiteralRead field (Some l) = (variable l ≤ FIVE_DIGITS) × (field ≡ signed_decimal l)
