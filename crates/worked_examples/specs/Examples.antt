-- The worked examples, as one list of statements about the meanings that the contracts use.
use Rattle.std.specs.Prelude.{◌≡◌, ℕ, zero, suc, ◌+◌, ◌^◌, true, false, List, [], ◌∷◌, ℤ, pos, negsuc}
use Rattle.terms.specs.Clauses.{satisfied_by}
use Rattle.terms.specs.declared.limits.TheConstants.{SOFT_PLACES, MOST_COUNTED}
use Rattle.finders.specs.Meanings.{FinderMeaning, fresh, with_hard, with_soft}
use Rattle.finders.specs.Questions.{Core}
use Rattle.weights.specs.Costs.{cost, charge}
use Rattle.weights.specs.Levelled.{Three, three, levels_kind}
use Rattle.weights.specs.Plainly.{plain_kind}
use Rattle.weights.specs.declared.plain.Plain.{Plain}
use Rattle.makers.specs.Covers.{Least}
use Rattle.makers.specs.Meanings.{MakerMeaning, fresh as fresh_maker, with_weight, with_core, cores_with}

-- the literals of variable v
abbrev on : ℕ → ℤ
on v = pos v

abbrev off : ℕ → ℤ
off zero = pos zero
off (suc v) = negsuc v

-- ---- clauses
abbrev pub SatisfiesOne : Type 0
SatisfiesOne = satisfied_by (0 ∷ 0 ∷ []) (on 1 ∷ off 2 ∷ []) ≡ true

abbrev pub BreaksAnother : Type 0
BreaksAnother = satisfied_by (0 ∷ 0 ∷ []) (on 1 ∷ on 2 ∷ []) ≡ false

-- ---- costs, with the soft clauses (-1) at 3, (-2) at 5 and (1) at 4
abbrev plain : ℕ → Plain
plain n = record { amount = n }

abbrev at : ℕ → ℤ → Plain × List ℤ
at n l = (plain n, l ∷ [])

abbrev pub Costs : ℕ → ℕ → ℕ → Type 0
Costs one two n = charge plain_kind (at 3 (off 1) ∷ at 5 (off 2) ∷ at 4 (on 1) ∷ []) (one ∷ two ∷ []) ≡ n

-- ---- finders
-- whatever a finder admits, with an empty hard clause it admits nothing
abbrev pub AdmitsNothing : Type 0
AdmitsNothing = (m : FinderMeaning) (a : List ℕ) → (with_hard m []).admits a ≡ false

-- one variable, with the soft clauses (-1) and (1)
abbrev pub opposites : FinderMeaning
opposites = with_soft (with_soft (fresh 1 SOFT_PLACES 2 2) (off 1 ∷ [])) (on 1 ∷ [])

-- the mask of a set
abbrev pub set : List ℕ → ℕ
set [] = 0
set (k ∷ ks) = 2 ^ k + set ks

abbrev pub Clash : List ℕ → Type 0
Clash ks = Core opposites (set ks)

abbrev pub NoClash : List ℕ → Type 0
NoClash ks = Clash ks → ⊥

-- ---- covers
-- the weights 2, 3 and 4, and then the cores {0, 1}, {1, 2} and {0, 2}
abbrev pub triangle : MakerMeaning Plain
triangle =
    with_core (with_core (with_core (with_weight (with_weight (with_weight (fresh_maker MOST_COUNTED) (plain 2)) (plain 3)) (plain 4)) (set (0 ∷ 1 ∷ [])))
    (set (1 ∷ 2 ∷ []))) (set (0 ∷ 2 ∷ []))

abbrev pub LeastCover : List ℕ → ℕ → Type 0
LeastCover ks n = Least plain_kind triangle (set ks) × (cost plain_kind triangle.weights (set ks) ≡ n)

-- of the cores {0, 1}, {1, 2} and {2, 3}, with the core {1} added
abbrev pub Keeps : List ℕ → Type 0
Keeps cores = cores_with (set (0 ∷ 1 ∷ []) ∷ set (1 ∷ 2 ∷ []) ∷ set (2 ∷ 3 ∷ []) ∷ []) (set (1 ∷ [])) ≡ cores

-- ---- weights
abbrev pub Below : Three → Three → Type 0
Below x y = (levels_kind.le x y ≡ true) × (levels_kind.le y x ≡ false)

abbrev pub Sums : Three → Three → Three → Type 0
Sums x y z = levels_kind.plus x y ≡ z

abbrev pub HeldInPlain : Type 0
HeldInPlain = plain_kind.holds (plain_kind.plus 4294967295 1) ≡ true

-- the same sum is too much in whichever level it stands
abbrev pub TooMuch : Three → Three → Type 0
TooMuch x y = levels_kind.holds (levels_kind.plus x y) ≡ false

abbrev pub examples : List (Type 0)
examples =
    SatisfiesOne
    ∷ BreaksAnother
    ∷ Costs 1 0 3
    ∷ Costs 0 1 9
    ∷ Costs 1 1 8
    ∷ AdmitsNothing
    ∷ Clash (0 ∷ 1 ∷ [])
    ∷ NoClash (0 ∷ [])
    ∷ NoClash (1 ∷ [])
    ∷ LeastCover (0 ∷ 1 ∷ []) 5
    ∷ Keeps (set (2 ∷ 3 ∷ []) ∷ set (1 ∷ []) ∷ [])
    ∷ Below (three 0 9 9) (three 1 0 0)
    ∷ Sums (three 0 5 1) (three 1 0 2) (three 1 5 3)
    ∷ HeldInPlain
    ∷ TooMuch (three 4294967295 0 0) (three 1 0 0)
    ∷ TooMuch (three 0 4294967295 0) (three 0 1 0)
    ∷ TooMuch (three 0 0 4294967295) (three 0 0 1)
    ∷ []

abbrev pub AllHold : List (Type 0) → Type 0
AllHold [] = Unit {0}
AllHold (p ∷ ps) = p × AllHold ps

abbrev pub how_many : List (Type 0) → ℕ
how_many [] = 0
how_many (p ∷ ps) = suc (how_many ps)
