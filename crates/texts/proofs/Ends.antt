-- Where a text ends, and how the first piece is cut off.
use Rattle.std.proofs.Common.{◌≡◌, ℕ, false, List, [], ◌∷◌, ◌++◌, ◌==◌, Some, option_map, refl, ap}
use Rattle.texts.specs.Cuts.{without_end}

-- a text that ends with byte 10, and one that does not
pub ended : (before : List ℕ) → without_end (before ++ 10 ∷ []) ≡ Some before
ended [] = refl
ended (b ∷ []) = refl
ended (b ∷ c ∷ bs) = ap (option_map (λ cs. b ∷ cs)) (ended (c ∷ bs))

pub not_ended : (before : List ℕ) (b : ℕ) → (b == 10) ≡ false → without_end (before ++ b ∷ []) ≡ Some (before ++ b ∷ [])
not_ended [] b e = rw e refl
not_ended (c ∷ []) b e = ap (option_map (λ cs. c ∷ cs)) (not_ended [] b e)
not_ended (c ∷ d ∷ bs) b e = ap (option_map (λ cs. c ∷ cs)) (not_ended (d ∷ bs) b e)
