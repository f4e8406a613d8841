-- How a text falls into numbered pieces: a text into lines, a line into fields, a level weight into its numbers.
use Rattle.std.specs.Prelude.{ℕ, ◌+◌, if◌then◌else◌, List, [], ◌∷◌, Some, None, Option, option_map, length, take, drop, position, ◌==◌}
use Rattle.std.specs.List.{slice_split}

-- what stands between the bytes c, one piece at least
abbrev pub pieces : ℕ → List ℕ → List (List ℕ)
pieces c bs = slice_split (λ b. b == c) bs

-- a text without the byte 10 at its end; there is no text before that end where there is no byte
abbrev pub without_end : List ℕ → Option (List ℕ)
without_end [] = None
without_end (b ∷ []) = if b == 10 then Some [] else Some (b ∷ [])
without_end (b ∷ c ∷ bs) = option_map (λ cs. b ∷ cs) (without_end (c ∷ bs))

abbrev pub pieces_in : ℕ → Option (List ℕ) → List (List ℕ)
pieces_in c None = []
pieces_in c (Some bs) = pieces c bs

-- a line ends with byte 10, and the last one may lack it
abbrev pub lines : List ℕ → List (List ℕ)
lines text = pieces_in 10 (without_end text)

-- between two fields of a line stands a tab
abbrev pub fields : List ℕ → List (List ℕ)
fields line = pieces 9 line

-- the pieces with their numbers, from a first number on
abbrev pub numbered : ℕ → List (List ℕ) → List (ℕ × List ℕ)
numbered k [] = []
numbered k (p ∷ ps) = (k, p) ∷ numbered (k + 1) ps

-- ---- the cursor
-- there are no more pieces than that
abbrev pub most_pieces : Option (List ℕ) → ℕ
most_pieces None = 0
most_pieces (Some bs) = length bs + 1

-- what stands before the first byte c, and what after it
abbrev pub cut : ℕ → List ℕ → Option (List ℕ × List ℕ)
cut c bs = option_map (λ k. (take k bs, drop (k + 1) bs)) (position (λ b. b == c) bs)
