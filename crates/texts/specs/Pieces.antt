-- The pieces that are left to go over, with their numbers.
use Rattle.std.specs.Prelude.{ℕ, List}
use Rattle.std.specs.Option.{option_copied}
use Rattle.texts.specs.Cuts.{pieces_in, numbered}
use Rattle.texts.specs.declared.pieces.Piece.{Piece}
use Rattle.texts.specs.declared.pieces.Pieces.{Pieces}

abbrev pub left : Pieces → List (ℕ × List ℕ)
left p = numbered p.number (pieces_in p.by (option_copied p.rest))

abbrev pub as_numbered : Piece → ℕ × List ℕ
as_numbered piece = (piece.number, piece.bytes.now)
