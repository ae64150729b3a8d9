-- The pieces of a line, and texts that are made of parts.
use Rattle.std.specs.Prelude.{ℕ, List}
use Rattle.std.specs.List.{flat_map}
use Rattle.std.specs.Fmt.{decimal}
use Rattle.jv_bytes.specs.Shown.{shown_text}
use Rattle.av_outcome.specs.declared.pieces.Piece.{Piece}
use Rattle.av_outcome.specs.declared.pieces.Piece.TheVariants.{Plain, Shown, Number}

-- parts, one behind the other
abbrev pub joined : List (List ℕ) → List ℕ
joined parts = flat_map (λ part. part) parts

-- the text of a piece
abbrev pub piece_text : Piece → List ℕ
piece_text (Plain bytes) = bytes.now
piece_text (Shown text) = shown_text text.now
piece_text (Number number) = decimal number

-- the texts of pieces, one behind the other
abbrev pub text_of_pieces : List Piece → List ℕ
text_of_pieces pieces = flat_map piece_text pieces
