-- Parts of OBUs that lie in the memory of a frame.
use Rattle.std.specs.Prelude.{ℕ, List, [], ◌∷◌, ◌++◌, Option, Some, None, map}
use Rattle.codec_payload_av1.specs.declared.av1.piece.Piece.{Piece}

abbrev pub header_bytes : Option ℕ → List ℕ
header_bytes None = []
header_bytes (Some h) = h ∷ []

-- the bytes of a piece
abbrev pub piece_bytes : Piece → List ℕ
piece_bytes p = header_bytes p.header ++ (p.extension.now ++ p.payload.now)

abbrev pub pieces_of : List Piece → List (List ℕ)
pieces_of ps = map piece_bytes ps
